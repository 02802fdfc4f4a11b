use Rattle.std.proofs.Common.{ℕ, Vec, refl, arith}
use Rattle.std.specs.declared.alloc.Global.{Global}
use Rattle.std.proofs.lemmas.List.{length-map}
use Rattle.std.proofs.lemmas.Result.{on_ok_weaker}
use Rattle.warg_tiles.specs.TilePaths.{entries_path}
use Rattle.warg_store.proofs.auditing.use_bundle.Goals as goal

pub returns-in-Compare-clause-whole : goal.returns-in-Compare-clause-whole
returns-in-Compare-clause-whole g c = λ faithful kept enough are.
    c.compare_older.ensures.whole faithful kept enough.short are (enough.whole c.in-Compare.is).older

pub returns-in-Compare-clause-older : goal.returns-in-Compare-clause-older
returns-in-Compare-clause-older g c = λ faithful is. on_ok_weaker c.compare_older.result
    (λ older t bytes narrow there. older (entries_path t) t bytes (record {
      is = narrow.is;
      level = narrow.level;
      number = narrow.number;
      less = omega (arith, narrow.less, length-map c.args.entries.now (λ (e : Vec ℕ Global). e.items));
      partial = narrow.partial;
    }) refl there)
    (c.compare_older.ensures.older faithful)
