use Rattle.std.proofs.Common.{[], sym, inr, ◌∙◌}
use Rattle.std.proofs.lemmas.List.Elements.{Contains-append_left}
use Rattle.warg_crypto.specs.Digests.{sha256}
use Rattle.warg_pages.specs.ProvedKeys.{IsOwnSource}
use Rattle.warg_registry.specs.Folder.{page_read}
use Rattle.warg_registry.specs.Pruning.{bytes_of}
use Rattle.warg_registry.proofs.Pruned.{no_paths, none_named, of_visits}
use Rattle.warg_registry.proofs.Refused.{told_as}
use Rattle.warg_registry.proofs.source.KeptPages.needed.Goals as goal

pub returns-clause-needed : goal.returns-clause-needed
returns-clause-needed g c = λ faithful known origin served kept read serves own.
    let names = bytes_of c.add-2.new.self.names.keys in
    let first = c.in_ok-add.ensures.added [] (no_paths _) (none_named _ c.new-needed.ensures) in
    let second = c.in_ok-add-2.ensures.added first.0 first.1 first.2 in
    let read_one = c.in_ok-add.ensures.read faithful known read in
    let read_two = c.in_ok-served.ensures.read faithful known read_one in
    let of_kept = first.3 faithful known kept read own in
    let of_served = second.3 faithful known served read_two
    (c.in_ok-served.ensures.served faithful known origin served read_one serves) in
    record {
      all_served = of_served.0 names second.1;
      all_kept = of_kept.0 names (λ p there. second.1 p (Contains-append_left first.0 second.0 p there));
      only = of_visits names first.0 second.0 served kept second.2 of_kept.1 of_served.1;
    }

pub returns-then-is_map-clause-needed : goal.returns-then-is_map-clause-needed
returns-then-is_map-clause-needed g c = λ faithful known origin served kept read serves own.
    let names = bytes_of c.add.new.self.names.keys in
    let first = c.in_ok-add.ensures.added [] (no_paths _) (none_named _ c.new-needed.ensures) in
    let read_one = c.in_ok-add.ensures.read faithful known read in
    let pages = page_read (g.F.Folder.seen known.folder) in
    let given = c.in_ok-served.ensures.served faithful known origin served read_one serves in
    let is = c.is_map.ensures c.if-is_map.true in
    let same : IsOwnSource sha256 pages c.args.root.now c.args.version served = record {
      pages = given.pages;
      all = given.all ∙ is.1;
      is_root = sym is.0 ∙ given.is_root;
    } in
    let of_kept = first.3 faithful known kept read own in
    let of_served = first.3 faithful known served read same in
    record {
      all_served = of_served.0 names first.1;
      all_kept = of_kept.0 names first.1;
      only = λ n is. let from = first.2 n is in inr (rw from.2 at (of_kept.1 from.0 from.1));
    }

pub returns-in_err-add-clause-whole : goal.returns-in_err-add-clause-whole
returns-in_err-add-clause-whole g c = λ faithful known origin served kept read serves own.
    told_as _ _ _ c.from_residual.ensures.1
    (c.in_err-add.ensures.whole faithful known kept read own)

pub returns-in_err-served-clause-whole : goal.returns-in_err-served-clause-whole
returns-in_err-served-clause-whole g c = λ faithful known origin served kept read serves own.
    told_as _ _ _ c.from_residual-in_err-served.ensures.1
    (c.in_err-served.ensures.whole faithful known origin served (c.in_ok-add.ensures.read faithful known read) serves)

pub returns-in_err-add-2-clause-whole : goal.returns-in_err-add-2-clause-whole
returns-in_err-add-2-clause-whole g c = λ faithful known origin served kept read serves own.
    let read_one = c.in_ok-add.ensures.read faithful known read in
    told_as _ _ _ c.from_residual-in_err-add-2.ensures.1
    (c.in_err-add-2.ensures.whole faithful known served (c.in_ok-served.ensures.read faithful known read_one)
    (c.in_ok-served.ensures.served faithful known origin served read_one serves))
