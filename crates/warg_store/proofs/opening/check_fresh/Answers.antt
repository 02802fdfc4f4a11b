use Rattle.std.proofs.Common.{◌≡◌, ◌≢◌, false, true≢false, refl, sym, ap, ◌∙◌, string_bytes}
use Rattle.std.proofs.lemmas.List.Elements.{All-weaker}
use Rattle.std.specs.declared.string.String.{String}
use Rattle.std.specs.declared.alloc.Global.{Global}
use Rattle.warg_folder.specs.Names.{is_of_log}
use Rattle.warg_store.proofs.CreateLemmas.{absent}
use Rattle.warg_store.proofs.opening.check_fresh.Goals as goal

pub returns-then-are_others-clause-fresh : goal.returns-then-are_others-clause-fresh
returns-then-are_others-clause-fresh g c = λ faithful n is.
    let Other : String Global → Type 0 = λ x. is_of_log (string_bytes x) ≡ false in
    let others = rw c.as_slice.ensures.value at (c.are_others.ensures.others c.if-are_others.true) in
    absent (g.F.Folder.seen c.args.folder.now) c.in_ok-names.names.items n
    (λ m some. c.in_ok-names.ensures.all faithful m some refl)
    (All-weaker Other (λ (x : String Global). string_bytes x ≢ n)
    (λ (x : String Global) other same. true≢false (sym is ∙ ap is_of_log (sym same) ∙ other)) _ others)

pub returns-clause-exists : goal.returns-clause-exists
returns-clause-exists g c = λ faithful refused.
    let found = rw c.as_slice.ensures.value at (c.are_others.ensures.found c.if-are_others.false) in
    let there = c.in_ok-names.ensures.there faithful found.0 found.1 found.2 in (
      string_bytes found.1,
      found.4,
      rw found.3 at there.0,
    )
