use Rattle.std.proofs.Common.{◌≡◌, inl, inr, ⊎_elim, true, sym, ap, ◌∙◌, arith}
use Rattle.warg_store.specs.Log.{LogOf, said_of}
use Rattle.warg_store.specs.Reading.{checkpoint_said}
use Rattle.warg_store.proofs.WholeLemmas.{same_said, served_is}
use Rattle.warg_store.proofs.opening.compare.Goals as goal

pub returns-then-not-is_older_or_same-clause-whole : goal.returns-then-not-is_older_or_same-clause-whole
returns-then-not-is_older_or_same-clause-whole g c = λ faithful first log keeps state served.
    let found = same_said c.checkpoint-found.result (said_of first) (rw served at c.checkpoint-found.ensures.root)
    (rw served at c.checkpoint-found.ensures.length) in
    let newest = same_said c.checkpoint-newest.result (said_of log) (rw state at c.checkpoint-newest.ensures.root)
    (rw state at c.checkpoint-newest.ensures.length) in
    let is : c.is_older_or_same.result ≡ true = c.is_older_or_same.ensures.1 (⊎_elim
    (λ less. inl (omega (
      arith,
      less,
      rw served at c.checkpoint-found.ensures.length,
      rw state at c.checkpoint-newest.ensures.length,
    )))
    (λ same. inr (found ∙ ap (λ (l : LogOf). checkpoint_said (said_of l)) (sym same) ∙ sym newest))
    (served_is first log (g.F.Folder.seen c.args.folder.now) keeps)) in
    absurd (cc (is, c.if-not-is_older_or_same.true))
