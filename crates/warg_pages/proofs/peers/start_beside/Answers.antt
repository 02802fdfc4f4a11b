use Rattle.std.proofs.Common.{◌≡◌, ◌*◌, ◌/◌, ◌%◌, ◌^◌, eq-eqb, sym, ap, ◌∙◌, arith}
use Rattle.std.proofs.lemmas.Bool.{cond-true, cond-false, false_from_ne_true, eqb-true}
use Rattle.warg_pages.specs.PagePeers.{first_beside}
use Rattle.warg_pages.proofs.ByteNumbers.{beside_bytes}
use Rattle.warg_pages.proofs.peers.start_beside.Goals as goal
use Rattle.warg_pages.proofs.peers.start_beside.Goals.{then-run-eq0, else-run-eq0}

pub returns : goal.returns
returns c =
    let run = c.args.byte / 2 ^ c.args.height in
    let within = beside_bytes c.args.byte _ (omega arith) c.requires in
    let is : c.if-run-eq0.beside * 2 ^ c.args.height ≡ first_beside c.args.byte c.args.height =
    elim c.if-run-eq0.branch [
      | then-run-eq0 w ↦ ap (λ x. x * 2 ^ c.args.height)
          (w.beside-is ∙ sym (cond-true _ _ _ (eq-eqb (run % 2) 0 w.if-run-eq0.true)))
      | else-run-eq0 w ↦ ap (λ x. x * 2 ^ c.args.height)
          (w.beside-is ∙ sym (cond-false _ _ _
          (false_from_ne_true _ (λ e. w.if-run-eq0.false (eqb-true (run % 2) 0 e)))))
    ] in
    rw is (omega arith)
