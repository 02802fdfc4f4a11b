use Rattle.std.proofs.Common.{◌≡◌, inl, inr, ℕ, true, take, length, sym, ap, ◌∙◌, arith}
use Rattle.std.proofs.lemmas.Bool.{cases_lt}
use Rattle.warg_crypto.specs.Digests.{sha256}
use Rattle.warg_log.specs.Claims.{RootAndLength}
use Rattle.warg_log.specs.Tree.{root_of, leaves_of}
use Rattle.warg_store.proofs.EnoughLemmas.{whole_root}
use Rattle.warg_folder.proofs.ForCallers.{apart}
use Rattle.warg_store.proofs.WholeLemmas.{same_checkpoint}
use Rattle.warg_store.proofs.reading.check_root.Goals as goal

pub returns-clause-whole : goal.returns-clause-whole
returns-clause-whole g c = λ faithful log of some below own root.
    let ds = leaves_of sha256 log.entries in
    let same : c.in-Some.root ≡ root_of sha256 (take c.args.log_length ds) = cc (root, c.in-Some.is) in
    let first : c.new-old.result.root ≡ root_of sha256 (take c.args.log_length ds) = c.new-old.ensures.root ∙ same in
    let count : ◌≡◌ {A = ℕ} c.args.checkpoint.now.length (length log.entries) =
    ap (λ (r : RootAndLength). r.length) of.said in
    absurd (elim (cases_lt c.args.log_length c.args.checkpoint.now.length) [
      | inl less ↦
          let is : c.in_ok-is_beginning.field-0 ≡ true = c.in_ok-is_beginning.ensures.is faithful log of own
          (omega (arith, c.new-old.ensures.length, some)) (omega (arith, c.new-old.ensures.length, less))
          (first ∙ ap (λ n. root_of sha256 (take n ds)) (sym c.new-old.ensures.length)) in
          cc (is, c.if-branch.false)
      | inr whole ↦
          let last : c.new-old.result.root ≡ c.args.checkpoint.now.root = first ∙ whole_root log c.args.log_length
          (omega (arith, whole, count)) ∙ sym (ap (λ (r : RootAndLength). r.root) of.said) in
          let size : c.new-old.result.length ≡ c.args.checkpoint.now.length =
          omega (arith, c.new-old.ensures.length, whole, below) in
          apart (sym (same_checkpoint c.new-old.result.root c.args.checkpoint.now.root c.new-old.result.length
          c.args.checkpoint.now.length last size) ∙ sym c.if-eq.ensures)
    ])
