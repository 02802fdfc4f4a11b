use Rattle.std.proofs.Common.{◌≡◌, length, map, sym, ◌∙◌, arith}
use Rattle.std.proofs.lemmas.Result.{IfOk-weaker}
use Rattle.std.specs.Cmp.Lexicographic.{bytes_decides}
use Rattle.warg_log.proofs.ForCallers.{consistency_then}
use Rattle.warg_witness.specs.Claims.{IsConsistencyMet}
use Rattle.warg_witness.proofs.AgreementLemmas.{finds_as}
use Rattle.warg_witness.proofs.HashLemmas.{entries_count}
use Rattle.warg_witness.proofs.HeldLemmas.{held_meeting, made_path, met_if}
use Rattle.warg_witness.proofs.log.consistency.witness_consistency.Goals as goal
use Rattle.warg_witness.proofs.log.consistency.witness_consistency.Goals.{After-trees-2-1, then-ne-via-then-ne, then-ne-via-else-ne+then-ne-2}

-- the claim is met, and the data's path is that of the entries' numbers
met_at : (g : _) (c : After-trees-2-1 g) → IsConsistencyMet g.D.SupportedDigest.digest
    (g.L.LogData.digest_at c.args.hashes.now)
    c.args.proof.now.old_length c.args.proof.now.new_length (map g.V.VisitBytes.bytes c.args.old.now)
    (map g.V.VisitBytes.bytes c.args.new.now)
met_at g c =
    let old_count : length (map g.V.VisitBytes.bytes c.args.old.now) ≡ c.args.proof.now.old_length =
    omega (arith, entries_count g.V.VisitBytes.bytes c.args.old.now) in
    let new_count : length (map g.V.VisitBytes.bytes c.args.new.now) ≡ c.args.proof.now.new_length =
    omega (arith, entries_count g.V.VisitBytes.bytes c.args.new.now) in
    let old_root : c.in-Ok.old_root ≡ c.root.result = grind (arith, bytes_decides) in
    let new_root : c.in-Ok.new_root ≡ c.root-else-ne.result = grind (arith, bytes_decides) in
    (met_if _ _ _ _ old_count new_count (sym c.evaluate.ensures.value ∙ c.in-Ok.is)).0 (
      old_root ∙ rw c.in_ok-trees.ensures.0 at c.root.ensures,
      new_root ∙ rw c.in_ok-trees.ensures.1 at
          c.root-else-ne.ensures,
    )

pub returns-in_default-clause-found : goal.returns-in_default-clause-found
returns-in_default-clause-found g c met = let ok = consistency_then _ _ _ _ _ _ met.roots in cc

pub returns-then-ne-clause-found : goal.returns-then-ne-clause-found
returns-then-ne-clause-found g c met =
    let old_count : length (map g.V.VisitBytes.bytes c.args.old.now) ≡ c.args.proof.now.old_length =
    omega (arith, entries_count g.V.VisitBytes.bytes c.args.old.now) in
    let new_count : length (map g.V.VisitBytes.bytes c.args.new.now) ≡ c.args.proof.now.new_length =
    omega (arith, entries_count g.V.VisitBytes.bytes c.args.new.now) in
    let roots = (met_if _ _ _ _ old_count new_count (sym c.evaluate.ensures.value ∙ c.in-Ok.is)).1 met in
    let old_root = roots.0 ∙ sym (rw c.in_ok-trees.ensures.0 at c.root.ensures) in
    elim c.then-ne.branch [
      | then-ne-via-then-ne w ↦ grind (arith, bytes_decides)
      | then-ne-via-else-ne+then-ne-2 w ↦
          let new_root = roots.1 ∙ sym (rw c.in_ok-trees.ensures.1 at w.root-else-ne.ensures) in grind
          (arith, bytes_decides)
    ]

pub find_difference-requires : goal.find_difference-requires
find_difference-requires g c =
    rw c.deref.ensures.value
    (held_meeting _ _ (met_at g c) (rw c.new_length.ensures.value at c.new_length.ensures.most)
    c.in_ok-trees.ensures.0 c.in_ok-trees.ensures.1
    (rw (entries_count g.V.VisitBytes.bytes c.args.old.now, entries_count g.V.VisitBytes.bytes c.args.new.now)
    c.in-Ok-consistency_path.ensures.ok.2))

pub returns-clause-found : goal.returns-clause-found
returns-clause-found g c =
    let met = met_at g (goal.at.returns-clause-found g c).After-trees-2-1 in
    let held = made_path _ _ met (rw (
      entries_count g.V.VisitBytes.bytes c.args.old.now,
      entries_count g.V.VisitBytes.bytes c.args.new.now,
    ) c.in-Ok-consistency_path.ensures.ok.2) in
    IfOk-weaker c.find_difference.result _ _ (finds_as _ _ (λ _. met) (λ _. tt) (λ is. is) (λ is. is)
    (λ _. held.placed))
    (rw c.deref.ensures.value at c.find_difference.ensures)
