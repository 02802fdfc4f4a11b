use Rattle.std.proofs.Common.{◌≡◌, ℕ, ◌*◌, ◌∷◌, [], List, Some, sym, ap, ◌∙◌, arith}
use Rattle.std.proofs.lemmas.List.{length-map, get_or-map, take-map}
use Rattle.warg_log.specs.Nodes.{end_of}
use Rattle.warg_log.specs.Tree.{root_of, leaves_of}
use Rattle.warg_log.specs.Cut.{cut_root}
use Rattle.warg_log.proofs.EvaluationLemmas.{leads}
use Rattle.warg_log.proofs.NodeLemmas.{node_at}
use Rattle.warg_log.proofs.CutLemmas.{cut_root_own}
use Rattle.warg_log.proofs.RootLemmas.{root_over_one}
use Rattle.warg_log.proofs.laws.own_inclusion.Goals as goal

pub returns : goal.returns
returns c H entries i n lt fits =
    let at = node_at (2 * i) 0 i (omega arith) in
    let len = length-map entries (λ (e : List ℕ). H (0 ∷ e)) in
    let one : i * 1 ≡ i = omega arith in
    let own = root_over_one H (leaves_of H entries) i (omega (arith, len)) ∙ get_or-map (λ e. H (0 ∷ e)) entries i [] []
    (omega arith) in
    let cut = cut_root_own H (leaves_of H entries) (2 * i) n _ (rw (at.0, at.1, one) (sym own)) (omega arith)
    (omega (arith, len)) ∙ ap (λ l. Some (root_of H l)) (take-map (λ e. H (0 ∷ e)) n entries) in
    (leads (end_of (2 * i)) n (cut_root H _ (2 * i) _ n) _).1 (rw (at.0, at.1) (omega arith), cut)
