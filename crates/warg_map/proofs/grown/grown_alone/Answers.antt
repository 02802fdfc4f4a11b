use Rattle.std.proofs.Common.{◌≡◌, ◌-◌, arith, refl, ap, ◌∙◌, inr}
use Rattle.std.specs.FinMap.{empty, insert}
use Rattle.std.proofs.lemmas.Result.{IfOk-weaker}
use Rattle.warg_map.specs.Bits.{last_bits}
use Rattle.warg_map.proofs.TreeForm.{lone_with_stem}
use Rattle.warg_map.proofs.SparseTree.{contains_key-insert_same}
use Rattle.warg_map.proofs.ManyLeaves.{split_at_last, share_last, one_key}
use Rattle.warg_map.proofs.LeavesBelowNodes.{put_one}
use Rattle.warg_map.proofs.grown.grown_alone.Goals as goal
use Rattle.warg_map.proofs.grown.grown_alone.Goals.{After-new-link}

-- one key alone
alone : (g : _) (c : After-new-link g) → let k = 256 - c.args.depth - c.saturating_sub-len.result in let leaf =
    c.index-last.result.now in c.new-link.result ≡ (k, insert empty (last_bits leaf.key k) leaf.value)
alone g c = rw (
  c.new-link.ensures,
  c.in_ok-lone.ensures.ok,
  c.with_height.ensures.height,
  c.with_height.ensures.key,
  c.with_height.ensures.value,
)

pub with_stem-requires-clause-below : goal.with_stem-requires-clause-below
with_stem-requires-clause-below g c = λ more.
    let few : c.saturating_sub-len.result ≡ 1 - c.args.depth = c.saturating_sub-len.ensures in
    let k : 256 - c.args.depth - c.saturating_sub-len.result ≡ 255 = omega (arith, few, more) in
    rw (c.key.ensures, alone g (goal.at.with_stem-requires-clause-below g c).After-new-link, k)
    (inr (refl, contains_key-insert_same empty (last_bits c.index-last.result.now.key 255) _))

pub returns : goal.returns
returns g c =
    let leaf = c.index-last.result.now in
    let few : c.saturating_sub-len.result ≡ 1 - c.args.depth = c.saturating_sub-len.ensures in
    let last = split_at_last c.args.leaves.items (c.len.ensures ∙ c.args.leaves.ok.0) c.requires.some
    c.index-last.ensures in
    let only = one_key _ leaf c.args.depth last c.requires.depth
    (share_last _ c.args.depth _ _ leaf last c.requires.one.1) in
    IfOk-weaker c.with_stem.result _ _ (λ p e. put_one leaf.key leaf.value only
    (lone_with_stem leaf.key leaf.value c.args.depth c.saturating_sub-len.result
    (omega (arith, few, c.requires.depth)) (alone g (goal.at.returns g c).After-new-link)
    (ap (λ r. r.link) (rw c.key.ensures at e)))
    (ap (λ r. r.fresh) e)) c.with_stem.ensures
