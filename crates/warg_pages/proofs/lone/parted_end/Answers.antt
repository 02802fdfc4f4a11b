use Rattle.std.proofs.Common.{◌≡◌, ◌+◌, ◌-◌, ◌*◌, ◌++◌, [], ◌∷◌, List, ℕ, Some, None, sym, ap, ◌∙◌, arith}
use Rattle.std.proofs.lemmas.List.{append_assoc}
use Rattle.std.specs.Prelude.{replicate}
use Rattle.warg_pages.specs.Slots.{SlotAt}
use Rattle.warg_pages.specs.Private.Descents.{lone_root}
use Rattle.warg_pages.proofs.HashEquality.{same_hashes, other_hashes}
use Rattle.warg_pages.proofs.BitParts.{lone_root-none}
use Rattle.warg_pages.proofs.LoneEnds.{Parting, parting_peers, parted_end, parted_no_end, replicate-more}
use Rattle.warg_pages.proofs.lone.parted_end.Goals as goal
use Rattle.warg_pages.proofs.lone.parted_end.Goals.{After-lone_tree-other}

-- the key of the lone key, as `lone_tree` is given it
key_is : (g : _) (c : After-lone_tree-other g) → c.lone.inside.key ≡ c.args.lone.now.0
key_is g c = ap (λ (l : List ℕ × List ℕ). l.0) c.lone.view_is

-- its subtree below the parting
below_parting : (g : _) (c : After-lone_tree-other g) → c.lone_tree-other.result
    ≡ lone_root g.D.SupportedDigest.digest c.lone.inside.key c.args.lone.now.1 (255 - c.args.shared)
below_parting g c = c.lone_tree-other.ensures _ (ap (λ (l : List ℕ × List ℕ). l.1) c.lone.view_is
    ∙ lone_root-none _ _ _)

-- where the two keys part
parting : (g : _) (c : After-lone_tree-other g) → Parting c.args.key.now c.args.lone.now.0 c.args.depth c.args.shared
parting g c = record {
  below = c.requires.below;
  parts = c.requires.parts;
  same = c.requires.same;
  apart = c.requires.apart;
}

pub returns-then-ne-clause-err : goal.returns-then-ne-clause-err
returns-then-ne-clause-err g c =
    let at = (goal.at.returns-then-ne-clause-err g c).After-lone_tree-other in
    let root = rw (key_is g at) at (c.lone_tree.ensures c.args.lone.now.1 (below_parting g at)) in
    parted_no_end _ c.args.key.now c.args.depth c.args.shared c.args.slot.now _
    (parting g at) (λ e. other_hashes _ _ _ c.ne.ensures c.if-ne.true (root ∙ e
    ∙ sym (ap (λ (x : SlotAt). x.digest) c.slot.view_is)))

pub loop-bit-preserved : goal.loop-bit-preserved
loop-bit-preserved g c =
    let more : c.loop-bit._bit + 1 - (8 * c.args.depth + 8) ≡ c.loop-bit._bit - (8 * c.args.depth + 8) + 1 =
    omega arith in
    rw (c.in_ok-push.ensures.items, c.loop-bit.invariant, more)
    (append_assoc _ _ (None ∷ [])
    ∙ ap (λ t. c.args.peers.now.items ++ t) (replicate-more (c.loop-bit._bit - (8 * c.args.depth + 8))))

pub returns-clause-ok : goal.returns-clause-ok
returns-clause-ok g c =
    let at = (goal.at.returns-clause-ok g c).After-lone_tree-other in
    let tree = below_parting g at in
    let root = rw (key_is g at) at (c.lone_tree.ensures c.args.lone.now.1 tree) in
    let same = same_hashes _ _ _ c.ne.ensures c.if-ne.false in
    let end : c.loop-bit._bit ≡ c.args.shared = omega arith in (
      parting_peers _ _,
      rw (c.in_ok-push-2.ensures.items, c.loop-bit.invariant, end)
          (append_assoc c.args.peers.now.items (replicate (c.args.shared - (8 * c.args.depth + 8)) None)
          (Some c.lone_tree-other.result ∷ [])),
      parted_end _ c.args.key.now c.args.depth c.args.shared c.args.slot.now c.args.lone.now
          c.lone_tree-other.result (parting g at) (rw (key_is g at) at tree)
          (sym root ∙ same ∙ ap (λ (x : SlotAt). x.digest) c.slot.view_is),
    )
