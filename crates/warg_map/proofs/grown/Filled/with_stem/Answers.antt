use Rattle.std.proofs.Common.{◌+◌, ◌∙◌}
use Rattle.warg_map.specs.Bits.{bits_from}
use Rattle.warg_map.specs.Private.Under.{under}
use Rattle.warg_map.specs.Private.Seen.{IsStemOver}
use Rattle.warg_map.proofs.TreeForm.{with_no_stem}
use Rattle.warg_map.proofs.grown.Filled.with_stem.Goals as goal
use Rattle.warg_map.proofs.grown.Filled.with_stem.Goals.{In_ok-new}

-- the stem
stem : (g : _) (c : In_ok-new g) → IsStemOver c.in_ok-new.field-0.value (c.args.self.link.0 + c.args.len)
    (under (bits_from c.args.key.now c.args.from c.args.len) c.args.self.link.1)
stem g c = rw c.in_ok-new.ensures.ok c.in_ok-stem.ensures

pub returns-then-len-eq0 : goal.returns-then-len-eq0
returns-then-len-eq0 g c =
    let is = with_no_stem c.args.self.link c.args.key.now c.args.from c.args.len c.if-len-eq0.true in
    λ i. record { link = is i; fresh = c.args.self.fresh }

pub new-link-requires : goal.new-link-requires
new-link-requires g c =
    let s = stem g (goal.at.new-link-requires g c).In_ok-new in
    record { level = s.level; formed = s.formed }

pub returns : goal.returns
returns g c =
    let s = stem g (goal.at.returns g c).In_ok-new in
    let is = c.new-link.ensures ∙ (λ i. (s.height_is i, s.held_is i)) in
    λ i. record { link = is i; fresh = c.args.self.fresh }
