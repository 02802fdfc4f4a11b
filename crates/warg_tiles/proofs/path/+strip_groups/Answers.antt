use Rattle.std.proofs.Common.{◌%◌, ◌/◌, ◌++◌, ◌∙◌, arith}
use Rattle.std.proofs.lemmas.Bool.Decides.{Decides-eqb}
use Rattle.std.proofs.lemmas.Slice.Eq.{strip_prefix_is}
use Rattle.std.proofs.lemmas.List.{append_assoc}
use Rattle.warg_tiles.specs.TilePaths.{group_of, groups_of}
use Rattle.warg_tiles.proofs.PathLemmas.{groups_step, strip_more}
use Rattle.warg_tiles.proofs.path.+strip_groups.Goals as goal

pub returns-in_err-rest : goal.returns-in_err-rest
returns-in_err-rest t c = rw (c.from_residual.ensures, groups_step c.args.groups (omega (arith, c.if-groups-eq0.false)))
    (λ rest e. c.in_err-rest.ensures (group_of (c.args.groups % 1000) ++ rest)
    (e ∙ append_assoc (groups_of (c.args.groups / 1000)) (group_of (c.args.groups % 1000)) rest))

pub returns : goal.returns
returns t c =
    let cases = rw c.group_of.ensures at
    (strip_prefix_is Decides-eqb c.in_ok-rest.rest.now c.group_of.result c.strip_prefix.result
    c.strip_prefix.ensures.cases) in
    rw (groups_step c.args.groups (omega (arith, c.if-groups-eq0.false)))
    (strip_more c.args.text.now _ _ c.in_ok-rest.rest.now c.strip_prefix.result c.in_ok-rest.ensures cases)
