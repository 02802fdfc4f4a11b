use Rattle.std.proofs.Common.{[], ◌∙◌}
use Rattle.warg_crypto.proofs.EmptyLemmas.{above}
use Rattle.warg_crypto.proofs.hash.SupportedDigest.empty_above.Goals as goal

pub returns : goal.returns
returns g c =
    let taken = c.visit_bytes-3.ensures _
    (c.visit_bytes-2.ensures _ (c.visit_bytes.ensures [] c.start-digest.ensures)) in
    let digest = c.finish.ensures _ taken in
    c.from_array.ensures ∙ digest ∙ rw (c.bytes.ensures.value, c.bytes-2.ensures.value) (above _ _ _ c.requires.empty)
