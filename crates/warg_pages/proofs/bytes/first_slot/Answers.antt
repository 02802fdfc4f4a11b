use Rattle.std.proofs.Common.{◌≡◌, ◌-◌, ◌≤◌, length, take, drop, arith}
use Rattle.std.proofs.lemmas.List.{take_all, length-drop}
use Rattle.warg_pages.proofs.PageFormat.{whole_slot, cut_lone}
use Rattle.warg_pages.proofs.bytes.first_slot.Goals as goal

pub returns-in_err-lone : goal.returns-in_err-lone
returns-in_err-lone g c =
    let bytes = c.args.bytes.now in
    let rest : take (length bytes - 2) (drop 2 bytes) ≡ drop 2 bytes = take_all _ _
    (let all = length-drop 2 bytes in omega arith) in
    let version = rw rest at c.in_ok-version.ensures.cases in
    let digest = c.in_ok-digest.ensures in
    let long : 8 ≤ length (drop 2 bytes) = omega (arith, version.2) in
    rw c.from_residual-in_err-lone.ensures
    (cut_lone bytes _ _ _ _ long version.0 version.1 digest.0 digest.1 c.in_err-lone.ensures)

pub returns : goal.returns
returns g c =
    let bytes = c.args.bytes.now in
    let rest : take (length bytes - 2) (drop 2 bytes) ≡ drop 2 bytes = take_all (length bytes - 2) (drop 2 bytes)
    (let all = length-drop 2 bytes in omega arith) in
    let version = rw rest at c.in_ok-version.ensures.cases in
    let digest = c.in_ok-digest.ensures in
    let lone = c.in_ok-lone.ensures in
    let long : 8 ≤ length (drop 2 bytes) = omega arith in
    whole_slot bytes _ c.in_ok-version.rest.now c.in_ok-digest.digest c.in_ok-lone.rest.now
    c.from_be_bytes.result c.in_ok-lone.lone c.in_ok-digest.rest.now
    (λ i. omega (arith, c.type_inv.bytes i)) c.in-len2-up.len_at_least long version.0 version.1 c.from_be_bytes.ensures
    c.from_be_bytes.type_inv digest.0 digest.1 lone.0 lone.1 lone.2
