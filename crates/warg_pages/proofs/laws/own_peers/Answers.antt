use Rattle.std.proofs.Common.{arith}
use Rattle.warg_map.proofs.ForCallers.{key_beside, length-last_bits}
use Rattle.warg_pages.proofs.KeyPrefixes.{key_split, length-bits_from}
use Rattle.warg_pages.proofs.BesideSlots.{page_peers}
use Rattle.warg_pages.proofs.laws.own_peers.Goals as goal

pub returns : goal.returns
returns c = λ H es key peers depth k is proves lt low.
    page_peers H es _ _ depth _ k peers lt (length-bits_from _ 0 _) (length-last_bits _ _)
    (is.are_bytes depth 0 (omega arith)) low (rw (key_split H key depth lt) at (key_beside H _ key peers proves))
