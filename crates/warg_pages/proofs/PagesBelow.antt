-- The page below a slot, and a page at bytes.
use Rattle.std.proofs.Common.{◌≡◌, ℕ, ◌+◌, ◌-◌, ◌*◌, ◌<◌, Bool, List, ◌++◌, length, Some, refl, [], ◌∷◌, sym, ap, ◌∙◌, arith, length-append}
use Rattle.warg_map.specs.Sparse.{root_of_levels, map_of}
use Rattle.warg_pages.specs.Prefixes.{bits_of_bytes, byte_bits, below}
use Rattle.warg_pages.specs.Slots.{SlotAt, slot_of, page_of}
use Rattle.warg_pages.specs.Pages.{page_digest}
use Rattle.warg_pages.proofs.PageRoots.{slot_digest, page_root}
use Rattle.warg_pages.proofs.KeyPrefixes.{length-bits_from}
use Rattle.warg_pages.proofs.NumberedSlots.{digest_of}

pub page_below : (H : List ℕ → List ℕ) (es : List (List ℕ × List ℕ)) (p : List Bool) (depth s : ℕ) (x : SlotAt)
    → depth < 31 → length p ≡ 8 * depth → slot_of H es p s ≡ Some x
    → x.digest ≡ page_digest H (depth + 1) (page_of H es (p ++ byte_bits s))
page_below H es p depth s x lt n h =
    let size : length (p ++ byte_bits s) ≡ 8 * (depth + 1) =
    rw (length-append p (byte_bits s), n, length-bits_from (s ∷ []) 0 8) (omega arith) in
    ap (digest_of H _) (sym h) ∙ slot_digest H (256 - 8 * (depth + 1)) es
    (p ++ byte_bits s) s _ refl (ap (λ k. 256 - k) size)
    ∙ sym (page_root H es (p ++ byte_bits s) (depth + 1) (omega arith) size)

pub page_at_bytes : (H : List ℕ → List ℕ) (es : List (List ℕ × List ℕ)) (bytes : List ℕ) → length bytes < 32
    → page_digest H (length bytes) (page_of H es (bits_of_bytes bytes)) ≡ root_of_levels H (256 - 8 * length bytes)
    (below (map_of H es) (bits_of_bytes bytes))
page_at_bytes H es bytes lt = page_root H es _ _ lt (length-bits_from bytes 0 _)
