-- The last insertion under a key's digest, of that key, is the key's last.
use Rattle.std.proofs.Common.{◌≡◌, ℕ, List, [], Some, None, refl, ap, ◌∙◌}
use Rattle.warg_map.specs.Bits.{key_bits}
use Rattle.warg_map.specs.Last.{last_under}
use Rattle.warg_witness.specs.MapClaims.{IsLastValue, value_in}
use Rattle.warg_witness.proofs.ForCallers.{last_of_digest}
use Rattle.warg_witness.specs.MapsPlaced.{Insertions, HaveSameValues}
use Rattle.warg_check.specs.Claims.{Claim}
use Rattle.warg_claims.specs.Worlds.{World, IsTrueOf}
use Rattle.warg_check.specs.Claims.Claim.{entry_at, growth, value_under, nothing_under, update, insertion}
use Rattle.warg_claims.specs.Own.{Has}

last_value : (H : List ℕ → List ℕ) (k value : List ℕ) (insertions : Insertions) → last_under H (key_bits H k) insertions
    ≡ Some (k, value) → IsLastValue k value insertions
last_value H k value insertions is = ap value_in (last_of_digest H k insertions (rw is refl) ∙ is)

no_value : (H : List ℕ → List ℕ) (k : List ℕ) (insertions : Insertions) → last_under H (key_bits H k) insertions ≡ None
    → IsLastValue k [] insertions
no_value H k insertions is = ap value_in (last_of_digest H k insertions (rw is tt) ∙ is)

one_more : (xs ys : Insertions) → ys ≡ xs → HaveSameValues xs ys
one_more xs ys is k = rw is refl

pub had_is_true : (H : List ℕ → List ℕ) (claim : Claim) (world : World claim) → Has H claim world → IsTrueOf claim world
had_is_true H (entry_at index value log) entries has = has
had_is_true H (growth old new) entries has = has.1
had_is_true H (value_under key value root) insertions has = last_value H key value insertions has
had_is_true H (nothing_under key root) insertions has = no_value H key insertions has
had_is_true H (update key old_value new_value old_root new_root) maps has =
    record { before = last_value H key old_value maps.0 has.0; after = one_more _ _ has.1 }
had_is_true H (insertion key value old_root new_root) maps has =
    record { before = no_value H key maps.0 has.0; after = one_more _ _ has.1 }
