-- What a registry has under a key, by the entry that its value was read out of.
use Rattle.std.proofs.Common.{◌≡◌, ℕ, ◌+◌, ◌<◌, ◌^◌, List, length, Option, Some, ap, subst, ◌∙◌}
use Rattle.std.specs.Prelude.{slice_get}
use Rattle.warg_crypto.specs.Digests.{sha256}
use Rattle.warg_log.specs.Claims.{RootAndLength}
use Rattle.warg_map.specs.Bits.{key_bits}
use Rattle.warg_map.specs.ProofValue.{proof_value}
use Rattle.warg_store.specs.Reading.{IsShown}
use Rattle.warg_registry.specs.declared.reader.KeyInRegistry.{KeyInRegistry}
use Rattle.warg_registry.specs.declared.reader.KeyInRegistry.TheVariants.{Held, Absent}
use Rattle.warg_registry.specs.Insertions.{entries_of}
use Rattle.warg_registry.specs.Reading.{IsKeyShown, IsLogged, IsOfEntry, IsHeldAt, IsKeyIn}
use Rattle.warg_registry.proofs.HeldEntries.{own_value}

module _ (key leaf entry : List ℕ) (index : ℕ) (peers : List (Option (List ℕ))) where
  -- the proof that leads from the leaf digest leads from the value's
  pub shown : (root : List ℕ) (found : KeyInRegistry) → proof_value sha256 peers leaf (key_bits sha256 key) ≡ root
      → IsOfEntry key index leaf entry peers found → IsKeyShown root key found
  shown root (Held at value others) leads is =
      rw is.3 (ap (λ (p : List (Option (List ℕ))). proof_value sha256 p leaf (key_bits sha256 key)) is.1 ∙ leads)
  shown root (Absent others) leads is = absurd is

  -- the inclusion of the entry is that of the value's
  pub logged : (checkpoint : RootAndLength) (found : KeyInRegistry) → IsShown checkpoint index entry
      → IsOfEntry key index leaf entry peers found → IsLogged checkpoint key found
  logged checkpoint (Held at value others) included is =
      rw is.0
      (subst (λ (e : List ℕ). IsShown checkpoint index e) is.2 included)
  logged checkpoint (Absent others) included is = absurd is

  -- and of a registry's own entry it is what the registry has
  pub own : (insertions : List (List ℕ × List ℕ)) (found : KeyInRegistry) → length entry < 2 ^ 64
      → slice_get (entries_of insertions) index ≡ Some entry
      → IsHeldAt insertions (key_bits sha256 key) index leaf peers → IsOfEntry key index leaf entry peers found
      → IsKeyIn insertions key found
  own insertions (Held at value others) small there held is = (
    ap (λ (i : ℕ). i + 1) is.0 ∙ held.place,
    own_value sha256 insertions key leaf index held.place held.held value.items entry small there is.2,
    rw is.1 held.proves,
  )
  own insertions (Absent others) small there held is = absurd is
