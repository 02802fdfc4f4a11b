-- Where a digest's bytes lie.
use Rattle.std.specs.Prelude.{ℕ, List}
use Rattle.warg_protobuf.specs.declared.digest_bytes.Stored.{Stored}
use Rattle.warg_protobuf.specs.declared.digest_bytes.Stored.TheVariants as stored

-- The bytes, wherever they lie.
unfoldable pub stored_bytes : {A : Type 0} → Stored A → List ℕ
stored_bytes (stored.Array bytes) = bytes
stored_bytes (stored.List list) = list.items
