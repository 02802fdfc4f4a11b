-- Each message type takes one field more in as its own step says.
use Rattle.std.specs.Prelude.{◌≡◌, ℕ, List, [], ◌∷◌, ◌++◌, Result}
use Rattle.std.proofs.Common.{refl, ap, ◌∙◌}
use Rattle.std.proofs.lemmas.List.{append-nil, map-append}
use Rattle.std.proofs.lemmas.List.Concat.{flat_map-append}
use Rattle.warg_protobuf.specs.declared.error.WireError.{WireError}
use Rattle.warg_protobuf.specs.Field.{Payload, Field}
use Rattle.warg_protobuf.specs.Schema.{value, values, last_of}
use Rattle.warg_protobuf.specs.Private.Taking.{Adds}
use Rattle.warg_protobuf.specs.HashEntry.{entry_schema, entry_add}
use Rattle.warg_protobuf.specs.LogProofBundle.{log_schema, log_add}
use Rattle.warg_protobuf.specs.OptionalHash.{hash_schema, hash_add}
use Rattle.warg_protobuf.specs.MapInclusionProof.{proof_schema, proof_add}
use Rattle.warg_protobuf.specs.MapProofBundle.{map_schema, map_add}
use Rattle.warg_protobuf.specs.StackLog.{stack_schema, stack_add}
use Rattle.warg_protobuf.specs.VecLog.{vec_schema, vec_add}

values-push : {A : Type 0} (k : ℕ) (read : Payload → Result (List A) WireError) (fs : List Field) (f : Field)
    → values k read (fs ++ f ∷ []) ≡ values k read fs ++ value k read f
unfolding values
values-push k read fs f = flat_map-append (value k read) fs (f ∷ []) ∙ ap (λ (l : List _). values k read fs ++ l) (append-nil (value k read f))

last_of-append : {A : Type 0} (d : A) (xs ys : List A) → last_of d (xs ++ ys) ≡ last_of (last_of d xs) ys
unfolding last_of
last_of-append d [] ys = refl
last_of-append d (x ∷ xs) ys = last_of-append x xs ys

pub entry_adds : Adds entry_schema.message entry_add
unfolding entry_schema entry_add
entry_adds = record { push = λ fs f. simp (values-push, last_of-append) }

pub log_adds : Adds log_schema.message log_add
unfolding log_schema log_add
log_adds = record { push = λ fs f. simp (values-push, last_of-append) }

pub hash_adds : Adds hash_schema.message hash_add
unfolding hash_schema hash_add
hash_adds = record { push = λ fs f. simp (values-push, map-append, last_of-append) }

pub proof_adds : Adds proof_schema.message proof_add
unfolding proof_schema proof_add
proof_adds = record { push = λ fs f. simp values-push }

pub map_adds : Adds map_schema.message map_add
unfolding map_schema map_add
map_adds = record { push = λ fs f. simp values-push }

pub stack_adds : Adds stack_schema.message stack_add
unfolding stack_schema stack_add
stack_adds = record { push = λ fs f. simp (values-push, last_of-append) }

pub vec_adds : Adds vec_schema.message vec_add
unfolding vec_schema vec_add
vec_adds = record { push = λ fs f. simp (values-push, last_of-append) }
