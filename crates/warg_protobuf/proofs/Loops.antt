-- A loop that takes one thing after the other in.
use Rattle.std.proofs.Common.{◌≡◌, ℕ, ◌<◌, List, [], ◌∷◌, ◌++◌, length, subst, Ok, Err, refl, sym, ap, ◌∙◌, append_assoc, arith, inl, inr}
use Rattle.std.proofs.lemmas.List.{append-nil, nil_from_length}
use Rattle.warg_protobuf.specs.declared.error.WireError.{WireError}
use Rattle.warg_protobuf.specs.Reading.{◌>>=◌, Fails, all_of, Reader, Check}
use Rattle.warg_protobuf.specs.Field.{SpellsAll}
use Rattle.warg_protobuf.specs.Private.Taking.{Adds}
use Rattle.warg_protobuf.proofs.Readers.{IsReader, behind, found, parts_joined}
use Rattle.warg_protobuf.proofs.Sequences.{AreThere, FaultHere, all_met}
use Rattle.warg_protobuf.proofs.ForCallers.{all_push}

-- The loop stands before rest, behind things that check, and its state is what message makes of these.
pub record Collects {X M : Type 0} (Spells : List ℕ → X → Type 0) (check : Check X) (message : List X → M)
    (bytes rest : List ℕ) (state : M) : Type 0 where
  pub taken : List X
  pub front : List ℕ
  pub parts : bytes ≡ front ++ rest
  pub there : AreThere Spells check front taken
  pub state_is : state ≡ message taken

-- one thing more is spelled behind the others
spelled_push : {X : Type 0} (Spells : List ℕ → X → Type 0) (front text : List ℕ) (xs : List X) (x : X)
    → SpellsAll Spells front xs
    → Spells text x → SpellsAll Spells (front ++ text) (xs ++ x ∷ [])
spelled_push Spells front text [] x are is = (text, [], is, refl, rw (are, append-nil) refl)
spelled_push Spells front text (y ∷ xs) x are is =
    grind (arith, append_assoc are.0 are.1 text, spelled_push Spells are.1 text xs x are.3 is)

module _ {X M : Type 0} {split : Reader X} {Spells : List ℕ → X → Type 0} {Fault : List ℕ → WireError → Type 0}
    (check : Check X) (reader : IsReader split Spells Fault) (message : List X → M) (bytes rest : List ℕ) (state : M)
    (c : Collects Spells check message bytes rest state) where
  pub Collects-next : (add : M → X → M) → Adds message add → (x : X) (after : List ℕ) (next : M)
      → split rest ≡ Ok (x, after)
      → (check x ≡ Ok tt) × (next ≡ add state x) → Collects Spells check message bytes after next
  Collects-next add adds x after next e did =
      let b = found reader rest x after e in
      record {
        taken = c.taken ++ x ∷ [];
        front = c.front ++ b.front;
        parts = parts_joined bytes c.front b.front rest after c.parts b.parts;
        there = (
          spelled_push Spells c.front b.front c.taken x c.there.0 b.spelled,
          all_push _ c.taken x c.there.1 did.0,
        );
        state_is = did.1 ∙ ap (λ (m : M). add m x) c.state_is ∙ sym (adds.push c.taken x);
      }

  -- what fails at the front of the rest fails the whole
  pub Collects-fails : (e : WireError) → 0 < length rest → Fails e (split rest >>= λ x. check x.0)
      → Fails e (all_of split check bytes)
  Collects-fails e left (inl memory) = inl memory
  Collects-fails e left (inr bad) =
      let here = behind reader (λ r. r ≡ Err e → FaultHere Spells Fault check rest e) rest (λ x. check x.0)
      (λ x after b wrong. inr (x, after, b, wrong))
      (λ d f same. inl (let is : d ≡ e = cc in subst (Fault rest) is f)) in
      inr (all_met check reader bytes (Err e)
      (record {
        taken = c.taken;
        front = c.front;
        rest = rest;
        parts = c.parts;
        there = c.there;
        left = left;
        why = here bad;
      }))

  -- behind the last thing, all are read
  pub Collects-done : length rest ≡ 0 → (xs : List X) × (all_of split check bytes ≡ Ok xs) × (state ≡ message xs)
  Collects-done none =
      let whole : bytes ≡ c.front = rw (c.parts, nil_from_length rest none, append-nil) refl in
      (c.taken, rw whole (all_met check reader c.front (Ok c.taken) c.there), c.state_is)
