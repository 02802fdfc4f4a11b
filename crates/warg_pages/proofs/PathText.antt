-- The path of a page, byte by byte.
use Rattle.std.proofs.Common.{◌≡◌, ℕ, ◌+◌, ◌<◌, List, [], ◌∷◌, ◌++◌, length, take, get_or, sym, ap, ◌∙◌}
use Rattle.std.proofs.lemmas.List.{append_assoc, append-nil, take_more}
use Rattle.std.specs.List.{flat_map}

flat_map-push : (f : ℕ → List ℕ) (xs : List ℕ) (x : ℕ) → flat_map f (xs ++ x ∷ []) ≡ flat_map f xs ++ f x
flat_map-push f [] x = append-nil (f x)
flat_map-push f (y ∷ xs) x = rw (flat_map-push f xs x) (sym (append_assoc (f y) _ (f x)))

-- a byte more
pub path_more : (f : ℕ → List ℕ) (first : List ℕ) (xs : List ℕ) (i : ℕ) → i < length xs
    → (first ++ flat_map f (take i xs)) ++ f (get_or xs i 0) ≡ first ++ flat_map f (take (i + 1) xs)
path_more f first xs i lt = append_assoc first _ _
    ∙ ap (λ t. first ++ t) (sym (rw (take_more xs i 0 lt) (flat_map-push f _ _)))
