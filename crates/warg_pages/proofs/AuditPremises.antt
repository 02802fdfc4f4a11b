-- A page with one lone key, and the roots of no insertion and of this key's.
use Rattle.std.proofs.Common.{◌≡◌, ℕ, false, List, [], ◌∷◌, ◌++◌, Some, refl, sym, ◌∙◌, arith}
use Rattle.std.proofs.lemmas.List.Elements.{All-cons, All-nil}
use Rattle.std.specs.Prelude.{replicate}
use Rattle.warg_crypto.specs.EmptyTrees.{empty_root}
use Rattle.warg_crypto.proofs.ForCallers.{zeros, zeros_are, ones, ones_are, marked}
use Rattle.warg_map.specs.Bits.{bits_from, last_bits}
use Rattle.warg_map.specs.Sparse.{sparse_root, map_of}
use Rattle.warg_map.proofs.ForCallers.{same_bits-itself}
use Rattle.warg_pages.specs.Prefixes.{bits_of_bytes}
use Rattle.warg_pages.specs.Slots.{IsSlot, IsPage}
use Rattle.warg_pages.specs.Pages.{digest_at, page_digest}
use Rattle.warg_pages.specs.ChangedPages.{ChangedPageAt}
use Rattle.warg_pages.specs.Visits.{held_by, IsLoneBelow, AreOfSlots, AreFromWhere, AreAllPages, IsAnyPage}
use Rattle.warg_pages.proofs.PremiseLemmas.{empty_zeros, first_ones, first_zeros, empty_digest, lone_key, lone_bits, lone_slot, left_root, lone_here}

-- two lists are not one
pub no_one_list : (r : List ℕ) → [] ≡ r → 0 ∷ [] ≡ r → ⊥
no_one_list r none some = cc

-- the roots
all_false : replicate 256 false ≡ lone_bits
unfolding bits_from
all_false = refl

pub key_root : sparse_root marked 256 (map_of marked lone_key) ≡ ones
key_root = left_root 256 _ (rw all_false lone_here)

pub no_root : sparse_root marked 256 (map_of marked []) ≡ zeros
no_root = sym (empty_digest marked) ∙ first_zeros 248 0 8

pub empty_is : empty_root marked 256 ≡ zeros
empty_is = empty_zeros 256

-- the page
abbrev lone_page : ChangedPageAt
lone_page = record { prefix = []; version = 1; page = lone_slot ones ∷ [] }

abbrev pub one_page : List ChangedPageAt
one_page = lone_page ∷ []

page_ones : page_digest marked 0 (lone_slot ones ∷ []) ≡ ones
unfolding digest_at
page_ones = first_ones 248 8

zeros_bits : bits_of_bytes (0 ∷ []) ++ replicate 248 false ≡ last_bits zeros 256
unfolding bits_from
zeros_bits = refl

lone_held : held_by ((zeros, ones) ∷ []) (bits_of_bytes (0 ∷ []) ++ replicate 248 false) ≡ Some ones
lone_held = rw zeros_bits (rw (same_bits-itself _) refl)

lone_below : IsLoneBelow marked [] (lone_slot ones) (zeros, ones)
lone_below = record {
  begins = refl;
  digest = sym (left_root 248 (λ bits. held_by ((zeros, ones) ∷ []) (bits_of_bytes (0 ∷ []) ++ bits)) lone_held);
}

is_page : IsPage (lone_slot ones ∷ [])
is_page = record {
  ascend = λ i j d order inside. absurd (omega arith);
  are_slots = All-cons IsSlot (lone_slot ones) [] record {
    is_byte = omega arith;
    fits = omega arith;
    digest = ones_are;
    lone = λ l e. (let same : (zeros, ones) ≡ l = cc in rw (← same) (zeros_are, ones_are));
  } (All-nil IsSlot);
}

pub visited : AreAllPages marked IsAnyPage ones 1 one_page
unfolding AreFromWhere AreOfSlots
visited = (lone_slot ones ∷ [], [], refl, is_page, tt, page_ones, ([], [], refl, (refl, lone_below), refl))
