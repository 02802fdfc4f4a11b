use Rattle.std.proofs.Common.{◌≡◌, ℕ, ◌&&◌, nat_eq, List, Bool, true, arith}
use Rattle.std.specs.Ordering.{nat_cmp, ordering_then}
use Rattle.std.specs.Cmp.{tied_itself, nat_cmp_total}
use Rattle.std.specs.declared.cmp.Ordering.TheVariants.{Equal}
use Rattle.std.specs.Cmp.Lexicographic.{slice_cmp, nat_list_cmp_total, bytes_decides, pointwise}
use Rattle.std.proofs.lemmas.Bool.Decides.{nat_tests}
use Rattle.std.proofs.lemmas.Map.Lookups.{exact_pairs, exact_bytes, exact_unsigned}
use Rattle.warg_log.proofs.laws.equal_by_root_and_length.Goals as goal

-- what the order calls equal is equal
ordered : (x y : List ℕ) (m n : ℕ) (t : Bool) → t ≡ ((pointwise nat_eq x y && true) && nat_eq m n)
    → (t ≡ true → ordering_then (slice_cmp nat_cmp x y) (nat_cmp m n) ≡ Equal)
    × (ordering_then (slice_cmp nat_cmp x y) (nat_cmp m n) ≡ Equal → t ≡ true)
ordered x y m n t is = (
  λ same. grind (arith, nat_tests, bytes_decides x y, tied_itself nat_list_cmp_total y, tied_itself nat_cmp_total n),
  λ e. grind (
    arith,
    nat_tests,
    bytes_decides x y,
    exact_pairs (slice_cmp nat_cmp) nat_cmp exact_bytes exact_unsigned
        (x, m) (y, n) e,
  ),
)

pub returns-clause-order : goal.returns-clause-order
returns-clause-order g c = ordered c.args.first.now.root c.args.second.now.root c.args.first.now.length
    c.args.second.now.length c.eq.result c.eq.ensures
