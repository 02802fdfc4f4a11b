-- What `==` says of proofs: their contract values are equal.
use Rattle.std.proofs.Common.{◌≡◌, Bool, Option, Some, None, refl, ap}
use Rattle.std.specs.Bool.{Decides}
use Rattle.std.specs.Option.{option_eq}
use Rattle.std.specs.Cmp.Lexicographic.{pointwise_decides}
use Rattle.std.proofs.lemmas.Bool.Decides.{Decides-eqb}
use Rattle.warg_map.specs.Messages.{Peers, same_peers}

options_decide : {A : Type 0} {E : A → A → Bool} → ((a b : A) → Decides (E a b) (a ≡ b)) → (p q : Option A)
    → Decides (option_eq E p q) (p ≡ q)
options_decide d None None = (λ _. refl, λ _. refl)
options_decide d None (Some y) = (λ e. cc, λ e. cc)
options_decide d (Some x) None = (λ e. cc, λ e. cc)
options_decide d (Some x) (Some y) = (λ e. ap Some ((d x y).0 e), λ e. let h : x ≡ y = cc in (d x y).1 h)

pub peers_decide : (ps qs : Peers) → Decides (same_peers ps qs) (ps ≡ qs)
peers_decide = pointwise_decides (options_decide (pointwise_decides Decides-eqb))
