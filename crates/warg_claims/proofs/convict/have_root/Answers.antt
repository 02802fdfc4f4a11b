use Rattle.std.proofs.Common.{◌≡◌, ◌↔◌, ◌&&◌, Bool, true, false, map, refl, sym, ap, ◌∙◌}
use Rattle.std.proofs.lemmas.List.{take_all}
use Rattle.std.specs.Cmp.Lexicographic.{bytes_decides}
use Rattle.warg_log.specs.Tree.{leaves_of, root_of}
use Rattle.warg_claims.proofs.convict.have_root.Goals as goal

-- what a comparison of hashes says
same_exactly : {P : Type 0} (b is : Bool) → ((b ≡ true) ↔ P) → is ≡ (b && true) → ((is ≡ true) ↔ P)
same_exactly true is decides seen = (λ holds. decides.0 refl, λ p. seen)
same_exactly false is decides seen = (
  λ holds. absurd (let wrong : false ≡ true = sym seen ∙ holds in cc),
  λ p. absurd (let wrong : false ≡ true = decides.1 p in cc),
)

pub returns : goal.returns
returns g c =
    let H = g.D.SupportedDigest.digest in
    let all = take_all c.entries.entry-index c.args.entries.now c.entries-test.false in
    let root : c.root.result ≡ root_of H (leaves_of H (map g.V.VisitBytes.bytes c.args.entries.now)) =
    c.root.ensures
    ∙ ap (root_of H) (c.entries.invariant ∙ ap (λ xs. leaves_of H (map g.V.VisitBytes.bytes xs)) all) in
    let same = same_exactly _ c.eq.result (bytes_decides c.args.root.now c.root.result) c.eq.ensures in
    (λ is. same.0 is ∙ root, λ is. same.1 (is ∙ sym root))
