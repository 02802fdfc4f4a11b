use Rattle.std.proofs.Common.{⊎_elim, [], ◌∷◌, inl, inr, sym, ap, ◌∙◌}
use Rattle.std.proofs.lemmas.List.Elements.{Contains-append_cases, Contains-append_left, Contains-append_right}
use Rattle.warg_pages.specs.ChangedPages.{ChangedPageAt}
use Rattle.warg_pages.specs.PagePaths.{page_path}
use Rattle.warg_registry.proofs.Listed.{of_one, first_there}
use Rattle.warg_registry.proofs.Pruned.{name_there, name_from, same_names}
use Rattle.warg_registry.proofs.pruning.NeededPagesPageVisitorSha256Global.visit.Goals as goal

pub returns : goal.returns
returns c = λ pages named.
    let r : ChangedPageAt = record { prefix = c.args.prefix.now; version = c.args.version; page = c.args._page.now } in
    let keys = c.args.self.now.names.keys in (
      λ p there.
          let n = page_path p.prefix p.version in
          rw c.in_ok-insert.ensures.keys
          (name_there _ same_names keys c.in_ok-page_path.field-0 n (⊎_elim (λ old. inl (named.0 p old))
          (λ new. inr (c.in_ok-page_path.ensures
          ∙ ap (λ (q : ChangedPageAt). page_path q.prefix q.version) (of_one r p new)))
          (Contains-append_cases pages (r ∷ []) p there))),
      λ n is. ⊎_elim (λ old.
          let from = named.1 n old in
          (from.0, Contains-append_left pages (r ∷ []) from.0 from.1, from.2))
          (λ new. (r, Contains-append_right pages (r ∷ []) r (first_there [] r), sym c.in_ok-page_path.ensures ∙ new))
          (name_from _ keys c.in_ok-page_path.field-0 n
          (rw c.in_ok-insert.ensures.keys at is)),
    )
