use Rattle.std.proofs.Common.{◌≡◌, ◌∙◌, ◌+◌, ◌<◌, ◌^◌, ◌++◌, List, [], ℕ, length, sym, ap, arith}
use Rattle.std.proofs.lemmas.Bool.{eqb-true, eqb-false}
use Rattle.std.proofs.lemmas.List.{length-map}
use Rattle.std.proofs.lemmas.List.Elements.{All-nil}
use Rattle.warg_map.specs.Sparse.{pair_bytes}
use Rattle.warg_pages.specs.ChangedPages.{ChangesWhatStood}
use Rattle.warg_pages.specs.ProvedKeys.{IsOwnSource}
use Rattle.warg_pages.specs.Private.Updates.{IsOwnUpdate}
use Rattle.warg_pages.proofs.Refused.{source_refused}
use Rattle.warg_pages.proofs.FirstUpdates.{first_update, all_changed, root_changed, none_changed, named_first, first_changes}
use Rattle.warg_pages.proofs.paged.PagedMap.insert_all.Goals as goal
use Rattle.warg_pages.proofs.paged.PagedMap.insert_all.Goals.{In_ok-changes}

pub returns-then-is_empty-clause-pages : goal.returns-then-is_empty-clause-pages
returns-then-is_empty-clause-pages g c = λ known old is_known own.
    let more = pair_bytes _ g.V.VisitBytes.bytes _ in
    let none : length more ≡ 0 = length-map c.args.insertions.now _ ∙ eqb-true _ 0
    (sym c.is_empty.ensures ∙ c.if-is_empty.true) in
    none_changed _ old more _ none c.new-changed.ensures.items

-- the first page, which the insertions change
own_update : (g : _) (c : In_ok-changes g) (known : g.P.Pages.Known) (old : List (List ℕ × List ℕ))
    → g.P.Pages.IsKnown c.args.pages.now known
    → let bytes_at = g.P.Pages.bytes_at known in
    let root = c.args.self.now.root in
    IsOwnSource g.D.SupportedDigest.digest bytes_at root c.args.self.now.version old
    → IsOwnUpdate g.D.SupportedDigest.digest bytes_at [] (c.args.self.now.version + length c.args.insertions.now) root
    c.in_ok-page.page c.in_ok-changes.changes.items old
    (pair_bytes g.K.VisitBytes.bytes g.V.VisitBytes.bytes c.args.insertions.now)
own_update g c known old is_known own =
    let more = pair_bytes g.K.VisitBytes.bytes g.V.VisitBytes.bytes _ in
    let count = c.args.self.now.version in
    let size : length more ≡ length c.args.insertions.now = length-map c.args.insertions.now _ in
    let no = eqb-false _ 0 (sym c.is_empty.ensures ∙ c.if-is_empty.false) in
    let some : 0 < length more = omega arith in
    let fits : count + length more < 2 ^ 64 = let all = c.requires in omega arith in
    let number : count + length c.args.insertions.now ≡ count + length more = omega arith in
    rw (number, c.in_ok-changes.ensures.ok) (first_update _ _ c.args.self.now.root count c.in_ok-page.page old more
    some fits (c.in_ok-page.ensures.ok known is_known) own)

pub returns-in_err-self-clause-refused : goal.returns-in_err-self-clause-refused
returns-in_err-self-clause-refused g c =
    let more = pair_bytes g.K.VisitBytes.bytes g.V.VisitBytes.bytes c.args.insertions.now in
    let first = own_update g (goal.at.returns-in_err-self-clause-refused g c).In_ok-changes in
    source_refused _ _ c.from_residual-in_err-self.ensures.1
    (λ fault known old is_known own. fault known old more (c.first_page.ensures.known known is_known)
    (first known old is_known own)) (rw (c.new.ensures.items, c.copied.ensures) at
    c.in_err-self.ensures.err)

pub returns-clause-pages : goal.returns-clause-pages
returns-clause-pages g c = λ known old is_known own.
    let more = pair_bytes g.K.VisitBytes.bytes g.V.VisitBytes.bytes _ in
    let done = rw (c.new.ensures.items, c.copied.ensures) at c.in_ok-self.ensures.ok in
    let updated = done.2 known old more (c.first_page.ensures.known known is_known)
    (own_update g (goal.at.returns-clause-pages g c).In_ok-changes known old is_known own) in
    let are : c.update_page.new.changed.items ≡ done.0 = done.1 ∙ ap (λ l. l ++ done.0) c.new-changed.ensures.items in
    rw are (all_changed _ old more _ done.0 updated)

pub returns-clause-root : goal.returns-clause-root
returns-clause-root g c = λ known old is_known own.
    let more = pair_bytes _ g.V.VisitBytes.bytes _ in
    let done = rw (c.new.ensures.items, c.copied.ensures) at c.in_ok-self.ensures.ok in
    root_changed _ old more c.in_ok-self.field-0 done.0
    (done.2 known old more (c.first_page.ensures.known known is_known)
    (own_update g (goal.at.returns-clause-root g c).In_ok-changes known old is_known own))

pub returns-clause-stood : goal.returns-clause-stood
returns-clause-stood g c =
    let more = pair_bytes g.K.VisitBytes.bytes g.V.VisitBytes.bytes _ in
    let root = c.args.self.now.root in
    let count = c.args.self.now.version in
    let done = rw (c.new.ensures.items, c.copied.ensures, c.in_ok-changes.ensures.ok) at c.in_ok-self.ensures.ok in
    let are : c.update_page.new.changed.items ≡ done.0 = done.1 ∙ ap (λ l. l ++ done.0) c.new-changed.ensures.items in
    rw are (done.3 root count more (named_first _ root) (first_changes _ count more))

pub returns-then-is_empty-clause-stood : goal.returns-then-is_empty-clause-stood
returns-then-is_empty-clause-stood g c =
    let more = pair_bytes g.K.VisitBytes.bytes g.V.VisitBytes.bytes _ in
    rw c.new-changed.ensures.items (All-nil (ChangesWhatStood _ c.args.self.now.root more))
