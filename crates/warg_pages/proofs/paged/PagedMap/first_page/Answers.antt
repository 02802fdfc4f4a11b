use Rattle.std.proofs.Common.{◌<◌, ◌^◌, arith}
use Rattle.warg_pages.proofs.Refused.{if_ok_both, if_err, of_source}
use Rattle.warg_pages.proofs.FirstUpdates.{own_first_page, first_page_refused, empty_first_page}
use Rattle.warg_pages.proofs.paged.PagedMap.first_page.Goals as goal

pub returns-then-self-eq0-clause-ok : goal.returns-then-self-eq0-clause-ok
returns-then-self-eq0-clause-ok g c = λ known is_known.
    empty_first_page _ _ _ _ c.new.result
    c.if-self-eq0.true c.new.ensures

pub returns-clause-ok : goal.returns-clause-ok
returns-clause-ok g c =
    let fits : c.args.self.now.version < 2 ^ 64 = omega arith in
    if_ok_both c.read_page.result _ _ _ c.read_page.ensures.ok c.read_page.ensures.page
    (λ page at is known is_known es own.
    own_first_page _ g.met.D.SupportedDigest.is_digest _ c.args.self.now.root _ page es fits
    c.if-self-eq0.false is (at known is_known) own)

pub returns-clause-err : goal.returns-clause-err
returns-clause-err g c =
    let fits : c.args.self.now.version < 2 ^ 64 = omega arith in
    if_err c.read_page.result _ _ c.read_page.ensures.err (λ e. of_source e (λ fault known es is_known own.
    first_page_refused _ g.met.D.SupportedDigest.is_digest _ c.args.self.now.root c.args.self.now.version es fits
    c.if-self-eq0.false (λ slots. fault known slots is_known) own))
