use Rattle.std.proofs.Common.{◌≡◌, ℕ, List, subst}
use Rattle.warg_crypto.specs.Digests.{sha256}
use Rattle.warg_pages.specs.Audits.{IsHeldIn}
use Rattle.warg_registry.proofs.RegistryAudits.{held_last}
use Rattle.warg_registry.proofs.reader.RegistryReader.is_last.Goals as goal

pub returns-clause-whole : goal.returns-clause-whole
returns-clause-whole g c = λ faithful insertions all has at.
    let e : List ℕ × List ℕ = (c.args.insertion.now.key.now, c.args.insertion.now.value.now) in
    let key : c.of-key.result ≡ sha256 e.0 = c.of-key.ensures in
    let P : List ℕ → Type 0 = λ k. IsHeldIn all k c.in_ok-held.held in
    let held = subst P key (c.in_ok-held.ensures.held faithful c.args.self.now.root all has.are_all) in
    let last = held_last g.F.Folder.seen insertions all c.args.self.now has c.args.index e c.in_ok-held.held at held in
    absurd (c.in-None.ensures.none last.0 last.1 last.2 last.3)
