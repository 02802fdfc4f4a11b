use Rattle.std.proofs.Common.{◌≡◌, ◌<◌, ◌++◌, List, ℕ, zero, suc, true, false, true≢false, length, refl, sym, ap, subst, ◌∙◌, arith, Bor}
use Rattle.std.proofs.lemmas.List.{length-map}
use Rattle.std.proofs.Math.Dec.{eqb-suc-zero}
use Rattle.std.specs.Prelude.{◌==◌}
use Rattle.warg_map.specs.Sparse.{pair_bytes}
use Rattle.warg_store.specs.Log.{AreShort, CanBeKept}
use Rattle.warg_registry.specs.Insertions.{entries_of}
use Rattle.warg_registry.proofs.Listed.{items_of}
use Rattle.warg_registry.proofs.Refused.{told_as, refused_for}
use Rattle.warg_registry.specs.Folder.{registry_of, RegistryIn, HasRegistry}
use Rattle.warg_registry.proofs.FolderMoments.{read_only, nothing_done, read_then_commit}
use Rattle.warg_registry.proofs.Publishing.{own_pages, none_published, IsGrowing, grown_by, published}
use Rattle.warg_registry.proofs.folder.RegistryFolder.publish.Goals.{After-grow}
use Rattle.warg_registry.proofs.folder.RegistryFolder.publish.Goals as goal

-- what a test for zero says
is_none : (n : ℕ) → true ≡ n == 0 → n ≡ 0
is_none zero e = refl
is_none (suc n) e = absurd (true≢false (e ∙ eqb-suc-zero n))

is_some : (n : ℕ) → false ≡ n == 0 → 0 < n
is_some zero e = absurd (true≢false (sym e))
is_some (suc n) e = omega arith

abbrev Pair : Type 0
Pair = Bor (List ℕ) × Bor (List ℕ)

-- the bytes of insertions that are passed
abbrev passed : List Pair → List (List ℕ × List ℕ)
passed insertions = pair_bytes (λ k. k.now) (λ v. v.now) insertions

passed_length : (insertions : List Pair) → length (passed insertions) ≡ length insertions
passed_length insertions = length-map {B = List ℕ × List ℕ} insertions (λ (e : Pair). (e.0.now, e.1.now))

some_passed : (insertions : List Pair) → false ≡ length insertions == 0 → 0 < length (passed insertions)
some_passed insertions e = omega (arith, passed_length insertions, is_some (length insertions) e)

-- the entries and pages by which the log grows
growing : (g : _) (c : After-grow g) → g.F.Folder.IsFaithful → {origin : List ℕ} {served kept : List (List ℕ × List ℕ)}
    → (has : HasRegistry g.F.Folder.seen g.F.Folder.may_leave origin served kept c.args.self.now)
    → IsGrowing g.F.Folder has (passed c.args.insertions.now) c.self-2.inside.pages.log c.self-2.inside.map.root
    (items_of c.as_slice.result.now) c.as_slice-2.result.now
growing g c faithful {kept = kept} has =
    let insertions = c.args.insertions.now in
    grown_by g.F.Folder has c.self-2.view_is (c.insert.ensures.read faithful)
    (c.in_ok-changed.ensures.pages faithful kept (own_pages g.F.Folder has)) c.as_slice-2.ensures.value
    (ap items_of c.as_slice.ensures.value ∙ c.in_ok-entries.ensures.made) (some_passed insertions c.if-is_empty.ensures)
    (omega (
      arith,
      passed_length insertions,
      c.if-insertions-room.false,
      ap (λ (r : RegistryIn g.row.F.Denot). r.count) c.self.view_is,
    ))

pub returns-then-is_empty-clause-published : goal.returns-then-is_empty-clause-published
returns-then-is_empty-clause-published g c = λ faithful origin served kept has.
    let insertions = c.args.insertions.now in
    none_published g.F.Folder has (passed insertions)
    (omega (arith, passed_length insertions, is_none (length insertions) c.if-is_empty.ensures))

pub returns-then-is_empty-clause-any_moment : goal.returns-then-is_empty-clause-any_moment
returns-then-is_empty-clause-any_moment g c = λ faithful origin served kept has.
    nothing_done g.F.Folder (g.met.F.Folder.only_now c.args.self.now.log.folder) has.log.keeps has.log.staging

pub returns-then-insertions-room-clause-any_moment : goal.returns-then-insertions-room-clause-any_moment
returns-then-insertions-room-clause-any_moment g c = λ faithful origin served kept has.
    nothing_done g.F.Folder (g.met.F.Folder.only_now c.args.self.now.log.folder) has.log.keeps has.log.staging

pub returns-in_err-entries-clause-any_moment : goal.returns-in_err-entries-clause-any_moment
returns-in_err-entries-clause-any_moment g c = λ faithful origin served kept has.
    nothing_done g.F.Folder (g.met.F.Folder.only_now c.args.self.now.log.folder) has.log.keeps has.log.staging

pub returns-in_err-changed-clause-any_moment : goal.returns-in_err-changed-clause-any_moment
returns-in_err-changed-clause-any_moment g c = λ faithful origin served kept has.
    read_only g.F.Folder (g.met.F.Folder.only_now c.args.self.now.log.folder) has.log.keeps has.log.staging
    (c.insert.ensures.read faithful).read

pub returns-in_err-grow-clause-any_moment : goal.returns-in_err-grow-clause-any_moment
returns-in_err-grow-clause-any_moment g c = λ faithful origin served kept has.
    let is = growing g (goal.at.returns-in_err-grow-clause-any_moment g c).After-grow faithful has in
    read_then_commit g.F.Folder (g.met.F.Folder.only_now c.args.self.now.log.folder) has.log.keeps has.log.staging
    is.read.read (c.grow.ensures.any_moment faithful _ _ _ is.at is.next is.fresh)

pub returns-clause-published : goal.returns-clause-published
returns-clause-published g c = λ faithful origin served kept has.
    let insertions = c.args.insertions.now in
    let is = growing g (goal.at.returns-clause-published g c).After-grow faithful has in
    let counts = ap (λ (r : RegistryIn g.row.F.Denot). r.count) c.self-2.view_is ∙ c.in_ok-changed.ensures.count in
    published g.F.Folder has (passed insertions) is.is_root
    (c.in_ok-grow.ensures.grown faithful _ _ _ is.at is.next is.fresh)
    (omega (arith, counts, passed_length insertions))

pub returns-clause-any_moment : goal.returns-clause-any_moment
returns-clause-any_moment g c = λ faithful origin served kept has.
    let is = growing g (goal.at.returns-clause-any_moment g c).After-grow faithful has in
    read_then_commit g.F.Folder (g.met.F.Folder.only_now c.args.self.now.log.folder) has.log.keeps has.log.staging
    is.read.read (c.grow.ensures.any_moment faithful _ _ _ is.at is.next is.fresh)

pub returns-in_err-changed-clause-refusal : goal.returns-in_err-changed-clause-refusal
returns-in_err-changed-clause-refusal g c = λ faithful origin served kept has.
    let more = passed c.args.insertions.now in
    let long : Type 0 = AreShort (entries_of more) → ⊥ in
    let full : Type 0 = CanBeKept (registry_of origin (kept ++ more)) → ⊥ in
    let e = c.in_err-changed.field-0.0 in
    told_as _ _ _ c.from_residual-in_err-changed.ensures.1
    (refused_for ⊥ ⊥ long full e (λ n. absurd n) (λ n. absurd n)
    (c.in_err-changed.ensures.whole faithful kept (own_pages g.F.Folder has)))

pub returns-in_err-grow-clause-refusal : goal.returns-in_err-grow-clause-refusal
returns-in_err-grow-clause-refusal g c = λ faithful origin served kept has.
    let is = growing g (goal.at.returns-in_err-grow-clause-refusal g c).After-grow faithful has in
    let N = registry_of origin (kept ++ passed c.args.insertions.now) in
    let long : List (List ℕ) → Type 0 = λ entries. AreShort entries → ⊥ in
    let full : Type 0 = CanBeKept N → ⊥ in
    let e = c.in_err-grow.field-0.0 in
    told_as _ _ _ c.from_residual-in_err-grow.ensures.1 (refused_for _ full _ full e
    (subst long (rw c.as_slice.ensures.value c.in_ok-entries.ensures.made)) (λ n. n)
    (c.in_err-grow.ensures.refused faithful _ _ _ is.at is.next is.fresh))
