use Rattle.std.proofs.Common.{◌≡◌, ◌≤◌, ◌*◌, List, ℕ, Vec, true, false, Some, map, take, drop, sym, ap, ◌∙◌, arith, length}
use Rattle.std.proofs.lemmas.List.{length-map, length-take, take-map}
use Rattle.std.specs.declared.alloc.Global.{Global}
use Rattle.warg_tiles.specs.EntryBundles.{bundle_of}
use Rattle.warg_store.specs.Log.{AreShort}
use Rattle.warg_store.proofs.ListLemmas.{all_take, all_drop}
use Rattle.warg_store.proofs.OlderLemmas.{older_entries}
use Rattle.warg_store.proofs.OpenLemmas.{bundle_size}
use Rattle.warg_store.proofs.older.compare_older_bundle.Goals as goal

pub returns-clause-whole : goal.returns-clause-whole
returns-clause-whole g c = λ faithful log short part there.
    let t = c.args.tile.now in
    let own : List (List ℕ) = take t.width (drop (256 * t.number) log.entries) in
    let are : map (λ (e : Vec ℕ Global). e.items) (take t.width c.args.entries.now) ≡ own =
    older_entries (λ (e : Vec ℕ Global). e.items) log t c.args.entries.now
    (omega (arith, c.width.ensures.most, c.width.ensures.value)) part in
    let brief : AreShort own = all_take _ t.width _ (all_drop _ (256 * t.number) log.entries short) in
    let bytes : c.as_slice.result.now ≡ bundle_of own = c.as_slice.ensures.value
    ∙ c.in_ok-found.ensures.own faithful log short (omega (arith, c.width.ensures.most, c.width.ensures.value)) there in
    let same : map (λ (e : Vec ℕ Global). e.items) (take c.width.result c.args.entries.now) ≡ own =
    rw c.width.ensures.value are in
    let is : c.in_ok-is_bundle.field-0 ≡ true = c.in_ok-is_bundle.ensures.is (rw same brief) (rw same bytes) in
    absurd (let no : true ≡ false = sym is ∙ c.if-branch.false in cc)

pub returns-then-branch-clause-file : goal.returns-then-branch-clause-file
returns-then-branch-clause-file g c = λ faithful.
    let bytes_of : Vec ℕ Global → List ℕ = λ e. e.items in
    let es : List (List ℕ) = map bytes_of (take c.width.result c.args.entries.now) in
    let is = c.in_ok-is_bundle.ensures.only c.if-branch.true in
    let found : c.in_ok-found.found.items ≡ bundle_of es = sym c.as_slice.ensures.value ∙ is.1 in
    let few : length es ≤ 256 = omega (
      arith,
      length-map (take c.width.result c.args.entries.now) bytes_of,
      length-take c.width.result c.args.entries.now,
      c.width.ensures.most,
    ) in
    let size : length c.in_ok-found.found.items ≤ 256 * 65537 = omega (
      arith,
      ap (λ (l : List ℕ). length l) found,
      bundle_size es is.0,
      few,
    ) in
    c.in_ok-found.ensures.file faithful size
    ∙ ap (λ (b : List ℕ). Some b) (found ∙ ap bundle_of (sym (take-map bytes_of c.width.result c.args.entries.now)
    ∙ ap (λ n. take n (map bytes_of c.args.entries.now)) c.width.ensures.value))
