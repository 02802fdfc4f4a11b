use Rattle.std.proofs.Common.{◌≡◌, ◌*◌, ◌<◌, List, [], ℕ, length, map, take, drop, get_or, Bor, true, Some, sym, ap, ◌∙◌, arith}
use Rattle.std.specs.Prelude.{option_copied}
use Rattle.std.proofs.lemmas.List.{get_or-map, get_or_default}
use Rattle.std.proofs.lemmas.List.FromFn.{length-map-range_with_len}
use Rattle.warg_crypto.specs.Digests.{sha256}
use Rattle.warg_crypto.specs.Tree.{leaf_digest}
use Rattle.warg_log.specs.Tree.{root_of, leaves_of, leaves_below}
use Rattle.warg_tiles.specs.Tiles.{TileAt, node_in}
use Rattle.warg_tiles.specs.TileLog.{tile_digests}
use Rattle.warg_tiles.proofs.ForCallers.{bundle_same}
use Rattle.warg_store.proofs.EnoughLemmas.{tile_leaf}
use Rattle.warg_store.proofs.WholeLemmas.{got}
use Rattle.warg_store.proofs.edge.check_entries.Goals as goal

pub returns-then-not-is_leaf-clause-whole : goal.returns-then-not-is_leaf-clause-whole
returns-then-not-is_leaf-clause-whole c = λ log short is same digests.
    let t : TileAt = c.args.stored.now.tile in
    let place : ℕ = c.entries.place in
    let slice : List (Bor (List ℕ)) = c.as_slice-entry-items.result.now in
    let es : List (List ℕ) = map (λ (e : Bor (List ℕ)). e.now) slice in
    let none : Bor (List ℕ) = record { ref_ptr = (0, 0); now = [] } in
    let entry : List ℕ = (get_or slice place none).now in
    let part : List (List ℕ) = take t.width (drop (256 * t.number) log.entries) in
    let here : es ≡ part = bundle_same es part
    (rw c.as_slice-entry-items.ensures.value (sym c.in_ok-entries.ensures.entries ∙ same)) in
    let inside : place < length slice = omega (arith, c.entries-test.true, c.as_slice-entry-items.ensures.len) in
    let wide : place < t.width = omega (
      arith,
      inside,
      ap (λ (l : List (Bor (List ℕ))). length l) c.as_slice-entry-items.ensures.value,
      c.in_ok-entries.ensures.count,
    ) in
    let all : c.as_slice.result.now ≡ tile_digests sha256 (leaves_of sha256 log.entries) t = c.as_slice.ensures.value
    ∙ digests in
    let own : entry ≡ get_or part place [] = sym (get_or-map (λ (e : Bor (List ℕ)). e.now) slice place none [] inside)
    ∙ ap (λ (l : List (List ℕ)). get_or l place []) here in
    let leaf : get_or c.as_slice.result.now place [] ≡ leaf_digest sha256 entry =
    rw (all, own) (tile_leaf log t place is wide) in
    let held : place < length c.as_slice.result.now = omega (
      arith,
      wide,
      ap (λ (l : List (List ℕ)). length l) all,
      length-map-range_with_len (λ i. root_of sha256 (leaves_below (node_in t i) (leaves_of sha256 log.entries))) 0
          t.width,
    ) in
    let lookup = c.get.ensures.lookup in
    let found : option_copied c.get.result ≡ Some (leaf_digest sha256 entry) =
    got c.get.result (leaf_digest sha256 entry) (lookup.2 held) (lookup.4 (omega arith) (leaf_digest sha256 entry)
    ∙ get_or_default c.as_slice.result.now place (leaf_digest sha256 entry) [] held ∙ leaf) in
    absurd (let is : c.is_leaf.result ≡ true = c.is_leaf.ensures found in cc (is, c.if-not-is_leaf.true))
