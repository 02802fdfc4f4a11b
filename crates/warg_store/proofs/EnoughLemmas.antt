-- The tiles that a path needs were read, and what is made of them leads to the log's root.
use Rattle.std.proofs.Common.{◌≡◌, ℕ, ◌+◌, ◌-◌, ◌*◌, ◌^◌, ◌<◌, ◌≤◌, ◌||◌, Bool, true, false, cond, List, [], ◌∷◌, ◌++◌, length, take, drop, get_or, slice_index_or, Option, Some, None, IsSome, Result, Ok, Err, refl, sym, ap, ◌∙◌, arith}
use Rattle.std.specs.Prelude.{OnOk, IfErr}
use Rattle.std.specs.List.{AllByRecursion, slice_get}
use Rattle.std.proofs.lemmas.Bool.{le-leb}
use Rattle.std.proofs.lemmas.List.{take_all, map-append, length-map, get_or-map, get_or-drop, get_or-take}
use Rattle.std.proofs.lemmas.List.Folds.{list_any-append}
use Rattle.std.proofs.lemmas.Option.{slice_get_within, get_or_from_slice_get}
use Rattle.warg_crypto.specs.Digests.{sha256}
use Rattle.warg_crypto.specs.Tree.{leaf_digest}
use Rattle.warg_log.specs.Ranges.{leaves_from, IsAligned}
use Rattle.warg_log.specs.Tree.{root_of, root_over, leaves_of, own_digest}
use Rattle.warg_log.specs.Cut.{old_over}
use Rattle.warg_log.proofs.ForCallers.{below_pow, old_more, old_own_range, node_at, root_over_one}
use Rattle.warg_paths.specs.Paths.{inclusion_root, consistency_roots, led_to, led_to_both}
use Rattle.warg_paths.specs.declared.error.PathError.{PathError}
use Rattle.warg_paths.specs.declared.error.PathError.TheVariants as path
use Rattle.warg_paths.proofs.ForCallers.{own_inclusion_leads, own_consistency_leads}
use Rattle.warg_tiles.specs.Tiles.{TileAt, node_in, tile_end}
use Rattle.warg_tiles.specs.Fetching.{gives}
use Rattle.warg_tiles.specs.TileData.{Tiles, covered_by, has_below, digest_by}
use Rattle.warg_tiles.specs.TileLog.{tile_digests}
use Rattle.warg_protobuf.proofs.ForCallers.{all_weaken}
use Rattle.warg_tiles.proofs.ForCallers.{digest_by_own, tile_own, covered_gives, wider_gives, given_known}
use Rattle.warg_store.specs.Log.{LogOf, IsBundleIn}
use Rattle.warg_store.specs.Reading.{inclusion_in, consistency_in}
use Rattle.warg_store.specs.Private.Fetched.{AreOwn, GivesMore}
use Rattle.warg_store.proofs.ListLemmas.{next_taken}
use Rattle.warg_store.proofs.OptionLemmas.{one_value}
use Rattle.warg_store.proofs.StagedLemmas.{tiles_of}
use Rattle.warg_store.proofs.LeadLemmas.{end_inside, bundle_inside}

first_of : (b : Bool) → (b || false) ≡ true → b ≡ true
first_of true is = refl
first_of false is = is

-- a tile that one of the tiles covers
pub gives_held : (tiles : Tiles) (t : TileAt) → covered_by tiles t ≡ true → GivesMore tiles (t ∷ []) tiles
gives_held tiles t covered = record {
  keep = λ x given. given;
  add = λ x given. covered_gives tiles t x covered
      (first_of (has_below t x) given);
}

-- a tile that was added
pub gives_added : (tiles : Tiles) (t : TileAt) (digests : List (List ℕ))
    → GivesMore tiles (t ∷ []) (tiles ++ (t, digests) ∷ [])
gives_added tiles t digests = record {
  keep = λ x given. more x ∙ rw given refl;
  add = λ x given. more x ∙ rw given (or_last (gives (tiles_of tiles) x));
}
  where
    more : (x : ℕ) → gives (tiles_of (tiles ++ (t, digests) ∷ [])) x
        ≡ (gives (tiles_of tiles) x || (has_below t x || false))
    more x = rw (map-append (λ (s : TileAt × List (List ℕ)). s.0) tiles ((t, digests) ∷ []))
        (list_any-append (λ s. has_below s x) (tiles_of tiles) (t ∷ []))

    or_last : (b : Bool) → (b || true) ≡ true
    or_last true = refl
    or_last false = refl

-- one tile more, as wide as the log has it
pub gives_next : (old mid new : Tiles) (ts : List TileAt) (i : ℕ) (t wide : TileAt) → i < length ts → t ≡ get_or ts i t
    → wide.level ≡ t.level → wide.number ≡ t.number → t.width ≤ wide.width
    → GivesMore old (take i ts) mid → GivesMore mid (wide ∷ []) new → GivesMore old (take (i + 1) ts) new
gives_next old mid new ts i t wide inside is level number more before now = record {
  keep = λ x given. now.keep x (before.keep x given);
  add = λ x given. by_first x (gives (take i ts) x) refl
      (sym (list_any-append (λ s. has_below s x) (take i ts) (t ∷ [])) ∙ ap (λ l. gives l x) (sym whole) ∙ given);
}
  where
    whole : take (i + 1) ts ≡ take i ts ++ t ∷ []
    whole = next_taken ts i t inside is

    by_first : (x : ℕ) (b : Bool) → gives (take i ts) x ≡ b → (b || (has_below t x || false)) ≡ true
        → gives (tiles_of new) x ≡ true
    by_first x true given any = now.keep x (before.add x given)
    by_first x false other any = now.add x
        (rw (wider_gives t wide x level number more (first_of (has_below t x) any)) refl)

-- tiles added one after the other
pub gives_then : (old mid new : Tiles) (first : List TileAt) → GivesMore old first mid → GivesMore mid [] new
    → GivesMore old first new
gives_then old mid new first before now = record {
  keep = λ x given. now.keep x (before.keep x given);
  add = λ x given. now.keep x (before.add x given);
}

-- tiles that give what some nodes need
pub gives_all : (old : Tiles) (ts : List TileAt) (new : Tiles) (nodes : List ℕ) → GivesMore old ts new
    → AllByRecursion (λ x. gives ts x ≡ true) nodes → AllByRecursion (λ x. gives (tiles_of new) x ≡ true) nodes
gives_all old ts new nodes more all = all_weaken (λ x. gives ts x ≡ true) (λ x. gives (tiles_of new) x ≡ true)
    (λ x given. more.add x given) nodes all

-- the leaf digest of an entry
pub own_leaf : (log : LogOf) (index : ℕ) (d : List ℕ) → index < length log.entries
    → own_digest sha256 (leaves_of sha256 log.entries) (2 * index) ≡ Some d
    → d ≡ slice_index_or (leaves_of sha256 log.entries) index []
own_leaf log index d inside is =
    let ds = leaves_of sha256 log.entries in
    let leaf = node_at (2 * index) 0 index (omega arith) in
    let count : index < length ds = omega (arith, length-map log.entries (leaf_digest sha256), inside) in
    let found : own_digest sha256 ds (2 * index) ≡ Some (root_over sha256 ds index 1) =
    rw (leaf.0, leaf.1) (ap (λ (b : Bool). cond b (Some (root_over sha256 ds (index * 1) 1)) None)
    (le-leb ((index + 1) * 1) (length ds) (omega (arith, count))) ∙ ap (λ n. Some (root_over sha256 ds n 1))
    (omega arith)) in
    one_value is found ∙ root_over_one sha256 ds index count

module _ (log : LogOf) where
  abbrev ds : List (List ℕ)
  ds = leaves_of sha256 log.entries

  count : length ds ≡ length log.entries
  count = length-map log.entries (leaf_digest sha256)

  -- where the log's own paths lead
  pub inclusion_leads : (m n : ℕ) (leaf : List ℕ) (path : List (List ℕ)) → m < n → n ≤ length log.entries
      → leaf ≡ slice_index_or ds m [] → inclusion_in log m n ≡ Some path
      → inclusion_root sha256 m n leaf path ≡ Some (root_of sha256 (take n ds))
  inclusion_leads m n leaf path inside fits is own =
      ap (λ (x : List ℕ). inclusion_root sha256 m n x path) is ∙ ap (led_to sha256 m n (slice_index_or ds m []))
      (sym own) ∙ own_inclusion_leads sha256 ds m n inside (omega (arith, count, fits))

  pub consistency_leads : (m n : ℕ) (path : List (List ℕ)) → 0 < m → m ≤ n → n ≤ length log.entries
      → consistency_in log m n ≡ Some path
      → consistency_roots sha256 m n (root_of sha256 (take m ds)) path
      ≡ Some (root_of sha256 (take m ds), root_of sha256 (take n ds))
  consistency_leads m n path some order fits own =
      ap (led_to_both sha256 m n (root_of sha256 (take m ds))) (sym own)
      ∙ own_consistency_leads sha256 ds m n some order (omega (arith, count, fits))

  -- the old root by the log's own tiles
  pub old_root : (tiles : Tiles) (m : ℕ) → AreOwn log tiles → 0 < m → m ≤ length log.entries
      → IsSome (old_over sha256 (digest_by sha256 tiles) (leaves_from 0 m))
      → old_over sha256 (digest_by sha256 tiles) (leaves_from 0 m) ≡ Some (root_of sha256 (take m ds))
  old_root tiles m own some fits known = by_value (old_over sha256 (digest_by sha256 tiles) (leaves_from 0 m)) refl
      known
    where
      by_value : (o : Option (List ℕ)) → old_over sha256 (digest_by sha256 tiles) (leaves_from 0 m) ≡ o → IsSome o
          → old_over sha256 (digest_by sha256 tiles) (leaves_from 0 m) ≡ Some (root_of sha256 (take m ds))
      by_value None is known = absurd (cc)
      by_value (Some d) is known =
          let aligned : IsAligned 0 m = record {
            height = m;
            place = 0;
            start = omega arith;
            most = omega (arith, below_pow m);
          } in
          let more = old_more sha256 (digest_by sha256 tiles) (own_digest sha256 ds)
          (λ y e. digest_by_own sha256 ds tiles y e own) (leaves_from 0 m) d is in
          let whole : old_over sha256 (own_digest sha256 ds) (leaves_from 0 m) ≡ Some (root_over sha256 ds 0 m) =
          old_own_range sha256 ds (leaves_from 0 m) some aligned (omega (arith, count, fits)) in
          is ∙ sym more ∙ whole

  -- the root of all is the checkpoint's
  pub whole_root : (n : ℕ) → length log.entries ≤ n → root_of sha256 (take n ds) ≡ root_of sha256 ds
  whole_root n all = ap (root_of sha256) (take_all n ds (omega (arith, count, all)))

-- a tile of level 0 has the leaf digests of its bundle's entries
pub tile_leaf : (log : LogOf) (t : TileAt) (i : ℕ) → IsBundleIn log t → i < t.width
    → slice_index_or (tile_digests sha256 (leaves_of sha256 log.entries) t) i [] ≡ leaf_digest sha256
    (slice_index_or (take t.width (drop (256 * t.number) log.entries)) i [])
tile_leaf log t i is below =
    let all = leaves_of sha256 log.entries in
    let same : length all ≡ length log.entries = length-map log.entries (leaf_digest sha256) in
    let end : tile_end t ≤ length log.entries = end_inside (length log.entries) t is.exists in
    let within = bundle_inside t is.level is.exists in
    let place : ℕ = 256 * t.number + i in
    let node : node_in t i ≡ 2 * place = ap (λ l. 2 * ((256 * t.number + i) * 2 ^ (8 * l)) + 2 ^ (8 * l) - 1) is.level
    ∙ omega arith in
    let own : own_digest sha256 all (2 * place) ≡ Some (slice_index_or (tile_digests sha256 all t) i []) =
    ap (own_digest sha256 all) (sym node) ∙ (tile_own sha256 all t (omega (arith, same, end))).digest i below in
    let leaf = own_leaf log place (slice_index_or (tile_digests sha256 all t) i []) (omega (arith, within, below))
    own in
    leaf ∙ get_or-map (leaf_digest sha256) log.entries place [] [] (omega (arith, within, below))
    ∙ ap (leaf_digest sha256) (sym (get_or-drop (256 * t.number) log.entries i [])
    ∙ sym (get_or-take t.width (drop (256 * t.number) log.entries) i [] below))

-- the leaf digest that a log's own tiles have
pub fetched_leaf : (log : LogOf) (tiles : Tiles) (index x : ℕ) (d : List ℕ) → x ≡ 2 * index → AreOwn log tiles
    → index < length log.entries → digest_by sha256 tiles x ≡ Some d
    → d ≡ slice_index_or (leaves_of sha256 log.entries) index []
fetched_leaf log tiles index x d at own inside is =
    own_leaf log index d inside (ap (own_digest sha256 (leaves_of sha256 log.entries)) (sym at)
    ∙ digest_by_own sha256 (leaves_of sha256 log.entries) tiles x d own is)

-- the leaf digest of an entry that was read
pub entry_leaf : (log : LogOf) (index : ℕ) (entry : List ℕ) → slice_get log.entries index ≡ Some entry
    → leaf_digest sha256 entry ≡ slice_index_or (leaves_of sha256 log.entries) index []
entry_leaf log index entry is =
    ap (leaf_digest sha256) (sym (get_or_from_slice_get log.entries index entry [] is))
    ∙ sym (get_or-map (leaf_digest sha256) log.entries index [] [] (slice_get_within log.entries index entry is))

-- tiles of which one gives a node have its digest
pub given_some : (tiles : Tiles) (t : TileAt) (more : Tiles) (x : ℕ) → GivesMore tiles (t ∷ []) more
    → has_below t x ≡ true → IsSome (digest_by sha256 more x)
given_some tiles t more x gives has = (given_known sha256 more (x ∷ []) (gives.add x (rw has refl), tt)).0

-- what is so is so of a result that went well
pub on_any : {X E : Type 0} (r : Result X E) (P : Type 0) → P → OnOk r P
on_any (Ok x) P holds = holds
on_any (Err e) P holds = tt

-- a path that isn't refused for its places or its digests is for memory
pub path_memory : {X : Type 0} (r : Result X PathError) → (r ≡ Err path.OutOfRange → ⊥)
    → (r ≡ Err path.HashNotKnown → ⊥) → IfErr r (λ e. e ≡ path.Memory)
path_memory (Ok x) range known = tt
path_memory (Err path.OutOfRange) range known = absurd (range refl)
path_memory (Err path.HashNotKnown) range known = absurd (known refl)
path_memory (Err path.Memory) range known = refl

pub some_none : {X : Type 0} (o : Option X) → IsSome o → o ≡ None → ⊥
some_none (Some x) some none = cc
some_none None some none = cc
