-- A log that grows, as files.
use Rattle.std.proofs.Common.{◌≡◌, ◌⊎◌, inl, inr, ⊎_elim, ℕ, zero, suc, ◌+◌, ◌-◌, ◌*◌, ◌/◌, ◌^◌, ◌<◌, ◌≤◌, true, false, List, [], ◌∷◌, ◌++◌, length, take, drop, map, min, Option, Some, None, IsSome, append_assoc, refl, sym, ap, ◌∙◌, arith}
use Rattle.std.specs.List.{Contains, flat_map, range_with_len}
use Rattle.std.proofs.lemmas.Bool.{cases_Bool, cases_eq}
use Rattle.std.proofs.lemmas.List.{take-append-le, drop-append-le, length-drop, length-map, length-append, map-append, append-nil}
use Rattle.std.proofs.Math.Nat.{zero-div, div-mul-le_self, mul-le-mul_right}
use Rattle.std.proofs.lemmas.Nat.{pow_pos, le-div}
use Rattle.warg_crypto.specs.Digests.{sha256}
use Rattle.warg_crypto.specs.Tree.{leaf_digest}
use Rattle.warg_log.specs.Nodes.{height_of, place_of, start_of}
use Rattle.warg_log.specs.Tree.{root_of, leaves_of, leaves_below}
use Rattle.warg_log.proofs.ForCallers.{over_at}
use Rattle.warg_tiles.specs.Tiles.{TileAt, node_in, tile_end}
use Rattle.warg_tiles.specs.TilePaths.{tile_path, entries_path}
use Rattle.warg_tiles.specs.Between.{IsTileOf}
use Rattle.warg_tiles.specs.TileLog.{RightEdge, StandsFor, tile_digests}
use Rattle.warg_tiles.specs.EntryBundles.{bundle_of}
use Rattle.warg_folder.specs.Files.{File, Files}
use Rattle.warg_folder.specs.Names.{checkpoint, state, mark, staged, is_staged, is_own, page_name, is_served}
use Rattle.warg_folder.specs.Commits.{is_signed, opened, committed, IsBetween}
use Rattle.warg_store.specs.Log.{LogOf, CanBeKept, checkpoint_of, tile_bytes, bundle_bytes, IsTileIn, IsBundleIn, HasFiles, Serves, IsFileOf, Extends, Keeps, KeepsNext, IsServed, IsOneOf, IsCommitting, HasPage, IsNewName, ArePagesStaged, AreStagedFor}
use Rattle.warg_folder.proofs.ForCallers.{apart, served_not_own, served_not_staged, served_kind, page_once}
use Rattle.warg_store.proofs.PathLemmas.{tile_path_once, entries_path_once, no_tile_a_bundle, no_page_a_tile, no_page_a_bundle}
use Rattle.warg_store.proofs.ServeLemmas.{idle_same, committed_served, opened_idle}

-- a part of a list is that of a longer one
part_kept : {X : Type 0} (xs more : List X) (a k : ℕ) → a + k ≤ length xs → take k (drop a (xs ++ more))
    ≡ take k (drop a xs)
part_kept xs more a k inside = ap (take k) (drop-append-le a xs more (omega arith)) ∙ take-append-le k (drop a xs) more
    (omega (arith, length-drop a xs))

map_range : {X : Type 0} (f g : ℕ → X) (a n : ℕ) → ((i : ℕ) → a ≤ i → i < a + n → f i ≡ g i)
    → map f (range_with_len a n) ≡ map g (range_with_len a n)
map_range f g a zero same = refl
map_range f g a (suc n) same = let first : f a ≡ g a = same a (omega arith) (omega arith) in
    let rest = map_range f g (a + 1) n (λ i low high. same i (omega arith) (omega arith)) in cc

-- a right edge is as long as the entries that it stands for
pub stands_length : {edge : RightEdge} (entries : List (List ℕ)) → StandsFor sha256 edge (leaves_of sha256 entries)
    → length entries ≡ edge.len
stands_length entries stands = sym (length-map entries (λ (e : List ℕ). sha256 (0 ∷ e))) ∙ stands.count

-- a longer log has no fewer nodes at a level
pub nodes_order : (level : ℕ) {m n : ℕ} → m ≤ n → m / 2 ^ (8 * level) ≤ n / 2 ^ (8 * level)
nodes_order level {m} {n} order =
    let p = 2 ^ (8 * level) in le-div (m / p) n p (pow_pos (8 * level)) (omega (arith, div-mul-le_self m p))

-- a tile of a length, and of a longer one, is one of each length between
pub tile_between : (a b c : ℕ) (t : TileAt) → a ≤ b → b ≤ c → IsTileOf a t → IsTileOf c t → IsTileOf b t
tile_between a b c t ab bc in_a in_c = record {
  some = in_a.some;
  width = omega (arith, in_a.width, in_c.width, nodes_order t.level ab, nodes_order t.level bc);
}

-- a tile is one of another length, or not
pub is_tile_or : {n : ℕ} {t : TileAt} (m : ℕ) → IsTileOf n t → IsTileOf m t ⊎ (IsTileOf m t → ⊥)
is_tile_or {t = t} m is = elim (cases_eq t.width (min (m / 2 ^ (8 * t.level) - 256 * t.number) 256)) [
  | inl e ↦ inl (record { some = is.some; width = e })
  | inr other ↦ inr (λ was. other was.width)
]

-- a tile's width
pub width_at_most : (n : ℕ) (t : TileAt) → IsTileOf n t → t.width ≤ 256
width_at_most n t is = omega (arith, is.width)

pub end_inside : (n : ℕ) (t : TileAt) → IsTileOf n t → tile_end t ≤ n
end_inside n t is =
    let nodes : 256 * t.number + t.width ≤ n / 2 ^ (8 * t.level) = omega (arith, is.some, is.width) in
    omega (arith, mul-le-mul_right (2 ^ (8 * t.level)) nodes, div-mul-le_self n (2 ^ (8 * t.level)))

-- and a tile of level 0 covers entries within it
pub bundle_inside : {n : ℕ} (t : TileAt) → t.level ≡ 0 → IsTileOf n t → 256 * t.number + t.width ≤ n
bundle_inside {n} t level is =
    let end : (256 * t.number + t.width) * 2 ^ (8 * t.level) ≤ n = end_inside n t is in
    omega (arith, rw level at end)

-- no entry has a tile
pub no_tile : (t : TileAt) → IsTileOf 0 t → ⊥
no_tile t is = omega (arith, is.some, is.width, zero-div (2 ^ (8 * t.level)))

-- the leaves below a tile's node are those of a longer log
leaves_kept : (ds more : List (List ℕ)) (t : TileAt) (i : ℕ) → tile_end t ≤ length ds → i < t.width
    → leaves_below (node_in t i) (ds ++ more) ≡ leaves_below (node_in t i) ds
leaves_kept ds more t i inside below =
    let at = over_at (8 * t.level) (256 * t.number + i) in
    let height : height_of (node_in t i) ≡ 8 * t.level = at.0 in
    let place : place_of (node_in t i) ≡ 256 * t.number + i = at.1 in
    part_kept ds more (start_of (node_in t i)) (2 ^ height_of (node_in t i))
    (rw (height, place) (omega (
      arith,
      inside,
      mul-le-mul_right (2 ^ (8 * t.level))
          (let le : 256 * t.number + i + 1 ≤ 256 * t.number + t.width = omega arith in le),
    )))

-- and so are a tile's digests
pub digests_kept : (ds more : List (List ℕ)) (t : TileAt) → tile_end t ≤ length ds → tile_digests sha256 (ds ++ more) t
    ≡ tile_digests sha256 ds t
digests_kept ds more t inside =
    map_range (λ i. root_of sha256 (leaves_below (node_in t i) (ds ++ more)))
    (λ i. root_of sha256 (leaves_below (node_in t i) ds)) 0 t.width
    (λ i low high. ap (root_of sha256) (leaves_kept ds more t i inside (omega arith)))

module _ {old next : LogOf} (extends : Extends old next) where
  -- a tile that ends within the old log has the same bytes in the next one
  pub bytes_kept : (t : TileAt) → tile_end t ≤ length old.entries → tile_bytes next t ≡ tile_bytes old t
  bytes_kept t inside = rw (extends.entries.1, map-append (leaf_digest sha256) old.entries extends.entries.0)
      (ap (λ (ds : List (List ℕ)). flat_map (λ digest. digest) ds)
      (digests_kept (leaves_of sha256 old.entries) (leaves_of sha256 extends.entries.0) t
      (omega (arith, inside, length-map old.entries (leaf_digest sha256)))))

  pub tile_kept : (t : TileAt) → IsTileIn old t → tile_bytes next t ≡ tile_bytes old t
  tile_kept t is = bytes_kept t (end_inside (length old.entries) t is.exists)

  -- and so has a bundle
  pub entries_kept : (t : TileAt) → 256 * t.number + t.width ≤ length old.entries → bundle_bytes next t
      ≡ bundle_bytes old t
  entries_kept t inside =
      rw extends.entries.1 (ap bundle_of (part_kept old.entries extends.entries.0 (256 * t.number) t.width inside))

  pub bundle_kept : (t : TileAt) → IsBundleIn old t → bundle_bytes next t ≡ bundle_bytes old t
  bundle_kept t is =
      entries_kept t (bundle_inside t is.level is.exists)

  pub tile_was : (t : TileAt) → IsTileIn next t → IsTileIn old t ⊎ (IsTileIn old t → ⊥)
  tile_was t is = ⊎_elim (λ old. inl (record { level = is.level; exists = old }))
      (λ new. inr (λ was. new was.exists)) (is_tile_or (length old.entries) is.exists)

  pub bundle_was : (t : TileAt) → IsBundleIn next t → IsBundleIn old t ⊎ (IsBundleIn old t → ⊥)
  bundle_was t is = ⊎_elim (λ old. inl (record { level = is.level; exists = old }))
      (λ new. inr (λ was. new was.exists)) (is_tile_or (length old.entries) is.exists)

-- each file of a log is a served one, and none of the log's own
pub file_served : (log : LogOf) (n : List ℕ) → IsFileOf log n → is_served n ≡ true
file_served log n (inl tile) = ap is_served (sym tile.2)
file_served log n (inr (inl bundle)) = ap is_served (sym bundle.2)
file_served log n (inr (inr page)) = ap is_served (sym page.2)

pub either_served : (a b : LogOf) (n : List ℕ) → IsFileOf a n ⊎ IsFileOf b n → is_served n ≡ true
either_served a b n is = ⊎_elim (λ one. file_served a n one) (λ other. file_served b n other) is

file_outside : (log : LogOf) (n : List ℕ) → IsFileOf log n → is_own n ≡ false
file_outside log n is = served_not_own n (file_served log n is)

-- files that are the same at a log's names are the log's
pub same_files : {log : LogOf} {s : Files} (c : Files) → ((n : List ℕ) → IsFileOf log n → c n ≡ s n) → HasFiles log s
    → HasFiles log c
same_files c same has = record {
  tile = λ t is. same (tile_path t) (inl (t, is, refl)) ∙ has.tile t is;
  bundle = λ t is. same (entries_path t) (inr (inl (t, is, refl))) ∙ has.bundle t is;
  page = λ f is. same (page_name f.0) (inr (inr (f, is, refl))) ∙ has.page f is;
}

pub same_served : {log : LogOf} {s : Files} (c : Files) → ((n : List ℕ) → IsFileOf log n → c n ≡ s n)
    → c checkpoint ≡ s checkpoint → Serves log s → Serves log c
same_served c same text serves =
    record {
      can = serves.can;
      checkpoint = (serves.checkpoint.0, text ∙ serves.checkpoint.1);
      holds = same_files c same serves.holds;
    }

pub same_kept : {served log : LogOf} {s : Files} (c : Files)
    → ((n : List ℕ) → IsFileOf log n ⊎ IsFileOf served n → c n ≡ s n)
    → c checkpoint ≡ s checkpoint → c state ≡ s state → Keeps served log s → Keeps served log c
same_kept c same text says keeps = record {
  can = keeps.can;
  state = says ∙ keeps.state;
  holds = same_files c (λ n is. same n (inl is)) keeps.holds;
  serves = same_served c (λ n is. same n (inr is)) text keeps.serves;
  begins = keeps.begins;
  newest = λ unsigned. keeps.newest (ap is_signed (sym text) ∙ unsigned);
}

-- what a folder keeps, it keeps beside staged files
pub keeps_beside : {served log : LogOf} {s : Files} (t : Files) → ((n : List ℕ) → is_staged n ≡ false → t n ≡ s n)
    → Keeps served log s → Keeps served log t
keeps_beside {served} {log} t same keeps =
    same_kept t (λ n is. same n (served_not_staged n (either_served log served n is)))
    (same checkpoint refl) (same state refl) keeps

pub extends_self : (log : LogOf) → Extends log log
extends_self log = record { origin = refl; entries = ([], sym (append-nil log.entries)); still = λ same. (refl, refl) }

pub extends_length : {a b : LogOf} → Extends a b → length a.entries ≤ length b.entries
extends_length {a} one = omega (arith, ap length one.entries.1, length-append a.entries one.entries.0)

pub extends_then : {a b c : LogOf} → Extends a b → Extends b c → Extends a c
extends_then {a} one two = record {
  origin = two.origin ∙ one.origin;
  entries = (
    one.entries.0 ++ two.entries.0,
    two.entries.1 ∙ rw one.entries.1 (append_assoc a.entries one.entries.0 two.entries.0),
  );
  still = λ same.
      let first = one.still (omega (arith, same, extends_length one, extends_length two)) in
      let second = two.still (omega (arith, same, extends_length one, extends_length two)) in
      (second.0 ∙ first.0, second.1 ∙ first.1);
}

-- Pages that are staged beside those of one log are staged beside those of another in its place.
pub pages_beside : {served other old next : List File} {s t : Files}
    → ((path : List ℕ) → HasPage other path → HasPage old path)
    → ((path : List ℕ) → t (staged (page_name path)) ≡ s (staged (page_name path)))
    → ArePagesStaged served old next s → ArePagesStaged other old next t
pages_beside within same are = record {
  page = λ f is. ⊎_elim (λ was. inl was)
      (λ new. inr (new.0, (λ has. new.0 (within f.0 has)), same f.0 ∙ new.2)) (are.page f is);
  nothing_else = λ path some. are.nothing_else path (rw same at some);
}

-- where staged files stay, so do staged pages
pub pages_stay : {served old next : List File} {s t : Files}
    → ((path : List ℕ) → t (staged (page_name path)) ≡ s (staged (page_name path)))
    → ArePagesStaged served old next s → ArePagesStaged served old next t
pages_stay same are = record {
  page = λ f is. ⊎_elim (λ was. inl was) (λ new. inr (new.0, new.1, same f.0 ∙ new.2)) (are.page f is);
  nothing_else = λ path some. are.nothing_else path (rw same at some);
}

-- old pages alone are there where none is staged
pub own_pages : {served old : List File} {s : Files} → ((path : List ℕ) → s (staged (page_name path)) ≡ None)
    → ArePagesStaged served old old s
own_pages none = record {
  page = λ f is. inl is;
  nothing_else = λ path some. absurd (apart (sym (rw none at some)));
}

module _ {served old next : LogOf} (begins : Extends served old) (extends : Extends old next) {files : Files}
    (are_staged : AreStagedFor served old next files) where
  -- what is staged is a file that the next log has and the old one hasn't
  new_by : (n : List ℕ) → is_served n ≡ true → IsSome (files (staged n)) → IsNewName old next n
  new_by n is some = elim (served_kind n is) [
    | inl tile ↦ inl (are_staged.nothing_else n tile some)
    | inr page ↦ inr (rw page.1 (are_staged.pages.nothing_else page.0 (rw page.1 at some)))
  ]

  -- nothing is staged at the name of a file that the old log has, or one that it continues
  none_by : (n : List ℕ) → is_served n ≡ true → (IsNewName old next n → ⊥) → (o : Option (List ℕ))
      → files (staged n) ≡ o → o ≡ None
  none_by n is old_name None e = refl
  none_by n is old_name (Some bytes) e = absurd (old_name (new_by n is (rw e refl)))

  -- no page of the served log is new
  no_new_page : (f g : File) → Contains next.pages g → f.0 ≡ g.0 → Contains served.pages f → (HasPage old.pages g.0 → ⊥)
      → ⊥
  no_new_page f g is same was new = ⊎_elim
      (λ own. new (g.1, own))
      (λ fresh. fresh.1 (f.1, rw (← same) was))
      (are_staged.pages.page g is)

  of_old : (t : TileAt) → IsTileOf (length served.entries) t → IsTileOf (length next.entries) t
      → IsTileOf (length old.entries) t
  of_old t is new = tile_between _ _ _ t (extends_length begins) (extends_length extends) is new

  pub not_new : (n : List ℕ) → IsFileOf served n → IsNewName old next n → ⊥
  not_new n (inl is) (inl (inl new)) =
      let same : new.0 ≡ is.0 = tile_path_once new.0 is.0 new.1.level is.1.level (width_at_most _ new.0 new.1.exists)
      (width_at_most _ is.0 is.1.exists) (new.3 ∙ sym is.2) in
      new.2 (record { level = new.1.level; exists = of_old new.0 (rw same is.1.exists) new.1.exists })
  not_new n (inl is) (inl (inr new)) = no_tile_a_bundle is.0 new.0 is.1.level (is.2 ∙ sym new.3)
  not_new n (inl is) (inr new) = no_page_a_tile is.0 new.0.0 (is.2 ∙ sym new.3)
  not_new n (inr (inl is)) (inl (inl new)) = no_tile_a_bundle new.0 is.0 new.1.level (new.3 ∙ sym is.2)
  not_new n (inr (inl is)) (inl (inr new)) =
      let same : new.0 ≡ is.0 = entries_path_once new.0 is.0 new.1.level is.1.level (width_at_most _ new.0 new.1.exists)
      (width_at_most _ is.0 is.1.exists) (new.3 ∙ sym is.2) in
      new.2 (record { level = new.1.level; exists = of_old new.0 (rw same is.1.exists) new.1.exists })
  not_new n (inr (inl is)) (inr new) = no_page_a_bundle is.0 new.0.0 (is.2 ∙ sym new.3)
  not_new n (inr (inr is)) (inl (inl new)) = no_page_a_tile new.0 is.0.0 (new.3 ∙ sym is.2)
  not_new n (inr (inr is)) (inl (inr new)) = no_page_a_bundle new.0 is.0.0 (new.3 ∙ sym is.2)
  not_new n (inr (inr is)) (inr new) = no_new_page is.0 new.0 new.1 (page_once is.0.0 new.0.0 (is.2 ∙ sym new.3)) is.1
      new.2

  pub stays : (text n : List ℕ) → IsFileOf served n → committed text files n ≡ files n
  stays text n is =
      let served_name = file_served served n is in
      committed_served files text n served_name
      ∙ rw (none_by n served_name (not_new n is) (files (staged n)) refl) refl

module _ {served old next : LogOf} (extends : Extends old next) {files : Files}
    (are_staged : AreStagedFor served old next files) where
  -- they are staged beside the old log's, too
  staged_for_old : AreStagedFor old old next files
  staged_for_old = record {
    tile = are_staged.tile;
    bundle = are_staged.bundle;
    nothing_else = are_staged.nothing_else;
    pages = pages_beside (λ path has. has) (λ path. refl) are_staged.pages;
  }

  old_stays : (text n : List ℕ) → IsFileOf old n → committed text files n ≡ files n
  old_stays = stays (extends_self old) extends staged_for_old

  new_at : (text n bytes : List ℕ) → is_served n ≡ true → files (staged n) ≡ Some bytes → committed text files n
      ≡ Some bytes
  new_at text n bytes is there = committed_served files text n is ∙ rw there refl

  -- once committed, the next log's files are there
  pub next_files : (text : List ℕ) → HasFiles old files → HasFiles next (committed text files)
  next_files text has = record {
    tile = λ t is. ⊎_elim
        (λ was. rw (tile_kept extends t was) (old_stays text (tile_path t) (inl (t, was, refl)) ∙ has.tile t was))
        (λ new. new_at text (tile_path t) (tile_bytes next t) refl (are_staged.tile t is new))
        (tile_was extends t is);
    bundle = λ t is. ⊎_elim
        (λ was. rw (bundle_kept extends t was)
        (old_stays text (entries_path t) (inr (inl (t, was, refl))) ∙ has.bundle t was))
        (λ new. new_at text (entries_path t) (bundle_bytes next t) refl (are_staged.bundle t is new))
        (bundle_was extends t is);
    page = λ f is. ⊎_elim
        (λ was. old_stays text (page_name f.0) (inr (inr (f, was, refl))) ∙ has.page f was)
        (λ new. new_at text (page_name f.0) f.1 refl new.2) (are_staged.pages.page f is);
  }

module _ (served old next : LogOf) (files : Files) (keeps : Keeps served old files) (extends : Extends old next)
    (are_staged : AreStagedFor served old next files) (text : List ℕ) (says : text ≡ checkpoint_of next)
    (named : CanBeKept next) where
  served_stays : (n : List ℕ) → IsFileOf served n → committed text files n ≡ files n
  served_stays n is = stays keeps.begins extends are_staged text n is

  -- where the checkpoint is signed, the served log stays; else the next one is served
  signed_keeps : is_signed (files checkpoint) ≡ true → Keeps served next (committed text files)
  signed_keeps is = record {
    can = named;
    state = rw says refl;
    holds = next_files extends are_staged text keeps.holds;
    serves = same_served (committed text files) served_stays (rw is refl) keeps.serves;
    begins = extends_then keeps.begins extends;
    newest = λ unsigned. absurd (apart (sym is ∙ ap is_signed (sym (rw is refl)) ∙ unsigned));
  }

  unsigned_keeps : is_signed (files checkpoint) ≡ false → Keeps next next (committed text files)
  unsigned_keeps isnt = record {
    can = named;
    state = rw says refl;
    holds = next_files extends are_staged text keeps.holds;
    serves = record {
      can = named;
      checkpoint = (None, rw isnt (rw says refl));
      holds = next_files extends are_staged text keeps.holds;
    };
    begins = extends_self next;
    newest = λ unsigned. refl;
  }

  pub next_keeps : KeepsNext served next (committed text files)
  next_keeps = elim (cases_Bool (is_signed (files checkpoint)))
      [ inl is ↦ (served, inl refl, signed_keeps is) | inr isnt ↦ (next, inr refl, unsigned_keeps isnt) ]

  module _ (idle : files mark ≡ None) (c : Files) (was : IsBetween files (committed text files) c) where
    -- a file of the served log is the same, opened and not
    same_now : (n : List ℕ) → IsFileOf served n → c n ≡ files n
    same_now n is = ⊎_elim (λ e. e) (λ e. e ∙ served_stays n is) (was.each n (file_outside served n is))

    same_opened : (n : List ℕ) → IsFileOf served n → opened c n ≡ files n
    same_opened n is = ⊎_elim
        (λ (e, same). rw e (idle_same files n idle (file_outside served n is))) (λ e. rw e (served_stays n is))
        was.stands_for

    as_before : c checkpoint ≡ files checkpoint → IsServed served c
    as_before text_same = record {
      serves = same_served c same_now text_same keeps.serves;
      stay = λ n is. same_opened n is ∙ sym (same_now n is);
    }

    as_next : is_signed (files checkpoint) ≡ false → ((n : List ℕ) → is_own n ≡ false → c n ≡ committed text files n)
        → IsServed next c
    as_next isnt all = record {
      serves = same_served c (λ n is. all n (file_outside next n is)) (all checkpoint refl)
          (unsigned_keeps isnt).serves;
      stay = λ n is. ⊎_elim
          (λ (e, same). rw e (idle_same files n idle (file_outside next n is) ∙ sym (same n (file_outside next n is))))
          (λ e. rw e (sym (all n (file_outside next n is))))
          was.stands_for;
    }

    pub between_one_of : IsOneOf served old next c
    between_one_of = record {
      read = elim (cases_Bool (is_signed (files checkpoint))) [
        | inl is ↦ inl (as_before (⊎_elim (λ e. e) (λ all. all checkpoint refl ∙ rw is refl) was.whole))
        | inr isnt ↦ ⊎_elim (λ e. inl (as_before e)) (λ all. inr (as_next isnt all)) was.whole
      ];
      state = ⊎_elim
          (λ e. inl (record { can = keeps.can; text = e ∙ keeps.state }))
          (λ e. inr (record { can = named; text = e ∙ rw says refl }))
          was.state;
      opened = ⊎_elim
          (λ (e, same). inl (rw e (keeps_beside (opened files) (λ n isnt. opened_idle files n idle isnt) keeps)))
          (λ e. inr (next_keeps.0, next_keeps.1, rw e next_keeps.2))
          was.stands_for;
    }

    pub between_committing : IsCommitting served old next files c
    between_committing = record {
      one = between_one_of;
      names = λ n is known.
          let none : files (staged n) ≡ None = none_by keeps.begins extends are_staged n is known
          (files (staged n)) refl in
          ⊎_elim (λ e. e) (λ e. e ∙ committed_served files text n is ∙ rw none refl)
          (was.each n (served_not_own n is));
    }
