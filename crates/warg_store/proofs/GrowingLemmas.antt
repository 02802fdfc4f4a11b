-- A log that grows: what is staged as entries fill tiles, and what a commit puts.
use Rattle.std.proofs.Common.{◌≡◌, ◌≢◌, ◌↔◌, ◌⊎◌, inl, inr, ⊎_elim, ℕ, zero, ◌+◌, ◌-◌, ◌*◌, ◌/◌, ◌^◌, ◌<◌, ◌≤◌, true, false, nat_le, min, List, [], ◌∷◌, ◌++◌, length, drop, Option, Some, None, IsSome, refl, sym, ap, subst, ◌∙◌, arith}
use Rattle.std.specs.List.{AllByRecursion, Contains, flat_map}
use Rattle.std.proofs.lemmas.Bool.{cases_Bool, cases_eq, cases_lt, leb-false, lt-leb}
use Rattle.std.proofs.lemmas.List.{length-append, length-drop, map-append, take_all, drop_all, drop-append-le, append-nil, nil_from_length}
use Rattle.std.proofs.lemmas.Nat.{pow_pos, le-div}
use Rattle.std.proofs.Math.Nat.{div-one, mul_assoc}
use Rattle.warg_crypto.specs.Digests.{sha256}
use Rattle.warg_log.specs.Tree.{leaves_of, own_digest}
use Rattle.warg_tiles.specs.Tiles.{TileAt, tile_end}
use Rattle.warg_tiles.specs.TilePaths.{tile_path, entries_path}
use Rattle.warg_tiles.specs.Between.{IsTileOf}
use Rattle.warg_tiles.specs.TileData.{Tiles, IsTileBy}
use Rattle.warg_tiles.specs.EntryBundles.{bundle_of}
use Rattle.warg_tiles.specs.CheckpointText.{Said}
use Rattle.warg_tiles.specs.TileLog.{RightEdge, StandsFor, full_between, partial_tiles, AreTilesOf}
use Rattle.warg_tiles.proofs.ForCallers.{full_tiles, partial_of, own_tile, bundle_more, low_level}
use Rattle.warg_folder.specs.Files.{File, Files, put, IsNameOf}
use Rattle.warg_folder.specs.Names.{state, staged, is_staged, is_tile, page_name}
use Rattle.warg_folder.specs.Commits.{IsBeside, IsStaging, NothingStaged, opened}
use Rattle.warg_store.specs.Log.{LogOf, said_of, Keeps, HasLog, Extends, IsOneOf, IsCommitting, tile_bytes, bundle_bytes, IsTileIn, IsBundleIn, IsNewTile, ArePagesStaged, AreStagedFor}
use Rattle.warg_store.specs.Staged.{staged_all, new_files}
use Rattle.warg_folder.specs.Moments.{LeavesOnly}
use Rattle.warg_store.specs.Growing.{LogIn, Has, HasAll, with_entry, IsNewFull, AreFullStaged}
use Rattle.warg_folder.proofs.ForCallers.{one_name, apart, served_not_staged, put_here, leaves_none}
use Rattle.warg_protobuf.proofs.ForCallers.{all_append}
use Rattle.warg_store.proofs.PathLemmas.{same_tile, tile_path_once, entries_path_once, no_tile_a_bundle, no_page_a_tile, no_page_a_bundle}
use Rattle.warg_store.proofs.LeadLemmas.{stands_length, width_at_most, nodes_order, is_tile_or, tile_between, end_inside, keeps_beside, file_served, tile_kept, bundle_kept, extends_self, extends_then, pages_stay, own_pages}
use Rattle.warg_store.proofs.ListLemmas.{in_front, behind}
use Rattle.warg_store.proofs.ServeLemmas.{opened_idle}
use Rattle.warg_store.proofs.StagedLemmas.{tiles_of, AreFilesOf, put_beside, put_outside, staged_there, staged_from, staged_outside}

-- Tiles of a length, and of an older one.

-- a tile that ends within an older length is one of it
pub by_end : (m n : ℕ) (t : TileAt) → m ≤ n → IsTileOf n t → tile_end t ≤ m → IsTileOf m t
by_end m n t order is end =
    let reach : 256 * t.number + t.width ≤ m / 2 ^ (8 * t.level) = le-div _ m _ (pow_pos (8 * t.level)) end in
    record { some = is.some; width = omega (arith, is.width, nodes_order t.level order) }

pub full_stays : (m n : ℕ) (t : TileAt) → m ≤ n → t.width ≡ 256 → IsTileOf m t → IsTileOf n t
full_stays m n t order full is =
    record { some = is.some; width = omega (arith, is.width, nodes_order t.level order) }

-- a new full tile of a length is one of another length that has it
new_full : {older n m : ℕ} {t : TileAt} → IsNewFull older n t → IsTileOf m t → IsNewFull older m t
new_full is exists = record { full = is.full; exists = exists; new = is.new }

-- where a new tile ends
pub new_ends : (m n : ℕ) (t : TileAt) → m ≤ n → IsTileOf n t → (IsTileOf m t → ⊥) → tile_end t ≤ m → ⊥
new_ends m n t order is new end = new (by_end m n t order is end)

-- The files of tiles.

-- each tile that ends behind the older length has its file
has_file : (older : ℕ) (tiles : Tiles) (t : TileAt) → Contains (tiles_of tiles) t → (tile_end t ≤ older → ⊥)
    → IsNameOf (new_files older tiles) (tile_path t)
has_file older [] t (k, low, is) new = absurd (omega arith)
has_file older (x ∷ xs) t has new = elim (in_front x.0 t (tiles_of xs) has) [
  | inl here ↦ rw (lt-leb (tile_end x.0) older (rw here (omega (arith, new)))) (inl (ap tile_path here))
  | inr rest ↦ elim (cases_Bool (nat_le (tile_end x.0) older)) [
    | inl old ↦ rw old (has_file older xs t rest new)
    | inr some ↦ rw some (inr (has_file older xs t rest new))
  ]
]

-- a log's own tiles have its bytes
pub own_files : (log : LogOf) (R : TileAt → Type 0) (tiles : Tiles)
    → ((t : TileAt) → Contains (tiles_of tiles) t → R t)
    → AllByRecursion (λ (x : TileAt × List (List ℕ)). IsTileBy (own_digest sha256 (leaves_of sha256 log.entries)) x.0
    x.1) tiles
    → AreFilesOf log R tiles
own_files log R [] each own = tt
own_files log R (x ∷ xs) each own = (
  (
    each x.0 (zero, omega arith, refl),
    ap (flat_map (λ digest. digest)) (own_tile sha256 (leaves_of sha256 log.entries) x.1 x.0 own.0),
  ),
  own_files log R xs (λ t has. each t (behind x.0 t (tiles_of xs) has)) own.1,
)

-- what each new tile's file has, each new file has
each_file : (log : LogOf) (R : TileAt → Type 0) (P : File → Type 0) (older : ℕ) (tiles : Tiles)
    → AreFilesOf log R tiles
    → ((t : TileAt) → R t → (tile_end t ≤ older → ⊥) → P (tile_path t, tile_bytes log t))
    → AllByRecursion P (new_files older tiles)
each_file log R P older [] own each = tt
each_file log R P older (x ∷ xs) own each = elim (cases_Bool (nat_le (tile_end x.0) older)) [
  | inl old ↦ rw old (each_file log R P older xs own.1 each)
  | inr some ↦ rw some (
    rw own.0.1
        (each x.0 own.0.0 (λ le. omega (arith, le, leb-false (tile_end x.0) older some))),
    each_file log R P older xs own.1 each,
  )
]

-- at another name nothing changes
others : (n : List ℕ) (fs : List File) (u : Files) → AllByRecursion (λ f. f.0 ≡ n → ⊥) fs
    → staged_all fs u (staged n) ≡ u (staged n)
others n [] u each = refl
others n (f ∷ fs) u each = others n fs (put (staged f.0, f.1) u) each.1 ∙ put_beside f u n each.0

-- nor at the name of a page
pages_there : (older : ℕ) (tiles : Tiles) (s : Files) (path : List ℕ)
    → staged_all (new_files older tiles) s (staged (page_name path)) ≡ s (staged (page_name path))
pages_there older [] s path = refl
pages_there older (x ∷ xs) s path = elim (cases_Bool (nat_le (tile_end x.0) older)) [
  | inl old ↦ rw old (pages_there older xs s path)
  | inr some ↦ rw some (pages_there older xs _ path
      ∙ put_beside (tile_path x.0, flat_map (λ digest. digest) x.1) s (page_name path) (no_page_a_tile x.0 path))
]

-- Tiles of a log that are staged: R says of each which one it is.
module _ (log : LogOf) (R : TileAt → Type 0) (exists : (t : TileAt) → R t → IsTileIn log t)
    (older : ℕ) (tiles : Tiles) (own : AreFilesOf log R tiles) (s : Files) where
  abbrev pub after : Files
  after = staged_all (new_files older tiles) s

  -- at the path of a tile its bytes are staged, where they were before or it is one of these
  pub tile_there : (t : TileAt) → IsTileIn log t → (Contains (tiles_of tiles) t × (tile_end t ≤ older → ⊥))
      ⊎ (s (staged (tile_path t)) ≡ Some (tile_bytes log t))
      → after (staged (tile_path t)) ≡ Some (tile_bytes log t)
  tile_there t at from = staged_there (new_files older tiles) s (tile_path t) (tile_bytes log t)
      (each_file log R (λ f. f.0 ≡ tile_path t → f.1 ≡ tile_bytes log t) older tiles own
      (λ u is new path. let of = exists u is in ap (tile_bytes log) (tile_path_once u t of.level at.level
      (width_at_most _ u of.exists) (width_at_most _ t at.exists) path)))
      (⊎_elim (λ here. inl (has_file older tiles t here.0 here.1)) (λ was. inr was) from)

  -- at the path of another tile nothing changes
  pub apart_there : (n : List ℕ) → ((t : TileAt) → R t → tile_path t ≢ n) → after (staged n) ≡ s (staged n)
  apart_there n none = others n (new_files older tiles) s
      (each_file log R (λ f. f.0 ≡ n → ⊥) older tiles own (λ t is new. none t is))

  -- nor at the path of a bundle
  pub bundle_there : (t : TileAt) → after (staged (entries_path t)) ≡ s (staged (entries_path t))
  bundle_there t = apart_there (entries_path t) (λ u is. no_tile_a_bundle u t (exists u is).level)

  -- what is staged was staged, or is one of these
  pub staged_by : (n : List ℕ) → IsSome (after (staged n)) → IsSome (s (staged n))
      ⊎ ((t : TileAt) × R t × (tile_end t ≤ older → ⊥) × (tile_path t ≡ n))
  staged_by n some = ⊎_elim (λ was. inl was) (λ by. inr (by.1.0, by.1.1, by.1.2, sym by.1.3 ∙ by.2))
      (staged_from (λ f. (t : TileAt) × R t × (tile_end t ≤ older → ⊥) × (f.0 ≡ tile_path t))
      (new_files older tiles) s n (each_file log R _ older tiles own (λ t is new. (t, is, new, refl))) some)

-- A bundle's file that is staged.
module _ (t : TileAt) (bytes : List ℕ) (s : Files) where
  abbrev pub with_bundle : Files
  with_bundle = put (staged (entries_path t), bytes) s

  -- at the path of a tile and at the name of a page nothing changes
  past_tile : (u : TileAt) → u.level < 8 → with_bundle (staged (tile_path u)) ≡ s (staged (tile_path u))
  past_tile u lt = put_beside (entries_path t, bytes) s (tile_path u) (λ e. no_tile_a_bundle u t lt (sym e))

  past_page : (path : List ℕ) → with_bundle (staged (page_name path)) ≡ s (staged (page_name path))
  past_page path = put_beside (entries_path t, bytes) s (page_name path) (no_page_a_bundle t path)

  -- at the path of a bundle its bytes are staged, where they were before or it is this one
  bundle_at : (log : LogOf) → bytes ≡ bundle_bytes log t → t.level ≡ 0 → t.width ≤ 256 → (u : TileAt) → u.level ≡ 0
      → u.width ≤ 256 → ((t ≡ u → ⊥) → s (staged (entries_path u)) ≡ Some (bundle_bytes log u))
      → with_bundle (staged (entries_path u)) ≡ Some (bundle_bytes log u)
  bundle_at log holds level wide u at most was = elim (one_name (entries_path t) (entries_path u)) [
    | inl here ↦ subst (λ (v : TileAt). with_bundle (staged (entries_path v)) ≡ Some (bundle_bytes log v))
        (entries_path_once t u level at wide most here.1)
        (put_here (staged (entries_path t), bytes) s ∙ ap (λ (b : List ℕ). Some b) holds)
    | inr other ↦ put_beside (entries_path t, bytes) s (entries_path u) other.1
        ∙ was (λ same. other.1 (ap entries_path same))
  ]

  -- what is staged is this one, or was staged
  bundle_or : (n : List ℕ) → IsSome (with_bundle (staged n)) → (entries_path t ≡ n) ⊎ IsSome (s (staged n))
  bundle_or n some = elim (one_name (entries_path t) n) [
    | inl here ↦ inl here.1
    | inr other ↦ inr (rw (put_beside (entries_path t, bytes) s n other.1) at some)
  ]

-- The tile of level 0 over a full bundle.
abbrev pub bundle_tile : ℕ → TileAt
bundle_tile number = record { level = 0; number = number; width = 256 }

-- a log keeps what it has in another folder, where that has the files and what is staged
pub in_folder : {F : Type 0} {seen : F → Files} {may_leave : F → Files → Type 0} {served to old next : LogOf}
    {l : LogIn F} (folder : F) → Has seen may_leave served old next l → Keeps to old (seen folder)
    → AreFullStaged l.text.length l.edge.taken next (seen folder)
    → ArePagesStaged to.pages old.pages next.pages (seen folder) → IsStaging (seen folder) (may_leave folder)
    → Has seen may_leave to old next (record l { folder = folder })
in_folder folder has keeps staged pages staging = record {
  is_open = has.is_open;
  keeps = keeps;
  extends = has.extends;
  short = has.short;
  text = has.text;
  edge = has.edge;
  since = has.since;
  order = has.order;
  held = has.held;
  most = has.most;
  bundle = has.bundle;
  staged = staged;
  pages = pages;
  staging = staging;
}

-- what a tile of level 0 has of a length
pub ground : (n : ℕ) (t : TileAt) → t.level ≡ 0 → IsTileOf n t → (0 < t.width)
    × (t.width ≡ min (n - 256 * t.number) 256)
ground n t level is = (is.some, rw (level, div-one n) at is.width)

pub from_ground : (n : ℕ) (t : TileAt) → t.level ≡ 0 → 0 < t.width → t.width ≡ min (n - 256 * t.number) 256
    → IsTileOf n t
from_ground n t level some width = record { some = some; width = rw (level, div-one n) width }

-- With the tiles and the bundle that the last entry has filled, all full tiles are staged.
module _ (log : LogOf) (older taken number : ℕ) (tiles : Tiles) (bytes : List ℕ) (s : Files) (before : older ≤ taken)
    (order : taken ≤ length log.entries) (most : length log.entries ≤ 2 ^ 63)
    (last : length log.entries ≡ 256 * number + 256) (block : taken / 256 ≡ number)
    (own : AreTilesOf sha256 (leaves_of sha256 log.entries) (full_between taken (length log.entries)) tiles)
    (holds : bytes ≡ bundle_bytes log (bundle_tile number))
    (was : AreFullStaged older taken log s) where
  len : ℕ
  len = length log.entries

  abbrev IsFilled : TileAt → Type 0
  IsFilled t = (t.width ≡ 256) × IsTileOf (length log.entries) t × (IsTileOf taken t → ⊥)

  exactly : (t : TileAt) → Contains (tiles_of tiles) t ↔ IsFilled t
  exactly t = rw own.places ((full_tiles taken (length log.entries) most).exactly t)

  files : AreFilesOf log IsFilled tiles
  files = own_files log IsFilled tiles (λ t has. (exactly t).0 has) own.digests

  filled_in : (t : TileAt) → IsFilled t → IsTileIn log t
  filled_in t is = record { level = low_level (length log.entries) t most is.1; exists = is.1 }

  abbrev tiled : Files
  tiled = staged_all (new_files older tiles) s

  abbrev last_one : TileAt
  last_one = bundle_tile number

  abbrev now : Files
  now = with_bundle last_one bytes tiled

  bundle_exists : IsTileOf (length log.entries) last_one
  bundle_exists = from_ground (length log.entries) last_one refl (omega arith) (omega (arith, last))

  bundle_new : (m : ℕ) → m ≤ taken → IsTileOf m last_one → ⊥
  bundle_new m low is = let g = ground m last_one refl is in omega (arith, g.1, block)

  pub full_staged : AreFullStaged older (length log.entries) log now
  full_staged = record {
    tile = λ t lt is. past_tile last_one bytes tiled t lt
        ∙ tile_there log IsFilled filled_in older tiles files s t (record { level = lt; exists = is.exists })
        (⊎_elim (λ old. inr (was.tile t lt (new_full is old)))
        (λ new. inl (
          (exactly t).1 (is.full, is.exists, new),
          new_ends older (length log.entries) t (omega arith) is.exists is.new,
        ))
        (is_tile_or taken is.exists));
    bundle = λ t level is. bundle_at last_one bytes tiled log holds refl (omega arith) t level (omega (arith, is.full))
        (λ other. bundle_there log IsFilled filled_in older tiles files s t
        ∙ was.bundle t level (new_full is (⊎_elim (λ old. old) (λ new. absurd (other (the_last t level is new)))
        (is_tile_or taken is.exists))));
    nothing_else = λ n served some. ⊎_elim
        (λ here. inr (
          last_one,
          refl,
          record { full = refl; exists = bundle_exists; new = bundle_new older before },
          here,
        ))
        (λ found. ⊎_elim (λ old. was.nothing_else n served old)
        (λ by. inl (
          by.0,
          (filled_in by.0 by.1).level,
          record {
            full = by.1.0;
            exists = by.1.1;
            new = λ old. by.1.2 (tile_between older taken (length log.entries) by.0 before order old by.1.1);
          },
          by.3,
        ))
        (staged_by log IsFilled filled_in older tiles files s n found))
        (bundle_or last_one bytes tiled n some);
  }
    where
      the_last : (t : TileAt) → t.level ≡ 0 → IsNewFull older (length log.entries) t → (IsTileOf taken t → ⊥)
          → last_one ≡ t
      the_last t level is new =
          let g = ground (length log.entries) t level is.exists in
          let above : taken < 256 * t.number + 256 = elim (cases_lt taken (256 * t.number + 256)) [
            | inl lt ↦ lt
            | inr le ↦ absurd (new (from_ground taken t level is.exists.some (omega (arith, is.full, le))))
          ] in
          same_tile last_one t (sym level) (omega (arith, g.1, is.full, above, last, block)) (sym is.full)

-- opening a folder beside which only staged files differ leaves what it keeps
opened_beside : {served old : LogOf} {s c : Files} → Keeps served old s → IsBeside s c → Keeps served old (opened c)
opened_beside {c = c} keeps beside = keeps_beside (opened c)
    (λ n isnt. opened_idle c n beside.no_mark isnt ∙ beside.outside n isnt) keeps

-- a folder that is ready keeps its log once it is opened
pub kept_once_opened : {F : Type 0} (seen : F → Files) (may_leave : F → Files → Type 0)
    → ((f : F) → may_leave f (seen f)) → (served old next : LogOf) (l : LogIn F) (f : F) → f ≡ l.folder
    → Has seen may_leave served old next l → HasLog served old (opened (seen f))
kept_once_opened seen may_leave stays served old next l f same has =
    rw same (inl (opened_beside has.keeps (has.staging (seen l.folder) (stays l.folder))))

-- A crash that leaves what a folder keeps, but for staged files, leaves the log.
pub beside_one_of : (served old next : LogOf) (s c : Files) → Keeps served old s → IsBeside s c
    → IsOneOf served old next c
beside_one_of served old next s c keeps beside = record {
  read = inl (record {
    serves = (keeps_beside c beside.outside keeps).serves;
    stay = λ n is. opened_idle c n beside.no_mark (served_not_staged n (file_served served n is));
  });
  state = inl (record { can = keeps.can; text = beside.outside state refl ∙ keeps.state });
  opened = inl (opened_beside keeps beside);
}

pub beside_committing : (served old next : LogOf) (s c : Files) → Keeps served old s → IsBeside s c
    → IsCommitting served old next s c
beside_committing served old next s c keeps beside = record {
  one = beside_one_of served old next s c keeps beside;
  names = λ n is known. beside.outside n (served_not_staged n is);
}

-- and what a commit leaves behind that
pub committing_then : (served old next : LogOf) (s mid c : Files) → IsBeside s mid → IsCommitting served old next mid c
    → IsCommitting served old next s c
committing_then served old next s mid c beside now = record {
  one = now.one;
  names = λ n is known. now.names n is known ∙ beside.outside n (served_not_staged n is);
}

-- With what the last entry has filled staged, the log has the same entries.
module _ {F : Type 0} (seen : F → Files) (may_leave : F → Files → Type 0) (served old next : LogOf) (l m : LogIn F)
    (tiles : Tiles) (number : ℕ) (held : l.held ≡ 256) (has : Has seen may_leave served old next l)
    (is_open : m.is_open ≡ l.is_open) (text : m.text ≡ l.text)
    (edge : m.edge ≡ record l.edge { taken = l.edge.len; full = [] }) (bundle : m.bundle ≡ [])
    (held_now : m.held ≡ 0)
    (own : (ds : List (List ℕ)) → StandsFor sha256 l.edge ds
    → AreTilesOf sha256 ds (full_between l.edge.taken l.edge.len) tiles) (stands : (ds : List (List ℕ))
    → StandsFor sha256 l.edge ds → StandsFor sha256 m.edge ds)
    (most : l.edge.len ≤ 2 ^ 63) (here : number ≡ (l.edge.len - 1) / 256)
    (puts : seen m.folder ≡ put (staged (entries_path (bundle_tile number)), l.bundle)
    (staged_all (new_files l.text.length tiles) (seen l.folder)))
    (staging : IsStaging (seen m.folder) (may_leave m.folder)) where
  count : length next.entries ≡ l.edge.len
  count = stands_length next.entries has.edge

  abbrev block : ℕ
  block = l.edge.taken / 256

  filled_len : l.edge.len ≡ 256 * block + 256
  filled_len = omega (arith, has.held, held)

  at_block : number ≡ block
  at_block = omega (arith, here, filled_len)

  abbrev rest : List (List ℕ)
  rest = drop (256 * block) next.entries

  holds : l.bundle ≡ bundle_bytes next (bundle_tile number)
  unfolding bundle_of
  holds = rw (has.bundle, at_block) (sym (ap bundle_of (take_all 256 rest
      (omega (arith, length-drop (256 * block) next.entries, count, filled_len)))))

  abbrev with_tiles : Files
  with_tiles = staged_all (new_files l.text.length tiles) (seen l.folder)

  outside : (n : List ℕ) → is_staged n ≡ false → seen m.folder n ≡ seen l.folder n
  outside n isnt = rw puts (put_outside (entries_path (bundle_tile number), l.bundle) with_tiles n isnt
      ∙ staged_outside (new_files l.text.length tiles) (seen l.folder) n isnt)

  taken_now : m.edge.taken ≡ length next.entries
  taken_now = ap (λ (e : RightEdge). e.taken) edge ∙ sym count

  len_now : m.edge.len ≡ l.edge.len
  len_now = ap (λ (e : RightEdge). e.len) edge

  all_staged : AreFullStaged m.text.length m.edge.taken next (seen m.folder)
  all_staged = rw (puts, text, taken_now)
      (full_staged next l.text.length l.edge.taken number tiles l.bundle (seen l.folder) has.since
      (omega (arith, has.order, count)) (omega (arith, most, count)) (omega (arith, count, filled_len, at_block))
      (sym at_block) (rw count (own (leaves_of sha256 next.entries) has.edge)) holds has.staged)

  empty_now : [] ≡ bundle_of (drop (256 * (m.edge.taken / 256)) next.entries)
  unfolding bundle_of
  empty_now = sym (ap bundle_of (drop_all (256 * (m.edge.taken / 256)) next.entries
      (omega (arith, taken_now, count, filled_len))))

  same_pages : (path : List ℕ) → seen m.folder (staged (page_name path)) ≡ seen l.folder (staged (page_name path))
  same_pages path = rw puts (past_page (bundle_tile number) l.bundle with_tiles path
      ∙ pages_there l.text.length tiles (seen l.folder) path)

  pub filled_has : Has seen may_leave served old next m
  filled_has = record {
    is_open = is_open ∙ has.is_open;
    keeps = keeps_beside (seen m.folder) outside has.keeps;
    extends = has.extends;
    short = has.short;
    text = text ∙ has.text;
    edge = stands (leaves_of sha256 next.entries) has.edge;
    since = omega (arith, ap (λ (s : Said). s.length) text, taken_now, count, has.since, has.order);
    order = omega (arith, taken_now, count, len_now);
    held = omega (arith, taken_now, count, len_now, filled_len, held_now);
    most = omega (arith, held_now);
    bundle = bundle ∙ empty_now;
    staged = all_staged;
    pages = pages_stay same_pages has.pages;
    staging = staging;
  }

-- One entry more.
module _ {F : Type 0} (seen : F → Files) (may_leave : F → Files → Type 0) (served old next : LogOf) (l m : LogIn F)
    (entry : List ℕ) (short : length entry < 65536) (has : Has seen may_leave served old next l) (room : l.held < 256)
    (folder : m.folder ≡ l.folder) (is_open : m.is_open ≡ l.is_open) (text : m.text ≡ l.text)
    (len : m.edge.len ≡ l.edge.len + 1) (taken : m.edge.taken ≡ l.edge.taken)
    (stands : (ds : List (List ℕ)) → StandsFor sha256 l.edge ds
    → StandsFor sha256 m.edge (ds ++ sha256 (0 ∷ entry) ∷ []))
    (bundle : m.bundle ≡ l.bundle ++ bundle_of (entry ∷ [])) (held : m.held ≡ l.held + 1) where
  abbrev longer : LogOf
  longer = with_entry next entry

  grown : Extends next longer
  grown = record {
    origin = refl;
    entries = (entry ∷ [], refl);
    still = λ same. absurd (omega (arith, same, length-append next.entries (entry ∷ [])));
  }

  size : length next.entries ≡ l.edge.len
  size = stands_length next.entries has.edge

  size_longer : length longer.entries ≡ length next.entries + 1
  size_longer = length-append next.entries (entry ∷ []) ∙ omega arith

  in_next : (t : TileAt) → t.width ≡ 256 → IsTileOf l.edge.taken t → IsTileOf (length next.entries) t
  in_next t full is = full_stays l.edge.taken (length next.entries) t (omega (arith, size, has.order)) full is

  tail : bundle_of (drop (256 * (m.edge.taken / 256)) longer.entries) ≡ l.bundle ++ bundle_of (entry ∷ [])
  unfolding bundle_of
  tail =
      let start = 256 * (l.edge.taken / 256) in
      rw (taken, drop-append-le start next.entries (entry ∷ []) (omega (arith, size, has.held)))
      (bundle_more (drop start next.entries) entry ∙ rw (has.bundle, append-nil entry) refl)

  still_full : (t : TileAt) → IsNewFull l.text.length (length next.entries) t
      → IsNewFull l.text.length (length longer.entries) t
  still_full t is = new_full is (full_stays _ _ t (omega (arith, size_longer)) is.full is.exists)

  more_staged : AreFullStaged l.text.length l.edge.taken longer (seen l.folder)
  more_staged = record {
    tile = λ t lt is. rw (tile_kept grown t (record { level = lt; exists = in_next t is.full is.exists }))
        (has.staged.tile t lt is);
    bundle = λ t level is. rw (bundle_kept grown t (record { level = level; exists = in_next t is.full is.exists }))
        (has.staged.bundle t level is);
    nothing_else = λ n is_there some. ⊎_elim
        (λ (t, lt, is, path). inl (t, lt, still_full t is, path))
        (λ (t, level, is, path). inr (t, level, still_full t is, path))
        (has.staged.nothing_else n is_there some);
  }

  pub added_has : Has seen may_leave served old longer m
  added_has = record {
    is_open = is_open ∙ has.is_open;
    keeps = rw folder has.keeps;
    extends = extends_then has.extends grown;
    short = all_append (λ (e : List ℕ). length e < 65536) next.entries (entry ∷ []) has.short (short, tt);
    text = text ∙ has.text;
    edge = rw (map-append (λ (e : List ℕ). sha256 (0 ∷ e)) next.entries (entry ∷ []))
        (stands (leaves_of sha256 next.entries) has.edge);
    since = omega (arith, ap (λ (s : Said). s.length) text, taken, has.since);
    order = omega (arith, taken, len, has.order);
    held = omega (arith, taken, len, held, has.held);
    most = omega (arith, held, room);
    bundle = bundle ∙ sym tail;
    staged = rw (folder, text, taken) more_staged;
    pages = rw folder has.pages;
    staging = rw folder has.staging;
  }

-- a full tile of a length is one of an older length in the same block of 256
same_block : (m n : ℕ) (t : TileAt) → m ≤ n → m / 256 ≡ n / 256 → t.width ≡ 256 → IsTileOf n t → IsTileOf m t
same_block m n t order block full is =
    let p = 2 ^ (8 * t.level) in
    let end : tile_end t ≤ n = end_inside n t is in
    let ends : tile_end t ≡ 256 * ((t.number + 1) * p) = ap (λ w. (256 * t.number + w) * p) full
    ∙ ap (λ k. k * p) (omega arith) ∙ mul_assoc 256 (t.number + 1) p in
    let within : (t.number + 1) * p ≤ n / 256 = le-div ((t.number + 1) * p) n 256 (omega arith)
    (omega (arith, end, ends)) in
    by_end m n t order is (omega (arith, ends, within, block))

-- the tile over the last bundle, where that isn't full
abbrev pub last_bundle : ℕ → ℕ → TileAt
last_bundle number held = record { level = 0; number = number; width = held }

-- With the tiles and the bundle of the log's end staged, all that is new is.
module _ (served old next : LogOf) (taken held : ℕ) (tiles : Tiles) (bytes : List ℕ) (s final : Files)
    (before : length old.entries ≤ taken) (order : taken ≤ length next.entries)
    (grown : length old.entries < length next.entries)
    (most : length next.entries ≤ 2 ^ 63) (block : taken / 256 ≡ length next.entries / 256)
    (ends : 256 * (length next.entries / 256) + held ≡ length next.entries)
    (own : AreTilesOf sha256 (leaves_of sha256 next.entries) (partial_tiles (length next.entries)) tiles)
    (holds : bytes ≡ bundle_of (drop (256 * (length next.entries / 256)) next.entries))
    (was : AreFullStaged (length old.entries) taken next s) (pages : ArePagesStaged served.pages old.pages next.pages s)
    (puts : ((held ≡ 0) × (final ≡ staged_all (new_files (length old.entries) tiles) s))
    ⊎ ((0 < held) × (final ≡ put (staged (entries_path (last_bundle (length next.entries / 256) held)), bytes)
    (staged_all (new_files (length old.entries) tiles) s)))) where
  abbrev IsPart : TileAt → Type 0
  IsPart t = IsTileOf (length next.entries) t × (t.width < 256)

  abbrev older : ℕ
  older = length old.entries

  exactly_parts : (t : TileAt) → Contains (tiles_of tiles) t ↔ IsPart t
  exactly_parts t = rw own.places ((partial_of (length next.entries) most).exactly t)

  part_files : AreFilesOf next IsPart tiles
  part_files = own_files next IsPart tiles (λ t has. (exactly_parts t).0 has) own.digests

  part_in : (t : TileAt) → IsPart t → IsTileIn next t
  part_in t is = record { level = low_level (length next.entries) t most is.0; exists = is.0 }

  abbrev so_far : Files
  so_far = staged_all (new_files older tiles) s

  abbrev last : TileAt
  last = last_bundle (length next.entries / 256) held

  full_new : (t : TileAt) → t.width ≡ 256 → IsTileOf (length next.entries) t → (IsTileOf older t → ⊥)
      → IsNewFull older taken t
  full_new t full is new = record {
    full = full;
    exists = same_block taken (length next.entries) t order block full is;
    new = new;
  }

  part_width : (t : TileAt) → IsTileOf (length next.entries) t → t.width ≢ 256 → t.width < 256
  part_width t is other = omega (arith, is.width, other)

  -- a bundle that isn't full is the last one
  the_last_part : (t : TileAt) → t.level ≡ 0 → IsTileOf (length next.entries) t → t.width < 256
      → (t ≡ last) × (0 < held)
  the_last_part t level is small =
      let g = ground (length next.entries) t level is in
      let number : t.number ≡ length next.entries / 256 = omega (arith, g.0, g.1, small) in
      let width : t.width ≡ held = omega (arith, g.0, g.1, small, number, ends) in
      (same_tile t last level number width, omega (arith, g.0, width))

  last_part : 0 < held → IsTileOf (length next.entries) last
  last_part some = from_ground (length next.entries) last refl some (omega (arith, ends))

  last_new : 0 < held → IsTileOf older last → ⊥
  last_new some is = let g = ground older last refl is in omega (arith, g.0, g.1, ends, grown)

  last_bytes : bytes ≡ bundle_bytes next last
  unfolding bundle_of
  last_bytes = holds ∙ sym (ap bundle_of (take_all held (drop (256 * (length next.entries / 256)) next.entries)
      (omega (arith, length-drop (256 * (length next.entries / 256)) next.entries, ends))))

  nothing_before : (n : List ℕ) → is_tile n ≡ true → IsSome (so_far (staged n)) → IsNewTile old next n
  nothing_before n is_there some = ⊎_elim
      (λ before. ⊎_elim
      (λ (t, lt, is, path). inl (t, record { level = lt; exists = is.exists }, (λ was_in. is.new was_in.exists), path))
      (λ (t, level, is, path). inr
      (t, record { level = level; exists = is.exists }, (λ was_in. is.new was_in.exists), path))
      (was.nothing_else n is_there before))
      (λ by. inl (
        by.0,
        part_in by.0 by.1,
        (λ was_in. by.2 (end_inside older by.0 was_in.exists)),
        by.3,
      ))
      (staged_by next IsPart part_in older tiles part_files s n some)

  pages_before : ArePagesStaged served.pages old.pages next.pages so_far
  pages_before = pages_stay (pages_there older tiles s) pages

  fresh_tile : (t : TileAt) → IsTileIn next t → (IsTileIn old t → ⊥) → so_far (staged (tile_path t))
      ≡ Some (tile_bytes next t)
  fresh_tile t is new =
      let fresh : IsTileOf older t → ⊥ = λ was_in. new (record { level = is.level; exists = was_in }) in
      tile_there next IsPart part_in older tiles part_files s t is (elim (cases_eq t.width 256) [
        | inl full ↦ inr (was.tile t is.level (full_new t full is.exists fresh))
        | inr other ↦ inl (
          (exactly_parts t).1 (is.exists, part_width t is.exists other),
          new_ends older (length next.entries) t (omega (arith, grown)) is.exists fresh,
        )
      ])

  -- a new bundle is staged, or the last one
  fresh_bundle : (t : TileAt) → IsBundleIn next t → (IsBundleIn old t → ⊥)
      → (so_far (staged (entries_path t)) ≡ Some (bundle_bytes next t)) ⊎ ((t ≡ last) × (0 < held))
  fresh_bundle t is new = elim (cases_eq t.width 256) [
    | inl full ↦ inl (bundle_there next IsPart part_in older tiles part_files s t
        ∙ was.bundle t is.level (full_new t full is.exists
        (λ was_in. new (record { level = is.level; exists = was_in }))))
    | inr other ↦ inr (the_last_part t is.level is.exists (part_width t is.exists other))
  ]

  -- where no bundle is left
  none_left : held ≡ 0 → AreStagedFor served old next so_far
  none_left none = record {
    tile = fresh_tile;
    bundle = λ t is new. ⊎_elim (λ there. there) (λ part. absurd (omega (arith, part.1, none))) (fresh_bundle t is new);
    nothing_else = nothing_before;
    pages = pages_before;
  }

  -- and where one is
  one_left : 0 < held → AreStagedFor served old next (with_bundle last bytes so_far)
  one_left some = record {
    tile = λ t is new. past_tile last bytes so_far t is.level ∙ fresh_tile t is new;
    bundle = λ t is new. bundle_at last bytes so_far next last_bytes refl (omega (arith, ends)) t is.level
        (width_at_most (length next.entries) t is.exists)
        (λ other. ⊎_elim (λ there. there) (λ part. absurd (other (sym part.0))) (fresh_bundle t is new));
    nothing_else = λ n is_there found. ⊎_elim
        (λ here. inr
        (last, record { level = refl; exists = last_part some }, (λ was_in. last_new some was_in.exists), here))
        (nothing_before n is_there) (bundle_or last bytes so_far n found);
    pages = pages_stay (past_page last bytes so_far) pages_before;
  }

  pub end_staged : AreStagedFor served old next final
  end_staged = ⊎_elim (λ (none, is). rw is (none_left none)) (λ (some, is). rw is (one_left some)) puts

-- The log's end staged beside what its entries filled.
module _ {F : Type 0} (seen : F → Files) (may_leave : F → Files → Type 0) (served old next : LogOf) (l m : LogIn F)
    (tiles : Tiles) (has : Has seen may_leave served old next l) (room : l.held < 256)
    (new : l.text.length < l.edge.len)
    (most : l.edge.len ≤ 2 ^ 63) (own : AreTilesOf sha256 (leaves_of sha256 next.entries)
    (partial_tiles (length next.entries)) tiles)
    (is_open : m.is_open ≡ l.is_open) (edge : m.edge ≡ l.edge) (bundle : m.bundle ≡ l.bundle) (held : m.held ≡ l.held)
    (puts : ((l.held ≡ 0) × (seen m.folder ≡ staged_all (new_files l.text.length tiles) (seen l.folder)))
    ⊎ ((0 < l.held) × (seen m.folder ≡ put (staged (entries_path (last_bundle (l.edge.len / 256) l.held)), l.bundle)
    (staged_all (new_files l.text.length tiles) (seen l.folder)))))
    (staging : IsStaging (seen m.folder) (may_leave m.folder)) where
  size_now : length next.entries ≡ l.edge.len
  size_now = stands_length next.entries has.edge

  kept_old : l.text.length ≡ length old.entries
  kept_old = ap (λ (s : Said). s.length) has.text

  blocks : l.edge.taken / 256 ≡ length next.entries / 256
  blocks = omega (arith, has.held, room, size_now)

  bundle_now : l.bundle ≡ bundle_of (drop (256 * (length next.entries / 256)) next.entries)
  bundle_now = rw blocks at has.bundle

  beside_now : (n : List ℕ) → is_staged n ≡ false → seen m.folder n ≡ seen l.folder n
  beside_now n isnt =
      let fs = new_files l.text.length tiles in
      let before = staged_outside fs (seen l.folder) n isnt in
      ⊎_elim (λ (none, is). rw is before)
      (λ (some, is). rw is (put_outside (entries_path (last_bundle (l.edge.len / 256) l.held), l.bundle)
      (staged_all fs (seen l.folder)) n isnt ∙ before)) puts

  pub has_all : HasAll seen may_leave served old next m
  has_all = record {
    is_open = is_open ∙ has.is_open;
    keeps = keeps_beside (seen m.folder) beside_now has.keeps;
    extends = has.extends;
    short = has.short;
    edge = rw edge has.edge;
    held = omega (arith, ap (λ (e : RightEdge). e.len) edge, held, has.held, room);
    bundle = rw (edge, ← size_now) (bundle ∙ bundle_now);
    staged = end_staged served old next l.edge.taken l.held tiles l.bundle (seen l.folder) (seen m.folder)
        (omega (arith, has.since, kept_old)) (omega (arith, has.order, size_now))
        (omega (arith, new, kept_old, size_now))
        (omega (arith, most, size_now)) blocks (omega (arith, has.held, room, size_now)) own bundle_now
        (rw (← kept_old) has.staged) has.pages (rw (← kept_old, size_now) puts);
    staging = staging;
  }

pub none_some : (o : Option (List ℕ)) → o ≡ None → IsSome o → ⊥
none_some None e some = apart (sym some)
none_some (Some bytes) e some = cc

-- where nothing is staged, nothing is to be, if no entry is new
pub none_staged : {older taken : ℕ} (log : LogOf) (s : Files) → taken ≡ older → NothingStaged s
    → AreFullStaged older taken log s
none_staged log s same nothing = record {
  tile = λ t lt is. absurd (is.new (rw (← same) is.exists));
  bundle = λ t level is. absurd (is.new (rw (← same) is.exists));
  nothing_else = λ n served some. absurd (none_some (s (staged n)) (nothing (staged n) refl) some);
}

-- A log whose files a commit has put keeps all of its entries.
pub all_kept : {F : Type 0} (seen : F → Files) (may_leave : F → Files → Type 0) (served old next log : LogOf)
    (l m : LogIn F) → HasAll seen may_leave served old next l → Keeps log next (seen m.folder)
    → NothingStaged (seen m.folder)
    → IsStaging (seen m.folder) (may_leave m.folder) → m.is_open ≡ l.is_open → m.text ≡ said_of next
    → m.edge ≡ record l.edge { taken = l.edge.len; full = [] } → m.bundle ≡ l.bundle → m.held ≡ l.held
    → ((ds : List (List ℕ)) → StandsFor sha256 l.edge ds → StandsFor sha256 m.edge ds) → l.held ≤ 256
    → Has seen may_leave log next next m
all_kept seen may_leave served old next log l m all keeps nothing staging is_open text edge bundle held stands small =
    let size = stands_length next.entries all.edge in
    let kept : m.text.length ≡ length next.entries = ap (λ (s : Said). s.length) text in
    let taken : m.edge.taken ≡ l.edge.len = ap (λ (e : RightEdge). e.taken) edge in
    let len : m.edge.len ≡ l.edge.len = ap (λ (e : RightEdge). e.len) edge in
    let same : m.edge.taken ≡ m.text.length = taken ∙ sym size ∙ sym kept in
    record {
      is_open = is_open ∙ all.is_open;
      keeps = keeps;
      extends = extends_self next;
      short = all.short;
      text = text;
      edge = stands (leaves_of sha256 next.entries) all.edge;
      since = omega (arith, kept, size, taken);
      order = omega (arith, taken, len);
      held = omega (arith, taken, len, held, all.held);
      most = omega (arith, held, small);
      bundle = rw taken (bundle ∙ all.bundle);
      staged = none_staged next (seen m.folder) same nothing;
      pages = own_pages (λ path. nothing (staged (page_name path)) refl);
      staging = staging;
    }

-- a log that has no entry more is the same
pub same_length : (old next : LogOf) → Extends old next → length old.entries ≡ length next.entries → old ≡ next
same_length old next by same =
    let more = nil_from_length by.entries.0
    (omega (
      arith,
      same,
      ap (λ (es : List (List ℕ)). length es) by.entries.1,
      length-append old.entries by.entries.0,
    )) in
    let whole : next.entries ≡ old.entries = by.entries.1 ∙ rw more (append-nil old.entries) in
    let still = by.still (sym same) in
    λ i. record {
      origin = sym by.origin i;
      entries = sym whole i;
      lines = sym still.0 i;
      pages = sym still.1 i;
    }

-- Where no call is made, a crash leaves the log.
module _ {F : Type 0} (seen : F → Files) (may_leave : F → Files → Type 0) (moment : F → ℕ) (left_since : F → ℕ → Files
    → Type 0) (served old next : LogOf) (l : LogIn F) where
  pub idle : ((c : Files) → left_since l.folder (moment l.folder) c → may_leave l.folder c)
      → Has seen may_leave served old next l → LeavesOnly moment left_since l.folder l.folder
      (IsCommitting served old next (seen l.folder))
  idle now has = leaves_none moment left_since l.folder (IsCommitting served old next (seen l.folder))
      (λ c left. beside_committing served old next (seen l.folder) c has.keeps (has.staging c (now c left)))

-- the checkpoint's text is noted, which says what the log has
pub noted : {F : Type 0} (seen : F → Files) (may_leave : F → Files → Type 0) (log next : LogOf) (l : LogIn F)
    (text : Said) → text ≡ said_of next
    → Has seen may_leave log next next (record l { text = said_of next })
    → Has seen may_leave log next next (record l { text = text })
noted seen may_leave log next l text same has = rw same has

-- the partial tiles of a right edge are those of the log that it stands for
pub own_parts : (next : LogOf) (edge : RightEdge) (tiles : Tiles)
    → StandsFor sha256 edge (leaves_of sha256 next.entries)
    → ((ds : List (List ℕ)) → StandsFor sha256 edge ds → AreTilesOf sha256 ds (partial_tiles edge.len) tiles)
    → AreTilesOf sha256 (leaves_of sha256 next.entries) (partial_tiles (length next.entries)) tiles
own_parts next edge tiles stands own =
    rw (stands_length next.entries stands) (own (leaves_of sha256 next.entries) stands)
