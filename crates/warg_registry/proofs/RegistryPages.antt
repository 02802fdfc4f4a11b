-- The pages of insertions, as files.
use Rattle.std.proofs.Common.{◌≡◌, ◌⊎◌, ℕ, zero, suc, ◌+◌, ◌<◌, ◌≤◌, ◌^◌, true, List, [], ◌∷◌, ◌++◌, length, map, take, sym, ap, ◌∙◌, subst, inl, inr, arith, Option, Some}
use Rattle.std.specs.Prelude.{unwrap_or}
use Rattle.std.specs.List.{All, Contains}
use Rattle.std.proofs.lemmas.Bool.{cases_lt}
use Rattle.std.proofs.lemmas.List.{length-take-le, take_all, length-map}
use Rattle.std.proofs.lemmas.List.Elements.{All-take, All-contains}
use Rattle.warg_crypto.specs.Digests.{sha256, IsByte}
use Rattle.warg_crypto.specs.DigestFacts.{IsDigest-sha256}
use Rattle.warg_pages.specs.ChangedPages.{ChangedPageAt, page_at, ChangesAt, AreChangedPages}
use Rattle.warg_pages.specs.OwnPages.{stands, AreOwnPages}
use Rattle.warg_pages.specs.PageBytes.{page_bytes}
use Rattle.warg_pages.specs.Prefixes.{bits_of_bytes, version}
use Rattle.warg_pages.specs.ProvedKeys.{IsOwnSource}
use Rattle.warg_pages.specs.Slots.{numbers, page_of}
use Rattle.warg_pages.proofs.ForCallers.{one_path_below, page_is_short, page_has_insertion, version_within, unchanged_page}
use Rattle.warg_log.specs.Tree.{root_of, leaves_of}
use Rattle.warg_map.specs.Sparse.{map_of, sparse_root}
use Rattle.warg_tiles.specs.CheckpointText.{Said, text_before}
use Rattle.warg_folder.specs.Files.{File, Files}
use Rattle.warg_store.specs.Log as log
use Rattle.warg_folder.specs.Names.{checkpoint}
use Rattle.warg_registry.specs.Insertions.{entry_of, entries_of}
use Rattle.warg_registry.specs.Registry.{line_of, said_of}
use Rattle.warg_store.specs.Log.{HasFiles, HasPage, Serves}
use Rattle.warg_registry.specs.Folder.{path_below, page_file, prefixes_on_way, pages_of, registry_of, page_found, page_read, file_of, files_of}
use Rattle.warg_registry.proofs.Listed.{mapped_there, of_mapped, passed_there, of_passed, joined_there, of_joined, first_is, later_there, there_cases, none_there}

-- a page of insertions stands at these bytes
pub record IsPageAt (insertions : List (List ℕ × List ℕ)) (prefix : List ℕ) : Type 0 where
  pub are_bytes : All IsByte prefix
  pub short : length prefix < 32
  pub is_there : stands sha256 insertions (bits_of_bytes prefix) ≡ true

-- the numbers from one on
number_within : (first n k : ℕ) → Contains (numbers first n) k → (first ≤ k) × (k < first + n)
unfolding numbers
number_within first zero k h = absurd (none_there k h)
number_within first (suc n) k h = elim (there_cases (numbers (first + 1) n) k first h) [
  | inl e ↦ (omega (arith, e), omega (arith, e))
  | inr more ↦ let found = number_within (first + 1) n k more in (omega (arith, found.0), omega (arith, found.1))
]

pub number_there : (first n k : ℕ) → k < n → Contains (numbers first n) (first + k)
unfolding numbers
number_there first zero k lt = absurd (omega (arith, lt))
number_there first (suc n) zero lt = first_is (numbers (first + 1) n) (omega arith)
number_there first (suc n) (suc k) lt =
    let more = number_there (first + 1) n k (omega (arith, lt)) in
    let same : first + 1 + k ≡ first + suc k = omega arith in
    later_there (numbers (first + 1) n) (first + suc k) first (rw same at more)

-- each page in the list stands
pub page_of_list : (insertions : List (List ℕ × List ℕ)) (f : File) → Contains (pages_of insertions) f
    → (prefix : List ℕ) × IsPageAt insertions prefix × (page_file insertions prefix ≡ f)
page_of_list insertions f h =
    let way = λ (e : List ℕ × List ℕ). map (page_file insertions) (prefixes_on_way insertions (sha256 e.0)) in
    let e = of_joined way insertions f h in
    let digest = sha256 e.0.0 in
    let p = of_mapped (page_file insertions) (prefixes_on_way insertions digest) f e.2 in
    let passed = of_passed (λ p. stands sha256 insertions (bits_of_bytes p))
    (map (λ depth. take depth digest) (numbers 0 32)) p.0 p.1 in
    let depth = of_mapped (λ depth. take depth digest) (numbers 0 32) p.0 passed.1 in
    let within = number_within 0 32 depth.0 depth.1 in
    let is = IsDigest-sha256 e.0.0 in
    let size = length-take-le depth.0 digest (omega (arith, within.1, is.has_32)) in (
      p.0,
      record {
        are_bytes = rw depth.2 at (All-take IsByte depth.0 digest is.are_bytes);
        short = omega (arith, ap length depth.2, size, within.1);
        is_there = passed.0;
      },
      p.2,
    )

-- each page that stands is in the list
pub page_listed : (insertions : List (List ℕ × List ℕ)) (prefix : List ℕ) → IsPageAt insertions prefix
    → Contains (pages_of insertions) (page_file insertions prefix)
page_listed insertions prefix at =
    let way = λ (e : List ℕ × List ℕ). map (page_file insertions) (prefixes_on_way insertions (sha256 e.0)) in
    let found = page_has_insertion sha256 insertions prefix IsDigest-sha256 at.are_bytes at.short at.is_there in
    let digest = sha256 found.0.0 in
    let same : 0 + length prefix ≡ length prefix = omega arith in
    let depth = subst (Contains (numbers 0 32)) same (number_there 0 32 (length prefix) at.short) in
    let there : Contains (map (λ depth. take depth digest) (numbers 0 32)) (take (length prefix) digest) =
    mapped_there (λ depth. take depth digest) (numbers 0 32) (length prefix) depth in
    let here = subst (Contains (map (λ depth. take depth digest) (numbers 0 32))) (sym found.2) there in
    let passed = passed_there (λ p. stands sha256 insertions (bits_of_bytes p))
    (map (λ depth. take depth digest) (numbers 0 32)) prefix at.is_there here in
    joined_there way insertions found.0 (page_file insertions prefix) found.1
    (mapped_there (page_file insertions) (prefixes_on_way insertions digest) prefix passed)

-- no page of a list has the path of a page of a later version
pub later_path : (insertions : List (List ℕ × List ℕ)) (prefix : List ℕ) (number : ℕ) → All IsByte prefix
    → number < 2 ^ 64 → length insertions < number → HasPage (pages_of insertions) (path_below prefix number) → ⊥
later_path insertions prefix number bytes fits later has =
    let found = page_of_list insertions (path_below prefix number, has.0) has.1 in
    let bits = bits_of_bytes found.0 in
    let within = version_within sha256 insertions bits in
    let same = one_path_below found.0 prefix (version sha256 insertions bits) number found.1.are_bytes bytes
    (omega (arith, within, later, fits)) fits (ap (λ (f : File). f.0) found.2) in
    omega (arith, same.1, within, later)

-- a page of the longer list is a changed one, or one of the list before
pub old_or_changed : (old more : List (List ℕ × List ℕ)) (changed : List ChangedPageAt) (f : File)
    → AreChangedPages sha256 old more changed → Contains (pages_of (old ++ more)) f
    → Contains (pages_of old) f ⊎ Contains (files_of changed) f
old_or_changed old more changed f are h =
    let found = page_of_list (old ++ more) f h in
    let bits = bits_of_bytes found.0 in
    elim (cases_lt (length old) (version sha256 (old ++ more) bits)) [
      | inl later ↦
          let there = are.all found.0 (record {
            are_bytes = found.1.are_bytes;
            short = found.1.short;
            is_there = found.1.is_there;
            later = later;
          }) in
          inr (subst (Contains (files_of changed)) found.2 (mapped_there file_of changed
          (page_at sha256 (old ++ more) found.0) there))
      | inr early ↦
          let same = unchanged_page sha256 old more bits found.1.is_there early in
          let at : IsPageAt old found.0 = record {
            are_bytes = found.1.are_bytes;
            short = found.1.short;
            is_there = same.0;
          } in
          let file : page_file old found.0 ≡ page_file (old ++ more) found.0 =
          λ i. (path_below found.0 (same.1 i), page_bytes (same.2 i)) in
          inl (subst (Contains (pages_of old)) (file ∙ found.2) (page_listed old found.0 at))
    ]

-- a changed page is one of the longer list
pub changed_there : (old more : List (List ℕ × List ℕ)) (changed : List ChangedPageAt) (f : File)
    → AreChangedPages sha256 old more changed → Contains (files_of changed) f → Contains (pages_of (old ++ more)) f
changed_there old more changed f are h =
    let c = of_mapped file_of changed f h in
    let each = All-contains
    (λ (c : ChangedPageAt). ChangesAt sha256 old more c.prefix × (c ≡ page_at sha256 (old ++ more) c.prefix)) changed
    c.0 are.each c.1 in
    let at : IsPageAt (old ++ more) c.0.prefix = record {
      are_bytes = each.0.are_bytes;
      short = each.0.short;
      is_there = each.0.is_there;
    } in
    let file : page_file (old ++ more) c.0.prefix ≡ file_of c.0 =
    sym (ap (λ (d : ChangedPageAt). (path_below c.0.prefix d.version, page_bytes d.page)) each.1) in
    rw (file ∙ c.2) at (page_listed (old ++ more) c.0.prefix at)

-- what a served registry's checkpoint says
pub served_checkpoint : (origin : List ℕ) (insertions : List (List ℕ × List ℕ)) (files : Files)
    → Serves (registry_of origin insertions) files → (behind : Option (List ℕ))
    × (files checkpoint ≡ Some (text_before (said_of sha256 origin insertions) behind))
served_checkpoint origin insertions files serves =
    let counts : length (entries_of insertions) ≡ length insertions = length-map insertions entry_of in
    let says : log.said_of (registry_of origin insertions) ≡ said_of sha256 origin insertions = λ i. record {
      origin = origin;
      length = counts i;
      root = root_of sha256 (leaves_of sha256 (entries_of insertions));
      extensions = line_of (sparse_root sha256 256 (map_of sha256 insertions)) ∷ [];
    } in (
      serves.checkpoint.0,
      serves.checkpoint.1 ∙ ap (λ (s : Said). Some (text_before s serves.checkpoint.0)) says,
    )

-- A folder with a registry's files
module _ (origin : List ℕ) (insertions : List (List ℕ × List ℕ)) (files : Files)
    (has : HasFiles (registry_of origin insertions) files) where
  -- has the pages of its insertions,
  pub own_files : AreOwnPages sha256 (page_found files) insertions
  own_files = λ prefix bytes short there.
      let at : IsPageAt insertions prefix = record { are_bytes = bytes; short = short; is_there = there } in
      let found = has.page (page_file insertions prefix) (page_listed insertions prefix at) in
      let page = page_bytes (page_of sha256 insertions (bits_of_bytes prefix)) in
      let few = page_is_short sha256 insertions (bits_of_bytes prefix) IsDigest-sha256 in
      rw found (ap (λ b. Some b) (take_all 27137 page (omega (arith, few))))

  -- and those that are read of it.
  pub read_files : AreOwnPages sha256 (page_read files) insertions
  read_files = λ prefix bytes short there.
      ap (λ (o : Option (List ℕ)). Some (unwrap_or o (0 ∷ []))) (own_files prefix bytes short there)

  -- So whoever reads the checkpoint and the map's root of them has a source of the insertions' pages.
  pub read_source : (root : List ℕ) (count : ℕ) (said : Said) → said ≡ log.said_of (registry_of origin insertions)
      → count ≡ said.length → root ≡ sparse_root sha256 256 (map_of sha256 insertions)
      → IsOwnSource sha256 (page_read files) root count insertions
  read_source root count said is counts is_root = record {
    pages = read_files;
    all = sym (counts ∙ ap (λ (t : Said). t.length) is ∙ length-map insertions entry_of);
    is_root = is_root;
  }
