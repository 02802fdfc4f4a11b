-- Varints: the recursion that reads them, the loop that writes them, and that both agree.
use Rattle.std.proofs.Common.{◌≡◌, ◌≢◌, ℕ, zero, suc, ◌+◌, ◌-◌, ◌*◌, ◌/◌, ◌%◌, ◌^◌, ◌<◌, ◌≤◌, List, [], ◌∷◌, ◌++◌, length, get_or, drop, Result, Ok, Err, refl, ap, append_assoc, sub-one, arith, inl, inr}
use Rattle.std.proofs.lemmas.Grind.{common_steps}
use Rattle.std.proofs.lemmas.Bool.{cases_lt, lt-ltb, le-ltb}
use Rattle.std.proofs.Math.Nat.{pow-le-pow_right, pow-succ', one-le-pow}
use Rattle.warg_protobuf.specs.declared.error.WireError.{WireError}
use Rattle.warg_protobuf.specs.declared.error.WireError.TheVariants as errors
use Rattle.warg_protobuf.specs.Reading.{Fails}
use Rattle.warg_protobuf.specs.Varint.{IsGroups, IsVarint, varint_in, varint_at, varint_bytes_in, varint_bytes}
use Rattle.warg_protobuf.specs.Faults.{BeginsWith, AllGoOn, VarintFault}
use Rattle.warg_protobuf.specs.Faults.VarintFault.{ends, tenth}
use Rattle.warg_protobuf.proofs.Readers.{Stands, IsReader, read_on}

-- ---- the recursion that reads

one_le : (more : ℕ) → 1 ≤ 128 ^ more
one_le more = one-le-pow more 128 (omega arith)

pub high_fits : (more high : ℕ) → more ≢ 0 → more < 10 → high < 2 * 128 ^ (more - 1)
    → (128 * high + 128 ≤ 2 * 128 ^ more) × (128 * high + 128 ≤ 2 ^ 64)
high_fits zero high ne lt below = absurd (ne refl)
high_fits (suc more) high ne lt below =
    let le : more ≤ 8 = omega arith in
    let top : 128 ^ more ≤ 2 ^ 56 = pow-le-pow_right {n = 128} (omega arith) le in
    grind (arith, pow-succ' 128 more, sub-one)

pub high_fails : (e : WireError) (more : ℕ) (bytes : List ℕ) → more ≢ 0 → 1 ≤ length bytes → 128 ≤ get_or bytes 0 0
    → Fails e (varint_in (more - 1) (drop 1 bytes)) → Fails e (varint_in more bytes)
unfolding varint_in
high_fails e more bytes ne long le h = grind arith

pub low_fits : (more : ℕ) → more ≢ 0 → 128 ≤ 128 ^ more
low_fits zero ne = absurd (ne refl)
low_fits (suc more) ne = omega (arith, pow-succ' 128 more, one_le more)

-- ---- the loop that writes

-- what is written already, and what is still written
abbrev pub Writes : List ℕ → ℕ → List ℕ → Type 0
Writes out left total = (more : ℕ) × (left < 128 * 128 ^ more) × (out ++ varint_bytes_in more left ≡ total)

pub writes_more : (out : List ℕ) (left : ℕ) (total : List ℕ) → 128 ≤ left → Writes out left total
    → Writes (out ++ (left % 128 + 128) ∷ []) (left / 128) total
unfolding varint_bytes_in
writes_more out left total le (zero, below, so_far) = absurd (omega arith)
writes_more out left total le (suc more, below, so_far) =
    let x = pow-succ' 128 more in
    (more, omega arith, rw append_assoc (rw (le-ltb left 128 le) at so_far))

-- ---- what stands at the front

groups_more : (b : ℕ) (text : List ℕ) (n high : ℕ) → 128 ≤ b → n ≡ b % 128 + 128 * high → IsGroups text high
    → IsGroups (b ∷ text) n
groups_more b text n high le eq g = grind arith

-- The bytes spell the number, in at most `1 + more` bytes.
record IsNumberIn (more : ℕ) (bytes : List ℕ) (n : ℕ) : Type 0 where
  pub groups : IsGroups bytes n
  pub short : length bytes ≤ suc more
  pub below : n < 2 * 128 ^ more

-- why no number of at most `1 + more` bytes stands at the front
data VarintFaultIn (more : ℕ) (bytes : List ℕ) : WireError → Type 0 where
  ends_in : length bytes < suc more → AllGoOn bytes → VarintFaultIn more bytes errors.Truncated
  last_in : (front rest : List ℕ) (b : ℕ) → length front ≡ more → AllGoOn front → 2 ≤ b → bytes ≡ front ++ b ∷ rest
      → VarintFaultIn more bytes errors.BadVarint

abbrev StandsIn : ℕ → List ℕ → Result (ℕ × List ℕ) WireError → Type 0
StandsIn more bytes r = Stands (IsNumberIn more) (VarintFaultIn more) bytes r

-- a last byte is a number by itself
one_byte : (more b : ℕ) (rest : List ℕ) → b < 128 → b < 2 * 128 ^ more → BeginsWith (IsNumberIn more) (b ∷ rest) b rest
one_byte more b rest last below =
    record {
      front = b ∷ [];
      spelled = record { groups = (last, refl); short = omega arith; below = below };
      parts = refl;
    }

-- a byte that goes on moves the fault one byte back
goes_on : (more b : ℕ) (bytes : List ℕ) (e : WireError) → 128 ≤ b → VarintFaultIn more bytes e
    → VarintFaultIn (suc more) (b ∷ bytes) e
goes_on more b bytes e le (ends_in short on) = ends_in (omega arith) (le, on)
goes_on more b bytes e le (last_in front rest last long on above parts) = last_in (b ∷ front) rest last (omega arith)
    (le, on) above cc

varint_stands_in : (more : ℕ) (bytes : List ℕ) → StandsIn more bytes (varint_in more bytes)
unfolding varint_in
varint_stands_in zero [] = ends_in (omega arith) tt
varint_stands_in (suc more) [] = ends_in (omega arith) tt
varint_stands_in zero (b ∷ bytes) =
    elim (cases_lt b 2) [
      | inl lt ↦ rw (lt-ltb b 2 lt) (one_byte 0 b bytes (omega arith) (omega arith))
      | inr le ↦ rw (le-ltb b 2 le) (last_in [] bytes b refl tt le refl)
    ]
varint_stands_in (suc more) (b ∷ bytes) =
    let power = pow-succ' 128 more in
    let some = one_le more in
    elim (cases_lt b 128) [
      | inl lt ↦ rw (lt-ltb b 128 lt) (one_byte (suc more) b bytes lt (omega arith))
      | inr le ↦
          rw (le-ltb b 128 le) (read_on (IsNumberIn more) (VarintFaultIn more) bytes (StandsIn (suc more) (b ∷ bytes))
          (varint_in more bytes) (λ high. Ok (b % 128 + 128 * high.0, high.1)) (varint_stands_in more bytes)
          (λ high rest s. record {
            front = b ∷ s.front;
            spelled = record {
              groups = groups_more b s.front (b % 128 + 128 * high) high le refl s.spelled.groups;
              short = omega (arith, s.spelled.short);
              below = omega (arith, s.spelled.below);
            };
            parts = ap (λ (l : List ℕ). b ∷ l) s.parts;
          }) (λ e f. goes_on more b bytes e le f))
    ]

-- ten bytes at most
varint_stands : (bytes : List ℕ) (r : Result (ℕ × List ℕ) WireError) → StandsIn 9 bytes r
    → Stands IsVarint VarintFault bytes r
varint_stands bytes (Ok x) s = record {
  front = s.front;
  spelled = record {
    groups = s.spelled.groups;
    short = omega (arith, s.spelled.short);
    fits = omega (arith, s.spelled.below);
  };
  parts = s.parts;
}
varint_stands bytes (Err e) (ends_in short on) = ends short on
varint_stands bytes (Err e) (last_in front rest b long on above parts) = tenth front rest b long on above parts

-- ---- what stands there is read

varint_again_in : (more : ℕ) (text : List ℕ) (n : ℕ) (rest : List ℕ) → IsGroups text n → length text ≤ suc more
    → n < 2 * 128 ^ more → varint_in more (text ++ rest) ≡ Ok (n, rest)
unfolding varint_in
varint_again_in more [] n rest g short below = absurd g
varint_again_in zero (b ∷ []) n rest g short below = grind arith
varint_again_in zero (b ∷ c ∷ text) n rest g short below = absurd (omega arith)
varint_again_in (suc more) (b ∷ []) n rest g short below = grind arith
varint_again_in (suc more) (b ∷ c ∷ text) n rest g short below =
    grind (arith, pow-succ' 128 more, varint_again_in more (c ∷ text) g.1 rest g.3)

-- each fault is the one that reading names
ends_read : (more : ℕ) (bytes : List ℕ) → length bytes < suc more → AllGoOn bytes → varint_in more bytes
    ≡ Err errors.Truncated
unfolding varint_in
ends_read zero [] short on = refl
ends_read (suc more) [] short on = refl
ends_read zero (b ∷ bytes) short on = absurd (omega arith)
ends_read (suc more) (b ∷ bytes) short on = rw (le-ltb b 128 on.0, ends_read more bytes (omega arith) on.1) refl

last_read : (more : ℕ) (front rest : List ℕ) (b : ℕ) → length front ≡ more → AllGoOn front → 2 ≤ b
    → varint_in more (front ++ b ∷ rest) ≡ Err errors.BadVarint
unfolding varint_in
last_read zero [] rest b long on above = grind arith
last_read (suc more) [] rest b long on above = grind arith
last_read zero (c ∷ front) rest b long on above = grind arith
last_read (suc more) (c ∷ front) rest b long on above = grind (arith, last_read more front rest b)

fault_varint : (bytes : List ℕ) (e : WireError) → VarintFault bytes e → varint_at bytes ≡ Err e
unfolding varint_at
fault_varint bytes e (ends short on) = ends_read 9 bytes short on
fault_varint bytes e (tenth nine rest b long on above parts) = rw (parts, last_read 9 nine rest b long on above) refl

pub varint_not_empty : (text : List ℕ) (n : ℕ) → IsVarint text n → 0 < length text
varint_not_empty text n v = grind (arith, common_steps)

pub varints : IsReader varint_at IsVarint VarintFault
unfolding varint_at
varints = record {
  reads = λ bytes. varint_stands bytes (varint_in 9 bytes) (varint_stands_in 9 bytes);
  again = λ text n rest v. varint_again_in 9 text n rest v.groups (omega (arith, v.short)) (omega (arith, v.fits));
  fails = fault_varint;
  not_empty = varint_not_empty;
}

-- ---- what is written

varint_bytes_is_in : (more n : ℕ) → n < 2 * 128 ^ more
    → IsGroups (varint_bytes_in more n) n × (length (varint_bytes_in more n) ≤ suc more)
unfolding varint_bytes_in
varint_bytes_is_in zero n below = ((omega arith, refl), omega arith)
varint_bytes_is_in (suc more) n below = grind (
  arith,
  pow-succ' 128 more,
  varint_bytes_is_in more (n / 128),
  groups_more,
)

pub varint_bytes_is : (n : ℕ) → n < 2 ^ 64 → IsVarint (varint_bytes n) n
unfolding varint_bytes
varint_bytes_is n lt = let h = varint_bytes_is_in 9 n (omega arith) in
    record { groups = h.0; short = omega (arith, h.1); fits = lt }

varint_shortest_in : (more n : ℕ) (other : List ℕ) → n < 2 * 128 ^ more → IsGroups other n
    → length (varint_bytes_in more n) ≤ length other
unfolding varint_bytes_in
varint_shortest_in more n [] below g = absurd g
varint_shortest_in zero n (b ∷ other) below g = omega arith
varint_shortest_in (suc more) n (b ∷ []) below g = grind arith
varint_shortest_in (suc more) n (b ∷ c ∷ other) below g =
    grind (arith, pow-succ' 128 more, varint_shortest_in more g.1 (c ∷ other), g.2, g.3)

pub varint_shortest : (n : ℕ) (other : List ℕ) → IsVarint other n → length (varint_bytes n) ≤ length other
unfolding varint_bytes
varint_shortest n other v = varint_shortest_in 9 n other (omega (arith, v.fits)) v.groups
