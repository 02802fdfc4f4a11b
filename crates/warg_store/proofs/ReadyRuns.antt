-- Runs over a folder that is ready for the next commit.
use Rattle.std.proofs.Common.{◌≡◌, ℕ, List, refl, ◌∙◌, ◌≤◌}
use Rattle.warg_folder.proofs.ForCallers.{leaves_then, in_end}
use Rattle.warg_folder.specs.Files.{Files, put}
use Rattle.warg_folder.specs.Moments.{Follows, LeavesOnly, Within}
use Rattle.warg_folder.specs.Names.{state}
use Rattle.warg_folder.specs.Commits.{IsBeside, IsStaging}

beside_then : (s m c : Files) → IsBeside s m → IsBeside m c → IsBeside s c
beside_then s m c one two = record {
  outside = λ n isnt. two.outside n isnt ∙ one.outside n isnt;
  no_mark = two.no_mark;
}

-- two runs that stage, the second after the first
pub stages_twice : {D : Type 0} {seen : D → Files} {may_leave : D → Files → Type 0} {moment : D → ℕ}
    {left_since : D → ℕ → Files → Type 0} {old mid new : D}
    → ((folder : D) (t : ℕ) (c : Files) → t ≤ moment folder → may_leave folder c → left_since folder t c)
    → ((folder : D) → may_leave folder (seen folder))
    → LeavesOnly moment left_since old mid (IsBeside (seen old))
    → LeavesOnly moment left_since mid new (IsBeside (seen mid))
    → LeavesOnly moment left_since old new (IsBeside (seen old))
stages_twice {D} {seen} {may_leave} {moment} {left_since} {old} {mid} {new} counts stays one two =
    let P = IsBeside (seen old) in
    let now : P (seen mid) = in_end moment left_since may_leave counts old mid P one (seen mid) (stays mid) in
    leaves_then moment left_since old mid new P (IsBeside (seen mid)) P one two (λ c is. is)
    (λ c. beside_then (seen old) (seen mid) c now)

-- a folder whose state is put stays ready
pub state_staging : (bytes : List ℕ) (s t : Files) (may now : Files → Type 0) → t ≡ put (state, bytes) s
    → Follows (λ old new. new ≡ put (state, bytes) old) may now → IsStaging s may → IsStaging t now
state_staging bytes s t may now is follows staging c left =
    let from = follows c left in
    let was = staging from.0 from.1 in
    rw (from.2, is) (record { outside = λ n isnt. rw (was.outside n isnt) refl; no_mark = was.no_mark })

-- a call that changes nothing keeps a folder ready
pub staging_kept : (s t : Files) (may may_now : Files → Type 0) → t ≡ s → Within may may_now → IsStaging s may
    → IsStaging t may_now
staging_kept s t may may_now same within was c left = rw same (was c (within c left))
