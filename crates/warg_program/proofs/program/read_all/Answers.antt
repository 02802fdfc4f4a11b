use Rattle.std.proofs.Common.{◌≡◌, ℕ, ◌<◌, List, [], ◌++◌, length, take, IfSome, Option, sym, arith, append-nil, subst}
use Rattle.std.specs.Io.KnownBytes.{Consumes, IsAtEnd}
use Rattle.std.proofs.KnownBytes.{Consumes-trans, Consumes-whole}
use Rattle.warg_program.proofs.program.read_all.Goals as goal

-- a read of no bytes, at the end
all_read : (old mid new : Option (List ℕ)) (bytes buffer : List ℕ) (n : ℕ) → Consumes old mid bytes
    → Consumes mid new (take n buffer) → n ≡ 0 → IsAtEnd new
    → IfSome old (λ input. bytes ≡ input)
all_read old mid new bytes buffer n before last none end =
    let last_none : Consumes mid new [] = subst (λ (k : ℕ). Consumes mid new (take k buffer)) none last in
    Consumes-whole old new (bytes ++ []) (λ input. bytes ≡ input) (Consumes-trans old mid new bytes [] before last_none)
    end (sym (append-nil bytes))

pub returns-in-Ok-eq0-clause-bytes : goal.returns-in-Ok-eq0-clause-bytes
returns-in-Ok-eq0-clause-bytes g c =
    let read = c.in-Ok-eq0.ensures.bytes in
    let room : 0 < length c.read.new.buf = omega (arith, c.read.auto.buf) in
    all_read _ _ _ _ _ _ c.loop.invariant read.0 c.in-Ok-eq0.field-0-test (read.1 c.in-Ok-eq0.field-0-test room)

pub loop-preserved : goal.loop-preserved
loop-preserved g c =
    rw c.in_ok-extend_from_slice-in-Ok.ensures.items (Consumes-trans _ _ _ _ _ c.loop.invariant c.in-Ok.ensures.bytes.0)
