use Rattle.std.proofs.Common.{◌≡◌, ◌<◌, length, ℕ, List, [], ◌∷◌, ◌++◌, refl, append_assoc, arith}
use Rattle.std.proofs.lemmas.Result.{err_from_is_err_and}
use Rattle.warg_protobuf.specs.Private.Taking.{Adds}
use Rattle.warg_protobuf.specs.Schema.{is_uint32, packed_uint32s}
use Rattle.warg_protobuf.proofs.Readers.{found, shorter, Fails-then, Fails-outcome}
use Rattle.warg_protobuf.proofs.Varints.{varints}
use Rattle.warg_protobuf.proofs.Loops.{Collects-next, Collects-fails, Collects-done}
use Rattle.warg_protobuf.proofs.field.add_packed.Goals as goal

pub returns-in_err-number : goal.returns-in_err-number
unfolding packed_uint32s
returns-in_err-number g c =
    let p = err_from_is_err_and c.from_residual.result c.from_residual.ensures.1 in
    let left : 0 < length c.loop-rest.rest.now = grind arith in
    let met = Fails-then _ _ (λ x. is_uint32 x.0) c.in_err-number.ensures in
    rw (p.1, p.2) (Fails-outcome _ _ (Collects-fails is_uint32 varints _ _ _ _ c.loop-rest.invariant _ left met))

pub returns-in_err-add_uint32 : goal.returns-in_err-add_uint32
unfolding packed_uint32s
returns-in_err-add_uint32 g c =
    let p = err_from_is_err_and c.from_residual-in_err-add_uint32.result c.from_residual-in_err-add_uint32.ensures.1 in
    let left : 0 < length c.loop-rest.rest.now = grind arith in
    rw (p.1, p.2) (Fails-outcome _ _ (Collects-fails is_uint32 varints _ _ _ _ c.loop-rest.invariant _ left
    (rw c.in_ok-number.ensures c.in_err-add_uint32.ensures)))

pub loop-rest-smaller : goal.loop-rest-smaller
loop-rest-smaller g c = shorter varints _ _ _
    (found varints c.loop-rest.rest.now c.in_ok-number.number c.in_ok-number.after.now c.in_ok-number.ensures)

pub loop-rest-preserved : goal.loop-rest-preserved
loop-rest-preserved g c =
    let adds : Adds (λ (ns : List ℕ). c.args.numbers.now.items ++ ns) (λ ns n. ns ++ n ∷ []) =
    record { push = λ ns n. simp append_assoc } in
    Collects-next is_uint32 varints _ _ _ _ c.loop-rest.invariant _ adds c.in_ok-number.number c.in_ok-number.after.now
    _ c.in_ok-number.ensures c.in_ok-add_uint32.ensures

pub returns : goal.returns
unfolding packed_uint32s
returns g c =
    let none : length c.loop-rest.rest.now ≡ 0 = grind arith in
    let d = Collects-done is_uint32 varints _ _ _ _ c.loop-rest.invariant none in
    (rw d.1 refl, rw d.1 d.2)
