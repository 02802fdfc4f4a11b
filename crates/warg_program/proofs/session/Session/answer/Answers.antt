use Rattle.std.proofs.Common.{◌≡◌, ◌∷◌, codes, option_map, None, refl}
use Rattle.warg_program.specs.Orders.{order_of}
use Rattle.warg_program.specs.Words.{words_left}
use Rattle.warg_program.proofs.WordLemmas.{command_line, other_line}
use Rattle.warg_program.proofs.session.Session.answer.Goals as goal

pub returns-then-is_same : goal.returns-then-is_same
unfolding order_of
returns-then-is_same g c = rw (command_line _ _ (codes "push") _ c.if-is_empty.ensures c.split_first.ensures
    c.if-is_same.ensures) c.push.ensures

pub returns-then-is_same-2 : goal.returns-then-is_same-2
unfolding order_of
returns-then-is_same-2 g c = rw (command_line _ _ (codes "log") _ c.if-is_empty.ensures c.split_first.ensures
    c.if-is_same-2.ensures) c.checkpoint.ensures

pub returns-then-is_same-3 : goal.returns-then-is_same-3
unfolding order_of
returns-then-is_same-3 g c = rw (command_line _ _ (codes "include") _ c.if-is_empty.ensures c.split_first.ensures
    c.if-is_same-3.ensures) c.include.ensures

pub returns-then-is_same-4 : goal.returns-then-is_same-4
unfolding order_of
returns-then-is_same-4 g c = rw (command_line _ _ (codes "consistent") _ c.if-is_empty.ensures c.split_first.ensures
    c.if-is_same-4.ensures) c.consistent.ensures

pub returns-then-is_same-5 : goal.returns-then-is_same-5
unfolding order_of
returns-then-is_same-5 g c = rw (command_line _ _ (codes "bundle") _ c.if-is_empty.ensures c.split_first.ensures
    c.if-is_same-5.ensures) c.bundle.ensures

pub returns-then-is_same-6 : goal.returns-then-is_same-6
unfolding order_of
returns-then-is_same-6 g c = rw (command_line _ _ (codes "verify") _ c.if-is_empty.ensures c.split_first.ensures
    c.if-is_same-6.ensures) c.verify.ensures

pub returns-then-is_same-7 : goal.returns-then-is_same-7
unfolding order_of
returns-then-is_same-7 g c = rw (command_line _ _ (codes "insert") _ c.if-is_empty.ensures c.split_first.ensures
    c.if-is_same-7.ensures) c.insert.ensures

pub returns-then-is_same-8 : goal.returns-then-is_same-8
unfolding order_of
returns-then-is_same-8 g c = rw (command_line _ _ (codes "map") _ c.if-is_empty.ensures c.split_first.ensures
    c.if-is_same-8.ensures) c.map_root.ensures

pub returns-then-is_same-9 : goal.returns-then-is_same-9
unfolding order_of
returns-then-is_same-9 g c = rw (command_line _ _ (codes "prove") _ c.if-is_empty.ensures c.split_first.ensures
    c.if-is_same-9.ensures) c.prove.ensures

pub returns-then-is_same-10 : goal.returns-then-is_same-10
unfolding order_of
returns-then-is_same-10 g c = rw (command_line _ _ (codes "absent") _ c.if-is_empty.ensures c.split_first.ensures
    c.if-is_same-10.ensures) c.absent.ensures

pub returns-else-is_same-10 : goal.returns-else-is_same-10
unfolding order_of
returns-else-is_same-10 g c =
    let none : order_of (c.split_first.result.0.now ∷ words_left (option_map (λ rest. rest.now) c.split_first.result.1))
    ≡ None =
    rw (
      ← c.if-is_same.ensures,
      ← c.if-is_same-2.ensures,
      ← c.if-is_same-3.ensures,
      ← c.if-is_same-4.ensures,
      ← c.if-is_same-5.ensures,
      ← c.if-is_same-6.ensures,
      ← c.if-is_same-7.ensures,
      ← c.if-is_same-8.ensures,
      ← c.if-is_same-9.ensures,
      ← c.if-is_same-10.ensures,
    ) refl in
    (other_line _ _ _ c.if-is_empty.ensures c.split_first.ensures none, refl)
