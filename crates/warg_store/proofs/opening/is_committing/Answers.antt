use Rattle.std.proofs.Common.{◌≡◌, ℕ, Vec, Global, false, Option, Some, None, refl, sym, ap, ◌∙◌}
use Rattle.std.specs.Prelude.{option_map, is_some}
use Rattle.warg_folder.specs.Names.{mark}
use Rattle.warg_folder.proofs.ForCallers.{apart, read_none}
use Rattle.warg_store.proofs.opening.is_committing.Goals as goal

isnt_some : {X : Type 0} (o : Option X) → is_some o ≡ false → o ≡ None
isnt_some None isnt = refl
isnt_some (Some x) isnt = absurd (apart isnt)

none_read : {X Y : Type 0} (f : X → Y) (o : Option X) → option_map f o ≡ None → is_some o ≡ false
none_read f None none = refl
none_read f (Some x) none = cc

pub returns-clause-stands : goal.returns-clause-stands
returns-clause-stands g c = λ faithful.
    let found = c.in_ok-read.ensures.found faithful in
    let bytes = λ (v : Vec ℕ Global). v.items in (
      λ isnt. read_none (g.F.Folder.seen c.args.folder.now mark) 0
          (sym (ap (option_map bytes) (isnt_some c.in_ok-read.field-0 (sym c.is_some.ensures ∙ isnt))) ∙ found),
      λ none. c.is_some.ensures ∙ none_read bytes c.in_ok-read.field-0 (found ∙ ap (option_map _) none),
    )
