-- What a crash leaves within a commit.
use Rattle.std.proofs.Common.{◌≡◌, ◌≢◌, ◌⊎◌, inl, inr, ⊎_elim, ℕ, List, true, false, Option, Some, None, IsSome, map, refl, sym, ap, ◌∙◌, subst, string_bytes}
use mathlib.Core.Path.{fun_ext}
use Rattle.std.specs.Option.{option_or}
use Rattle.std.specs.List.{All, Contains}
use Rattle.std.proofs.lemmas.Bool.{cases_Bool}
use Rattle.std.proofs.lemmas.List.Elements.{All-contains, All-map}
use Rattle.std.specs.declared.string.String.{String}
use Rattle.std.specs.declared.alloc.Global.{Global}
use Rattle.warg_folder.specs.Files.{Files, put, without, moved, Either}
use Rattle.warg_folder.specs.Names.{checkpoint, state, mark, staged, is_staged, is_own, is_served}
use Rattle.warg_folder.specs.Commits.{without_staged, is_signed, checkpoint_after, told, published, finished, opened, committed, IsBeside, IsStaging, IsBetween}
use Rattle.warg_folder.specs.Private.Steps.{IsRemoving, IsMoving, IsPut}
use Rattle.warg_folder.proofs.ForCallers.{one_name, apart, not_staged, mark_not_staged_file, served_apart_staged, staged_once, put_apart, without_here, without_apart, without_either, moved_to, moved_from, moved_apart, told_apart, opened_served, unmarked}

-- the same but for what is staged
pub without_same : (c s : Files) → ((n : List ℕ) → is_staged n ≡ false → c n ≡ s n)
    → without_staged c ≡ without_staged s
without_same c s same = fun_ext
    (λ n. elim (cases_Bool (is_staged n)) [ inl is ↦ rw is refl | inr isnt ↦ rw isnt (same n isnt) ])

-- another name than a staged one
other_than : (m n : List ℕ) → is_staged m ≡ true → is_staged n ≡ false → m ≢ n
other_than m n is isnt e = apart (sym is ∙ ap is_staged e ∙ isnt)

other_than_served : (m n : List ℕ) → is_served m ≡ true → is_served n ≡ false → m ≢ n
other_than_served m n is isnt e = apart (sym is ∙ ap is_served e ∙ isnt)

-- a file is there or not
none_or_some : (o : Option (List ℕ)) → (o ≡ None) ⊎ IsSome o
none_or_some None = inl refl
none_or_some (Some bytes) = inr refl

-- one that is there is chosen
chosen : (o p : Option (List ℕ)) → IsSome o → o ≡ option_or o p
chosen None p some = absurd (apart (sym some))
chosen (Some bytes) p some = refl

-- Staging.

pub beside_opened : (s c : Files) → s mark ≡ None → IsBeside s c → opened c ≡ opened s
beside_opened s c none was = rw (was.no_mark, none) (without_same c s was.outside)

-- Removing.

-- a file that is not there stays away
pub none_stays : (d t : Files) (name n : List ℕ) → t ≡ without name d → d n ≡ None → t n ≡ None
none_stays d t name n is none = rw is (⊎_elim (λ same. same ∙ none) (λ gone. gone) (without_either name d n))

pub removed_one : (s d : Files) (name : List ℕ) → is_staged name ≡ true → IsRemoving s d → IsRemoving s (without name d)
removed_one s d name is was = record {
  outside = λ n isnt. without_apart name d n (other_than name n is isnt) ∙ was.outside n isnt;
  mark = elim (without_either name d mark) [
    | inl same ↦ rw same (⊎_elim inl
        (λ (e, gone). inr (e, λ n served. none_stays d _ name (staged n) refl (gone n served))) was.mark)
    | inr none ↦ inl none
  ];
}

-- where each listed file is gone, and each staged one was listed, none is staged
pub all_removed : (s t : Files) (names : List (String Global)) → ((n : List ℕ) → is_staged n ≡ false → t n ≡ s n)
    → All (λ name. t (string_bytes name) ≡ None) names
    → ((n : List ℕ) → (t n ≡ s n) ⊎ (t n ≡ None))
    → ((n : List ℕ) → IsSome (s n) → is_staged n ≡ true → Contains (map (λ name. string_bytes name) names) n)
    → t ≡ without_staged s
all_removed s t names outside gone fewer listed = fun_ext (λ n. elim (cases_Bool (is_staged n)) [
  | inl is ↦ rw is (⊎_elim
      (λ same. ⊎_elim (λ none. same ∙ none)
      (λ some. All-contains (λ m. t m ≡ None) (map (λ name. string_bytes name) names) n
      (All-map (λ m. t m ≡ None) (λ name. string_bytes name) names gone) (listed n some is)) (none_or_some (s n)))
      (λ none. none) (fewer n))
  | inr isnt ↦ rw isnt (outside n isnt)
])

-- Moving.

pub unmoved : (s c : Files) → c ≡ s → IsMoving s c
unmoved s c same = rw same (record { outside = λ n isnt other. refl; mark = refl; each = λ n is. inl (refl, refl) })

-- what stands at a name and what is staged, x and y, are the old ones, a and b, or the staged one has been moved
abbrev AreAt : (x y a b : Option (List ℕ)) → Type 0
AreAt x y a b = ((x ≡ a) × (y ≡ b)) ⊎ ((x ≡ b) × (y ≡ None) × IsSome b)

-- and so are they once it is moved
at_move : (x y a b : Option (List ℕ)) → AreAt x y a b → AreAt (option_or y x) None a b
at_move x None a b (inl r) = inl r
at_move x (Some bytes) a b (inl r) = inr (r.1, refl, subst IsSome r.1 refl)
at_move x None a b (inr r) = inr r
at_move x (Some bytes) a b (inr r) = cc

pub moved_one : (s d : Files) (to : List ℕ) → is_served to ≡ true → IsMoving s d → IsMoving s (moved (staged to) to d)
moved_one s d to is was = record {
  outside = λ n isnt other. moved_apart (staged to) to d n (other_than_served to n is other)
      (other_than (staged to) n refl isnt) ∙ was.outside n isnt other;
  mark = moved_apart (staged to) to d mark (other_than_served to mark is refl) (mark_not_staged_file to is) ∙ was.mark;
  each = λ n served. elim (one_name to n) [
    | inl (t, here) ↦ rw (← here)
        (rw (moved_to (staged to) to d, moved_from (staged to) to d (served_apart_staged to to is))
        (at_move _ _ _ _ (was.each to is)))
    | inr (f, another) ↦ rw (
      moved_apart (staged to) to d n another (λ here. served_apart_staged n to served (sym here)),
      moved_apart (staged to) to d (staged n) (served_apart_staged to n is) (λ here. another (staged_once to n here)),
    ) (was.each n served)
  ];
}

-- Opening.

-- folders with the same commit that stands are opened alike, where its files are published alike and the checkpoint
-- comes to the same
pub opened_alike : (c s : Files) (text : List ℕ) → c mark ≡ Some text → s mark ≡ Some text
    → checkpoint_after text (c checkpoint) ≡ checkpoint_after text (s checkpoint)
    → ((n : List ℕ) → is_staged n ≡ false → checkpoint ≢ n → state ≢ n → published c n ≡ published s n)
    → opened c ≡ opened s
opened_alike c s text stands_c stands_s signed same =
    rw (stands_c, stands_s) (without_same (finished text c) (finished text s) at)
  where
    at : (n : List ℕ) → is_staged n ≡ false → finished text c n ≡ finished text s n
    at n isnt = elim (one_name checkpoint n) [
      | inl t ↦ rw t.0 signed
      | inr f ↦ rw f.0 (elim (one_name state n) [ inl t ↦ rw t.0 refl | inr g ↦ rw g.0 (same n isnt f.1 g.1) ])
    ]

-- a name's file is published alike where it and what is staged for it are alike
published_alike : (c s : Files) (n : List ℕ) → c n ≡ s n → c (staged n) ≡ s (staged n) → published c n ≡ published s n
published_alike c s n here there = rw (here, there)

published_moving : (s c : Files) (n : List ℕ) → IsMoving s c → is_staged n ≡ false → published c n ≡ published s n
published_moving s c n was isnt = elim (cases_Bool (is_served n)) [
  | inl is ↦ rw is (⊎_elim (λ (same, there). rw (same, there) refl)
      (λ (same, none, some). rw (none, same) (chosen (s (staged n)) (s n) some)) (was.each n is))
  | inr other ↦ rw other (was.outside n isnt other)
]

pub moving_opened : (s c : Files) (text : List ℕ) → s mark ≡ Some text → IsMoving s c → opened c ≡ opened s
moving_opened s c text stands was = opened_alike c s text (was.mark ∙ stands) stands
    (ap (checkpoint_after text) (was.outside checkpoint refl refl)) (λ n isnt a b. published_moving s c n was isnt)

pub moving_between : (s c : Files) (text : List ℕ) → s mark ≡ Some text → IsMoving s c → IsBetween s (opened s) c
moving_between s c text stands was = record {
  stands_for = inr (moving_opened s c text stands was);
  each = λ n out. elim (cases_Bool (is_served n)) [
    | inl is ↦ ⊎_elim (λ (same, there). inl same)
        (λ (same, none, some). inr (same ∙ chosen (s (staged n)) (s n) some ∙ sym (opened_served s text n stands is)))
        (was.each n is)
    | inr other ↦ inl (was.outside n (not_staged n out) other)
  ];
  state = inl (was.outside state refl refl);
  whole = inl (was.outside checkpoint refl refl);
}

-- with the state's text in its place already
pub state_put : (s t c : Files) (text : List ℕ) → c mark ≡ Some text → t state ≡ Some text → IsBetween s t c
    → IsBetween s t (put (state, text) c)
state_put s t c text stands says was = record {
  stands_for = ⊎_elim (λ (e, same). inl (alike ∙ e, λ n out. here n out ∙ same n out))
      (λ e. inr (alike ∙ e)) was.stands_for;
  each = λ n out. ⊎_elim (λ e. inl (here n out ∙ e)) (λ e. inr (here n out ∙ e)) (was.each n out);
  state = inr (sym says);
  whole = ⊎_elim (λ e. inl e) (λ all. inr (λ n out. here n out ∙ all n out)) was.whole;
}
  where
    here : (n : List ℕ) → is_own n ≡ false → put (state, text) c n ≡ c n
    here n out = put_apart (state, text) c n (λ e. apart (ap is_own e ∙ out))

    alike : opened (put (state, text) c) ≡ opened c
    alike = opened_alike (put (state, text) c) c text stands stands refl
        (λ n isnt a b. published_alike (put (state, text) c) c n (put_apart (state, text) c n b) refl)

-- A commit that is done but for what is staged: its text is the state's and the checkpoint's, or another is signed, and
-- its files are at their names.
pub record IsDone (text : List ℕ) (s : Files) : Type 0 where
  pub stands : s mark ≡ Some text
  pub state : s state ≡ Some text
  pub checkpoint : checkpoint_after text (s checkpoint) ≡ s checkpoint
  pub gone : (n : List ℕ) → is_served n ≡ true → s (staged n) ≡ None

pub done_opened : (s : Files) (text : List ℕ) → IsDone text s → opened s ≡ without_staged s
done_opened s text done = rw done.stands (without_same (finished text s) s at)
  where
    at : (n : List ℕ) → is_staged n ≡ false → finished text s n ≡ s n
    at n isnt = elim (one_name checkpoint n) [
      | inl t ↦ rw (← t.1) done.checkpoint
      | inr f ↦ rw f.0 (elim (one_name state n) [
        | inl t ↦ rw (← t.1) (sym done.state)
        | inr g ↦ rw g.0 (elim (cases_Bool (is_served n))
            [ inl is ↦ rw (is, done.gone n is) refl | inr other ↦ rw other refl ])
      ])
    ]

pub done_removing : (s : Files) (text : List ℕ) → IsDone text s → IsRemoving s s
done_removing s text done = record { outside = λ n isnt. refl; mark = inr (refl, done.gone) }

pub removing_opened : (s c : Files) (text : List ℕ) → IsDone text s → IsRemoving s c → opened c ≡ opened s
removing_opened s c text done was = elim was.mark [
  | inl none ↦ rw (none, done_opened s text done) (without_same c s was.outside)
  | inr (same, gone) ↦ opened_alike c s text (same ∙ done.stands) done.stands
      (ap (checkpoint_after text) (was.outside checkpoint refl)) (λ n isnt a b. elim (cases_Bool (is_served n)) [
        | inl is ↦ rw (is, gone n is, done.gone n is) (was.outside n isnt)
        | inr other ↦ rw other (was.outside n isnt)
      ])
]

pub removing_between : (s d c : Files) (text : List ℕ) → IsDone text d → opened d ≡ opened s → IsRemoving d c
    → IsBetween s (opened s) c
removing_between s d c text done same was = record {
  stands_for = inr (removing_opened d c text done was ∙ same);
  each = λ n out. inr (now n (not_staged n out));
  state = inr (now state refl);
  whole = inr (λ n out. now n (not_staged n out));
}
  where
    now : (n : List ℕ) → is_staged n ≡ false → c n ≡ opened s n
    now n isnt = rw (← same, done_opened d text done, isnt) (was.outside n isnt)

-- Committing.

pub beside_between : (s t c : Files) → s mark ≡ None → IsBeside s c → IsBetween s t c
beside_between s t c none was = record {
  stands_for = inl (beside_opened s c none was, λ n out. was.outside n (not_staged n out));
  each = λ n out. inl (was.outside n (not_staged n out));
  state = inl (was.outside state refl);
  whole = inl (was.outside checkpoint refl);
}

-- while files are staged, a crash leaves files between the old ones and any others
pub staging_between : (s t : Files) (may : Files → Type 0) → may s → IsStaging s may → (c : Files) → may c
    → IsBetween s t c
staging_between s t may now staging c left = beside_between s t c (staging s now).no_mark (staging c left)

pub marked_between : (s : Files) (text : List ℕ) → IsBetween s (committed text s) (put (mark, text) s)
marked_between s text = record {
  stands_for = inr refl;
  each = λ n out. inl (unmarked s text n out);
  state = inl refl;
  whole = inl refl;
}

pub from_unmarked : (s c : Files) (text : List ℕ) → IsBetween (put (mark, text) s) (committed text s) c
    → IsBetween s (committed text s) c
from_unmarked s c text was = record {
  stands_for = inr (⊎_elim (λ (e, same). e) (λ e. e) was.stands_for);
  each = λ n out. ⊎_elim (λ e. inl (e ∙ unmarked s text n out)) (λ e. inr e) (was.each n out);
  state = was.state;
  whole = ⊎_elim (λ e. inl e) (λ all. inr all) was.whole;
}

-- Where no commit stands.

pub idle_between : (s t c : Files) → s mark ≡ None → IsRemoving s c → IsBetween s t c
idle_between s t c none was = beside_between s t c none
    (record { outside = was.outside; no_mark = ⊎_elim (λ e. e) (λ (same, gone). same ∙ none) was.mark })

-- Putting the text.

pub first_put : (text : List ℕ) (s d c : Files) → d ≡ s → Either (put (state, text)) d c → IsPut text s c
first_put text s d c was (inl same) = inl (same ∙ was)
first_put text s d c was (inr put_) = inr (inl (put_ ∙ ap (put (state, text)) was))

-- the checkpoint after a text, twice
after_twice : (text : List ℕ) (o : Option (List ℕ)) → checkpoint_after text (checkpoint_after text o)
    ≡ checkpoint_after text o
after_twice text o = elim (cases_Bool (is_signed o)) [
  | inl is ↦ rw is (rw is refl)
  | inr isnt ↦ rw isnt (elim (cases_Bool (is_signed (Some text))) [ inl is ↦ rw is refl | inr isnt' ↦ rw isnt' refl ])
]

-- the text put as the state, where a signed checkpoint stays
pub signed_told : (text : List ℕ) (s : Files) → is_signed (s checkpoint) ≡ true → put (state, text) s ≡ told text s
signed_told text s is =
    fun_ext (λ n. elim (one_name checkpoint n) [ inl t ↦ rw (← t.1, is) refl | inr f ↦ rw f.0 refl ])

-- and as the checkpoint, where none is signed
unsigned_told : (text : List ℕ) (s : Files) → is_signed (s checkpoint) ≡ false
    → put (checkpoint, text) (put (state, text) s) ≡ told text s
unsigned_told text s isnt =
    fun_ext (λ n. elim (one_name checkpoint n) [ inl t ↦ rw (← t.1, isnt) refl | inr f ↦ rw f.0 refl ])

pub told_second : (text : List ℕ) (s d c : Files) → is_signed (s checkpoint) ≡ false → d ≡ put (state, text) s
    → c ≡ put (checkpoint, text) d → c ≡ told text s
told_second text s d c isnt was is = is ∙ ap (put (checkpoint, text)) was ∙ unsigned_told text s isnt

pub second_put : (text : List ℕ) (s d c : Files) → is_signed (s checkpoint) ≡ false → d ≡ put (state, text) s
    → Either (put (checkpoint, text)) d c → IsPut text s c
second_put text s d c isnt was (inl same) = inr (inl (same ∙ was))
second_put text s d c isnt was (inr put_) = inr (inr (told_second text s d c isnt was put_))

put_opened : (s : Files) (text : List ℕ) → s mark ≡ Some text → opened (told text s) ≡ opened s
put_opened s text stands = opened_alike (told text s) s text stands stands (after_twice text (s checkpoint))
    (λ n isnt a b. published_alike (told text s) s n (told_apart text s n a b) refl)

-- with its text put, the commit is done
pub put_done : (s d : Files) (text : List ℕ) → s mark ≡ Some text → IsMoving s d
    → ((n : List ℕ) → is_served n ≡ true → d (staged n) ≡ None)
    → IsDone text (told text d) × (opened (told text d) ≡ opened s)
put_done s d text stands was gone = (
  record { stands = was.mark ∙ stands; state = refl; checkpoint = after_twice text (d checkpoint); gone = gone },
  put_opened d text (was.mark ∙ stands) ∙ moving_opened s d text stands was,
)

pub put_between : (s d c : Files) (text : List ℕ) → s mark ≡ Some text → IsMoving s d
    → ((n : List ℕ) → is_served n ≡ true → d (staged n) ≡ None) → IsPut text d c → IsBetween s (opened s) c
put_between s d c text stands was gone (inl same) = rw same (moving_between s d text stands was)
put_between s d c text stands was gone (inr (inl same)) = rw same
    (state_put s (opened s) d text (was.mark ∙ stands) (rw stands refl) (moving_between s d text stands was))
put_between s d c text stands was gone (inr (inr same)) =
    let done = put_done s d text stands was gone in
    let last = told text d in
    rw same (removing_between s last last text done.0 done.1 (done_removing last text done.0))

-- each staged file of a commit is moved
pub moved_gone : (s t : Files) (names : List (List ℕ)) (n : List ℕ) → is_served n ≡ true → IsMoving s t
    → (Contains names (staged n) → t (staged n) ≡ None) → (IsSome (s (staged n)) → Contains names (staged n))
    → t (staged n) ≡ None
moved_gone s t names n is was gone listed = ⊎_elim
    (λ r. ⊎_elim (λ none. r.1 ∙ none) (λ some. gone (listed some)) (none_or_some (s (staged n))))
    (λ r. r.1) (was.each n is)

-- one file less
pub fewer_files : (s d t : Files) (name : List ℕ) → t ≡ without name d → ((n : List ℕ) → (d n ≡ s n) ⊎ (d n ≡ None))
    → (n : List ℕ) → (t n ≡ s n) ⊎ (t n ≡ None)
fewer_files s d t name is fewer n = rw is (⊎_elim (λ same. rw same (fewer n)) inr (without_either name d n))

pub removed_here : (d t : Files) (name : List ℕ) → t ≡ without name d → t name ≡ None
removed_here d t name is = rw is (without_here name d)

pub between_self : (s t : Files) → IsBetween s t s
between_self s t = record {
  stands_for = inl (refl, λ n out. refl);
  each = λ n out. inl refl;
  state = inl refl;
  whole = inl refl;
}

pub idle_removing : (s : Files) → s mark ≡ None → IsRemoving s s
idle_removing s none = record { outside = λ n isnt. refl; mark = inl none }
