-- The text of some lines and of those behind them.
use Rattle.std.proofs.Common.{◌≡◌, ℕ, suc, ◌+◌, Bool, true, false, cond, List, [], ◌∷◌, ◌++◌, length, append_assoc, append-nil, length-append, codes, string_bytes, Option, Some, ◌⊎◌, ⊎_elim, inl, inr, Result, Ok, Err, refl, sym, ◌∙◌, ap, arith}
use Rattle.std.proofs.lemmas.Bool.{and_parts, true≢false}
use Rattle.std.specs.Fmt.{decimal}
use Rattle.std.proofs.lemmas.Grind.{common_steps}
use Rattle.hex.specs.Hex.{encode_lower}
use Rattle.warg_crypto.specs.Digests.{sha256}
use Rattle.warg_crypto.specs.Tree.{leaf_digest}
use Rattle.warg_log.specs.Tree.{root_of}
use Rattle.warg_protobuf.specs.declared.value_error.DecodeError.{DecodeError}
use Rattle.warg_program.specs.Words.{lines_of}
use Rattle.warg_program.specs.Orders.{Order, Line, line_of, empty, bad, good, good_or_bad, push, log}
use Rattle.warg_program.specs.States.{State, start, log_at, map_at, after, after_line, FindsFull}
use Rattle.warg_program.specs.Text.{said, is_not_bad, text_from, text_of, all_good, after_lines, answer, verdict_or_refusal, MeetsFull}
use Rattle.warg_program.specs.Private.Sessions.{IsInState, LineFindsFull, Answers, Says, Takes}
use Rattle.warg_program.specs.declared.line_error.LineError.{LineError}
use Rattle.warg_program.specs.declared.line_error.LineError.TheVariants.{BadLine, Memory, Full}
use Rattle.warg_program.specs.declared.session.Session.{Session}
use Rattle.warg_check.specs.declared.verdict.CheckError.{CheckError}
use Rattle.warg_check.specs.declared.verdict.CheckError.TheVariants as check

-- a line of these, before which all are good, has an order that finds no room
unfoldable pub HasFull : State → List (List ℕ) → Type 0
HasFull s [] = ⊥
HasFull s (line ∷ lines) = LineFindsFull s (line_of line)
    ⊎ ((is_not_bad (line_of line) ≡ true) × HasFull (after_line s (line_of line)) lines)

full_at : (s : State) (before behind : List (List ℕ)) (line : List ℕ) (order : Order) → all_good before ≡ true
    → line_of line ≡ good order → FindsFull (after_lines s before) order → HasFull s (before ++ line ∷ behind)
unfolding HasFull all_good after_lines
full_at s [] behind line order fine is full = inl (rw is full)
full_at s (other ∷ before) behind line order fine is full =
    let both = and_parts (is_not_bad (line_of other)) (all_good before) fine in
    inr (both.0, full_at (after_line s (line_of other)) before behind line order both.1 is full)

meets : (input : List ℕ) → MeetsFull input → HasFull start (lines_of input)
meets input at = rw at.parts (full_at start at.before at.behind at.line at.order at.all_good at.is_order at.full)

full_behind : (s : State) (line : List ℕ) (lines : List (List ℕ)) → ¬ LineFindsFull s (line_of line)
    → HasFull s (line ∷ lines) → HasFull (after_line s (line_of line)) lines
unfolding HasFull
full_behind s line lines room full = ⊎_elim (λ (here : LineFindsFull s (line_of line)). absurd (room here))
    (λ (later : (is_not_bad (line_of line) ≡ true) × HasFull (after_line s (line_of line)) lines). later.1) full

not_at_bad : (s : State) (line : List ℕ) (lines : List (List ℕ)) → line_of line ≡ bad → HasFull s (line ∷ lines) → ⊥
unfolding HasFull
not_at_bad s line lines is_bad full = ⊎_elim (λ (here : LineFindsFull s (line_of line)). rw is_bad at here)
    (λ (later : (is_not_bad (line_of line) ≡ true) × HasFull (after_line s (line_of line)) lines). true≢false
    (sym later.0 ∙ ap is_not_bad is_bad)) full

-- the lines so far were good, the session stands at the state after them, and its text is theirs
pub record Stands {A : Type 0} (input rest : List ℕ) (session : Session A) (number : ℕ) : Type 0 where
  pub before : List (List ℕ)
  pub parts : lines_of input ≡ before ++ lines_of rest
  pub good : all_good before ≡ true
  pub state_is : IsInState session (after_lines start before)
  pub text_is : string_bytes session.text ≡ text_from 1 start before
  pub number_is : number ≡ length before
  pub room : MeetsFull input → HasFull (after_lines start before) (lines_of rest)

-- the text of good lines, and of others behind them
text_from-append : (n : ℕ) (s : State) (before behind : List (List ℕ)) → all_good before ≡ true
    → text_from n s (before ++ behind) ≡ text_from n s before ++ text_from (n + length before)
    (after_lines s before) behind
unfolding text_from all_good after_lines
text_from-append n s [] behind fine = ap (λ m. text_from m s behind) (omega arith)
text_from-append n s (line ∷ before) behind fine =
    let both = and_parts (is_not_bad (line_of line)) (all_good before) fine in
    let next = after_line s (line_of line) in
    let rest = text_from-append (suc n) next before behind both.1 in
    let at : suc n + length before ≡ n + suc (length before) = omega arith in
    rw both.0 (
    ap (λ text. said n s (line_of line) ++ text)
    (rest ∙ ap (λ m. text_from (suc n) next before ++ text_from m (after_lines next before) behind) at)
    ∙ sym (append_assoc (said n s (line_of line)) _ _))

after_lines-append : (s : State) (before behind : List (List ℕ)) → after_lines s (before ++ behind)
    ≡ after_lines (after_lines s before) behind
unfolding after_lines
after_lines-append s [] behind = refl
after_lines-append s (line ∷ before) behind = after_lines-append (after_line s (line_of line)) before behind

all_good-append : (before behind : List (List ℕ)) → all_good before ≡ true → all_good (before ++ behind)
    ≡ all_good behind
unfolding all_good
all_good-append [] behind fine = refl
all_good-append (line ∷ before) behind fine =
    let both = and_parts (is_not_bad (line_of line)) (all_good before) fine in
    rw both.0 (all_good-append before behind both.1)

-- before the first line
pub starts : {A : Type 0} (input : List ℕ) (session : Session A) → IsInState session start → string_bytes session.text
    ≡ [] → Stands input input session 0
unfolding text_from all_good after_lines
starts input session stands no_text = record {
  before = [];
  parts = refl;
  good = refl;
  state_is = stands;
  text_is = no_text;
  number_is = refl;
  room = meets input;
}

one_good : (line : List ℕ) → is_not_bad (line_of line) ≡ true → all_good (line ∷ []) ≡ true
unfolding all_good
one_good line p = rw p refl

one_after : (s : State) (line : List ℕ) → after_lines s (line ∷ []) ≡ after_line s (line_of line)
unfolding after_lines
one_after s line = refl

no_text : (t : Bool) → cond {A = List ℕ} t [] [] ≡ []
no_text true = refl
no_text false = refl

one_text : (n : ℕ) (s : State) (line : List ℕ) → said n s (line_of line) ≡ text_from n s (line ∷ [])
unfolding text_from
one_text n s line = sym (ap (λ text. said n s (line_of line) ++ text) (no_text (is_not_bad (line_of line)))
    ∙ append-nil _)

-- behind one more good line
pub goes_on : {A : Type 0} (input rest line behind : List ℕ) (old new : Session A) (number : ℕ)
    → Stands input rest old number
    → lines_of rest ≡ line ∷ lines_of behind → ((s : State) → IsInState old s → Answers old new s (line_of line))
    → Stands input behind new (number + 1)
goes_on input rest line behind old new number stands lines answered =
    let before = stands.before in
    let s = after_lines start before in
    let step = answered s stands.state_is in
    let here = 1 + length before in
    let next : after_lines start (before ++ line ∷ []) ≡ after_line s (line_of line) = after_lines-append start before
    (line ∷ []) ∙ one_after s line in
    record {
      before = before ++ line ∷ [];
      parts = stands.parts ∙ ap (λ ls. before ++ ls) lines ∙ sym (append_assoc before (line ∷ []) (lines_of behind));
      good = all_good-append before (line ∷ []) stands.good ∙ one_good line step.is_good;
      state_is = record { log_is = step.log_is ∙ ap log_at (sym next); map_is = step.map_is ∙ ap map_at (sym next) };
      text_is = step.text_is here ∙ ap (λ text. text ++ said here s (line_of line)) stands.text_is
          ∙ ap (λ text. text_from 1 start before ++ text) (one_text here s line)
          ∙ sym (text_from-append 1 start before (line ∷ []) stands.good);
      number_is = omega (arith, stands.number_is, length-append before (line ∷ []));
      room = λ full. rw next (full_behind s line (lines_of behind) step.room (rw lines at (stands.room full)));
    }

-- behind the last line
pub ends : {A : Type 0} (input rest : List ℕ) (session : Session A) (number : ℕ) → Stands input rest session number
    → length rest ≡ 0
    → (string_bytes session.text ≡ text_of input) × (all_good (lines_of input) ≡ true) × ¬ MeetsFull input
unfolding lines_of HasFull
ends input [] session number stands none =
    let whole : lines_of input ≡ stands.before = stands.parts ∙ append-nil stands.before in
    (stands.text_is ∙ ap (text_from 1 start) (sym whole), ap all_good whole ∙ stands.good, stands.room)
ends input (b ∷ rest) session number stands none = absurd (omega arith)

-- behind a bad line
pub stops : {A : Type 0} (input rest line behind : List ℕ) (session : Session A) (text : List ℕ) (number : ℕ)
    → Stands input rest session number
    → lines_of rest ≡ line ∷ lines_of behind → line_of line ≡ bad → text ≡ string_bytes session.text ++ said
    (number + 1) start bad
    → (text ≡ text_of input) × (all_good (lines_of input) ≡ false) × ¬ MeetsFull input
unfolding text_from all_good
stops input rest line behind session text number stands lines is_bad text_is =
    let before = stands.before in
    let s = after_lines start before in
    let at : number + 1 ≡ 1 + length before = omega (arith, stands.number_is) in
    let whole : lines_of input ≡ before ++ line ∷ lines_of behind = stands.parts ∙ ap (λ ls. before ++ ls) lines in
    let last : said (number + 1) start bad ≡ text_from (1 + length before) s (line ∷ lines_of behind) =
    rw (is_bad, at) (sym (append-nil _)) in (
      text_is ∙ ap (λ text. text ++ said (number + 1) start bad) stands.text_is
          ∙ ap (λ text. text_from 1 start before ++ text) last
          ∙ sym (text_from-append 1 start before (line ∷ lines_of behind) stands.good)
          ∙ ap (text_from 1 start) (sym whole),
      ap all_good whole ∙ all_good-append before (line ∷ lines_of behind) stands.good ∙ rw is_bad refl,
      λ full. not_at_bad s line (lines_of behind) is_bad (rw lines at (stands.room full)),
    )

-- at a line whose order finds no room
pub meets_full : {A : Type 0} (input rest line behind : List ℕ) (session : Session A) (number : ℕ)
    → Stands input rest session number
    → lines_of rest ≡ line ∷ lines_of behind → ((s : State) → IsInState session s → LineFindsFull s (line_of line))
    → MeetsFull input
meets_full input rest line behind session number stands lines finds_full = at (line_of line) refl
    (finds_full _ stands.state_is)
  where
    at : (here : Line) → line_of line ≡ here → LineFindsFull (after_lines start stands.before) here → MeetsFull input
    at empty is full = absurd full
    at bad is full = absurd full
    at (good order) is full = record {
      before = stands.before;
      line = line;
      behind = lines_of behind;
      order = order;
      parts = stands.parts ∙ ap (λ ls. stands.before ++ ls) lines;
      all_good = stands.good;
      is_order = is;
      full = full;
    }

-- the number of a log's entries
pub log_length : (s : State) (leaves : List (List ℕ)) → leaves ≡ log_at s → length s.entries ≡ length leaves
log_length s leaves at = grind (arith, common_steps)

-- the log after one more entry
pub log_after_push : (s : State) (leaves : List (List ℕ)) (entry : List ℕ) → leaves ≡ log_at s
    → leaves ++ leaf_digest sha256 entry ∷ [] ≡ log_at (after s (push entry))
log_after_push s leaves entry at = grind (arith, common_steps)

-- an order that words spell
pub spelled : {A : Type 0} (old new : Session A) (said : Option Order) (order : Order)
    (result : Result (Unit {0}) LineError) → said ≡ Some order → Takes old new (good order) result
    → Takes old new (good_or_bad said) result
spelled old new said order result is takes = rw is takes

-- the same text under another form
pub says_same : {A : Type 0} (old new : Session A) (text other : List ℕ) (result : Result (Unit {0}) LineError)
    → text ≡ other → Says old new (other ++ 10 ∷ []) result → Says old new (text ++ 10 ∷ []) result
says_same old new text other result same says = rw same says

-- what an order does to a session at a state, and what its answer is
pub record Leads {A : Type 0} (old new : Session A) (s : State) (order : Order) (added : List ℕ) : Type 0 where
  pub answer_is : answer s order ≡ added
  pub room : ¬ FindsFull s order
  pub log_is : new.log ≡ log_at (after s order)
  pub map_is : new.map ≡ map_at (after s order)
  pub text_is : string_bytes new.text ≡ string_bytes old.text

-- an order whose answer is added to the text
pub led : {A : Type 0} (old mid new : Session A) (order : Order) (added : List ℕ) (result : Result (Unit {0}) LineError)
    → ((s : State) → IsInState old s → Leads old mid s order added)
    → Says mid new (added ++ 10 ∷ []) result → Takes old new (good order) result
led old mid new order added (Ok _) leads adds = λ s at. let step = leads s at in record {
  is_good = refl;
  room = step.room;
  log_is = adds.0 ∙ step.log_is;
  map_is = adds.1 ∙ step.map_is;
  text_is = λ number. adds.2 ∙ ap (λ text. text ++ (added ++ 10 ∷ [])) step.text_is
      ∙ ap (λ text. string_bytes old.text ++ (text ++ 10 ∷ [])) (sym step.answer_is);
}
led old mid new order added (Err BadLine) leads adds = absurd adds
led old mid new order added (Err Memory) leads adds = tt
led old mid new order added (Err Full) leads adds = absurd adds

-- the same of an order that changes neither the log nor the map
pub told : {A : Type 0} (old new : Session A) (order : Order) (added : List ℕ) (result : Result (Unit {0}) LineError)
    → ((s : State) → IsInState old s → answer s order ≡ added)
    → ((s : State) → after s order ≡ s) → ((s : State) → ¬ FindsFull s order) → Says old new (added ++ 10 ∷ []) result
    → Takes old new (good order) result
told old new order added result is stays room adds = led old old new order added result (λ s at. record {
  answer_is = is s at;
  room = room s;
  log_is = at.log_is ∙ ap log_at (sym (stays s));
  map_is = at.map_is ∙ ap map_at (sym (stays s));
  text_is = refl;
}) adds

-- bytes that are no bundle are refused for that
pub not_decoded : (e : DecodeError) (verdict : Result Bool CheckError) → (check.Decode e ≡ check.Memory)
    ⊎ (verdict ≡ Err (check.Decode e))
    → verdict_or_refusal verdict ≡ codes "refused not decoded"
not_decoded e verdict told = ⊎_elim (λ (memory : check.Decode e ≡ check.Memory). absurd (cc))
    (λ (is : verdict ≡ Err (check.Decode e)). rw is refl) told

-- a bundle without the proof is refused for that
pub no_proof : (verdict : Result Bool CheckError) → (check.NoSuchProof ≡ check.Memory)
    ⊎ (verdict ≡ Err check.NoSuchProof)
    → verdict_or_refusal verdict ≡ codes "refused no such proof"
no_proof verdict told = ⊎_elim (λ (memory : check.NoSuchProof ≡ check.Memory). absurd (cc))
    (λ (is : verdict ≡ Err check.NoSuchProof). rw is refl) told

-- what the command `log` adds to the text
pub log_shown : (text : List ℕ) (s : State) (leaves : List (List ℕ)) (n : ℕ) (root : List ℕ) → leaves ≡ log_at s
    → n ≡ length leaves → root ≡ root_of sha256 leaves
    → text ++ (codes "log " ++ (decimal n ++ 32 ∷ (encode_lower root ++ 10 ∷ []))) ≡ text ++ (answer s log ++ 10 ∷ [])
unfolding answer
log_shown text s leaves n root at long is = grind (arith, common_steps)
