-- Each line says something that fits into an answer's line, by a ledger whose records count from steps of two digits; and it leaves such a
-- ledger.
use Rattle.std.proofs.Common.{ℕ, zero, suc, ◌<◌, Bool, true, false, cond, List, [], ◌∷◌, get_or, sym, subst, arith}
use Rattle.lists.proofs.All.{All, all_none, all_more, all_map}
use Rattle.calendar.specs.Clocks.{first_counted, replaces_whole}
use Rattle.calendar.specs.declared.clock.Clock.{Clock}
use Rattle.calendar.proofs.StepCounts.{steps_small}
use Rattle.refusals.specs.Tests.{first_met, decide, verdict}
use Rattle.notification.specs.Reading.{note_of}
use Rattle.refusals.proofs.Tests.{decided}
use Rattle.notification.specs.declared.Notification.{Notification}
use Rattle.session.specs.Lines.{Reading}
use Rattle.ledger.specs.Ledger.{Key, Rec, Ledger, fresh, actor_at}
use Rattle.ledger.specs.Call as Call
use Rattle.ledger.specs.Calls.{Outcome, verdict_of, file_at, file_note, effect, refused_by, step_note, step}
use Rattle.ledger.specs.Filing.{key_of, filing_tests, pairs, changed, deletes, answers, replaces, rule_one, rule_two, filed}
use Rattle.ledger.specs.declared.Entry.{Entry}
use Rattle.ledger.specs.declared.Entry.TheVariants.{SevenDays}
use Rattle.ledger.specs.Asking.{engagement_tests, ask_engagement, no_record, record_at, record_tests, shown, ask_record}
use Rattle.refusals.specs.declared.Refusal.{Refusal}
use Rattle.std.specs.Prelude.{Result, Ok, Err}
use Rattle.ledger.specs.declared.Shown.{Shown}
use Rattle.ledger.proofs.Passed.{FilingOk, filing_ok}
use Rattle.ledger.proofs.Steps.{Kept, note_kept, step_kept, step_file}
use Rattle.answers.specs.Values.{no_letter, said_of, said_number, said_shown}
use Rattle.script.specs.Lines.{Asked, calls, file_of, engagement, record_of, unknown}
use Rattle.std.specs.Prelude.{Some, None}
use Rattle.session.specs.Lines.{File}
use Rattle.lines.specs.Walking.{step_reading, says_read}
use Rattle.lines.proofs.AnswersFit.{Short, ok_none, ok_one, ok_filed, ok_shown, no_short, refusal_short}

-- ---- the steps from which records count

abbrev Soon : Rec → Type 0
Soon r = r.from < 100

-- each record of a ledger counts from a step of two digits
abbrev pub Early : Ledger → Type 0
Early l = All Soon l.records

from_either : (t : Bool) (x y : Rec) → Soon x → Soon y → Soon (cond t x y)
from_either true x y h k = h
from_either false x y h k = k

module _ (clock : Clock) (by : ℕ) (k : Key) (ps : List ℕ) where
  one_soon : (r : Rec) → Soon r → Soon (rule_one by k r)
  one_soon r h = from_either (deletes by k r) _ r h h

  two_soon : (r : Rec) → Soon r → Soon (rule_two by k ps r)
  two_soon r h = from_either (answers by k ps r) _ r h h

  changed_soon : (paired : Bool) (r : Rec) → Soon r → Soon (changed paired clock by k ps r)
  changed_soon false r h = one_soon r h
  changed_soon true r h =
      let x = rule_two by k ps (rule_one by k r) in
      let s = two_soon (rule_one by k r) (one_soon r h) in
      from_either (replaces k x) _ x (from_either (replaces_whole clock x.from k.day) _ _ s s) s

counted_soon : (l : Ledger) (u : List ℕ) (n : Notification) → FilingOk l u n → first_counted l.clock (key_of l n).day < 100
counted_soon l u n ok = omega (arith, ok.counted, steps_small (key_of l n).day)

early_filed : (l : Ledger) (u : List ℕ) (n : Notification) → FilingOk l u n → Early l → Early (file_note l u n).ledger
unfolding file_at filed
early_filed l u n ok e =
    let by = actor_at l.actors u in
    let paired = pairs by (key_of l n) n.powers l.records in
    all_more (counted_soon l u n ok) (all_map (changed paired l.clock by (key_of l n) n.powers) (changed_soon l.clock by (key_of l n) n.powers paired) e)

early_kept : (l : Ledger) → Early l → Kept l Early
early_kept l e =
    record {
      refused = e;
      actor = λ code first last ok. e;
      category = λ text ok. e;
      load = λ a z day most ps ok. e;
      filing = λ u n ok. early_filed l u n ok e;
      clock = λ day minute ok. e;
    }

early_step : (l : Ledger) (c : Call.Call) → Early l → Early (step l c).ledger
early_step l c e = step_kept l Early (early_kept l e) c

early_reading : (l : Ledger) (u : List ℕ) (x : Reading) → Early l → Early (step_reading l u x).ledger
early_reading l u x e =
    decided (λ o. Early o.ledger) (verdict x) (step_note l SevenDays u (note_of x)) (refused_by l)
    (λ p. note_kept l Early (early_kept l e) SevenDays u (note_of x)) (λ r p. e)

pub early_fresh : Early fresh
early_fresh = all_none

-- ---- what a line says

abbrev SaysShort : Outcome → Type 0
SaysShort o = Short (said_of o.answer)

note_short : (l : Ledger) (entry : Entry) (u : List ℕ) (n : Notification) → SaysShort (step_note l entry u n)
unfolding step_note file_at
note_short l entry u n =
    decided SaysShort (first_met (filing_tests l entry u n)) (file_note l u n) (refused_by l)
    (λ e. ok_filed _ _ _ (counted_soon l u n (filing_ok l entry u n e))) (λ r e. refusal_short r)

reading_short : (l : Ledger) (entry : Entry) (u : List ℕ) (x : Reading) →
    SaysShort (decide (verdict x) (step_note l entry u (note_of x)) (refused_by l))
reading_short l entry u x =
    decided SaysShort (verdict x) (step_note l entry u (note_of x)) (refused_by l)
    (λ e. note_short l entry u (note_of x)) (λ r e. refusal_short r)

step_short : (l : Ledger) (c : Call.Call) → SaysShort (step l c)
unfolding step effect
step_short l (Call.enrol_actor code first last) =
    decided SaysShort (verdict_of l (Call.enrol_actor code first last)) (effect l (Call.enrol_actor code first last)) (refused_by l) (λ e. ok_one no_letter _ 0 0) (λ r e. refusal_short r)
step_short l (Call.enrol_category text) =
    decided SaysShort (verdict_of l (Call.enrol_category text)) (effect l (Call.enrol_category text)) (refused_by l) (λ e. ok_one no_letter _ 0 0) (λ r e. refusal_short r)
step_short l (Call.load a z day most ps) =
    decided SaysShort (verdict_of l (Call.load a z day most ps)) (effect l (Call.load a z day most ps)) (refused_by l) (λ e. ok_one no_letter _ 0 0) (λ r e. refusal_short r)
step_short l (Call.file entry u form) = subst SaysShort (sym (step_file l entry u form)) (reading_short l entry u (Call.read_form u form))
step_short l (Call.advance day minute) =
    decided SaysShort (verdict_of l (Call.advance day minute)) (effect l (Call.advance day minute)) (refused_by l) (λ e. ok_none no_letter 0 0 0) (λ r e. refusal_short r)

engaged_short : (l : Ledger) (actor category : List ℕ) (day s : ℕ) → Short (said_number (ask_engagement l actor category day s))
unfolding ask_engagement
engaged_short l actor category day s =
    decided (λ (y : Result ℕ Refusal). Short (said_number y)) (first_met (engagement_tests l actor category day s)) _ _ (λ e. ok_one no_letter _ 0 0) (λ r e. refusal_short r)

soon_at : (rs : List Rec) → All Soon rs → (i : ℕ) → Soon (get_or rs i no_record)
soon_at [] all_none i = omega arith
soon_at (r ∷ rs) (all_more h a) zero = h
soon_at (r ∷ rs) (all_more h a) (suc i) = soon_at rs a i

shown_short : (l : Ledger) (asker : List ℕ) (id : ℕ) → Early l → Short (said_shown (ask_record l asker id))
unfolding ask_record
shown_short l asker id h =
    decided (λ (y : Result Shown Refusal). Short (said_shown y)) (first_met (record_tests l asker id)) (Ok (shown l (get_or l.records (record_at l.records id) no_record))) Err
    (λ e. ok_shown _ _ _ (soon_at l.records h (record_at l.records id))) (λ r e. refusal_short r)

-- A LINE leaves such a ledger, and says something short
pub early_line : (l : Ledger) (file : File) (a : Asked) → Early l →
    Early (says_read l file a).ledger × Short (says_read l file a).said
unfolding says_read
early_line l file (calls c) h = (early_step l c h, step_short l c)
early_line l (Some x) (file_of submitter name) h = (early_reading l submitter x h, reading_short l SevenDays submitter x)
early_line l None (file_of submitter name) h = (h, no_short 11 0 (omega arith))
early_line l file (engagement actor category day s) h = (h, engaged_short l actor category day s)
early_line l file (record_of asker id) h = (h, shown_short l asker id h)
early_line l file unknown h = (h, no_short 11 0 (omega arith))
