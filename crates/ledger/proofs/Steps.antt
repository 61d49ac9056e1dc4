-- What holds of a ledger after any call: it is enough to show it of each call that is accepted, with what the call has
-- shown. A form is read first, and then its notification is judged.
use Rattle.notification.specs.Reading.{note_of}
use Rattle.std.specs.Prelude.{Err, Ok}
use mathlib.Core.Path.{◌≡◌, refl}
use mathlib.Core.List.{List}
use Prim.Native.Nat.{ℕ}
use Rattle.calendar.specs.Clocks.{advance_tests}
use Rattle.refusals.specs.Tests.{first_met, decide, Verdict, verdict}
use Rattle.refusals.specs.declared.Refusal.{Refusal}
use Rattle.refusals.proofs.Tests.{decided}
use Rattle.notification.specs.Forms.{in_places}
use Rattle.notification.specs.declared.Notification.{Notification}
use Rattle.ledger.specs.declared.Entry.{Entry}
use Rattle.ledger.specs.Call.{Form, read_form, Call, enrol_actor, enrol_category, load, file, advance}
use Rattle.ledger.specs.declared.Actor.{Actor}
use Rattle.ledger.specs.Ledger.{Load, Ledger, actor_at, category_at}
use Rattle.ledger.specs.Filing.{filing_tests}
use Rattle.ledger.specs.Calls.{Outcome, actor_tests, category_tests, load_tests, moment, verdict_of, with_actor, with_category, with_load, with_clock, file_note, effect, refused_by, step_note, step}
use Rattle.ledger.proofs.Passed.{FilingOk, filing_ok, ActorOk, actor_ok, CategoryOk, category_ok, LoadOk, load_ok, AdvanceOk, advance_ok}

-- two verdicts in turn
in_turn : (v w : Verdict) (done : Outcome) (refused : Refusal → Outcome) → decide (decide v w Err) done refused ≡ decide v (decide w done refused) refused
in_turn (Ok u) w done refused = refl
in_turn (Err r) w done refused = refl

pub step_file : (l : Ledger) (entry : Entry) (u : List ℕ) (form : Form) →
    step l (file entry u form) ≡ decide (verdict (read_form u form)) (step_note l entry u (note_of (read_form u form))) (refused_by l)
unfolding step verdict_of effect step_note
step_file l entry u form =
    let x = read_form u form in
    in_turn (verdict x) (first_met (filing_tests l entry u (note_of x))) (file_note l u (note_of x)) (refused_by l)

-- the actor, the load that a call hands in
abbrev pub actor_of : List ℕ → ℕ → ℕ → Actor
actor_of code first last = record { code = code; first = first; last = last }

abbrev pub load_of : Ledger → List ℕ → List ℕ → ℕ → ℕ → List ℕ → Load
load_of l actor category day most ps =
    record { actor = actor_at l.actors actor; category = category_at l.categories category; day = day; approved = most; powers = in_places ps }

-- a fact of the ledger as it was and as each accepted call leaves it
pub record Kept (l : Ledger) (P : Ledger → Type 0) : Type 0 where
  pub refused : P l
  pub actor : (code : List ℕ) (first last : ℕ) → ActorOk l code first last → P (with_actor l (actor_of code first last))
  pub category : (text : List ℕ) → CategoryOk l text → P (with_category l text)
  pub load : (a z : List ℕ) (day most : ℕ) (ps : List ℕ) → LoadOk l a z day most ps → P (with_load l (load_of l a z day most ps))
  pub filing : (u : List ℕ) (n : Notification) → FilingOk l u n → P (file_note l u n).ledger
  pub clock : (day minute : ℕ) → AdvanceOk l (moment day minute) → P (with_clock l (moment day minute))

module _ (l : Ledger) (P : Ledger → Type 0) (kept : Kept l P) where
  pub note_kept : (entry : Entry) (u : List ℕ) (n : Notification) → P (step_note l entry u n).ledger
  unfolding step_note
  note_kept entry u n =
      decided (λ o. P o.ledger) (first_met (filing_tests l entry u n)) (file_note l u n) (refused_by l)
      (λ e. kept.filing u n (filing_ok l entry u n e)) (λ r e. kept.refused)

  pub step_kept : (c : Call) → P (step l c).ledger
  unfolding step verdict_of effect
  step_kept (enrol_actor code first last) =
      decided (λ o. P o.ledger) (first_met (actor_tests l code first last)) (effect l (enrol_actor code first last)) (refused_by l)
      (λ e. kept.actor code first last (actor_ok l code first last e)) (λ r e. kept.refused)
  step_kept (enrol_category text) =
      decided (λ o. P o.ledger) (first_met (category_tests l text)) (effect l (enrol_category text)) (refused_by l)
      (λ e. kept.category text (category_ok l text e)) (λ r e. kept.refused)
  step_kept (load a z day most ps) =
      decided (λ o. P o.ledger) (first_met (load_tests l a z day most ps)) (effect l (load a z day most ps)) (refused_by l)
      (λ e. kept.load a z day most ps (load_ok l a z day most ps e)) (λ r e. kept.refused)
  step_kept (file entry u form) =
      rw (step_file l entry u form)
      (decided (λ o. P o.ledger) (verdict (read_form u form)) (step_note l entry u (note_of (read_form u form))) (refused_by l)
      (λ e. note_kept entry u (note_of (read_form u form))) (λ r e. kept.refused))
  step_kept (advance day minute) =
      decided (λ o. P o.ledger) (first_met (advance_tests l.clock (moment day minute))) (effect l (advance day minute)) (refused_by l)
      (λ e. kept.clock day minute (advance_ok l (moment day minute) e)) (λ r e. kept.refused)
