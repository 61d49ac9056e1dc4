-- From a notification's verdict to what filing it does, and from what a form is read as to what the call does.
use Rattle.std.specs.Prelude.{Ok, Err, Result}
use mathlib.Core.Path.{◌≡◌, refl, sym, ◌∙◌, ap, ap₂}
use mathlib.Core.List.{List}
use Prim.Native.Nat.{ℕ}
use Rattle.refusals.specs.Tests.{first_met, Verdict, pass, verdict}
use Rattle.refusals.specs.declared.Refusal.{Refusal}
use Rattle.notification.specs.declared.Notification.{Notification}
use Rattle.notification.specs.Reading.{read_file, note_of}
use Rattle.ledger.specs.Call.{Form, csv, read_form, file}
use Rattle.ledger.specs.Filing.{filing_tests, place_tests}
use Rattle.ledger.specs.Calls.{verdict_of, step_note, step}
use Rattle.ledger.specs.declared.Entry.{Entry}
use Rattle.ledger.proofs.Steps.{step_file}
use Rattle.register.specs.declared.verdicts.Places.{Places}
use Rattle.register.specs.View.{Register, held}
use Rattle.register.specs.Judging.{key_at, Placed, files_at}
use Rattle.register.specs.Written.{Done, writes, leaves, does, does_note, does_reading, seen}

-- ---- a notification, by its places

module _ (r : Register) (entry : Entry) (u : List ℕ) (n : Notification) (at : Places) (p : Placed (held r) u n at) where
  note_verdict : first_met (place_tests (held r) entry (key_at at) at.submitter n.powers) ≡ first_met (filing_tests (held r) entry u n)
  note_verdict = ap₂ (λ k by. first_met (place_tests (held r) entry k by n.powers)) p.key p.by

  module _ (v : Verdict) (e : v ≡ first_met (place_tests (held r) entry (key_at at) at.submitter n.powers)) where
    pub note_refused : (f : Refusal) → v ≡ Err f → seen r (Err f) ≡ does_note r entry u n
    unfolding step_note
    note_refused f g = let k : first_met (filing_tests (held r) entry u n) ≡ Err f = sym note_verdict ∙ sym e ∙ g in rw k

    pub note_passed : v ≡ pass → (d : Done) → d ≡ files_at r (key_at at) at.submitter n.powers → d ≡ does_note r entry u n
    unfolding step_note
    note_passed g d w =
        let k : first_met (filing_tests (held r) entry u n) ≡ pass = sym note_verdict ∙ sym e ∙ g in
        rw k (w ∙ ap₂ (λ k by. files_at r k by n.powers) p.key p.by)

-- ---- a form

pub file_read : (u name body : List ℕ) (x : Result Notification Refusal) → x ≡ read_file name body → x ≡ read_form u (csv name body)
unfolding read_form
file_read u name body x e = e

-- a form that was read: where it is refused, nothing is done; else what filing its notification does
module _ (r : Register) (entry : Entry) (u : List ℕ) (x : Result Notification Refusal) where
  pub reading_refused : (f : Refusal) → verdict x ≡ Err f → seen r (Err f) ≡ does_reading r entry u x
  reading_refused f g = rw g refl

  pub reading_passed : verdict x ≡ pass → (d : Done) → d ≡ does_note r entry u (note_of x) → d ≡ does_reading r entry u x
  reading_passed g d w = rw g w

-- THE CALL DOES WHAT THE REGISTER DOES WITH THE FORM AS IT IS READ
module _ (r : Register) (entry : Entry) (u : List ℕ) (form : Form) where
  read_register : (v : Verdict) → verdict (read_form u form) ≡ v → leaves r (file entry u form) ≡ (does_reading r entry u (read_form u form)).register
  unfolding leaves verdict_of writes
  read_register (Ok t) e = rw e
  read_register (Err f) e = rw e

  read_outcome : (v : Verdict) → verdict (read_form u form) ≡ v → step (held r) (file entry u form) ≡ (does_reading r entry u (read_form u form)).outcome
  read_outcome (Ok t) e = step_file (held r) entry u form ∙ rw e refl
  read_outcome (Err f) e = step_file (held r) entry u form ∙ rw e refl

  pub does_reading_lem : does r (file entry u form) ≡ does_reading r entry u (read_form u form)
  does_reading_lem = ap₂ (λ s o. record { register = s; outcome = o }) (read_register _ refl) (read_outcome _ refl)

  -- by what it was read as
  pub reading_does : (x : Result Notification Refusal) → x ≡ read_form u form → does_reading r entry u x ≡ does r (file entry u form)
  reading_does x e = ap (does_reading r entry u) e ∙ sym does_reading_lem
