-- "Order" of document 01 and document 02, K3, for every ledger and all arguments: the numbers of the tests of each call, in the order in
-- which they are tried, each with its place. The first test that is met refuses (`first_met`).
use Rattle.refusals.specs.declared.Refusal.{Refusal}
use Rattle.std.specs.Prelude.{Err, Ok, Result}
use mathlib.Core.Path.{◌≡◌, refl, sym}
use mathlib.Core.Bool.{Bool, cond, not}
use mathlib.Core.List.{List, [], ◌∷◌, ◌++◌}
use Prim.Native.Nat.{ℕ, ◌+◌, ◌-◌}
use lib.ListN.{get_or}
use Rattle.lists.specs.Searches.{same, first_from}
use Rattle.calendar.specs.Steps.{steps_of}
use Rattle.calendar.specs.Clocks.{first_counted, advance_tests}
use Rattle.calendar.specs.declared.clock.Clock.{Clock}
use Rattle.refusals.specs.Numbers.{number_of, place_of}
use Rattle.refusals.specs.Tests.{Test, input, first_met, decide, Verdict, pass, verdict}
use Rattle.refusals.specs.declared.InputRefusal.TheVariants.{Origin}
use Rattle.refusals.proofs.Tests.{pass_append, refuse_append}
use Rattle.refusals.proofs.Tables.{rows, unplaced}
use Rattle.notification.specs.Reading.{file_tests, note_in, read_file, note_of}
use Rattle.notification.proofs.Orders.{labels_first}
use Rattle.notification.specs.declared.Notification.{Notification}
use Rattle.request.specs.Tokens.{tokens}
use Rattle.request.specs.Objects.{Step}
use Rattle.request.specs.Reading.{text_at, steps_read, day_read, has_labels, no_step, first_bad, step_refusal, object_tests, request_in, read_from}
use Rattle.ledger.specs.Ledger.{Ledger}
use Rattle.ledger.specs.Call.{csv, json, filed_in, read_form, file}
use Rattle.ledger.specs.declared.Entry.{Entry}
use Rattle.ledger.specs.declared.Entry.TheVariants.{SevenDays}
use Rattle.ledger.specs.Filing.{key_of, ceder_below, acquirer_above, ceder_above, acquirer_below, party_tests, day_tests, load_test, step_tests, place_tests, filing_tests}
use Rattle.ledger.specs.Calls.{actor_tests, category_tests, load_tests, verdict_of}
use Rattle.ledger.specs.Asking.{engagement_tests, record_tests, history_tests}

-- "They carry the lowest counted step that fails as their place": of the steps of the filing's day
abbrev pub lowest : Ledger → ℕ → (ℕ → Bool) → ℕ
lowest l day fails = first_from fails (first_counted l.clock day) (steps_of day - first_counted l.clock day)

-- "43 when the origin member isn't the submitter, next after 8": the tests of an object that a submitter files
abbrev pub origin_tests : List ℕ → List ℕ → List Test
origin_tests submitter body = object_tests body ++ (not (same (text_at 11 (tokens body)) submitter), input Origin) ∷ []

-- "the place of 6 and 7 the step counted from 1": 6 before 7 at one step
pub step_refused : (steps : ℕ) (ss : List (Step (List ℕ))) (k : ℕ) →
    (number_of (step_refusal steps ss k) ≡ cond (has_labels steps k (get_or ss k no_step)) 7 6) × (place_of (step_refusal steps ss k) ≡ k + 1)
step_refused steps ss k = labels_first (has_labels steps k (get_or ss k no_step)) (k + 1)

-- "42 .. in the place of 1 to 4, with 5 to 8 following": 6 and 7 are one test, whose number and place are those of the first bad step
pub object_order : (submitter body : List ℕ) →
    let steps = steps_of (day_read (tokens body)) in
    let ss = steps_read (tokens body) in
    let bad = step_refusal steps ss (first_bad steps ss) in
    rows (origin_tests submitter body) ≡ (42, 0) ∷ (5, 0) ∷ (number_of bad, place_of bad) ∷ (8, 0) ∷ (43, 0) ∷ []
unfolding object_tests
object_order submitter body = refl

module _ (l : Ledger) where
  -- "filing .. 20 to 36, ascending"
  pub filing_order : (submitter : List ℕ) (n : Notification) → rows (filing_tests l SevenDays submitter n) ≡
      unplaced (20 ∷ 21 ∷ 22 ∷ 23 ∷ 24 ∷ 25 ∷ 26 ∷ 27 ∷ 28 ∷ 29 ∷ 30 ∷ 31 ∷ [])
      ++ (32, lowest l n.key.day (ceder_below l (key_of l n) n.powers))
      ∷ (33, lowest l n.key.day (acquirer_above l (key_of l n) n.powers))
      ∷ (34, lowest l n.key.day (ceder_above l (key_of l n) n.powers))
      ∷ (35, lowest l n.key.day (acquirer_below l (key_of l n) n.powers))
      ∷ unplaced (36 ∷ [])
  unfolding party_tests day_tests load_test step_tests place_tests key_of
  filing_order submitter n = refl

  -- a form is read by its tests, whatever they are: these and then the filing's are one list
  read_then_filing : (entry : Entry) (submitter : List ℕ) (tests : List Test) (read : Verdict → Result Notification Refusal) →
      ((v : Verdict) → verdict (read v) ≡ v) → (v : Verdict) → first_met tests ≡ v →
      decide (verdict (read v)) (first_met (filing_tests l entry submitter (note_of (read v)))) Err
      ≡ first_met (tests ++ filing_tests l entry submitter (note_of (read pass)))
  read_then_filing entry submitter tests read same (Ok u) e =
      rw (same pass) (sym (pass_append tests (filing_tests l entry submitter (note_of (read pass))) e))
  read_then_filing entry submitter tests read same (Err r) e =
      rw (same (Err r)) (sym (refuse_append r tests (filing_tests l entry submitter (note_of (read pass))) e))

  -- "filing 1 to 8, then 20 to 36": the file's tests and then the filing's are one list
  pub file_then_filing : (entry : Entry) (submitter name body : List ℕ) →
      verdict_of l (file entry submitter (csv name body)) ≡ first_met (file_tests name body ++ filing_tests l entry submitter (note_in name body))
  unfolding verdict_of read_form read_file
  file_then_filing entry submitter name body =
      read_then_filing entry submitter (file_tests name body) (λ v. decide v (Ok (note_in name body)) Err) same
      (first_met (file_tests name body)) refl
    where
      same : (v : Verdict) → verdict (decide v (Ok (note_in name body)) Err) ≡ v
      same (Ok u) = refl
      same (Err r) = refl

  -- the same of an object: its tests, 43, and then the filing's
  pub object_then_filing : (entry : Entry) (submitter body : List ℕ) →
      verdict_of l (file entry submitter (json body))
      ≡ first_met (origin_tests submitter body ++ filing_tests l entry submitter (request_in (tokens body)).notification)
  unfolding verdict_of read_form read_from
  object_then_filing entry submitter body =
      read_then_filing entry submitter (origin_tests submitter body) (λ v. filed_in (decide v (Ok (request_in (tokens body))) Err)) same
      (first_met (origin_tests submitter body)) refl
    where
      same : (v : Verdict) → verdict (filed_in (decide v (Ok (request_in (tokens body))) Err)) ≡ v
      same (Ok u) = refl
      same (Err r) = refl

  -- "Enrol 9, 10, 37, 36": an actor; a category has nothing that 10 could refuse
  pub actor_order : (code : List ℕ) (first last : ℕ) → rows (actor_tests l code first last) ≡ unplaced (9 ∷ 10 ∷ 37 ∷ 36 ∷ [])
  unfolding actor_tests
  actor_order code first last = refl

  pub category_order : (text : List ℕ) → rows (category_tests l text) ≡ unplaced (9 ∷ 37 ∷ 36 ∷ [])
  unfolding category_tests
  category_order text = refl

  -- "Load 10, 22, 23, 39, 37, 36"
  pub load_order : (code text : List ℕ) (day most : ℕ) (ps : List ℕ) →
      rows (load_tests l code text day most ps) ≡ unplaced (10 ∷ 22 ∷ 23 ∷ 39 ∷ 37 ∷ 36 ∷ [])
  unfolding load_tests
  load_order code text day most ps = refl

  -- "Advance 10, 38"
  pub advance_order : (to : Clock) → rows (advance_tests l.clock to) ≡ unplaced (10 ∷ 38 ∷ [])
  advance_order to = refl

  -- "Engagement 22, 23, 10"
  pub engagement_order : (code text : List ℕ) (day s : ℕ) → rows (engagement_tests l code text day s) ≡ unplaced (22 ∷ 23 ∷ 10 ∷ [])
  unfolding engagement_tests
  engagement_order code text day s = refl

  -- "Record 22, 40, 41"
  pub record_order : (asker : List ℕ) (id : ℕ) → rows (record_tests l asker id) ≡ unplaced (22 ∷ 40 ∷ 41 ∷ [])
  unfolding record_tests
  record_order asker id = refl

  -- "History 22, 36"
  pub history_order : (code : List ℕ) (room : ℕ) → rows (history_tests l code room) ≡ unplaced (22 ∷ 36 ∷ [])
  unfolding history_tests
  history_order code room = refl
