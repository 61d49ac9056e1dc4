-- The object of a request as it is written, and what writing it comes to. Document 02, K3: "A writer takes a notification, an origin and a
-- submission moment and gives the object without blanks".
use Rattle.refusals.specs.declared.Refusal.{Refusal}
use Rattle.std.specs.Prelude.{◌≡◌, cond, not, ◌&&◌, List, [], ◌∷◌, ◌++◌, ℕ, suc, ◌≤◌, ltb, eqb, length, take, drop, Err, Ok, Result}
use Rattle.refusals.specs.Tests.{Test, input, state, first_met, decide, Verdict, pass}
use Rattle.refusals.specs.declared.InputRefusal.TheVariants.{Form, Range, Zeros}
use Rattle.refusals.specs.declared.StateRefusal.TheVariants.{Full}
use Rattle.notification.specs.Forms.{is_code, category_text, digits, places, all_zero}
use Rattle.notification.specs.Writing.{label_text, formed, ranged}
use Rattle.notification.specs.declared.Notification.{Notification}
use Rattle.request.specs.Tokens.{quoted, tokens, joined}
use Rattle.request.specs.Moments.{in_time, moment_text, midnight}
use Rattle.request.specs.Objects.{Values, Step, object_of}
use Rattle.request.specs.declared.Request.{Request}

-- "Labels are `hhhmm`, the last end is `00h00`, long days use `_BIS`": the file's label with an h for its colon, and the day ends as it
-- begins
unfoldable pub hour_label : ℕ → ℕ → List ℕ
hour_label steps at = let t = label_text steps (cond (eqb at steps) 0 at) in take 2 t ++ 104 ∷ drop 3 t

-- the tokens of the members' values
abbrev pub values_of : Request → Values (List ℕ)
values_of r =
    let k = r.notification.key in
    record {
      ceder = quoted k.ceder;
      acquirer = quoted k.acquirer;
      origin = quoted r.origin;
      category = quoted (category_text k.category);
      day = quoted (moment_text (midnight k.day));
      submitted = quoted (moment_text r.moment);
    }

-- and of the steps from k on, one for each power
unfoldable pub steps_for : ℕ → ℕ → List ℕ → List (Step (List ℕ))
steps_for steps k [] = []
steps_for steps k (p ∷ ps) =
    record { from = quoted (hour_label steps k); until = quoted (hour_label steps (suc k)); power = digits p } ∷ steps_for steps (suc k) ps

abbrev pub steps_of_note : Notification → List (Step (List ℕ))
steps_of_note n = steps_for n.steps 0 (take n.steps n.powers)

-- THE OBJECT OF A REQUEST: its tokens, and its text without blanks
unfoldable pub object_tokens : Request → List (List ℕ)
object_tokens r = object_of (λ t. t) (values_of r) (steps_of_note r.notification)

abbrev pub object_text : Request → List ℕ
object_text r = joined (object_tokens r)

-- "It refuses as the file's writer does, with the origin's form under 9 and the moment's range under 10": 9, 10, 8
abbrev pub request_tests : Request → List Test
request_tests r =
    let n = r.notification in
    (not (formed n.key && is_code r.origin), input Form)
    ∷ (not (ranged n && in_time r.moment), input Range)
    ∷ (all_zero n.powers, input Zeros)
    ∷ []

-- and 36, where the lent buffer is too short
unfoldable pub request_verdict : Request → ℕ → Verdict
request_verdict r buffer = first_met (request_tests r ++ (ltb buffer (length (object_text r)), state Full) ∷ [])

unfoldable pub request_answer : Request → ℕ → Result ℕ Refusal
request_answer r buffer = decide (request_verdict r buffer) (Ok (length (object_text r))) Err

-- "a JSON body is at most 8,192 bytes"
abbrev pub object_most : ℕ
object_most = 8192

-- WRITING r GIVES THIS TEXT, apart from blanks between its tokens and around it: the arrays have their places, nothing refuses it, and
-- these are its tokens
pub record WritesObject (r : Request) (s : List ℕ) : Type 0 where
  pub six : length r.notification.key.category ≡ 6
  pub fifty : length r.notification.powers ≡ places
  pub passes : first_met (request_tests r) ≡ pass
  pub its_tokens : tokens s ≡ object_tokens r
  pub short : length s ≤ object_most
