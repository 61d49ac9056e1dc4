-- The pieces in which a name and a body are put, and what writing leaves in the two buffers that are lent to it.
use Rattle.std.specs.Prelude.{◌≡◌, true, List, [], ◌∷◌, ◌++◌, ℕ, suc, ◌+◌, ◌≤◌, ltb, length, Result}
use Rattle.std.proofs.lemmas.List.Edits.{sets}
use Rattle.lists.specs.Searches.{every}
use Rattle.calendar.specs.Steps.{long_steps}
use Rattle.calendar.specs.Texts.{text_of}
use Rattle.notification.specs.Forms.{power_end}
use Rattle.notification.specs.Writing.{labels_text, power_text, name_of, body_of, write_verdict, write_answer, written}
use Rattle.notification.specs.declared.Key.{Key}
use Rattle.notification.specs.declared.Notification.{Notification}
use Rattle.refusals.specs.declared.Refusal.{Refusal}
use Rattle.notification.specs.declared.FileLengths.{FileLengths}

-- a text put at a place: what the buffer holds after it, and the place that follows the text
pub record Placed (before : List ℕ) (at : ℕ) (text after : List ℕ) (next : ℕ) : Type 0 where
  pub holds : after ≡ sets before at text
  pub follows : next ≡ at + length text

-- ceder, acquirer and date of a key, each ended by a byte
abbrev pub key_start : ℕ → Key → List ℕ
key_start by k = (k.ceder ++ by ∷ []) ++ (k.acquirer ++ by ∷ []) ++ (text_of k.day ++ by ∷ [])

-- a step's line with its LF
abbrev pub step_text : ℕ → ℕ → ℕ → List ℕ
step_text steps k p = labels_text steps k ++ power_text p ++ 10 ∷ []

-- a text for each power from the k-th step on, one after another
unfoldable pub step_texts : (ℕ → ℕ → List ℕ) → ℕ → List ℕ → List ℕ
step_texts text k [] = []
step_texts text k (p ∷ ps) = text k p ++ step_texts text (suc k) ps

-- a power for each of a day's steps, and each power in its range
pub record Powered (steps : ℕ) (powers : List ℕ) : Type 0 where
  pub few : steps ≤ long_steps
  pub there : steps ≤ length powers
  pub in_range_lem : every (λ p. ltb p power_end) powers ≡ true

-- a notification written into two buffers: the answer, and both buffers afterwards
pub record FileWritten (n : Notification) (name body : List ℕ) (answer : Result FileLengths Refusal) (name-after body-after : List ℕ) : Type 0 where
  pub answers : answer ≡ write_answer n (length name) (length body)
  pub its_name : name-after ≡ written (write_verdict n (length name) (length body)) (name_of n.key) name
  pub its_body : body-after ≡ written (write_verdict n (length name) (length body)) (body_of n) body
