-- The pieces in which an object is put: what stands before a value, the value, and so on to the object's end.
use Rattle.std.specs.Prelude.{cond, List, [], ◌∷◌, ◌++◌, ℕ, suc, eqb, take}
use Rattle.notification.specs.Forms.{category_text, digits}
use Rattle.notification.specs.declared.Notification.{Notification}
use Rattle.writer.specs.Placing.{step_texts}
use Rattle.request.specs.Tokens.{quote, quoted}
use Rattle.request.specs.Moments.{moment_text, midnight}
use Rattle.request.specs.Objects.{ceder_name, acquirer_name, origin_name, category_name, day_name, submitted_name, status_name, created, series_name, from_name, until_name, power_name}
use Rattle.request.specs.Writing.{hour_label}
use Rattle.request.specs.declared.Request.{Request}

-- `{"name":"`, before a quoted value
abbrev pub first_lead : List ℕ → List ℕ
first_lead name = 123 ∷ (quoted name ++ 58 ∷ quote ∷ [])

-- `","name":`, which ends a quoted value and leads to the next member
abbrev pub next_lead : List ℕ → List ℕ
next_lead name = quote ∷ 44 ∷ (quoted name ++ 58 ∷ [])

-- `","name":"`, the same before a quoted value
abbrev pub lead : List ℕ → List ℕ
lead name = quote ∷ 44 ∷ (quoted name ++ 58 ∷ quote ∷ [])

-- the three codes
abbrev pub ceder_text : Request → List ℕ
ceder_text r = first_lead ceder_name ++ r.notification.key.ceder

abbrev pub acquirer_text : Request → List ℕ
acquirer_text r = lead acquirer_name ++ r.notification.key.acquirer

abbrev pub origin_text : Request → List ℕ
origin_text r = lead origin_name ++ r.origin

abbrev pub actors_text : Request → List ℕ
actors_text r = ceder_text r ++ (acquirer_text r ++ origin_text r)

-- `","Statut":"C","Chronique":`
abbrev pub status_text : List ℕ
status_text = next_lead status_name ++ (quoted created ++ 44 ∷ (quoted series_name ++ 58 ∷ []))

-- the category, the two dates and the status
abbrev pub terms_text : Request → List ℕ
terms_text r =
    let k = r.notification.key in
    (lead category_name ++ category_text k.category) ++
    ((lead day_name ++ moment_text (midnight k.day)) ++ ((lead submitted_name ++ moment_text r.moment) ++ status_text))

-- what stands before a step: `[` before the first, `,` before any other
abbrev pub mark_of : ℕ → ℕ
mark_of k = cond (eqb k 0) 91 44

-- a step's labels, and its power with what ends the step
abbrev pub from_text : ℕ → ℕ → List ℕ
from_text steps k = first_lead from_name ++ hour_label steps k

abbrev pub until_text : ℕ → ℕ → List ℕ
until_text steps k = lead until_name ++ hour_label steps (suc k)

abbrev pub power_object : ℕ → List ℕ
power_object p = (next_lead power_name ++ digits p) ++ 125 ∷ []

-- a step, and with what stands before it
abbrev pub step_object : ℕ → ℕ → ℕ → List ℕ
step_object steps k p = from_text steps k ++ (until_text steps k ++ power_object p)

abbrev pub marked_step : ℕ → ℕ → ℕ → List ℕ
marked_step steps k p = (mark_of k ∷ []) ++ step_object steps k p

-- a notification's steps, each with what stands before it
abbrev pub steps_text : Notification → List ℕ
steps_text n = step_texts (marked_step n.steps) 0 (take n.steps n.powers)

-- `]}`
abbrev pub end_text : List ℕ
end_text = 93 ∷ 125 ∷ []
