-- The reading of a list of calls and answers (document 01, "The list of demand 3"), from arguments and answers alone. Events
-- stand with the newest first. Nothing here looks at a ledger.
use Rattle.notification.specs.Reading.{note_of}
use Rattle.std.specs.Prelude.{Bool, cond, ◌&&◌, List, [], ◌∷◌, ◌++◌, ℕ, leb, eqb, get_or, Ok, Err}
use Rattle.lists.specs.Searches.{same, some}
use Rattle.lists.specs.Sums.{sum_over}
use Rattle.calendar.specs.Clocks.{fresh_clock}
use Rattle.calendar.specs.declared.clock.Clock.{Clock}
use Rattle.notification.specs.Forms.{category_text}
use Rattle.notification.specs.declared.Notification.{Notification}
use Rattle.ledger.specs.Call.{Answered, read_form, Call, enrol_actor, enrol_category, load, file, advance}
use Rattle.ledger.specs.Statuses.{validated}
use Rattle.ledger.specs.declared.Answer.TheVariants.{Moved, Held, Filed}

-- a call with its answer
pub record Event : Type 0 where
  pub call : Call
  pub answer : Answered

-- the events of a list of calls and its answers, added to those before them
abbrev pub events : List Call → List Answered → List Event → List Event
events [] ys h = h
events (c ∷ cs) [] h = h
events (c ∷ cs) (y ∷ ys) h = events cs ys (record { call = c; answer = y } ∷ h)

-- a refused call adds nothing
abbrev pub unless_refused : {A : Type 0} → Answered → A → A → A
unless_refused (Ok y) more before = more
unless_refused (Err r) more before = before

-- a reading: what each accepted call makes of what was read before
abbrev pub reading : {A : Type 0} → (Call → Answered → A → A) → A → List Event → A
reading f start [] = start
reading f start (e ∷ h) = unless_refused e.answer (f e.call e.answer (reading f start h)) (reading f start h)

-- AN ACTOR OR CATEGORY IS ENROLLED if a call to enrol it was accepted: the codes, and the categories, in that order

abbrev pub enrols : Call → Answered → List (List ℕ) → List (List ℕ)
enrols (enrol_actor code first last) y xs = xs ++ (code ∷ [])
enrols (enrol_category text) y xs = xs
enrols (load a z d m ps) y xs = xs
enrols (file e u form) y xs = xs
enrols (advance d m) y xs = xs

unfoldable pub actors_of : List Event → List (List ℕ)
actors_of h = reading enrols [] h

abbrev pub admits : Call → Answered → List (List ℕ) → List (List ℕ)
admits (enrol_actor code first last) y xs = xs
admits (enrol_category text) y xs = xs ++ (text ∷ [])
admits (load a z d m ps) y xs = xs
admits (file e u form) y xs = xs
admits (advance d m) y xs = xs

unfoldable pub categories_of : List Event → List (List ℕ)
categories_of h = reading admits [] h

abbrev pub is_among : List ℕ → List (List ℕ) → Bool
is_among x xs = some (λ y. same y x) xs

-- LOADED AND APPROVED POWER are those of the accepted load for the actor, category and day, or 0 without one

abbrev pub loads : List ℕ → List ℕ → ℕ → (ℕ → List ℕ → ℕ) → Call → Answered → ℕ → ℕ
loads a z d of (enrol_actor code first last) y n = n
loads a z d of (enrol_category text) y n = n
loads a z d of (load a' z' d' m ps) y n = cond (same a' a && same z' z && eqb d' d) (of m ps) n
loads a z d of (file e u form) y n = n
loads a z d of (advance d' m) y n = n

unfoldable pub loaded_of : List Event → List ℕ → List ℕ → ℕ → ℕ → ℕ
loaded_of h a z d s = reading (loads a z d (λ m ps. get_or ps s 0)) 0 h

unfoldable pub approved_of : List Event → List ℕ → List ℕ → ℕ → ℕ
approved_of h a z d = reading (loads a z d (λ m ps. m)) 0 h

-- THE CLOCK stands at the moment of the last accepted advance, or at day 0, minute 0 without one

abbrev pub sets : Call → Answered → Clock → Clock
sets (enrol_actor code first last) y t = t
sets (enrol_category text) y t = t
sets (load a z d m ps) y t = t
sets (file e u form) y t = t
sets (advance d m) y t = record { day = d; minute = m }

unfoldable pub clock_of : List Event → Clock
clock_of h = reading sets fresh_clock h

-- AN EXCHANGE SURVIVES AT A STEP: of the filings under a key answered V, take the last whose from-step is at most that
-- step; its power there is the key's power, else 0

-- a notification is under a key: ceder, acquirer, category and day
abbrev pub under : Notification → List ℕ → List ℕ → List ℕ → ℕ → Bool
under n c a z d =
    same n.key.ceder c && same n.key.acquirer a && same (category_text n.key.category) z && eqb n.key.day d

abbrev pub survives : List ℕ → List ℕ → List ℕ → ℕ → ℕ → Notification → Answered → ℕ → ℕ
survives c a z d s n (Ok Moved) p = p
survives c a z d s n (Ok (Held x)) p = p
survives c a z d s n (Ok (Filed id status from)) p =
    cond (eqb status validated && leb from s && under n c a z d) (get_or n.powers s 0) p
survives c a z d s n (Err r) p = p

abbrev pub exchanges : List ℕ → List ℕ → List ℕ → ℕ → ℕ → Call → Answered → ℕ → ℕ
exchanges c a z d s (enrol_actor code first last) y p = p
exchanges c a z d s (enrol_category text) y p = p
exchanges c a z d s (load a' z' d' m ps) y p = p
exchanges c a z d s (file e u form) y p = survives c a z d s (note_of (read_form u form)) y p
exchanges c a z d s (advance d' m) y p = p

unfoldable pub power_of : List Event → List ℕ → List ℕ → List ℕ → ℕ → ℕ → ℕ
power_of h c a z d s = reading (exchanges c a z d s) 0 h

-- AN ACTOR'S ENGAGEMENT is loaded power, plus the key powers where it acquires, less those where it cedes

unfoldable pub acquired_of : List Event → List ℕ → List ℕ → ℕ → ℕ → ℕ
acquired_of h a z d s = sum_over (actors_of h) (λ c. power_of h c a z d s)

unfoldable pub ceded_of : List Event → List ℕ → List ℕ → ℕ → ℕ → ℕ
ceded_of h a z d s = sum_over (actors_of h) (λ b. power_of h a b z d s)
