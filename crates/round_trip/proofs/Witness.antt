-- The theorem speaks of something: a notification is written into two buffers, and what stands there is read as it.
use borrow.Fn.Kinds
use contract.Lifetimes
use denote.Array.{Array, array_val, each}
use denote.Laws.{Is}
use denote.MutBor.{MutBor}
use denote.Plain.{UInt}
use denote.Ref.{Bor}
use denote.Shadow.{shadow}
use denote.Struct.Laws.{vals}
use mir.Syntax.{Width, w8, w16}
use mir.Val.{vint, bits}
use mathlib.Core.Path.{◌≡◌, refl, sym}
use mathlib.Core.Bool.{true}
use mathlib.Core.List.{List, [], ◌∷◌, ◌++◌, map}
use Prim.Native.Nat.{ℕ, ◌≤◌, ◌^◌}
use native.Mathlib.Omega.{arith}
use lib.Dec.{ltb}
use lib.ListN.{length, take, drop, replicate}
use lib.Seq.{take_at}
use borrow.Author.Tests.{ltb-true}
use Rattle.lists.specs.Searches.{every}
use Rattle.lists.proofs.Tests.{and_left, and_right}
use Rattle.calendar.specs.Steps.{steps_of, last_sunday}
use Rattle.notification.specs.Forms.{is_code, is_category, category_text, all_zero}
use Rattle.notification.specs.Writing.{name_of, body_of, formed, ranged, lengths, written, Writes}
use Rattle.std.specs.Prelude.{Ok}
use Rattle.notification.specs.declared.Notification.{Notification}
use Rattle.notification.proofs.Lengths.{name_between, body_length}
use Rattle.notification.proofs.TwoWays.{two_ways}
use Rattle.notification.proofs.Buffers.{passes_fit, answers_fit}
use Rattle.notification.specs.contracts.Key as key
use Rattle.notification.proofs.Key.TheLaws as key_laws
use Rattle.notification.specs.contracts.Notification as notification
use Rattle.notification.proofs.Notification.TheLaws as notification-laws
use Rattle.writer.proofs.writing.write_file.Kinds as write-kinds
use Rattle.round_trip.proofs.RoundTrip.{Read, read, Wrote, wrote}

-- bytes that are lent; where they lie doesn't matter
abbrev lent : List ℕ → Bor (List ℕ)
lent s = record { ref_ptr = (0, 0); now = s }

abbrev no_lifetimes : Lifetimes.Lfts 2
no_lifetimes = ([], ([], tt))

-- the same, lent to be written
abbrev lent_mut : List ℕ → MutBor (List ℕ)
lent_mut s = record { ref_ptr = (0, 0); ghost_name = 0; now = s }

-- ---- a notification that its types admit

fits_each : (w : Width) (xs : List ℕ) → every (λ x. ltb x (2 ^ bits w)) xs ≡ true → shadow (each ℕ (UInt w).own_val xs (map (vint w) xs))
fits_each w [] e = tt
fits_each w (x ∷ xs) e =
    let f = ltb x (2 ^ bits w) in
    let r = every (λ x. ltb x (2 ^ bits w)) xs in
    ((refl, ltb-true x (2 ^ bits w) (and_left f r e)), fits_each w xs (and_right f r e))

array_fits : (w : Width) (n : ℕ) (xs : List ℕ) → length xs ≡ n → every (λ x. ltb x (2 ^ bits w)) xs ≡ true →
    Is (Array (UInt w) n) xs (array_val (map (vint w) xs) ∷ [])
array_fits w n xs l e = (map (vint w) xs, ((refl, l), fits_each w xs e))

-- 1 MW at each of 48 steps of 20000101, from AAAAAAAAAAAAAAAA to BBBBBBBBBBBBBBBB, category 00000C
abbrev pub note : Notification
note =
    record {
      key = record { ceder = replicate 16 65; acquirer = replicate 16 66; category = replicate 5 48 ++ 67 ∷ []; day = 0 };
      steps = 48;
      powers = replicate 48 1 ++ replicate 2 0;
    }

key_fits : Is key.the_row note.key (vals key.the_type key_laws.the_laws note.key)
key_fits =
    let ceder = array_fits w8 16 note.key.ceder refl refl in
    let acquirer = array_fits w8 16 note.key.acquirer refl refl in
    let category = array_fits w8 6 note.key.category refl refl in
    (_, (refl, (ceder, (acquirer, (category, ((refl, omega arith), tt))))))

note_fits : Is notification.the_row note (vals notification.the_type notification-laws.the_laws note)
note_fits = (_, (refl, (key_fits, ((refl, omega arith), (array_fits w16 50 note.powers refl refl, tt)))))

abbrev name_room : List ℕ
name_room = replicate 57 0

abbrev body_room : List ℕ
body_room = replicate 1351 0

arguments_fit : Kinds.GoodsP no_lifetimes write-kinds.ps (note, (lent_mut name_room, (lent_mut body_room, tt)))
arguments_fit = (note_fits, ((omega arith, omega arith), ((omega arith, omega arith), tt)))

-- ---- it is written, and read

abbrev name : List ℕ
name = name_of note.key

abbrev body : List ℕ
body = body_of note

a_form : formed note.key ≡ true
unfolding formed is_code is_category category_text
a_form = refl

name_fits : length name ≤ 57
name_fits = (name_between note.key a_form).1

body_fits : length body ≤ 1351
body_fits = body_length note a_form (omega arith)

can_be_written : Writes note name body
unfolding formed ranged is_code is_category category_text all_zero steps_of last_sunday
can_be_written = record { six = refl; fifty = refl; passes = refl; its_name = refl; its_body = refl }

abbrev name_after : List ℕ
name_after = name ++ drop (length name) name_room

abbrev body_after : List ℕ
body_after = body ++ drop (length body) body_room

pub is_written : Wrote note name_room body_room (Ok (lengths (length name) (length body))) name_after body_after
unfolding written
is_written =
    let passed = passes_fit note name body can_be_written 57 1351 name_fits body_fits in
    wrote no_lifetimes (note, (lent_mut name_room, (lent_mut body_room, tt))) _ (note, (lent_mut name_after, (lent_mut body_after, tt))) arguments_fit
    (λ asked. record {
      answers = sym (answers_fit note name body can_be_written 57 1351 name_fits body_fits);
      its_name = rw passed;
      its_body = rw passed;
    })

pub is_read : Read (take (length name) name_after) (take (length body) body_after) (Ok note)
is_read =
    rw (take_at name (drop (length name) name_room) (length name) refl, take_at body (drop (length body) body_room) (length body) refl)
    (read no_lifetimes (lent name, (lent body, tt)) _ (lent name, (lent body, tt)) (λ asked. sym ((two_ways name body note).1 can_be_written)))
