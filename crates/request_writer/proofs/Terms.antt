-- The members between the codes and the steps, in the pieces that they are written in.
use mathlib.Core.Path.{◌≡◌, refl}
use mathlib.Core.List.{List, [], ◌∷◌, ◌++◌}
use Prim.Native.Nat.{ℕ, ◌+◌, ◌/◌, ◌%◌, ◌≤◌}
use lib.Dec.{ltb}
use lib.ListN.{length, get_or}
use Rattle.lists.proofs.Tests.{by_test}
use Rattle.calendar.specs.Dates.{day_count}
use Rattle.calendar.specs.Texts.{digit_of, text_of}
use Rattle.notification.specs.Forms.{category_text}
use Rattle.writer.specs.Placing.{Placed}
use Rattle.writer.proofs.Placed.{placed_join, room_first, room_second}
use Rattle.request.specs.Moments.{moment_text, midnight}
use Rattle.request.specs.Objects.{category_name, day_name, submitted_name}
use Rattle.request.specs.declared.Moment.{Moment}
use Rattle.request.specs.declared.Request.{Request}
use Rattle.request_writer.specs.Pieces.{lead, status_text, terms_text}

-- ---- a moment's text

pub moment_made : (m : Moment) (d : List ℕ) (a b c e f g : ℕ) → d ≡ text_of m.day
    → a ≡ digit_of (m.second / 3600 / 10) → b ≡ digit_of (m.second / 3600)
    → c ≡ digit_of (m.second / 60 % 60 / 10) → e ≡ digit_of (m.second / 60 % 60)
    → f ≡ digit_of (m.second % 60 / 10) → g ≡ digit_of (m.second % 60)
    → get_or d 0 0 ∷ get_or d 1 0 ∷ get_or d 2 0 ∷ get_or d 3 0 ∷ 45 ∷ get_or d 4 0 ∷ get_or d 5 0 ∷ 45 ∷ get_or d 6 0 ∷ get_or d 7 0 ∷
    84 ∷ a ∷ b ∷ 58 ∷ c ∷ e ∷ 58 ∷ f ∷ g ∷ 90 ∷ [] ≡ moment_text m
unfolding moment_text text_of
moment_made m d a b c e f g ed ea eb ec ee ef eg =
    by_test (ltb m.day day_count)
    (λ t. rw (ed, ea, eb, ec, ee, ef, eg, t) refl)
    (λ t. rw (ed, ea, eb, ec, ee, ef, eg, t) refl)

-- ---- category, dates and status

module _ (r : Request) (category day submitted : List ℕ) (ec : category ≡ category_text r.notification.key.category)
    (ed : day ≡ moment_text (midnight r.notification.key.day)) (es : submitted ≡ moment_text r.moment)
    (buffer : List ℕ) (at : ℕ) (room : at + length (terms_text r) ≤ length buffer) where
  abbrev first : List ℕ
  first = lead category_name ++ category

  abbrev second : List ℕ
  second = lead day_name ++ day

  abbrev third : List ℕ
  third = lead submitted_name ++ submitted

  room_all : at + length (first ++ (second ++ (third ++ status_text))) ≤ length buffer
  room_all = rw (ec, ed, es) room

  pub room_category : at + length first ≤ length buffer
  room_category = room_first at first (second ++ (third ++ status_text)) room_all

  module _ (b : List ℕ) (n : ℕ) (p : Placed buffer at first b n) where
    module _ (c : List ℕ) (m : ℕ) (q : Placed b n second c m) where
      room_last : m + length (third ++ status_text) ≤ length c
      room_last = room_second (third ++ status_text) q (room_second (second ++ (third ++ status_text)) p room_all)

      module _ (d : List ℕ) (k : ℕ) (s : Placed c m third d k) where
        pub terms_placed : (f : List ℕ) (end : ℕ) → Placed d k status_text f end → Placed buffer at (terms_text r) f end
        terms_placed f end t = rw (ec, ed, es) at (placed_join p (placed_join q (placed_join s t)))
