-- The tokens of an object are whole, so that each layout of them, with blanks or without, has these tokens again.
use mathlib.Core.Path.{◌≡◌, refl}
use mathlib.Core.Bool.{Bool, true, ◌&&◌}
use mathlib.Core.List.{List, [], ◌∷◌, ◌++◌, append_assoc}
use Prim.Native.Nat.{ℕ}
use lib.ListN.{take}
use Rattle.lists.specs.Searches.{every}
use Rattle.lists.proofs.Tests.{and_left, and_right}
use Rattle.notification.specs.Forms.{is_code, is_category}
use Rattle.request.specs.Tokens.{quoted, joined, quoted_by}
use Rattle.request.specs.Moments.{is_moment_text, is_day_text}
use Rattle.request.specs.Objects.{ceder_name, acquirer_name, origin_name, category_name, day_name, submitted_name, status_name, created, series_name, from_name, until_name, power_name, Values, Step, further, parted, step_of, series_of, object_of}
use Rattle.request.specs.Reading.{is_label_byte, step_test, head_tokens}
use Rattle.request.proofs.Fits.{quoted_made, quoted_other}
use Rattle.request.proofs.Whole.{unquoted, Whole, none, mark, text, run}
use Rattle.request.proofs.Series.{colon, token, step_fits, more, between}
use Rattle.request.proofs.Shapes.{Fitted, object_tokens_lem}
use Rattle.request.proofs.Unquoted.{code_unquoted, category_unquoted, moment_text_unquoted, day_text_unquoted, label_unquoted}

-- ---- a token in front

-- a name and its colon
named : (name : List ℕ) (ts : List (List ℕ)) → every unquoted name ≡ true → Whole ts → Whole (quoted name ∷ colon ∷ ts)
named name ts e w = text (quoted name) (colon ∷ ts) (quoted_made (every unquoted) name e) (mark 58 ts refl w)

-- a text of a form that has no quotes
formed : (form : List ℕ → Bool) → ((s : List ℕ) → form s ≡ true → every unquoted s ≡ true) → (t : List ℕ) (ts : List (List ℕ))
    → quoted_by form t ≡ true → Whole ts → Whole (t ∷ ts)
formed form f t ts e w = text t ts (quoted_other form (every unquoted) f t e) w

-- ---- steps

module _ (s : Step (List ℕ)) (ts : List (List ℕ)) (e : step_fits s ≡ true) (w : Whole ts) where
  step_whole : Whole (step_of token s ++ ts)
  unfolding step_of parted further joined
  step_whole =
      let f = step_test.from s.from in
      let u = step_test.until s.until in
      let p = step_test.power s.power in
      mark 123 _ refl (named from_name _ refl (formed (every is_label_byte) label_unquoted s.from _ (and_left f u (and_left (f && u) p e))
      (mark 44 _ refl (named until_name _ refl (formed (every is_label_byte) label_unquoted s.until _ (and_right f u (and_left (f && u) p e))
      (mark 44 _ refl (named power_name _ refl (run s.power _ (and_right (f && u) p e) refl (mark 125 ts refl w)))))))))

more_whole : (ss : List (Step (List ℕ))) (ts : List (List ℕ)) → every step_fits ss ≡ true → Whole ts → Whole (more token ss ++ ts)
unfolding further
more_whole [] ts e w = w
more_whole (s ∷ ss) ts e w =
    rw (append_assoc (step_of token s))
    (mark 44 _ refl (step_whole s (more token ss ++ ts) (and_left (step_fits s) (every step_fits ss) e)
    (more_whole ss ts (and_right (step_fits s) (every step_fits ss) e) w)))

series_whole : (ss : List (Step (List ℕ))) (ts : List (List ℕ)) → every step_fits ss ≡ true → Whole ts → Whole (between token ss ++ ts)
unfolding parted
series_whole [] ts e w = w
series_whole (s ∷ ss) ts e w =
    rw (append_assoc (step_of token s))
    (step_whole s (more token ss ++ ts) (and_left (step_fits s) (every step_fits ss) e)
    (more_whole ss ts (and_right (step_fits s) (every step_fits ss) e) w))

-- ---- the object

head_whole : (v : Values (List ℕ)) (ts : List (List ℕ)) → Fitted v → Whole ts → Whole (take head_tokens (object_of token v []) ++ ts)
unfolding object_of series_of parted further
head_whole v ts f w =
    mark 123 _ refl (named ceder_name _ refl (formed is_code code_unquoted v.ceder _ f.ceder
    (mark 44 _ refl (named acquirer_name _ refl (formed is_code code_unquoted v.acquirer _ f.acquirer
    (mark 44 _ refl (named origin_name _ refl (formed is_code code_unquoted v.origin _ f.origin
    (mark 44 _ refl (named category_name _ refl (formed is_category category_unquoted v.category _ f.category
    (mark 44 _ refl (named day_name _ refl (formed is_day_text day_text_unquoted v.day _ f.day
    (mark 44 _ refl (named submitted_name _ refl (formed is_moment_text moment_text_unquoted v.submitted _ f.submitted
    (mark 44 _ refl (named status_name _ refl (text (quoted created) _ (quoted_made (every unquoted) created refl)
    (mark 44 _ refl (named series_name _ refl (mark 91 ts refl w)))))))))))))))))))))))

pub object_whole : (v : Values (List ℕ)) (ss : List (Step (List ℕ))) → Fitted v → every step_fits ss ≡ true → Whole (object_of token v ss)
object_whole v ss f e =
    rw (object_tokens_lem token v ss) (head_whole v _ f (series_whole ss _ e (mark 93 _ refl (mark 125 [] refl none))))
