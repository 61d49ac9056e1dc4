-- The two date members. Document 02, K3: "Both date members are `YYYY-MM-DDTHH:mm:ssZ` with a date of document 01 and a time from 00:00:00 to
-- 23:59:59".
use Rattle.std.specs.Prelude.{Bool, ◌&&◌, List, [], ◌∷◌, ◌++◌, ℕ, ◌+◌, ◌*◌, ◌/◌, ◌%◌, ltb, eqb, get_or, take, drop}
use Rattle.lists.specs.Searches.{same}
use Rattle.calendar.specs.Dates.{day_count}
use Rattle.calendar.specs.Texts.{tens, ones, text_of, pair_of, day_of}
use Rattle.notification.specs.Reading.{day_number}
use Rattle.request.specs.declared.Moment.{Moment}

-- "a time from 00:00:00 to 23:59:59": the seconds of a day
abbrev pub day_seconds : ℕ
day_seconds = 86400

-- "with a date of document 01 and a time from 00:00:00 to 23:59:59"
unfoldable pub in_time : Moment → Bool
in_time m = ltb m.day day_count && ltb m.second day_seconds

abbrev pub two_digits : ℕ → List ℕ
two_digits n = tens n ∷ ones n ∷ []

-- "`YYYY-MM-DDTHH:mm:ssZ`"
unfoldable pub moment_text : Moment → List ℕ
moment_text m =
    let date = text_of m.day in
    let s = m.second in
    take 4 date ++ 45 ∷ (take 2 (drop 4 date) ++ 45 ∷ (drop 6 date ++ 84 ∷
    (two_digits (s / 3600) ++ 58 ∷ (two_digits (s / 60 % 60) ++ 58 ∷ (two_digits (s % 60) ++ 90 ∷ [])))))

-- what a text says by the places of its digits
unfoldable pub moment_in : List ℕ → Moment
moment_in s =
    record {
      day = day_number (day_of (take 4 s ++ (take 2 (drop 5 s) ++ take 2 (drop 8 s))));
      second =
          3600 * pair_of (get_or s 11 0) (get_or s 12 0) + 60 * pair_of (get_or s 14 0) (get_or s 15 0) + pair_of (get_or s 17 0) (get_or s 18 0);
    }

-- a text is a moment's: what it says is one, and it is the text that this gives
unfoldable pub is_moment_text : List ℕ → Bool
is_moment_text s = in_time (moment_in s) && same s (moment_text (moment_in s))

-- "the delivery day is the date part of DateExploitation and its time is 00:00:00"
unfoldable pub is_day_text : List ℕ → Bool
is_day_text s = is_moment_text s && eqb (moment_in s).second 0

abbrev pub midnight : ℕ → Moment
midnight day = record { day = day; second = 0 }
