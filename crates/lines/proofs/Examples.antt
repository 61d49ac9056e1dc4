-- Document 01, "The script program", computed: which lines an input has, and its sample, from the bytes of the input to the bytes printed.
use Rattle.std.proofs.Common.{◌≡◌, ℕ, false, List, [], ◌∷◌, ◌++◌, replicate, refl}
use Rattle.lists.specs.Searches.{same, place_of}
use Rattle.calendar.specs.Dates.{number, valid, month_length, leap_days, before_year, before_month, date, tomorrow}
use Rattle.calendar.specs.Texts.{pair_of, day_of}
use Rattle.calendar.specs.Steps.{steps_of, last_sunday}
use Rattle.notification.specs.Forms.{is_code, is_category}
use Rattle.ledger.specs.Ledger.{fresh, actor_at, category_at, loaded, moved, acquired, ceded, engagement, gained, power}
use Rattle.ledger.specs.Calls.{actor_tests, category_tests, verdict_of, effect, step}
use Rattle.ledger.specs.Asking.{engagement_tests, engaged_at, ask_engagement}
use Rattle.script.specs.Numbers.{is_number, value_from, decimal_in}
use Rattle.script.specs.Lines.{fields, advance_line, enrol_line, category_line, load_line, file_line, engagement_line, record_line, by_letter, line_of}
use Rattle.script.specs.Answers.{value_text, values_text, said_text, answer_line}
use Rattle.lines.specs.Scripts.{lines_after, lines_of, Files, line_says, printed}

-- no file can be read
abbrev nowhere : Files
nowhere n name = record { readable = false; body = [] }

-- the sample's lines, each with its LF but the last
abbrev sample : List ℕ
sample =
    84 ∷ 44 ∷ 50 ∷ 48 ∷ 50 ∷ 49 ∷ 48 ∷ 49 ∷ 50 ∷ 48 ∷ 44 ∷ 54 ∷ 48 ∷ 48 ∷ 10
    ∷ 65 ∷ 44 ∷ 49 ∷ 55 ∷ 88 ∷ 49 ∷ 48 ∷ 48 ∷ 65 ∷ 49 ∷ 48 ∷ 48 ∷ 82 ∷ 48 ∷ 48 ∷ 48 ∷ 48 ∷ 76 ∷ 44 ∷ 50 ∷ 48 ∷ 50 ∷ 49 ∷ 48 ∷ 49 ∷ 48 ∷ 49 ∷ 44 ∷ 50 ∷ 48 ∷ 50 ∷ 49 ∷ 49 ∷ 50 ∷ 51 ∷ 49 ∷ 10
    ∷ 65 ∷ 44 ∷ 49 ∷ 55 ∷ 88 ∷ 49 ∷ 48 ∷ 48 ∷ 65 ∷ 49 ∷ 48 ∷ 48 ∷ 82 ∷ 48 ∷ 48 ∷ 48 ∷ 49 ∷ 74 ∷ 44 ∷ 50 ∷ 48 ∷ 50 ∷ 49 ∷ 48 ∷ 49 ∷ 48 ∷ 49 ∷ 44 ∷ 50 ∷ 48 ∷ 50 ∷ 49 ∷ 49 ∷ 50 ∷ 51 ∷ 49 ∷ 10
    ∷ 67 ∷ 44 ∷ 49 ∷ 51 ∷ 49 ∷ 50 ∷ 48 ∷ 10
    ∷ 84 ∷ 44 ∷ 50 ∷ 48 ∷ 50 ∷ 49 ∷ 48 ∷ 49 ∷ 50 ∷ 48 ∷ 44 ∷ 53 ∷ 57 ∷ 57 ∷ 10
    ∷ 69 ∷ 44 ∷ 49 ∷ 55 ∷ 88 ∷ 49 ∷ 48 ∷ 48 ∷ 65 ∷ 49 ∷ 48 ∷ 48 ∷ 82 ∷ 48 ∷ 48 ∷ 48 ∷ 49 ∷ 74 ∷ 44 ∷ 49 ∷ 51 ∷ 49 ∷ 50 ∷ 48 ∷ 44 ∷ 50 ∷ 48 ∷ 50 ∷ 49 ∷ 48 ∷ 49 ∷ 50 ∷ 49 ∷ 44 ∷ 48 ∷ 10
    ∷ 90 ∷ []

-- what it prints
abbrev answers : List ℕ
answers =
    49 ∷ 44 ∷ 111 ∷ 107 ∷ 10
    ∷ 50 ∷ 44 ∷ 111 ∷ 107 ∷ 44 ∷ 49 ∷ 10
    ∷ 51 ∷ 44 ∷ 111 ∷ 107 ∷ 44 ∷ 50 ∷ 10
    ∷ 52 ∷ 44 ∷ 111 ∷ 107 ∷ 44 ∷ 49 ∷ 10
    ∷ 53 ∷ 44 ∷ 110 ∷ 111 ∷ 44 ∷ 51 ∷ 56 ∷ 44 ∷ 48 ∷ 10
    ∷ 54 ∷ 44 ∷ 111 ∷ 107 ∷ 44 ∷ 48 ∷ 10
    ∷ 55 ∷ 44 ∷ 110 ∷ 111 ∷ 44 ∷ 49 ∷ 49 ∷ 44 ∷ 48 ∷ 10 ∷ []

pub record Computed : Type 0 where
  -- no line; an empty line; a last line that lacks its LF, and one that has it; an empty line at the end
  pub no_byte : lines_of [] ≡ []
  pub an_LF : lines_of (10 ∷ []) ≡ [] ∷ []
  pub lacks_LF : lines_of (67 ∷ []) ≡ (67 ∷ []) ∷ []
  pub has_LF : lines_of (67 ∷ 10 ∷ []) ≡ (67 ∷ []) ∷ []
  pub two_LF : lines_of (67 ∷ 10 ∷ 10 ∷ []) ≡ (67 ∷ []) ∷ [] ∷ []
  -- "Input `T,20210120,600` / .. / `Z`, a line each, prints `1,ok` / .. / `7,no,11,0`"
  pub the_sample : printed nowhere fresh 1 (lines_of sample) ≡ answers
  -- 513 bytes `x` and then `C,13120`: `1,no,11,0` / `2,ok,1`
  pub over_long : printed nowhere fresh 1 (lines_of (replicate 513 120 ++ 10 ∷ 67 ∷ 44 ∷ 49 ∷ 51 ∷ 49 ∷ 50 ∷ 48 ∷ [])) ≡ 49 ∷ 44 ∷ 110 ∷ 111 ∷ 44 ∷ 49 ∷ 49 ∷ 44 ∷ 48 ∷ 10 ∷ 50 ∷ 44 ∷ 111 ∷ 107 ∷ 44 ∷ 49 ∷ 10 ∷ []

pub computed : Computed
unfolding lines_after line_says printed number valid month_length leap_days before_year before_month date tomorrow pair_of day_of steps_of last_sunday is_code is_category same place_of actor_at category_at loaded moved acquired ceded engagement gained power actor_tests category_tests verdict_of effect step engagement_tests engaged_at ask_engagement is_number value_from decimal_in fields advance_line enrol_line category_line load_line file_line engagement_line record_line by_letter line_of value_text values_text said_text answer_line
computed =
    record {
      no_byte = refl;
      an_LF = refl;
      lacks_LF = refl;
      has_LF = refl;
      two_LF = refl;
      the_sample = refl;
      over_long = refl;
    }
