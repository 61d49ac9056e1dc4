-- Document 01's sample ("The script program") through the definitions: what each of its lines asks, and the lines that answer them.
-- Then lines at the edge.
use mathlib.Core.Path.{◌≡◌, refl}
use mathlib.Core.List.{List, [], ◌∷◌, ◌++◌}
use Prim.Native.Nat.{ℕ, zero, suc}
use lib.ListN.{replicate}
use Rattle.calendar.specs.Dates.{number, valid, month_length, leap_days, before_year, before_month}
use Rattle.calendar.specs.Texts.{pair_of, day_of}
use Rattle.refusals.specs.declared.Refusal.TheVariants.{Input, State}
use Rattle.refusals.specs.declared.InputRefusal.TheVariants.{Labels}
use Rattle.refusals.specs.declared.StateRefusal.TheVariants.{Back}
use Rattle.ledger.specs.Call as Call
use Rattle.std.specs.Prelude.{Ok, Err}
use Rattle.ledger.specs.declared.Answer.TheVariants.{Moved, Held, Filed}
use Rattle.answers.specs.Values.{said_of, said_number, said_refused}
use Rattle.script.specs.Numbers.{is_number, value_from, decimal_in}
use Rattle.script.specs.Lines.{calls, file_of, engagement, record_of, unknown, fields, advance_line, enrol_line, category_line, load_line, file_line, engagement_line, record_line, by_letter, line_of}
use Rattle.script.specs.Answers.{value_text, values_text, said_text, answer_line}

-- codes 17X100A100R000.. by their last two bytes, and the category 13120
unfoldable pub eic : ℕ → ℕ → List ℕ
eic i c = 49 ∷ 55 ∷ 88 ∷ 49 ∷ 48 ∷ 48 ∷ 65 ∷ 49 ∷ 48 ∷ 48 ∷ 82 ∷ 48 ∷ 48 ∷ 48 ∷ i ∷ c ∷ []

unfoldable pub category : List ℕ
category = 49 ∷ 51 ∷ 49 ∷ 50 ∷ 48 ∷ []

-- `L,,,20000101,9` and then `,7` so many times
unfoldable pub sevens : ℕ → List ℕ
sevens zero = 76 ∷ 44 ∷ 44 ∷ 44 ∷ 50 ∷ 48 ∷ 48 ∷ 48 ∷ 48 ∷ 49 ∷ 48 ∷ 49 ∷ 44 ∷ 57 ∷ []
sevens (suc n) = sevens n ++ 44 ∷ 55 ∷ []

-- THE SAMPLE
pub record Sample : Type 0 where
  -- `T,20210120,600`
  pub line_1 : line_of (84 ∷ 44 ∷ 50 ∷ 48 ∷ 50 ∷ 49 ∷ 48 ∷ 49 ∷ 50 ∷ 48 ∷ 44 ∷ 54 ∷ 48 ∷ 48 ∷ []) ≡ calls (Call.advance 7690 600)
  -- `A,17X100A100R0000L,20210101,20211231`
  pub line_2 : line_of (65 ∷ 44 ∷ 49 ∷ 55 ∷ 88 ∷ 49 ∷ 48 ∷ 48 ∷ 65 ∷ 49 ∷ 48 ∷ 48 ∷ 82 ∷ 48 ∷ 48 ∷ 48 ∷ 48 ∷ 76 ∷ 44 ∷ 50 ∷ 48 ∷ 50 ∷ 49 ∷ 48 ∷ 49 ∷ 48 ∷ 49 ∷ 44 ∷ 50 ∷ 48 ∷ 50 ∷ 49 ∷ 49 ∷ 50 ∷ 51 ∷ 49 ∷ []) ≡ calls (Call.enrol_actor (eic 48 76) 7671 8035)
  -- `A,17X100A100R0001J,20210101,20211231`
  pub line_3 : line_of (65 ∷ 44 ∷ 49 ∷ 55 ∷ 88 ∷ 49 ∷ 48 ∷ 48 ∷ 65 ∷ 49 ∷ 48 ∷ 48 ∷ 82 ∷ 48 ∷ 48 ∷ 48 ∷ 49 ∷ 74 ∷ 44 ∷ 50 ∷ 48 ∷ 50 ∷ 49 ∷ 48 ∷ 49 ∷ 48 ∷ 49 ∷ 44 ∷ 50 ∷ 48 ∷ 50 ∷ 49 ∷ 49 ∷ 50 ∷ 51 ∷ 49 ∷ []) ≡ calls (Call.enrol_actor (eic 49 74) 7671 8035)
  -- `C,13120`
  pub line_4 : line_of (67 ∷ 44 ∷ 49 ∷ 51 ∷ 49 ∷ 50 ∷ 48 ∷ []) ≡ calls (Call.enrol_category category)
  -- `T,20210120,599`
  pub line_5 : line_of (84 ∷ 44 ∷ 50 ∷ 48 ∷ 50 ∷ 49 ∷ 48 ∷ 49 ∷ 50 ∷ 48 ∷ 44 ∷ 53 ∷ 57 ∷ 57 ∷ []) ≡ calls (Call.advance 7690 599)
  -- `E,17X100A100R0001J,13120,20210121,0`
  pub line_6 : line_of (69 ∷ 44 ∷ 49 ∷ 55 ∷ 88 ∷ 49 ∷ 48 ∷ 48 ∷ 65 ∷ 49 ∷ 48 ∷ 48 ∷ 82 ∷ 48 ∷ 48 ∷ 48 ∷ 49 ∷ 74 ∷ 44 ∷ 49 ∷ 51 ∷ 49 ∷ 50 ∷ 48 ∷ 44 ∷ 50 ∷ 48 ∷ 50 ∷ 49 ∷ 48 ∷ 49 ∷ 50 ∷ 49 ∷ 44 ∷ 48 ∷ []) ≡ engagement (eic 49 74) category 7691 0
  -- `Z`
  pub line_7 : line_of (90 ∷ []) ≡ unknown
  -- `1,ok`
  pub answer_1 : answer_line 1 (said_of (Ok Moved)) ≡ 49 ∷ 44 ∷ 111 ∷ 107 ∷ 10 ∷ []
  -- `2,ok,1`
  pub answer_2 : answer_line 2 (said_of (Ok (Held 1))) ≡ 50 ∷ 44 ∷ 111 ∷ 107 ∷ 44 ∷ 49 ∷ 10 ∷ []
  -- `3,ok,2`
  pub answer_3 : answer_line 3 (said_of (Ok (Held 2))) ≡ 51 ∷ 44 ∷ 111 ∷ 107 ∷ 44 ∷ 50 ∷ 10 ∷ []
  -- `4,ok,1`
  pub answer_4 : answer_line 4 (said_of (Ok (Held 1))) ≡ 52 ∷ 44 ∷ 111 ∷ 107 ∷ 44 ∷ 49 ∷ 10 ∷ []
  -- `5,no,38,0`
  pub answer_5 : answer_line 5 (said_of (Err (State Back 0))) ≡ 53 ∷ 44 ∷ 110 ∷ 111 ∷ 44 ∷ 51 ∷ 56 ∷ 44 ∷ 48 ∷ 10 ∷ []
  -- `6,ok,0`
  pub answer_6 : answer_line 6 (said_number (Ok 0)) ≡ 54 ∷ 44 ∷ 111 ∷ 107 ∷ 44 ∷ 48 ∷ 10 ∷ []
  -- `7,no,11,0`
  pub answer_7 : answer_line 7 (said_refused 11) ≡ 55 ∷ 44 ∷ 110 ∷ 111 ∷ 44 ∷ 49 ∷ 49 ∷ 44 ∷ 48 ∷ 10 ∷ []

-- LINES AT THE EDGE
pub record Edge : Type 0 where
  -- ``
  pub empty_line : line_of ([]) ≡ unknown
  -- `C`
  pub letter_alone : line_of (67 ∷ []) ≡ unknown
  -- `C,`
  pub empty_category : line_of (67 ∷ 44 ∷ []) ≡ calls (Call.enrol_category [])
  -- `C,1,2`
  pub category_and_more : line_of (67 ∷ 44 ∷ 49 ∷ 44 ∷ 50 ∷ []) ≡ unknown
  -- `R,,1`
  pub empty_asker : line_of (82 ∷ 44 ∷ 44 ∷ 49 ∷ []) ≡ record_of [] 1
  -- `R,1,`
  pub empty_number : line_of (82 ∷ 44 ∷ 49 ∷ 44 ∷ []) ≡ unknown
  -- `R,1,+1`
  pub plus_sign : line_of (82 ∷ 44 ∷ 49 ∷ 44 ∷ 43 ∷ 49 ∷ []) ≡ unknown
  -- `RR,,1`
  pub two_letters : line_of (82 ∷ 82 ∷ 44 ∷ 44 ∷ 49 ∷ []) ≡ unknown
  -- `r,,1`
  pub small_letter : line_of (114 ∷ 44 ∷ 44 ∷ 49 ∷ []) ≡ unknown
  -- `R,,0`
  pub number_0 : line_of (82 ∷ 44 ∷ 44 ∷ 48 ∷ []) ≡ record_of [] 0
  -- `R,,00`
  pub needless_zero : line_of (82 ∷ 44 ∷ 44 ∷ 48 ∷ 48 ∷ []) ≡ unknown
  -- `R,,05`
  pub needless_zero_before_5 : line_of (82 ∷ 44 ∷ 44 ∷ 48 ∷ 53 ∷ []) ≡ unknown
  -- `R,,99999`
  pub five_digits : line_of (82 ∷ 44 ∷ 44 ∷ 57 ∷ 57 ∷ 57 ∷ 57 ∷ 57 ∷ []) ≡ record_of [] 99999
  -- `R,,100000`
  pub six_digits : line_of (82 ∷ 44 ∷ 44 ∷ 49 ∷ 48 ∷ 48 ∷ 48 ∷ 48 ∷ 48 ∷ []) ≡ unknown
  -- `T,20210230,0`
  pub impossible_date : line_of (84 ∷ 44 ∷ 50 ∷ 48 ∷ 50 ∷ 49 ∷ 48 ∷ 50 ∷ 51 ∷ 48 ∷ 44 ∷ 48 ∷ []) ≡ unknown
  -- `T,19991231,0`
  pub date_before_the_range : line_of (84 ∷ 44 ∷ 49 ∷ 57 ∷ 57 ∷ 57 ∷ 49 ∷ 50 ∷ 51 ∷ 49 ∷ 44 ∷ 48 ∷ []) ≡ unknown
  -- `T,2021012,0`
  pub short_date : line_of (84 ∷ 44 ∷ 50 ∷ 48 ∷ 50 ∷ 49 ∷ 48 ∷ 49 ∷ 50 ∷ 44 ∷ 48 ∷ []) ≡ unknown
  -- `L,,,20000101,0,7`
  pub empty_texts : line_of (76 ∷ 44 ∷ 44 ∷ 44 ∷ 50 ∷ 48 ∷ 48 ∷ 48 ∷ 48 ∷ 49 ∷ 48 ∷ 49 ∷ 44 ∷ 48 ∷ 44 ∷ 55 ∷ []) ≡ calls (Call.load [] [] 0 0 (7 ∷ []))
  -- `L,,,20000101,9,7,99999`
  pub two_powers : line_of (76 ∷ 44 ∷ 44 ∷ 44 ∷ 50 ∷ 48 ∷ 48 ∷ 48 ∷ 48 ∷ 49 ∷ 48 ∷ 49 ∷ 44 ∷ 57 ∷ 44 ∷ 55 ∷ 44 ∷ 57 ∷ 57 ∷ 57 ∷ 57 ∷ 57 ∷ []) ≡ calls (Call.load [] [] 0 9 (7 ∷ 99999 ∷ []))
  -- `L,,,20000101,9,7,`
  pub trailing_comma : line_of (76 ∷ 44 ∷ 44 ∷ 44 ∷ 50 ∷ 48 ∷ 48 ∷ 48 ∷ 48 ∷ 49 ∷ 48 ∷ 49 ∷ 44 ∷ 57 ∷ 44 ∷ 55 ∷ 44 ∷ []) ≡ unknown
  -- `L,,,20000101,9`
  pub no_power : line_of (76 ∷ 44 ∷ 44 ∷ 44 ∷ 50 ∷ 48 ∷ 48 ∷ 48 ∷ 48 ∷ 49 ∷ 48 ∷ 49 ∷ 44 ∷ 57 ∷ []) ≡ unknown
  -- `F,NUL,FFCR`
  pub file : line_of (70 ∷ 44 ∷ 0 ∷ 44 ∷ 255 ∷ 13 ∷ []) ≡ file_of (0 ∷ []) (255 ∷ 13 ∷ [])
  -- `F,a,b,c`
  pub file_and_more : line_of (70 ∷ 44 ∷ 97 ∷ 44 ∷ 98 ∷ 44 ∷ 99 ∷ []) ≡ unknown
  -- 51 powers are 51 powers; 512 bytes are a line, and 513 are none: `C,` and a text of 510 or 511 bytes
  pub powers_51 : line_of (sevens 51) ≡ calls (Call.load [] [] 0 9 (replicate 51 7))
  pub bytes_512 : line_of (sevens 249) ≡ calls (Call.load [] [] 0 9 (replicate 249 7))
  pub category_of_510 : line_of (67 ∷ 44 ∷ replicate 510 49) ≡ calls (Call.enrol_category (replicate 510 49))
  pub bytes_513 : line_of (67 ∷ 44 ∷ replicate 511 49) ≡ unknown
  -- `10,ok,256,V,33`
  pub answer_filed : answer_line 10 (said_of (Ok (Filed 256 86 33))) ≡ 49 ∷ 48 ∷ 44 ∷ 111 ∷ 107 ∷ 44 ∷ 50 ∷ 53 ∷ 54 ∷ 44 ∷ 86 ∷ 44 ∷ 51 ∷ 51 ∷ 10 ∷ []
  -- `18446744073709551615,no,6,50`
  pub answer_place : answer_line 18446744073709551615 (said_of (Err (Input Labels 50))) ≡ 49 ∷ 56 ∷ 52 ∷ 52 ∷ 54 ∷ 55 ∷ 52 ∷ 52 ∷ 48 ∷ 55 ∷ 51 ∷ 55 ∷ 48 ∷ 57 ∷ 53 ∷ 53 ∷ 49 ∷ 54 ∷ 49 ∷ 53 ∷ 44 ∷ 110 ∷ 111 ∷ 44 ∷ 54 ∷ 44 ∷ 53 ∷ 48 ∷ 10 ∷ []
  -- `0,ok,4294967295`
  pub answer_largest : answer_line 0 (said_number (Ok 4294967295)) ≡ 48 ∷ 44 ∷ 111 ∷ 107 ∷ 44 ∷ 52 ∷ 50 ∷ 57 ∷ 52 ∷ 57 ∷ 54 ∷ 55 ∷ 50 ∷ 57 ∷ 53 ∷ 10 ∷ []

pub sample : Sample
unfolding eic category sevens number valid month_length leap_days before_year before_month pair_of day_of is_number value_from decimal_in fields advance_line enrol_line category_line load_line file_line engagement_line record_line by_letter line_of value_text values_text said_text answer_line
sample =
    record {
      line_1 = refl;
      line_2 = refl;
      line_3 = refl;
      line_4 = refl;
      line_5 = refl;
      line_6 = refl;
      line_7 = refl;
      answer_1 = refl;
      answer_2 = refl;
      answer_3 = refl;
      answer_4 = refl;
      answer_5 = refl;
      answer_6 = refl;
      answer_7 = refl;
    }

pub edge : Edge
unfolding eic category sevens number valid month_length leap_days before_year before_month pair_of day_of is_number value_from decimal_in fields advance_line enrol_line category_line load_line file_line engagement_line record_line by_letter line_of value_text values_text said_text answer_line
edge =
    record {
      empty_line = refl;
      letter_alone = refl;
      empty_category = refl;
      category_and_more = refl;
      empty_asker = refl;
      empty_number = refl;
      plus_sign = refl;
      two_letters = refl;
      small_letter = refl;
      number_0 = refl;
      needless_zero = refl;
      needless_zero_before_5 = refl;
      five_digits = refl;
      six_digits = refl;
      impossible_date = refl;
      date_before_the_range = refl;
      short_date = refl;
      empty_texts = refl;
      two_powers = refl;
      trailing_comma = refl;
      no_power = refl;
      file = refl;
      file_and_more = refl;
      powers_51 = refl;
      bytes_512 = refl;
      category_of_510 = refl;
      bytes_513 = refl;
      answer_filed = refl;
      answer_place = refl;
      answer_largest = refl;
    }
