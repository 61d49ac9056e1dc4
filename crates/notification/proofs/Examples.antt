-- Names, powers and files, read by the definitions: what is accepted, and what each damage is refused by. Then notifications to write.
use Rattle.std.specs.Prelude.{Ok, Err}
use Rattle.refusals.specs.Tests.{Verdict, pass, verdict}
use mathlib.Core.Path.{◌≡◌, refl}
use mathlib.Core.Bool.{true, false}
use mathlib.Core.List.{List, [], ◌∷◌, ◌++◌}
use Prim.Native.Nat.{ℕ, ◌-◌}
use Prim.Native.Char.{code}
use Prim.Native.String.{String}
use lib.ListN.{length, take, set, replicate}
use Rattle.lists.specs.Searches.{same, first_from}
use Rattle.calendar.specs.Dates.{date, tomorrow, number, valid, month_length, leap_days, before_year, before_month}
use Rattle.calendar.specs.Texts.{pair_of, text_of, day_of}
use Rattle.calendar.specs.Steps.{last_sunday, steps_of}
use Rattle.calendar.specs.Labels.{label_of}
use Rattle.refusals.specs.declared.Refusal.TheVariants.{Input, State}
use Rattle.refusals.specs.declared.InputRefusal.TheVariants.{Name, Body, Header, Differs, Lines, Labels, Power, Zeros, Form, Range}
use Rattle.refusals.specs.declared.StateRefusal.TheVariants.{Full}
use Rattle.notification.specs.Forms.{is_code, is_category, category_text, digits, in_places, all_zero}
use Rattle.notification.specs.Writing.{name_of, header_of, labels_text, lines_of, body_of, formed, ranged, lengths, write_verdict, write_answer}
use Rattle.notification.specs.Reading.{key_in, name_key, header_key, is_name, is_header, lines_in, is_body, head_line, step_lines, has_labels, rest_of, power_value_from, is_power, first_bad, powers_in, file_tests, note_in, read_file}
use Rattle.notification.specs.declared.Key.{Key}
use Rattle.notification.specs.declared.Notification.{Notification}
use Rattle.notification.proofs.Lines.{joined}

-- the bytes of a text
abbrev text : String → List ℕ
text Prim.Native.String.[] = []
text (Prim.Native.String.◌∷◌ c s) = code c ∷ text s

abbrev the_name : List ℕ
the_name = text "NER_17X100A100R00000_17X100A100R00001_20210120_13120C.csv"

-- the day's 48 powers, and the lines of the file that they give
abbrev note : Notification
note = record { key = name_key the_name; steps = 48; powers = 15 ∷ 15 ∷ 20 ∷ (replicate 45 30 ++ replicate 2 0) }

abbrev the_lines : List (List ℕ)
the_lines = lines_in (body_of note)

-- the lines with another one at a place, the header being 1
abbrev with_line : ℕ → String → List (List ℕ) → List (List ℕ)
with_line place l ls = set ls (place - 1) (text l)

-- what a body comes to under that name
abbrev answer : List ℕ → Verdict
answer body = verdict (read_file the_name body)

abbrev refusal : List (List ℕ) → Verdict
refusal ls = answer (joined ls)

-- so many bytes, of which the last is LF
abbrev ended : ℕ → List ℕ
ended n = replicate (n - 1) 48 ++ 10 ∷ []

-- a key whose ceder is no code, and 48 powers that are 0
abbrev no_code : Key
no_code = record { ceder = text "17x100A100R00000"; acquirer = note.key.acquirer; category = note.key.category; day = note.key.day }

abbrev zeros : List ℕ
zeros = replicate 50 0

pub record Examples : Type 0 where
  pub names : (is_name the_name ≡ true) × (is_name (text "NER_17X100A100R00000_17X100A100R00001_20210120_13120.csv") ≡ true)
  pub wrong_prefix : is_name (text "NEB_17X100A100R00000_17X100A100R00001_20210120_13120C.csv") ≡ false
  pub wrong_date : is_name (text "NER_17X100A100R00000_17X100A100R00001_20210230_13120C.csv") ≡ false
  pub four_digits : is_name (text "NER_17X100A100R00000_17X100A100R00001_20210120_1312.csv") ≡ false
  pub wrong_letter : is_name (text "NER_17X100A100R00000_17X100A100R00001_20210120_13120D.csv") ≡ false
  pub lower_case : is_name (text "NER_17x100A100R00000_17X100A100R00001_20210120_13120C.csv") ≡ false
  pub too_long_lem : is_name (text "NER_17X100A100R00000_17X100A100R00001_20210120_13120CC.csv") ≡ false
  pub powers : (is_power (text "0;") ≡ true) × (is_power (text "9999;") ≡ true)
  pub needless_zeros : (is_power (text "015;") ≡ false) × (is_power (text "00;") ≡ false)
  pub no_powers : (is_power (text "+5;") ≡ false) × (is_power (text "10000;") ≡ false) × (is_power (text ";") ≡ false)
  pub wrong_ends : (is_power (text "5") ≡ false) × (is_power (text "5;;") ≡ false) × (is_power (text "5 ;") ≡ false)
  pub written : (name_of note.key ≡ the_name) × (take 2 the_lines ≡ text "17X100A100R00000;17X100A100R00001;20210120;13120C;" ∷ text "00:00;00:30;15;" ∷ [])
  pub read : read_file the_name (body_of note) ≡ Ok note
  -- 1 before 2: an empty body under a wrong name
  pub name_first : verdict (read_file (text "NER.csv") []) ≡ Err (Input Name 0)
  -- "the body is empty, too long, or doesn't end with LF"; "at most 4,096 bytes"
  pub empty_body : answer [] ≡ Err (Input Body 0)
  pub bytes_4096 : (is_body (ended 4096) ≡ true) × (is_body (replicate 4096 48) ≡ false)
  pub bytes_4097 : (is_body (ended 4097) ≡ false) × (answer (ended 4097) ≡ Err (Input Body 0))
  pub no_last_LF : answer (take (length (body_of note) - 1) (body_of note)) ≡ Err (Input Body 0)
  pub two_last_LF : answer (body_of note ++ 10 ∷ []) ≡ Err (Input Lines 0)
  pub no_header : refusal (with_line 1 "17X100A100R00000;17X100A100R00001;20210120;1312;" the_lines) ≡ Err (Input Header 1)
  pub other_header_lem : refusal (with_line 1 "17X100A100R00000;17X100A100R00001;20210120;13120;" the_lines) ≡ Err (Input Differs 1)
  pub wrong_label : refusal (with_line 5 "01:30;02:30;30;" the_lines) ≡ Err (Input Labels 5)
  pub count_before_label : refusal (take 48 (with_line 5 "01:30;02:30;30;" the_lines)) ≡ Err (Input Lines 0)
  pub power_before_label : refusal (with_line 3 "00:30;01:00;015;" (with_line 5 "01:30;02:30;30;" the_lines)) ≡ Err (Input Power 3)
  pub all_zero_lem : answer (body_of (record { key = name_key the_name; steps = 48; powers = replicate 50 0 })) ≡ Err (Input Zeros 0)

-- A NOTIFICATION TO WRITE "refuses by 9, 10, 8, 36 in that order": with all four faults, without the first, and so on
pub record Writer : Type 0 where
  pub wrong_form : write_answer (record { key = no_code; steps = 47; powers = zeros }) 0 0 ≡ Err (Input Form 0)
  pub wrong_count : write_answer (record { key = note.key; steps = 47; powers = zeros }) 0 0 ≡ Err (Input Range 0)
  pub all_zero_lem : write_answer (record { key = note.key; steps = 48; powers = zeros }) 0 0 ≡ Err (Input Zeros 0)
  pub too_short : write_answer note 0 0 ≡ Err (State Full 0)
  -- the buffers' lengths: one byte short of the name, of the body, and neither
  pub name_short : write_answer note 56 819 ≡ Err (State Full 0)
  pub body_short : write_answer note 57 818 ≡ Err (State Full 0)
  pub exact : write_answer note 57 819 ≡ Ok (lengths 57 819)
  -- 9,999 is a power and 10,000 is none; a power past the day's steps is outside its range
  pub most : write_verdict (record { key = note.key; steps = 48; powers = 9999 ∷ replicate 49 0 }) 57 819 ≡ pass
  pub too_much : write_answer (record { key = note.key; steps = 48; powers = 10000 ∷ replicate 49 0 }) 57 819 ≡ Err (Input Range 0)
  pub past_the_day : write_answer (record { key = note.key; steps = 48; powers = replicate 49 1 ++ 0 ∷ [] }) 57 819 ≡ Err (Input Range 0)

pub examples : Examples
unfolding read_file file_tests note_in is_name is_header name_key header_key key_in name_of header_of body_of lines_of labels_text formed is_code is_category category_text same text_of day_of date tomorrow number valid month_length leap_days before_year before_month pair_of steps_of last_sunday label_of lines_in is_body head_line step_lines has_labels rest_of power_value_from is_power digits first_bad first_from powers_in in_places all_zero joined
examples =
    record {
      names = (refl, refl);
      wrong_prefix = refl;
      wrong_date = refl;
      four_digits = refl;
      wrong_letter = refl;
      lower_case = refl;
      too_long_lem = refl;
      powers = (refl, refl);
      needless_zeros = (refl, refl);
      no_powers = (refl, refl, refl);
      wrong_ends = (refl, refl, refl);
      written = (refl, refl);
      read = refl;
      name_first = refl;
      empty_body = refl;
      bytes_4096 = (refl, refl);
      bytes_4097 = (refl, refl);
      no_last_LF = refl;
      two_last_LF = refl;
      no_header = refl;
      other_header_lem = refl;
      wrong_label = refl;
      count_before_label = refl;
      power_before_label = refl;
      all_zero_lem = refl;
    }

pub writer : Writer
unfolding read_file file_tests note_in is_name is_header name_key header_key key_in name_of header_of body_of lines_of labels_text formed ranged write_verdict write_answer is_code is_category category_text same text_of day_of date tomorrow number valid month_length leap_days before_year before_month pair_of steps_of last_sunday label_of lines_in is_body head_line step_lines has_labels rest_of power_value_from is_power digits first_bad first_from powers_in in_places all_zero joined
writer =
    record {
      wrong_form = refl;
      wrong_count = refl;
      all_zero_lem = refl;
      too_short = refl;
      name_short = refl;
      body_short = refl;
      exact = refl;
      most = refl;
      too_much = refl;
      past_the_day = refl;
    }
