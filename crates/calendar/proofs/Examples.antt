-- The examples of document 01 that concern days, marked † there, and those of document 02, K2, in one list.
use Rattle.std.specs.Prelude.{Some}
use mathlib.Core.Path.{◌≡◌, refl}
use mathlib.Core.Bool.{Bool, true, false}
use mathlib.Core.List.{List, [], ◌∷◌}
use Prim.Native.Nat.{ℕ, ◌+◌, ◌*◌, ◌/◌, ◌%◌}
use lib.Dec.{ltb}
use Rattle.calendar.specs.Dates.{date, tomorrow, number, valid, month_length, leap_days, before_year, before_month}
use Rattle.calendar.specs.Texts.{pair_of, day_of}
use Rattle.calendar.specs.Steps.{last_sunday, steps_of}
use Rattle.calendar.specs.Labels.{time_text, label_of, labels_of}
use Rattle.calendar.specs.Clocks.{first_counted}
use Rattle.calendar.specs.declared.clock.Clock.{Clock}
use Rattle.calendar.specs.declared.labels.Label.{Label}
use Rattle.calendar.specs.declared.labels.Labels.{Labels}

-- the first counted step of the clock's own day at a minute
abbrev counted : ℕ → ℕ
counted m = first_counted (record { day = 0; minute = m }) 0

-- the first counted steps of the next day and of the day after it, at a minute of a day
abbrev ahead : ℕ → ℕ → ℕ × ℕ
ahead day m =
    let clock : Clock = record { day = day; minute = m } in
    (first_counted clock (day + 1), first_counted clock (day + 2))

-- whether some step of a day of so many steps still counts; where not, a filing gives 28
abbrev left : ℕ → ℕ → Bool
left m steps = ltb (counted m) steps

abbrev once : ℕ → Label
once m = record { bytes = time_text m (0 ∷ 0 ∷ 0 ∷ 0 ∷ []); len = 5 }

abbrev bis : ℕ → Label
bis m = record { bytes = time_text m (95 ∷ 66 ∷ 73 ∷ 83 ∷ []); len = 9 }

abbrev pair : Label → Label → Labels
pair a b = record { from = a; until = b }

-- the eight digits of a number
abbrev eight : ℕ → List ℕ
eight n =
    (48 + n / 10000000 % 10) ∷ (48 + n / 1000000 % 10) ∷ (48 + n / 100000 % 10) ∷ (48 + n / 10000 % 10) ∷ (48 + n / 1000 % 10) ∷ (48 + n / 100 % 10) ∷ (48 + n / 10 % 10) ∷ (48 + n % 10) ∷ []

pub record Days : Type 0 where
  pub minute_942 : counted 942 ≡ 33
  pub labelled_16_30 : (labels_of 48 33).from ≡ once (16 * 60 + 30)
  pub minute_1068 : counted 1068 ≡ 37
  pub labelled_18_30 : (labels_of 48 37).from ≡ once (18 * 60 + 30)
  pub minute_1379 : (counted 1379 ≡ 47) × (left 1379 48 ≡ true)
  pub minute_1380 : left 1380 48 ≡ false
  pub short_1319 : (counted 1319 ≡ 45) × (left 1319 46 ≡ true)
  pub short_1320 : left 1320 46 ≡ false
  pub long_1439 : (counted 1439 ≡ 49) × (left 1439 50 ≡ true)
  pub long_1440 : left 1440 50 ≡ false
  pub day_20210328 : (day_of (eight 20210328) ≡ Some 7757) × (steps_of 7757 ≡ 46)
  pub day_20211031 : (day_of (eight 20211031) ≡ Some 7974) × (steps_of 7974 ≡ 50)
  pub day_20000326 : (day_of (eight 20000326) ≡ Some 85) × (steps_of 85 ≡ 46)
  -- "on a 48-step day minute 1409 gives 0 and 1410 gives 1", whether the next day has 48 steps, 46 or 50; then an eve of 46 and one of 50
  pub eve_48 : (steps_of 7755 ≡ 48) × (ahead 7755 1409 ≡ (0, 0)) × (ahead 7755 1410 ≡ (1, 0))
  pub eve_of_short : (steps_of 7756 ≡ 48) × (ahead 7756 1409 ≡ (0, 0)) × (ahead 7756 1410 ≡ (1, 0))
  pub eve_of_long : (steps_of 7973 ≡ 48) × (ahead 7973 1409 ≡ (0, 0)) × (ahead 7973 1410 ≡ (1, 0))
  pub short_eve : (ahead 7757 1349 ≡ (0, 0)) × (ahead 7757 1350 ≡ (1, 0))
  pub long_eve : (ahead 7974 1469 ≡ (0, 0)) × (ahead 7974 1470 ≡ (1, 0))
  pub short_labels : (labels_of 46 3 ≡ pair (once 90) (once 180)) × (labels_of 46 4 ≡ pair (once 180) (once 210))
  pub long_4_to_6 : (labels_of 50 4 ≡ pair (once 120) (once 150)) × (labels_of 50 5 ≡ pair (once 150) (once 180)) × (labels_of 50 6 ≡ pair (once 180) (bis 150))
  pub long_7_to_9 : (labels_of 50 7 ≡ pair (bis 150) (bis 180)) × (labels_of 50 8 ≡ pair (bis 180) (once 210)) × (labels_of 50 9 ≡ pair (once 210) (once 240))

pub days : Days
unfolding date tomorrow number valid month_length leap_days before_year before_month pair_of day_of last_sunday steps_of label_of labels_of first_counted
days =
    record {
      minute_942 = refl;
      labelled_16_30 = refl;
      minute_1068 = refl;
      labelled_18_30 = refl;
      minute_1379 = (refl, refl);
      minute_1380 = refl;
      short_1319 = (refl, refl);
      short_1320 = refl;
      long_1439 = (refl, refl);
      long_1440 = refl;
      day_20210328 = (refl, refl);
      day_20211031 = (refl, refl);
      day_20000326 = (refl, refl);
      eve_48 = (refl, refl, refl);
      eve_of_short = (refl, refl, refl);
      eve_of_long = (refl, refl, refl);
      short_eve = (refl, refl);
      long_eve = (refl, refl);
      short_labels = (refl, refl);
      long_4_to_6 = (refl, refl, refl);
      long_7_to_9 = (refl, refl, refl);
    }
