-- Change days and steps. Document 01, "Days and steps": "The short day of a year is the last Sunday of March, the long day
-- the last Sunday of October .. A short day has 46 steps, a long day 50, any other 48."
use Rattle.std.specs.Prelude.{Bool, not, cond, ◌&&◌, List, [], ◌∷◌, ℕ, ◌+◌, ◌%◌, ltb, eqb}
use Rattle.calendar.specs.Dates.{day_count, date}

-- "A short day has 46 steps, a long day 50, any other 48"
abbrev pub short_steps : ℕ
short_steps = 46

abbrev pub long_steps : ℕ
long_steps = 50

abbrev pub plain_steps : ℕ
plain_steps = 48

-- "Step k, from 0, covers minutes 30k to 30k+30"
abbrev pub step_minutes : ℕ
step_minutes = 30

-- "0 for 20000101, a Saturday": the days of the week in turn, from 0 for Saturday
abbrev pub weekday : ℕ → ℕ
weekday day = day % 7

abbrev pub sunday : ℕ → Bool
sunday day = eqb (weekday day) 1

-- "the last Sunday of March .. of October": a Sunday in the month, and the next Sunday is not in it
unfoldable pub last_sunday : ℕ → ℕ → Bool
last_sunday month day =
    sunday day && (eqb (date day).month month && not (eqb (date (day + 7)).month month))

-- "A short day has 46 steps, a long day 50, any other 48"; a number that is no day has none
unfoldable pub steps_of : ℕ → ℕ
steps_of day =
    cond (ltb day day_count)
    (cond (last_sunday 3 day) short_steps (cond (last_sunday 10 day) long_steps plain_steps))
    0

-- "The 200 change days stand in a constant table": March and October of each year in turn
unfoldable pub change_days : List ℕ
change_days =
    85 ∷ 302 ∷ 449 ∷ 666 ∷ 820 ∷ 1030 ∷ 1184 ∷ 1394 ∷ 1548 ∷ 1765
    ∷ 1912 ∷ 2129 ∷ 2276 ∷ 2493 ∷ 2640 ∷ 2857 ∷ 3011 ∷ 3221 ∷ 3375 ∷ 3585
    ∷ 3739 ∷ 3956 ∷ 4103 ∷ 4320 ∷ 4467 ∷ 4684 ∷ 4838 ∷ 5048 ∷ 5202 ∷ 5412
    ∷ 5566 ∷ 5776 ∷ 5930 ∷ 6147 ∷ 6294 ∷ 6511 ∷ 6658 ∷ 6875 ∷ 7029 ∷ 7239
    ∷ 7393 ∷ 7603 ∷ 7757 ∷ 7974 ∷ 8121 ∷ 8338 ∷ 8485 ∷ 8702 ∷ 8856 ∷ 9066
    ∷ 9220 ∷ 9430 ∷ 9584 ∷ 9794 ∷ 9948 ∷ 10165 ∷ 10312 ∷ 10529 ∷ 10676 ∷ 10893
    ∷ 11047 ∷ 11257 ∷ 11411 ∷ 11621 ∷ 11775 ∷ 11992 ∷ 12139 ∷ 12356 ∷ 12503 ∷ 12720
    ∷ 12867 ∷ 13084 ∷ 13238 ∷ 13448 ∷ 13602 ∷ 13812 ∷ 13966 ∷ 14183 ∷ 14330 ∷ 14547
    ∷ 14694 ∷ 14911 ∷ 15065 ∷ 15275 ∷ 15429 ∷ 15639 ∷ 15793 ∷ 16003 ∷ 16157 ∷ 16374
    ∷ 16521 ∷ 16738 ∷ 16885 ∷ 17102 ∷ 17256 ∷ 17466 ∷ 17620 ∷ 17830 ∷ 17984 ∷ 18201
    ∷ 18348 ∷ 18565 ∷ 18712 ∷ 18929 ∷ 19083 ∷ 19293 ∷ 19447 ∷ 19657 ∷ 19811 ∷ 20021
    ∷ 20175 ∷ 20392 ∷ 20539 ∷ 20756 ∷ 20903 ∷ 21120 ∷ 21274 ∷ 21484 ∷ 21638 ∷ 21848
    ∷ 22002 ∷ 22219 ∷ 22366 ∷ 22583 ∷ 22730 ∷ 22947 ∷ 23094 ∷ 23311 ∷ 23465 ∷ 23675
    ∷ 23829 ∷ 24039 ∷ 24193 ∷ 24410 ∷ 24557 ∷ 24774 ∷ 24921 ∷ 25138 ∷ 25292 ∷ 25502
    ∷ 25656 ∷ 25866 ∷ 26020 ∷ 26230 ∷ 26384 ∷ 26601 ∷ 26748 ∷ 26965 ∷ 27112 ∷ 27329
    ∷ 27483 ∷ 27693 ∷ 27847 ∷ 28057 ∷ 28211 ∷ 28428 ∷ 28575 ∷ 28792 ∷ 28939 ∷ 29156
    ∷ 29310 ∷ 29520 ∷ 29674 ∷ 29884 ∷ 30038 ∷ 30248 ∷ 30402 ∷ 30619 ∷ 30766 ∷ 30983
    ∷ 31130 ∷ 31347 ∷ 31501 ∷ 31711 ∷ 31865 ∷ 32075 ∷ 32229 ∷ 32446 ∷ 32593 ∷ 32810
    ∷ 32957 ∷ 33174 ∷ 33321 ∷ 33538 ∷ 33692 ∷ 33902 ∷ 34056 ∷ 34266 ∷ 34420 ∷ 34637
    ∷ 34784 ∷ 35001 ∷ 35148 ∷ 35365 ∷ 35519 ∷ 35729 ∷ 35883 ∷ 36093 ∷ 36247 ∷ 36457 ∷ []
