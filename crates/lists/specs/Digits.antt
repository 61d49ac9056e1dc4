-- Digits in a text.
use Rattle.std.specs.Prelude.{cond, ℕ, ◌+◌, ◌-◌, ltb}

-- what a digit stands for, and more than 9 where a byte is no digit
unfoldable pub digit_value : ℕ → ℕ
digit_value b = cond (ltb b 48) (b + 4294967248) (b - 48)
