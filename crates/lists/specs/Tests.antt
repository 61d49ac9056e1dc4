-- A test of each number below a bound, as one test that can be computed.
use Rattle.std.specs.Prelude.{Bool, true, ◌&&◌, ℕ, zero, suc}

-- the test passes at each number below n
abbrev pub all_below : (ℕ → Bool) → ℕ → Bool
all_below f zero = true
all_below f (suc n) = f n && all_below f n

-- the test of two numbers passes at each pair, the first below m and the second below n
abbrev pub grid : (ℕ → ℕ → Bool) → ℕ → ℕ → Bool
grid f m n = all_below (λ i. all_below (f i) n) m
