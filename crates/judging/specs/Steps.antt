-- The checks 32 to 35 by the nets of ceder and acquirer.
use Rattle.std.specs.Prelude.{ℕ, ◌+◌, Bool, ◌&&◌, ltb, List, nat_le, nat_lt, slice_index}
use Rattle.refusals.specs.Tests.{Test}
use Rattle.ledger.specs.Filing.{checks}
use Rattle.judging.specs.Nets.{base}
use Rattle.judging.specs.declared.nets.Nets.{Nets}

-- one number below another, step by step
abbrev pub below_at : List ℕ → List ℕ → ℕ → Bool
below_at left right s = nat_lt (slice_index left s) (slice_index right s)

-- a step passes 32 to 35, by the nets there, the filed power and the approved powers
abbrev pub step_fits : ℕ → ℕ → ℕ → ℕ → ℕ → Bool
step_fits ceder acquirer p cedersMost acquirersMost =
    nat_le (base + p) ceder && nat_le ceder (base + p + cedersMost)
    && (nat_le base (acquirer + p) && nat_le (acquirer + p) (base + acquirersMost))

-- 32 to 35 by the nets: ceder, acquirer without the key's own power, and the filed power
unfoldable pub net_tests : Nets → List ℕ → ℕ → ℕ → ℕ → ℕ → List Test
net_tests nets ps cedersMost acquirersMost first until =
    checks
    (λ s. ltb (slice_index nets.ceder s) (base + slice_index ps s))
    (λ s. ltb (base + acquirersMost) (slice_index nets.acquirer s + slice_index ps s))
    (λ s. ltb (base + cedersMost + slice_index ps s) (slice_index nets.ceder s))
    (λ s. ltb (slice_index nets.acquirer s + slice_index ps s) base)
    first until
