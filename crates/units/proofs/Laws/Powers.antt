-- Powers of two. Assumes nothing.
use Prim.Native.Nat.{ℕ, zero, suc, ◌+◌, ◌-◌, ◌*◌, ◌^◌, ◌≤◌, ◌<◌}
use mathlib.Core.Path.{◌≡◌, ap, ◌∙◌}
use native.Mathlib.Omega.{arith}
use lib.Pow.{pow-add}

-- a power is a smaller one, times the power of what is left
pub power_splits : {a b : ℕ} → a ≤ b → 2 ^ b ≡ 2 ^ a * 2 ^ (b - a)
power_splits {a} {b} h = ap (λ (x : ℕ). 2 ^ x) (omega arith) ∙ pow-add 2 a (b - a)

-- an odd number above 1 divides no power of two: the quotient would be even, and half of it that of the power before
pub odd_divides_no_power : (a p q : ℕ) → 0 < a → (2 * a + 1) * q ≡ 2 ^ p → ⊥
odd_divides_no_power a zero zero h e = omega arith
odd_divides_no_power a zero (suc q) h e = omega arith
odd_divides_no_power a (suc p) q h e =
    odd_divides_no_power a p (2 ^ p - a * q) h (halved (2 ^ p - a * q) (omega arith))
  where
    halved : (half : ℕ) → q ≡ 2 * half → (2 * a + 1) * half ≡ 2 ^ p
    halved half even = omega (arith, ap (λ (x : ℕ). a * x) even)
