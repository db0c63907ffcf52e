-- The two numbers whose quotient, rounded down, is the builder's field, and how they move on from interval to interval.
-- Assumes nothing.
use Rattle.std.specs.Prelude.{ℕ, ◌+◌, ◌-◌, ◌*◌, ◌^◌, Bool, ◌&&◌, ◌||◌, ◌≡◌, leb, ltb, eqb}
use Rattle.units.specs.declared.shapes.Shape.{Shape}
use Rattle.entry.specs.Errors.{unit, i_of}
use Rattle.entry.specs.declared.quotients.Quotient.{Quotient}

-- at interval n: the divisor, and the dividend with the 2^m divisors that a field leaves out
abbrev pub by_at : Shape → ℕ → ℕ
by_at s n = 2 * i_of s n + 1

abbrev pub over_at : Shape → ℕ → ℕ
over_at s n = 2 * unit s + i_of s n

-- from one interval to the next
abbrev pub rise : Shape → ℕ
rise s = 2

abbrev pub fall : Shape → ℕ
fall s = 2 ^ (s.m + 1) - 1

-- as they stand before interval n comes
pub record Before (s : Shape) (n : ℕ) (q : Quotient) : Type 0 where
  pub by_is : q.by + rise s ≡ by_at s n
  pub over_is : q.over + by_at s n * 2 ^ s.m ≡ over_at s n + fall s
  pub rise_is : q.rise ≡ rise s
  pub fall_is : q.fall ≡ fall s

-- By how much less than a whole divisor a field may fall short of the dividend and still be best: where nothing is left over, the value below
-- the nearest one is as good
abbrev pub slack : Shape → ℕ
slack s = 1

-- the division, multiplied back: the field f is not above the quotient and, unless it is the last, not below it, but for the slack
abbrev pub meets : ℕ → ℕ → ℕ → ℕ → ℕ → Bool
meets over by slack end f = leb (by * f) over && (eqb (f + 1) end || ltb over (by * f + by + slack))
