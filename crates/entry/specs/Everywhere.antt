-- The error of an entry at every x of an interval, as an exact fraction. Document 01, "Numbers and their units".
-- Below, K is 2^k and M is 2^(m+1), or any whole numbers above 0, and x is any fraction p/q of whole numbers. Assumes nothing.
use Rattle.std.specs.Prelude.{ℕ, ◌+◌, ◌*◌, ◌≤◌, ◌<◌, ℤ, pos, ◌-ℤ◌, ◌*ℤ◌, nat_abs, ◌≤ℤ◌, ◌<ℤ◌}
use Rattle.entry.specs.Errors.{low, high, worst}

-- a fraction, which may be below zero: a over b is a/b, where b is above 0
infix 40 ◌over◌
pub data Fraction : Type 0 where
  ◌over◌ : ℤ → ℕ → Fraction

-- a/b < c/d and a/b <= c/d, multiplied out
abbrev pub Below : Fraction → Fraction → Type 0
Below (a over b) (c over d) = (a *ℤ pos d) <ℤ (c *ℤ pos b)

abbrev pub AtMost : Fraction → Fraction → Type 0
AtMost (a over b) (c over d) = (a *ℤ pos d) ≤ℤ (c *ℤ pos b)

abbrev pub size : Fraction → Fraction
size (a over b) = pos (nat_abs a) over b

-- "Interval n holds the x with i/2^k <= x < (i+1)/2^k. Its right end is not in it": x is p/q
pub record Holds (K i p q : ℕ) : Type 0 where
  pub fraction : 0 < q
  pub from : i * q ≤ K * p
  pub before : K * p < (i + 1) * q

-- "Relative error of j at x is 1 - x·j/2^(m+1)": 1 - (p/q)·(j/M)
abbrev pub error_at : ℕ → ℕ → ℕ → ℕ → Fraction
error_at M j p q = (pos (q * M) -ℤ pos (p * j)) over (q * M)

-- a bound of the size of the error of j at every x of the interval
abbrev pub Bounds : ℕ → ℕ → ℕ → ℕ → Fraction → Type 0
Bounds K M i j bound = (p q : ℕ) → Holds K i p q → AtMost (size (error_at M j p q)) bound

-- an error of j in the interval, in parts of u, which is K-as-M, is above low and at most high, so within the worst error
pub record WithinErrors (u i j : ℕ) (error : Fraction) : Type 0 where
  pub above_low : Below (low u i j over u) error
  pub at_most_high : AtMost error (high u i j over u)
  pub within_worst : AtMost (size error) (pos (worst u i j) over u)
