-- The errors of one entry over one interval. Document 01, "Numbers and their units". Assumes nothing.
use Rattle.std.specs.Prelude.{ℕ, ◌+◌, ◌*◌, ◌^◌, max, cond, ltb, ℤ, pos, ◌-ℤ◌, nat_abs}
use Rattle.units.specs.declared.shapes.Shape.{Shape}

-- "Let P = k+m+1." Errors are counted in parts of 2^P
abbrev pub unit : Shape → ℕ
unit s = 2 ^ (s.k + s.m + 1)

-- "Index n runs from 0 to 2^k - 1, and i = 2^k + n. Interval n holds the x with i/2^k <= x < (i+1)/2^k."
abbrev pub i_of : Shape → ℕ → ℕ
i_of s n = 2 ^ s.k + n

-- "An entry is stored as a field f of m bits .. It stands for j/2^(m+1) with j = 2^m + f."
abbrev pub j_of : Shape → ℕ → ℕ
j_of s f = 2 ^ s.m + f

-- Below, u is 2^P, or any whole number.

-- "Over interval n it runs from low (not reached) to high (reached at the left end), in parts of 2^P:
-- high = 2^P - i·j and low = 2^P - (i+1)·j. Both are signed."
unfoldable pub high : ℕ → ℕ → ℕ → ℤ
high u i j = pos u -ℤ pos (i * j)

unfoldable pub low : ℕ → ℕ → ℕ → ℤ
low u i j = pos u -ℤ pos ((i + 1) * j)

-- "The entry's worst error is the larger of the sizes of low and high, in parts of 2^P."
unfoldable pub worst : ℕ → ℕ → ℕ → ℕ
worst u i j = max (nat_abs (low u i j)) (nat_abs (high u i j))

-- "Its side is "left" (0) where high is larger in size, "right" (1) where low is": where high is not, low is (`side_is_larger`)
abbrev pub side_by_sizes : ℕ → ℕ → ℕ
side_by_sizes low_size high_size = cond (ltb low_size high_size) 0 1

unfoldable pub side : ℕ → ℕ → ℕ → ℕ
side u i j = side_by_sizes (nat_abs (low u i j)) (nat_abs (high u i j))
