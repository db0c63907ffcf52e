-- Document 01, "The best entry". Assumes nothing.
use Rattle.std.specs.Prelude.{ℕ, ◌+◌, ◌-◌, ◌^◌, cond, leb}
use Rattle.units.specs.declared.shapes.Shape.{Shape}

-- "Ceilings: for m >= k no best entry's worst error exceeds 2^m + 2^(k-1) parts; for m < k none exceeds 2^k + 2^(m-1) parts."
unfoldable pub ceiling : Shape → ℕ
ceiling s = cond (leb s.k s.m) (2 ^ s.m + 2 ^ (s.k - 1)) (2 ^ s.k + 2 ^ (s.m - 1))
