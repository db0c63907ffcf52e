-- What a list of tests says where it passed, fact by fact: what the functions below a call may rely on. Assumes nothing.
use Rattle.std.specs.Prelude.{ℕ, ◌^◌, ◌≤◌}
use Rattle.units.specs.declared.shapes.Shape.{Shape}

-- 1 and 2
pub record GoodWidths (s : Shape) : Type 0 where
  pub some_in : 1 ≤ s.k
  pub narrow_in : s.k ≤ 15
  pub some_out : 1 ≤ s.m
  pub narrow_out : s.m ≤ 15

-- 1, 2 and 3
pub record GoodTable (s : Shape) (lent : ℕ) : Type 0 where
  pub widths : GoodWidths s
  pub enough : 2 ^ s.k ≤ lent
