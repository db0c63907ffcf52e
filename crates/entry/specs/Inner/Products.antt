-- Low and high from the products at an interval's ends, and the side from their sum. Assumes nothing.
use Rattle.std.specs.Prelude.{ℕ, ◌*◌, cond, ltb, ℤ, pos, ◌-ℤ◌}
use Rattle.entry.specs.declared.measure.Products.{Products}

abbrev pub low_of : Products → ℤ
low_of e = pos e.unit -ℤ pos e.right

abbrev pub high_of : Products → ℤ
high_of e = pos e.unit -ℤ pos e.left

abbrev pub side_by_middle : ℕ → ℕ → ℕ
side_by_middle u middle = cond (ltb middle (2 * u)) 0 1
