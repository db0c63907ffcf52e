-- The largest of some fields, by which it is seen whether one is over-wide. Assumes nothing.
use Rattle.std.specs.Prelude.{ℕ, max, List, [], ◌∷◌}

unfoldable pub largest_of : List ℕ → ℕ
largest_of [] = 0
largest_of (f ∷ fs) = max f (largest_of fs)
