-- The first of some cells of which a test holds. Assumes nothing.
use Rattle.std.specs.Prelude.{ℕ, suc, Bool, false, ◌||◌, cond, List, [], ◌∷◌}

-- whether it holds of one of them
unfoldable pub any_of : (ℕ → Bool) → List ℕ → Bool
any_of holds [] = false
any_of holds (c ∷ cs) = holds c || any_of holds cs

-- the smallest n of whose cell it holds, where the first of the cells is that of interval n
unfoldable pub first_of : (ℕ → Bool) → ℕ → List ℕ → ℕ
first_of holds n [] = 0
first_of holds n (c ∷ cs) = cond (holds c) n (first_of holds (suc n) cs)
