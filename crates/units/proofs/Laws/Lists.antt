-- Lists. Assumes nothing.
use Prim.Native.Nat.{ℕ, zero, suc, ◌≤◌, ◌<◌}
use mathlib.Core.List.{List, ◌∷◌}
use mathlib.Core.Path.{◌≡◌, refl, ap, ◌∙◌}
use native.Mathlib.Omega.{arith}
use lib.ListN.{length, take, drop, set, replicate}
use lib.Seq.{length-take-le, set_split, drop_at}

-- a store, and what stands after it
pub drop_set : (l : List ℕ) (i a : ℕ) → i < length l → drop i (set l i a) ≡ a ∷ drop (suc i) l
drop_set l i a h =
    ap (drop i) (set_split l i a h) ∙ drop_at (take i l) (a ∷ drop (suc i) l) i (length-take-le i l (omega arith))

-- some of many that are the same
pub take_replicate : (n m a : ℕ) → n ≤ m → take n (replicate m a) ≡ replicate n a
take_replicate zero m a h = refl
take_replicate (suc n) zero a h = absurd (omega arith)
take_replicate (suc n) (suc m) a h = ap (λ (l : List ℕ). a ∷ l) (take_replicate n m a (omega arith))
