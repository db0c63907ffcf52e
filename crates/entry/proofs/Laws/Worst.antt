-- The worst error of an entry, for all whole u, i and j: no power of two is needed. Assumes nothing.
use Prim.Native.Nat.{ℕ, zero, suc, ◌+◌, ◌-◌, ◌*◌, ◌≤◌, ◌<◌, max}
use mathlib.Core.Path.{◌≡◌}
use native.Mathlib.Omega.{arith}
use borrow.Author.Tests.{lt-ltb, le-ltb}
use lib.IntN.{pos, ◌-ℤ◌, nat_abs}
use Rattle.units.proofs.Laws.Order.{by_order}
use Rattle.entry.specs.Errors.{high, low, worst}

-- the distance of two numbers
unfoldable pub dist : ℕ → ℕ → ℕ
dist a b = (a - b) + (b - a)

pub size_of_difference : (a b : ℕ) → nat_abs (pos a -ℤ pos b) ≡ dist a b
unfolding dist
size_of_difference a zero = omega arith
size_of_difference a (suc b) =
    by_order (suc b) a
    (λ (h : suc b ≤ a). simp (le-ltb a (suc b) h) (omega arith))
    (λ (h : a < suc b). simp (lt-ltb a (suc b) h) (omega arith))

-- Of the two errors that have a sign, the left end's counts where it is above zero and the right end's where it is below: i·j is at most (i+1)·j
pub worst_by_ends : (u i j : ℕ) → worst u i j ≡ max (u - i * j) ((i + 1) * j - u)
unfolding worst low high dist
worst_by_ends u i j = simp size_of_difference (omega arith)

-- MATH.md, 1: "The key identity"
pub worst_doubled : (u i j : ℕ) → 2 * worst u i j ≡ dist (2 * u) ((2 * i + 1) * j) + j
unfolding dist
worst_doubled u i j = rw worst_by_ends (omega arith)

-- What a bound on the worst error says, and what says it
pub worst_within : (u i j : ℕ) (w : ℕ) → u ≤ i * j + w → (i + 1) * j ≤ u + w → worst u i j ≤ w
worst_within u i j w l r = rw worst_by_ends (omega arith)

pub within_worst : (u i j : ℕ) → (u ≤ i * j + worst u i j) × ((i + 1) * j ≤ u + worst u i j)
within_worst u i j = rw worst_by_ends (omega arith)
