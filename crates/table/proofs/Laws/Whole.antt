-- A table is its own one bank at h = 0. Assumes nothing.
use Prim.Native.Nat.{ℕ, ◌^◌, ◌≤◌}
use mathlib.Core.List.{List}
use mathlib.Core.Path.{◌≡◌, ap}
use native.Mathlib.Omega.{arith}
use borrow.Author.Tests.{le-ltb, lt-ltb, lt-leb}
use lib.ListN.{length}
use lib.Pow.{pow_pos}
use Rattle.units.specs.Refusals.{Reply, answer, outside, table_tests}
use Rattle.units.specs.declared.shapes.Shape.{Shape}
use Rattle.units.proofs.Laws.Order.{by_order}
use Rattle.entry.specs.Rule.{rule_field}
use Rattle.table.specs.Banks.{bank_size, bank_start}
use Rattle.table.specs.Build.{filled, built, bank_tests, bank_built}

-- k is at least 1 wherever h counts, so a table has a bank 0 of h = 1, too
pub whole_tests : {A : Type 0} (refuse : Reply → A) (done : A) (s : Shape) (h lent : ℕ) → h ≤ 1
    → answer refuse done (bank_tests s h 0 lent) ≡ answer refuse done (table_tests s lent)
unfolding answer outside
whole_tests refuse done s h lent low =
    by_order h s.k
    (λ within. simp (le-ltb s.k h within, lt-leb (2 ^ h) 0 (pow_pos h)))
    (λ past. simp (lt-ltb s.k 1 (omega arith)))

-- which is the whole table where h is 0
pub whole_built : (s : Shape) (h : ℕ) (cells : List ℕ) → h ≡ 0 → bank_built s h 0 cells ≡ built s cells
whole_built s h cells none =
    let first : bank_start s.k h 0 ≡ 0 = omega arith in
    let count : bank_size s.k h ≡ 2 ^ s.k = ap (λ (x : ℕ). 2 ^ x) (omega arith) in
    rw (first, count) (whole_tests (λ (_ : Reply). cells) (filled (rule_field s) 0 (2 ^ s.k) cells) s h (length cells) (omega arith))
