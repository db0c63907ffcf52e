-- Cells are filled one after the other. Assumes nothing.
use Prim.Native.Nat.{ℕ, ◌+◌, ◌-◌, ◌/◌, ◌≤◌, ◌<◌, min}
use mathlib.Core.List.{List, ◌++◌, append-nil}
use mathlib.Core.Path.{◌≡◌, refl, ◌∙◌}
use native.Mathlib.Nat.{add-zero, add-suc}
use native.Mathlib.Numerals.{add-one}
use native.Mathlib.Omega.{arith}
use lib.ListN.{length, drop, set, length-append, length-drop}
use lib.Seq.{drop-length}
use Rattle.units.specs.declared.shapes.Shape.{Shape}
use Rattle.entry.specs.Fields.{fields_end}
use Rattle.entry.specs.Inner.Good.{GoodPlace}
use Rattle.entry.specs.Inner.Quotient.{Before}
use Rattle.entry.specs.Rule.{rule_field}
use Rattle.entry.specs.declared.quotients.Quotient.{Quotient}
use Rattle.entry.proofs.Laws.Quotient.{quotient_moves_on, quotient_is_field}
use Rattle.table.specs.Build.{rows}
use Rattle.table.proofs.Laws.Rows.{length_rows, rows_step}

-- the cells before `at` hold the rule's fields, the others are as they were, and the quotient stands before the next interval
pub record Filling (s : Shape) (first : ℕ) (old cells : List ℕ) (q : Quotient) (at : ℕ) : Type 0 where
  pub within : at ≤ length old
  pub cells_are : cells ≡ rows (rule_field s) first at ++ drop at old
  pub before : Before s (first + at) q

module _ {s : Shape} {first : ℕ} {old : List ℕ} where
  pub filling_starts : {q : Quotient} → Before s first q → Filling s first old old q 0
  unfolding rows
  filling_starts b = record { within = omega arith; cells_are = refl; before = rw (add-zero first) b }

  module _ {cells : List ℕ} {q : Quotient} {at : ℕ} (f : Filling s first old cells q at) where
    pub filling_size : length cells ≡ length old
    filling_size = rw f.cells_are (simp (length-append, length-drop, length_rows) (omega (arith, f.within)))

    pub filling_goes_on : GoodPlace s (first + at) → at < length old
        → {field : ℕ} → field ≡ min ((q.over - q.fall) / (q.by + q.rise)) (fields_end s - 1)
        → Filling s first old (set cells at field) (record { over = q.over - q.fall; by = q.by + q.rise; fall = q.fall; rise = q.rise }) (at + 1)
    filling_goes_on here inside is =
        record {
          within = omega arith;
          cells_are = rw (f.cells_are, is, quotient_is_field here f.before, add-one at) (rows_step (rule_field s) first old inside);
          before = rw (add-one at, add-suc first at) (quotient_moves_on here f.before);
        }

    pub filling_ends : length old ≤ at → cells ≡ rows (rule_field s) first (length old)
    filling_ends past =
        let all : at ≡ length old = omega (arith, f.within) in
        f.cells_are ∙ rw (all, drop-length) (append-nil (rows (rule_field s) first (length old)))
