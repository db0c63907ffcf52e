-- The error of the entry found, at the divisor that was looked up. Assumes nothing.
use Prim.Native.Nat.{ℕ, ◌+◌, ◌*◌, ◌^◌}
use mathlib.Core.List.{List, [], ◌∷◌}
use mathlib.Core.Path.{◌≡◌, refl}
use native.Mathlib.Omega.{arith}
use lib.ListN.{length, get_or}
use lib.Pow.{pow_pos}
use Rattle.units.specs.declared.shapes.Shape.{Shape}
use Rattle.units.proofs.Laws.Tests.{passed_parts, zero_passed}
use Rattle.entry.specs.Errors.{unit, i_of, j_of}
use Rattle.entry.specs.Everywhere.{error_at, WithinErrors}
use Rattle.entry.specs.Fields.{too_wide}
use Rattle.entry.proofs.Laws.Everywhere.{every_x_within}
use Rattle.entry.proofs.Laws.Table.{unit_splits}
use Rattle.table.specs.Lookup.{Report, refused, index_of, divisor_tests, lookup_tests, lookup_report}
use Rattle.table.specs.Shift.{shifted}
use Rattle.table.proofs.Laws.Good.{lookup_good}
use Rattle.table.proofs.Laws.Lookup.{interval_contains, field_found}

-- For every divisor that is looked up: the error of the j found, 1 - (X·2^s/32768)·j/2^(m+1)
pub found_error_within : (s : Shape) (x : ℕ) (cells : List ℕ) → (lookup_report s x cells).number ≡ 0
    → WithinErrors (unit s) (i_of s (lookup_report s x cells).n) (lookup_report s x cells).j
    (error_at (2 ^ (s.m + 1)) (lookup_report s x cells).j (x * 2 ^ (lookup_report s x cells).s) 32768)
found_error_within s x cells done =
    let n : ℕ = index_of s (shifted x) in
    let f : ℕ = get_or cells n 0 in
    let passed = zero_passed (λ (r : Report). r.number) refused _ (lookup_tests s x cells n) (omega arith) (λ b. refl) refl done in
    let parts = passed_parts (divisor_tests s x (length cells)) (too_wide s n f ∷ []) passed in
    let good = lookup_good parts.0 in
    rw (← field_found cells good n parts.1.0)
    (every_x_within (2 ^ s.k) (2 ^ (s.m + 1)) (unit s) (i_of s n) (j_of s f) (unit_splits s) (pow_pos s.k) (shifted x) 32768
    (pow_pos (s.m + 1))
    (omega (arith, pow_pos s.m))
    (interval_contains s x good.table.widths.narrow_in good.some good.to))
