-- A verdict that is not yes names the first entry that is not best, and that one's worst error is above the least; with 5, the first
-- field that is over-wide. Assumes nothing.
use Prim.Native.Nat.{ℕ, ◌^◌, ◌<◌}
use mathlib.Core.Bool.{false}
use mathlib.Core.List.{List}
use mathlib.Core.Path.{◌≡◌, refl}
use native.Mathlib.Omega.{arith}
use borrow.Author.Tests.{eqb-false}
use lib.ListN.{length, take}
use Rattle.units.specs.Refusals.{table_tests}
use Rattle.units.specs.declared.shapes.Shape.{Shape}
use Rattle.units.proofs.Laws.Order.{by_order}
use Rattle.entry.specs.Errors.{unit, i_of, j_of, worst}
use Rattle.entry.specs.Fields.{is_wide}
use Rattle.entry.specs.Least.{least_worst, is_best}
use Rattle.entry.proofs.Laws.Fields.{field_in_range}
use Rattle.entry.proofs.Laws.Least.{least_below}
use Rattle.table.specs.Inner.Good.{GoodFields}
use Rattle.table.proofs.Laws.First.{Smallest}
use Rattle.table.proofs.Laws.Wide.{five_names_smallest}
use Rattle.verdict.specs.Check.{Report, refused, check_report}
use Rattle.verdict.proofs.Laws.Scan.{FirstFailing, finding_is_first_failing, scan_number}
use Rattle.verdict.proofs.Laws.Verdict.{scanned}

-- an entry in range that is not best has a larger worst error than the least
pub not_best_larger : (s : Shape) (n f : ℕ) → is_wide s f ≡ false → is_best s n (j_of s f) ≡ false
    → least_worst s n < worst (unit s) (i_of s n) (j_of s f)
not_best_larger s n f narrow worse =
    let range = field_in_range s f narrow in
    let least = least_below (unit s) (i_of s n) range.0 range.1 in
    by_order (worst (unit s) (i_of s n) (j_of s f)) (least_worst s n) (λ l. absurd (eqb-false (worst (unit s) (i_of s n) (j_of s f)) (least_worst s n) worse (omega arith))) (λ l. l)

-- Document 01: "the smallest n whose entry is not best, with its worst error and the least one", where no test refuses
pub check_names_first_failing : (s : Shape) (cells : List ℕ) → GoodFields s cells → (check_report s cells).yes ≡ false
    → FirstFailing (is_best s) s (take (2 ^ s.k) cells) 0 (check_report s cells)
check_names_first_failing s cells g e =
    let same = scanned s cells g in
    rw (← same) (finding_is_first_failing (is_best s) s (take (2 ^ s.k) cells) (rw (← same) at e))

-- 5: "number and the smallest such n"
pub check_names_smallest : (s : Shape) (cells : List ℕ) → (check_report s cells).number ≡ 5
    → Smallest (is_wide s) 0 (take (2 ^ s.k) cells) (check_report s cells).n
check_names_smallest s cells =
    five_names_smallest (λ (r : Report). r.number) (λ (r : Report). r.n) refused _ (λ b. (refl, refl))
    (scan_number (is_best s) s 0 (take (2 ^ s.k) cells))
    (table_tests s (length cells))
    (omega arith)
    s
    0
    (take (2 ^ s.k) cells)
