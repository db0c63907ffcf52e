-- `table::show_bank` meets its contract: its tests are those of `view_tests`, and where they pass the bank lies within the lent table.
-- Assumes nothing.
use Prim.Native.Nat.{ℕ, ◌-◌}
use mathlib.Core.List.{[]}
use mathlib.Core.Path.{◌≡◌, ap₂, ◌∙◌}
use native.Mathlib.Omega.{arith}
use lib.ListN.{take, drop}
use Rattle.units.specs.Refusals.{Reply, reply, refusal}
use Rattle.units.proofs.Laws.Tests.{Passed, done_so, refused_so, done_by}
use Rattle.table.specs.Banks.{bank_size, view_tests}
use Rattle.table.proofs.Laws.Banks.{good_bank_within}
use Rattle.table.proofs.Laws.Good.{view_good}
use Rattle.table.proofs.views.show_bank.Goals as goal

-- every test passed
passed : (k h b lent : ℕ) → reply 0 0 ≡ refusal (view_tests k h b lent) → Passed (view_tests k h b lent)
passed k h b lent e = done_so (view_tests k h b lent) (omega arith) e

pub bank_at-bank-requires : goal.bank_at-bank-requires
bank_at-bank-requires c = (view_good (passed c.args.k c.args.h c.args.b _ c.in-Ok.ensures)).bank

-- the bank lies within the lent table
pub offset_bounds-table-bank : goal.offset_bounds-table-bank
offset_bounds-table-bank c =
    let good = view_good (passed c.args.k c.args.h c.args.b _ c.in-Ok.ensures) in
    omega (arith, good_bank_within good.bank c.bank_at-bank.ensures, good)

pub slice_bounds-result-end : goal.slice_bounds-result-end
slice_bounds-result-end c =
    let good = view_good (passed c.args.k c.args.h c.args.b _ c.in-Ok.ensures) in
    omega (arith, good_bank_within good.bank c.bank_at-bank.ensures, good)

pub returns-in-Err : goal.returns-in-Err
returns-in-Err c = refused_so (λ (_ : Reply). []) _ (view_tests _ _ _ _) [] c.in-Err.field-0 c.in-Err.ensures

pub returns-in-Ok : goal.returns-in-Ok
returns-in-Ok c =
    let args = c.args in
    let at = c.bank_at-bank.ensures in
    let size : c.bank_at-bank.result.end - c.bank_at-bank.result.start ≡ bank_size args.k args.h = omega (arith, at.0, at.1) in
    ap₂ (λ (first count : ℕ). take count (drop first args.table.now)) at.0 size
    ∙ done_by (λ (_ : Reply). []) _ (view_tests _ _ _ _) (passed args.k args.h args.b _ c.in-Ok.ensures)
