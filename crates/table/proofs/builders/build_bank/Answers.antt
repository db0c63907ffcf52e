-- `table::build_bank` meets its contract: its tests are those of `bank_tests`, and where they pass the bank lies within the lent table.
-- Assumes nothing.
use Prim.Native.Nat.{ℕ, ◌-◌}
use mathlib.Core.List.{[]}
use mathlib.Core.Path.{◌≡◌, ap₂, ◌∙◌}
use native.Mathlib.Omega.{arith}
use lib.ListN.{length-take, length-drop}
use Rattle.units.specs.Refusals.{Reply, reply, refusal}
use Rattle.units.specs.declared.shapes.Shape.{Shape}
use Rattle.units.proofs.Laws.Tests.{done_so, refused_so, done_by}
use Rattle.entry.specs.Rule.{rule_field}
use Rattle.table.specs.Build.{filled, bank_tests}
use Rattle.table.specs.Inner.Good.{GoodBuild}
use Rattle.table.proofs.Laws.Banks.{good_bank_within}
use Rattle.table.proofs.Laws.Good.{build_good, good_build}
use Rattle.table.proofs.Laws.Rows.{filled_part}
use Rattle.table.proofs.builders.build_bank.Goals as goal

-- every test passed
good : (s : Shape) (h b lent : ℕ) → reply 0 0 ≡ refusal (bank_tests s h b lent) → GoodBuild s h b lent
good s h b lent e = build_good (done_so (bank_tests s h b lent) (omega arith) e)

pub bank_at-bank-requires : goal.bank_at-bank-requires
bank_at-bank-requires c = (good c.args.shape c.args.h c.args.b _ c.in_ok-buildable.ensures).view.bank

-- so the bank lies within the lent table
pub overflow_cast-n : goal.overflow_cast-n
overflow_cast-n c =
    omega (arith, good_bank_within (good c.args.shape c.args.h c.args.b _ c.in_ok-buildable.ensures).view.bank c.bank_at-bank.ensures)

pub offset_bounds-table-bank : goal.offset_bounds-table-bank
offset_bounds-table-bank c =
    let view = (good c.args.shape c.args.h c.args.b _ c.in_ok-buildable.ensures).view in
    omega (arith, good_bank_within view.bank c.bank_at-bank.ensures, view)

pub slice_bounds-fill-end : goal.slice_bounds-fill-end
slice_bounds-fill-end c =
    let view = (good c.args.shape c.args.h c.args.b _ c.in_ok-buildable.ensures).view in
    omega (arith, good_bank_within view.bank c.bank_at-bank.ensures, view)

pub invariant_of-fill : goal.invariant_of-fill
invariant_of-fill c =
    let g = good c.args.shape c.args.h c.args.b _ c.in_ok-buildable.ensures in
    record { good = record { widths = g.widths; interval = omega (arith, good_bank_within g.view.bank c.bank_at-bank.ensures) } }

pub fill-requires : goal.fill-requires
fill-requires c =
    let g = good c.args.shape c.args.h c.args.b _ c.in_ok-buildable.ensures in
    simp (length-take, length-drop) (omega (arith, good_bank_within g.view.bank c.bank_at-bank.ensures, g.view))

pub returns-in_err-buildable-clause-cells : goal.returns-in_err-buildable-clause-cells
returns-in_err-buildable-clause-cells c =
    refused_so (λ (_ : Reply). c.args.table.now) _ (bank_tests c.args.shape c.args.h c.args.b _) [] _ c.in_err-buildable.ensures

pub returns-clause-cells : goal.returns-clause-cells
returns-clause-cells c =
    let s = c.args.shape in
    let table = c.args.table.now in
    let bank = c.bank_at-bank.result in
    let at = c.bank_at-bank.ensures in
    let g = good s c.args.h c.args.b _ c.in_ok-buildable.ensures in
    filled_part (rule_field s) bank.start (bank.end - bank.start) table _ (omega (arith, good_bank_within g.view.bank at, g.view)) c.fill.ensures
    ∙ ap₂ (λ (first count : ℕ). filled (rule_field s) first count table) at.0 (omega (arith, at.0, at.1))
    ∙ done_by (λ (_ : Reply). table) _ (bank_tests s c.args.h c.args.b _) (good_build g)
