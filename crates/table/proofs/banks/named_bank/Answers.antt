-- `table::named_bank` meets its contract: where its tests pass, the bank is where `bank_at` says. Assumes nothing.
use Prim.Native.Nat.{ℕ}
use mathlib.Core.List.{[]}
use mathlib.Core.Path.{◌≡◌, ap₂, ◌∙◌}
use native.Mathlib.Omega.{arith}
use Rattle.units.specs.Refusals.{reply, refusal}
use Rattle.units.specs.declared.shapes.Shape.{Shape}
use Rattle.units.proofs.Laws.Tests.{Passed, handed_on, done_so, refused_so, done_by}
use Rattle.table.specs.Banks.{named_tests}
use Rattle.table.specs.Inner.Located.{unlocated, located}
use Rattle.table.proofs.Laws.Good.{named_good}
use Rattle.table.proofs.banks.named_bank.Goals as goal

-- every test passed
passed : (s : Shape) (h b : ℕ) → reply 0 0 ≡ refusal (named_tests s h b) → Passed (named_tests s h b)
passed s h b e = done_so (named_tests s h b) (omega arith) e

pub bank_at-bank-requires : goal.bank_at-bank-requires
bank_at-bank-requires c = (named_good {s = c.args.shape} (passed c.args.shape _ _ c.in_ok-namable.ensures)).bank

pub returns-in_err-namable : goal.returns-in_err-namable
returns-in_err-namable c =
    handed_on located _ _ c.from_residual.ensures.1
    ∙ refused_so unlocated _ (named_tests c.args.shape _ _) [] _ c.in_err-namable.ensures

pub returns : goal.returns
returns c =
    ap₂ (λ (first end : ℕ). record { number = 0; first = first; end = end }) c.bank_at-bank.ensures.0 c.bank_at-bank.ensures.1
    ∙ done_by unlocated _ (named_tests c.args.shape _ _) (passed c.args.shape _ _ c.in_ok-namable.ensures)
