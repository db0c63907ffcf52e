-- `table::whole_fields` meets its contract: the tests of a whole table, and after them that of its fields, which are the first 2^k cells.
-- Assumes nothing.
use Prim.Native.Nat.{ℕ, ◌^◌}
use mathlib.Core.List.{[], ◌∷◌}
use mathlib.Core.Path.{◌≡◌, ◌∙◌}
use native.Mathlib.Omega.{arith}
use lib.ListN.{take, length-take}
use Rattle.units.specs.Inner.Good.{GoodTable}
use Rattle.units.specs.Refusals.{Reply, reply, refusal, table_tests, fault_reply_of}
use Rattle.units.specs.declared.shapes.Shape.{Shape}
use Rattle.units.proofs.Laws.Good.{table_good}
use Rattle.units.proofs.Laws.Tests.{handed_on, done_so, refused_so, then_so}
use Rattle.table.specs.Wide.{wide_among}
use Rattle.table.proofs.fields.whole_fields.Goals as goal

-- every test but that of the fields passed
good : (s : Shape) (lent : ℕ) → reply 0 0 ≡ refusal (table_tests s lent) → GoodTable s lent
good s lent e = table_good (done_so (table_tests s lent) (omega arith) e)

pub slice_bounds-wide_among-end : goal.slice_bounds-wide_among-end
slice_bounds-wide_among-end c =
    let enough = (good c.args.shape _ c.in_ok-good.ensures.answer).enough in
    simp length-take (omega (arith, c.power-size.ensures, enough))

-- the tests of the whole table refuse
pub returns-in_err-good-clause-answer : goal.returns-in_err-good-clause-answer
returns-in_err-good-clause-answer c =
    handed_on fault_reply_of _ _ c.from_residual.ensures.1
    ∙ refused_so (λ (b : Reply). b) (reply 0 0) (table_tests c.args.shape _) (wide_among _ _ _ ∷ []) _ c.in_err-good.ensures.answer

-- a field does
pub returns-in_err-wide_among-clause-answer : goal.returns-in_err-wide_among-clause-answer
returns-in_err-wide_among-clause-answer c =
    handed_on fault_reply_of _ _ c.from_residual-in_err-wide_among.ensures.1
    ∙ then_so (table_tests c.args.shape _) (wide_among c.args.shape 0 (take (2 ^ c.args.shape.k) c.args.table.now) ∷ []) (omega arith)
    c.in_ok-good.ensures.answer
    (rw (c.in_ok-good.ensures.same, c.power-size.ensures) at c.in_err-wide_among.ensures)

pub returns-clause-answer : goal.returns-clause-answer
returns-clause-answer c =
    then_so (table_tests c.args.shape _) (wide_among c.args.shape 0 (take (2 ^ c.args.shape.k) c.args.table.now) ∷ []) (omega arith)
    c.in_ok-good.ensures.answer
    (rw (c.in_ok-good.ensures.same, c.power-size.ensures) at c.in_ok-wide_among.ensures)
