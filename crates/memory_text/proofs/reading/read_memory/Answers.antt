-- `memory_text::read_memory` meets its contract: its tests are those of a whole table, and the reading starts from cells of which none
-- was given. Assumes nothing.
use Prim.Native.Nat.{ℕ}
use mathlib.Core.List.{[]}
use mathlib.Core.Path.{◌≡◌, ap, ◌∙◌}
use native.Mathlib.Omega.{arith}
use lib.ListN.{replicate}
use lib.Pow.{pow_mono}
use Rattle.units.specs.Inner.Good.{GoodTable}
use Rattle.units.specs.Refusals.{Reply, reply, refusal, table_tests}
use Rattle.units.specs.declared.shapes.Shape.{Shape}
use Rattle.units.proofs.Laws.Good.{table_good, good_table}
use Rattle.units.proofs.Laws.Lists.{take_replicate}
use Rattle.units.proofs.Laws.Tests.{handed_on, done_so, refused_so, done_by}
use Rattle.memory_text.specs.Read.{missing, reported, refused, reading, left_by}
use Rattle.memory_text.proofs.reading.read_memory.Goals as goal

-- every test passed
good : (s : Shape) (lent : ℕ) → reply 0 0 ≡ refusal (table_tests s lent) → GoodTable s lent
good s lent e = table_good (done_so (table_tests s lent) (omega arith) e)

pub read_through-requires : goal.read_through-requires
read_through-requires c =
    let g = good c.args.shape _ c.in_ok-good.ensures.answer in
    rw c.in_ok-good.ensures.same (
      take_replicate _ 32768 missing (omega (arith, c.power-size.ensures, pow_mono g.widths.narrow_in))
          ∙ ap (λ (n : ℕ). replicate n missing) c.power-size.ensures,
      g.enough,
    )

pub returns-in_err-good-clause-answer : goal.returns-in_err-good-clause-answer
returns-in_err-good-clause-answer c =
    handed_on reported _ _ c.from_residual.ensures.1
    ∙ refused_so refused _ (table_tests c.args.shape _) [] _ c.in_err-good.ensures.answer

pub returns-in_err-good-clause-cells : goal.returns-in_err-good-clause-cells
returns-in_err-good-clause-cells c =
    refused_so (λ (_ : Reply). c.args.table.now) _ (table_tests c.args.shape _) [] _ c.in_err-good.ensures.answer

pub returns-clause-answer : goal.returns-clause-answer
returns-clause-answer c =
    let g = good c.args.shape _ c.in_ok-good.ensures.answer in
    c.read_through.ensures.answer
    ∙ ap (λ (s : Shape). (reading s c.args.text.now).report) c.in_ok-good.ensures.same
    ∙ done_by refused _ (table_tests c.args.shape _) (good_table g)

pub returns-clause-cells : goal.returns-clause-cells
returns-clause-cells c =
    let g = good c.args.shape _ c.in_ok-good.ensures.answer in
    c.read_through.ensures.cells
    ∙ ap (λ (s : Shape). left_by s (reading s c.args.text.now) c.args.table.now) c.in_ok-good.ensures.same
    ∙ done_by (λ (_ : Reply). c.args.table.now) _ (table_tests c.args.shape _) (good_table g)
