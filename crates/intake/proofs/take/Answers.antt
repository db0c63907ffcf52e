-- `intake::take` checks the cells that the text leaves where it was read. Assumes nothing.
use Rattle.std.proofs.Common.{ℕ, sym, ap, ◌∙◌}
use Rattle.memory_text.specs.Read.{Report, read_report, read_cells}
use Rattle.intake.proofs.take.Goals as goal

pub check-requires : goal.check-requires
check-requires g c = (
  ap (λ (lent : ℕ). (read_report c.args.asked.shape c.args.memory.now lent).number) c.zeroed-cells.ensures.size
      ∙ sym (ap (λ (r : Report). r.number) c.in-Ok.ensures.answer),
  c.in-Ok.ensures.cells ∙ ap (read_cells c.args.asked.shape c.args.memory.now) c.zeroed-cells.ensures.cells,
)
