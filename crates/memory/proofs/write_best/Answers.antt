-- `memory::write_best` writes the text of a table that was built. Assumes nothing.
use Rattle.std.proofs.Common.{ap, ◌∙◌, arith}
use Rattle.units.specs.Refusals.{table_tests}
use Rattle.units.proofs.Laws.Good.{table_good}
use Rattle.units.proofs.Laws.Tests.{done_so}
use Rattle.memory_text.specs.Write.{memory_text}
use Rattle.memory.proofs.Laws.Best.{built_text}
use Rattle.memory.proofs.write_best.Goals as goal

pub write-requires : goal.write-requires
write-requires g c =
    let s = c.args.asked.shape in
    let good = table_good (done_so (table_tests s _) (omega arith) c.in-Ok.ensures.answer) in
    ap (memory_text s) c.in-Ok.ensures.cells ∙ built_text s _ good
