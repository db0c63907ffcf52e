-- The lines put so far, and room for the others.
use Rattle.memory_text.proofs.Laws.Lines.{Putting}
use Rattle.memory_text.proofs.writing.put_lines.Given as goal

abbrev pub invariant-loop-f : goal.invariant-loop-f
invariant-loop-f l = Putting l.count l.cells l.initial.text l.text l.at l.f-index
