-- The loop's invariant is `Reached`: what is left of the text comes to what the whole text comes to.
use Rattle.std.proofs.Common.{◌-◌, length}
use Rattle.memory_text.proofs.Laws.Reached.{Reached}
use Rattle.memory_text.proofs.reading.obey_all.Given as goal

abbrev pub invariant-loop-word : goal.invariant-loop-word
invariant-loop-word l = Reached l.good.shape l.text l.cells l.reached l.at

abbrev pub decreases-loop-word : goal.decreases-loop-word
decreases-loop-word l = length l.text - l.at
