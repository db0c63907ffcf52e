-- The loop's invariant: the rest of the number, after what was read of it, is the whole (`Spelling`). Assumes nothing.
use Rattle.memory_tokens.proofs.Laws.Numerals.{Spelling}
use Rattle.memory_tokens.proofs.numerals.rest_shown.Given as goal

abbrev pub invariant-loop-at : goal.invariant-loop-at
invariant-loop-at l = Spelling l.text l.from l.before l.value l.at
