-- The loop's invariant: the tokens from here on are those from the gap's first byte on. Assumes nothing.
use Prim.Native.Nat.{◌-◌}
use mathlib.Core.Bool.{false}
use lib.ListN.{length}
use Rattle.memory_tokens.specs.Tokens.{outside}
use Rattle.memory_tokens.specs.Inner.Places.{Left}
use Rattle.memory_tokens.proofs.comments.gap_end.Given as goal

abbrev pub invariant-loop-at : goal.invariant-loop-at
invariant-loop-at l = Left l.text (outside false) l.from l.from l.at

abbrev pub decreases-loop-at : goal.decreases-loop-at
decreases-loop-at l = length l.text - l.at
