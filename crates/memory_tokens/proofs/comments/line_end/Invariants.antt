-- The loop's invariant: the tokens from here on are those from the comment's second byte on. Assumes nothing.
use Prim.Native.Nat.{◌+◌}
use mathlib.Core.Bool.{true, false}
use mathlib.Core.Path.{◌≡◌}
use Rattle.memory_tokens.specs.Tokens.{comment}
use Rattle.memory_tokens.specs.Inner.Places.{tokens_from}
use Rattle.memory_tokens.proofs.comments.line_end.Given as goal

abbrev pub invariant-loop-at : goal.invariant-loop-at
invariant-loop-at l = tokens_from l.text (comment true l.from false) l.at ≡ tokens_from l.text (comment true l.from false) (l.from + 1)
