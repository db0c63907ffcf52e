-- `memory_tokens::line_end` meets its contract: the tokens from a comment's second byte on are those from the loop's place on, until the
-- line or the text ends. Assumes nothing.
use native.Mathlib.Omega.{arith}
use Rattle.memory_tokens.proofs.Laws.Places.{line_closes, line_goes_on, line_cut}
use Rattle.memory_tokens.proofs.comments.line_end.Goals as goal

pub loop-at-preserved : goal.loop-at-preserved
loop-at-preserved c = grind (arith, line_goes_on)

pub returns-then-text-at-eq10 : goal.returns-then-text-at-eq10
returns-then-text-at-eq10 c = grind (arith, line_closes)

pub returns : goal.returns
returns c = grind (arith, line_cut)
