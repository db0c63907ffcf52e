-- `memory_tokens::block_end` meets its contract: the tokens from a comment's second byte on are those from the loop's place on, until the
-- comment or the text ends. Assumes nothing.
use native.Mathlib.Omega.{arith}
use Rattle.memory_tokens.specs.Tokens.{closes}
use Rattle.memory_tokens.proofs.Laws.Places.{comment_closes, comment_goes_on, comment_cut}
use Rattle.memory_tokens.proofs.comments.block_end.Goals as goal

pub loop-at-preserved : goal.loop-at-preserved
unfolding closes
loop-at-preserved c = grind (arith, comment_goes_on)

pub returns-then-at-from-ge3 : goal.returns-then-at-from-ge3
unfolding closes
returns-then-at-from-ge3 c = grind (arith, comment_closes)

pub returns : goal.returns
returns c = grind (arith, comment_cut)
