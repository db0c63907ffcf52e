-- `memory_tokens::gap_end` meets its contract: white space and a comment are passed, and what is neither is a token. Assumes nothing.
use native.Mathlib.Omega.{arith}
use Rattle.memory_tokens.proofs.Laws.Places.{text_ends, white_passes, none_ends}
use Rattle.memory_tokens.proofs.comments.gap_end.Goals as goal

pub loop-at-preserved-then-is_white : goal.loop-at-preserved-then-is_white
loop-at-preserved-then-is_white c = grind (arith, white_passes)

pub returns-in_default : goal.returns-in_default
returns-in_default c = grind (arith, none_ends)

pub returns : goal.returns
returns c = grind (arith, text_ends)
