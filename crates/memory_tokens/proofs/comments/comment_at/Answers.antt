-- `memory_tokens::comment_at` meets its contract: a comment is one of two kinds. Assumes nothing.
use native.Mathlib.Omega.{arith}
use Rattle.std.proofs.lemmas.Result.{err_from_is_err_and}
use Rattle.memory_tokens.proofs.Laws.Places.{line_begins, block_begins}
use Rattle.memory_tokens.proofs.comments.comment_at.Goals as goal

pub returns-then-opens : goal.returns-then-opens
returns-then-opens c = grind (arith, line_begins)

pub returns-then-opens-2 : goal.returns-then-opens-2
returns-then-opens-2 c = grind (arith, block_begins)

pub returns-in_err-block_end : goal.returns-in_err-block_end
returns-in_err-block_end c =
    let p = err_from_is_err_and c.from_residual.result c.from_residual.ensures.1 in rw (p.1, p.2) (grind (arith, block_begins))
