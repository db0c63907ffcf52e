-- `memory_tokens::next_token` meets its contract: it is what stands after the gap. Assumes nothing.
use Rattle.std.proofs.lemmas.Result.{err_from_is_err_and}
use Rattle.memory_tokens.proofs.Laws.Next.{unfinished_is_faulty}
use Rattle.memory_tokens.proofs.tokens.next_token.Goals as goal

pub returns-in_err-from : goal.returns-in_err-from
returns-in_err-from c =
    let p = err_from_is_err_and c.from_residual.result c.from_residual.ensures.1 in
    rw (p.1, p.2) (unfinished_is_faulty c.args.text.now c.args.at _ c.in_err-from.ensures)
