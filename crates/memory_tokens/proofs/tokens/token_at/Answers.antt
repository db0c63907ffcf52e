-- `memory_tokens::token_at` meets its contract: the number of an address begins after its @. Assumes nothing.
use borrow.Author.Tests.{eq-eqb, ne_eqb}
use Rattle.memory_tokens.specs.Words.{at_sign}
use Rattle.memory_tokens.specs.declared.words.Said.TheVariants.{Address, Value}
use Rattle.memory_tokens.proofs.Laws.Next.{token_faulty, token_says}
use Rattle.memory_tokens.proofs.tokens.token_at.Goals as goal

pub returns-in_default : goal.returns-in_default
returns-in_default c = token_faulty c.args.text.now c.args.from c.requires.0 c.requires.1 c.in_default.ensures

pub returns-then-address : goal.returns-then-address
returns-then-address c =
    token_says c.args.text.now c.args.from c.requires.0 c.requires.1 (Address c.in-Some.numeral.value) c.in-Some.ensures (eq-eqb _ at_sign c.if-address.true)

pub returns-else-address : goal.returns-else-address
returns-else-address c =
    token_says c.args.text.now c.args.from c.requires.0 c.requires.1 (Value c.in-Some.numeral.value) c.in-Some.ensures (ne_eqb _ at_sign c.if-address.false)
