-- `memory_tokens::numeral_at` meets its contract: a first digit, and the rest. Assumes nothing.
use native.Mathlib.Omega.{arith}
use Rattle.std.proofs.lemmas.Option.{slice_get_cases}
use Rattle.memory_tokens.proofs.Laws.Numerals.{number_past, first_other, number_is}
use Rattle.memory_tokens.proofs.numerals.numeral_at.Goals as goal

pub returns-in_err-first : goal.returns-in_err-first
returns-in_err-first c = rw c.from_residual.ensures (grind (arith, slice_get_cases, number_past))

pub returns-in_err-digit : goal.returns-in_err-digit
returns-in_err-digit c = rw c.from_residual-in_err-digit.ensures (grind (arith, slice_get_cases, first_other))

pub returns : goal.returns
returns c = grind (arith, slice_get_cases, number_is)
