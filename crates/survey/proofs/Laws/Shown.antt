-- The survey of a bank in its table is that of the bank shown. Assumes nothing.
use Prim.Native.Nat.{ℕ, ◌+◌}
use mathlib.Core.Bool.{Bool}
use mathlib.Core.List.{List, [], ◌∷◌, ◌++◌}
use mathlib.Core.Path.{◌≡◌, sym, ap, ap₂, ◌∙◌}
use native.Mathlib.Nat.{le_refl}
use native.Mathlib.Omega.{arith}
use borrow.Author.Tests.{le-ltb}
use lib.ListN.{length, drop}
use lib.Seq.{take-take}
use Rattle.units.specs.Refusals.{test, reply}
use Rattle.units.specs.declared.shapes.Shape.{Shape}
use Rattle.table.specs.Banks.{bank_size, bank_start, bank_of, named_tests, shown}
use Rattle.table.specs.Inner.Good.{GoodView}
use Rattle.table.proofs.Laws.Banks.{bank_within}
use Rattle.table.proofs.Laws.Shown.{shown_is, bank_whole}
use Rattle.survey.specs.Survey.{survey_after, bank_report, bank_of_report}

pub bank_of_shown : (s : Shape) (h b : ℕ) (table : List ℕ) → GoodView s.k h b (length table)
    → bank_report s h b (shown s.k h b table) ≡ bank_of_report s h b table
bank_of_shown s h b table good =
    let k = s.k in
    let within = bank_within k h b good.bank.low good.bank.number in
    ap (bank_report s h b) (shown_is k h b table good)
    ∙ ap₂ (λ (short : Bool) (fields : List ℕ). survey_after (named_tests s h b ++ (test short (reply 3 0) ∷ [])) s (bank_start k h b) fields)
    (le-ltb (length (bank_of k h b table)) (bank_size k h) (omega (arith, bank_whole k h b table good))
    ∙ sym (le-ltb (length table) (bank_start k h b + bank_size k h) (omega (arith, within, good.enough))))
    (take-take (bank_size k h) (bank_size k h) (drop (bank_start k h b) table) (le_refl (bank_size k h)))
