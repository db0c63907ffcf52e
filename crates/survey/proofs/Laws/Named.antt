-- What a bank survey knows once its bank is named. Assumes nothing.
use Prim.Native.Nat.{ℕ}
use mathlib.Core.List.{List, [], ◌∷◌, ◌++◌}
use mathlib.Core.Path.{◌≡◌}
use Rattle.table.specs.declared.banks.Stretch.{Stretch}
use Rattle.units.specs.Refusals.{few_cells}
use Rattle.units.specs.declared.shapes.Shape.{Shape}
use Rattle.table.specs.Banks.{named_tests}
use Rattle.table.proofs.Laws.Good.{good_named}
use Rattle.table.proofs.Laws.Located.{IsBank}
use Rattle.survey.specs.Survey.{survey_after}
use Rattle.survey.proofs.Laws.Scan.{after_passed}

-- the tests of its name passed, and those of the cells decide
pub named_passed : (s : Shape) (h b lent : ℕ) {place : Stretch} → IsBank s h b place → (end n : ℕ) (fields : List ℕ)
    → survey_after (few_cells lent end ∷ []) s n fields ≡ survey_after (named_tests s h b ++ (few_cells lent end ∷ [])) s n fields
named_passed s h b lent is end n fields = after_passed (named_tests s h b) (few_cells lent end ∷ []) s n fields (good_named is.named)
