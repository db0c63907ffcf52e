-- The finding of a survey, as a fold over the fields. Document 01, "The calls". Assumes nothing.
use Rattle.std.specs.Prelude.{ℕ, suc, cond, List, [], ◌∷◌, ltb}
use Rattle.units.specs.declared.shapes.Shape.{Shape}
use Rattle.entry.specs.Errors.{unit, i_of, j_of, worst, side}

-- "the largest worst error, the smallest n that has it, and that entry's side": the figures of a finding
pub record Figures : Type 0 where
  pub worst : ℕ
  pub n : ℕ
  pub side : ℕ

-- "its finding is worst 0, n 0, side 0"
abbrev pub fresh : Figures
fresh = record { worst = 0; n = 0; side = 0 }

-- what the value j contributes at interval n, and so the field f
abbrev pub value_figures : Shape → ℕ → ℕ → Figures
value_figures s n j = record { worst = worst (unit s) (i_of s n) j; n = n; side = side (unit s) (i_of s n) j }

abbrev pub entry_figures : Shape → ℕ → ℕ → Figures
entry_figures s n f = value_figures s n (j_of s f)

-- "An entry replaces the finding only where its worst is larger."
abbrev pub or_larger : Figures → Figures → Figures
or_larger old new = cond (ltb old.worst new.worst) new old

-- one field after the other, the first of them that of interval n
unfoldable pub finding_over : Shape → ℕ → List ℕ → Figures → Figures
finding_over s n [] old = old
finding_over s n (f ∷ fs) old = finding_over s (suc n) fs (or_larger old (entry_figures s n f))
