-- The shape of a table. Assumes nothing.
use Rattle.std.specs.Prelude.{ℕ}
use Rattle.units.specs.declared.kinds.Kind.{Kind}
use Rattle.units.specs.declared.shapes.Shape.{Shape}

-- k bits in, m bits out, and the kind
abbrev pub shape : ℕ → ℕ → Kind → Shape
shape k m kind = record { k = k; m = m; kind = kind }
