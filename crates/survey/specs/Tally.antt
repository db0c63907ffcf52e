-- The running tally. Document 01, "The calls". Assumes nothing.
use Rattle.std.specs.Prelude.{ℕ, ◌+◌, List, [], ◌∷◌, Result, Ok, Err}
use Rattle.units.specs.Refusals.{Reply, reply, fault_reply, answer}
use Rattle.units.specs.Sides.{side_number}
use Rattle.units.specs.declared.shapes.Shape.{Shape}
use Rattle.entry.specs.Report.{entry_tests}
use Rattle.survey.specs.Finding.{Figures, fresh, entry_figures, or_larger}
use Rattle.survey.specs.declared.tallies.Finding.{Finding}
use Rattle.survey.specs.declared.tallies.Tally.{Tally}
use Rattle.survey.specs.declared.tallies.NotTaken.{NotTaken}

-- "It holds the widths, the next n and the finding so far", and the kind
pub record State : Type 0 where
  pub shape : Shape
  pub next : ℕ
  pub finding : Figures

abbrev pub figures_of : Finding → Figures
figures_of f = record { worst = f.worst.0; n = f.n.0; side = side_number f.side }

abbrev pub state_of : Tally → State
state_of t = record { shape = t.shape; next = t.next.0; finding = figures_of t.finding }

-- "A fresh one is given the widths and the first n", and the kind
abbrev pub started : Shape → ℕ → State
started s first = record { shape = s; next = first; finding = fresh }

-- with the field f of interval n: the next n is the one after it
abbrev pub tallied_at : State → ℕ → ℕ → State
tallied_at t n f = record { shape = t.shape; next = n + 1; finding = or_larger t.finding (entry_figures t.shape n f) }

-- the number, with 5 its n, and the tally that is handed back
pub record Report : Type 0 where
  pub number : ℕ
  pub n : ℕ
  pub state : State

abbrev pub handed_back : State → Reply → Report
handed_back t b = record { number = b.number; n = b.n; state = t }

abbrev pub reported : Result Tally NotTaken → Report
reported (Ok t) = handed_back (state_of t) (reply 0 0)
reported (Err not) = handed_back (state_of not.tally) (fault_reply not.fault)

-- It "takes the field of that next n". "It is tested for 1, 2, 4 (next n) and 5 in that order; a refused tally comes back as it was, and 5 names that n."
abbrev pub tally_report : State → ℕ → Report
tally_report t f = answer (handed_back t) (handed_back (tallied_at t t.next f) (reply 0 0)) (entry_tests t.shape t.next f)

-- a tally that takes some fields one by one
unfoldable pub tallied_all : State → List ℕ → State
tallied_all t [] = t
tallied_all t (f ∷ fs) = tallied_all (tally_report t f).state fs
