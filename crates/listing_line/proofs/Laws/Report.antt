-- A reading is known by what it reports, so its statement allows one answer. Assumes nothing.
use mathlib.Core.List.{List}
use mathlib.Core.Path.{◌≡◌, refl, sym, ◌∙◌}
use Prim.Native.Nat.{ℕ}
use Rattle.std.proofs.Common.{Result, Ok, Err}
use Rattle.units.proofs.Laws.OneToOne.{one_to_one, by_number, refused_reads}
use Rattle.units.specs.declared.refusals.Refusal.{Refusal}
use Rattle.units.specs.declared.shapes.Shape.{Shape}
use Rattle.listing_line.specs.Line.{Line, reported, line_read}

reading_of : Line → Result Shape Refusal
reading_of l = by_number l.number (Ok l.shape) (Ok l.shape) Err

reads : (a : Result Shape Refusal) → reading_of (reported a) ≡ a
unfolding reading_of
reads (Ok s) = refl
reads (Err r) = refused_reads r _ _ Err

pub reported_one_to_one : (a b : Result Shape Refusal) → reported a ≡ reported b → a ≡ b
reported_one_to_one = one_to_one reported reading_of reads

pub read_line_unique : (s : List ℕ) (a b : Result Shape Refusal) → reported a ≡ line_read s → reported b ≡ line_read s → a ≡ b
read_line_unique s a b p q = reported_one_to_one a b (p ∙ sym q)
