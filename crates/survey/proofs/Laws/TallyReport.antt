-- The answer of `Tally::take` where it is refused; that it can be read back from its numbers, so no two answers have the same; and when its
-- n is zero. Assumes nothing.
use mathlib.Core.Path.{◌≡◌, refl, ap, ◌∙◌}
use Rattle.std.specs.Prelude.{Result, Ok, Err}
use Rattle.units.specs.declared.refusals.Fault.{Fault}
use Rattle.units.proofs.Laws.OneToOne.{one_to_one, by_fault, fault_reads}
use Rattle.survey.specs.Tally.{State, state_of, Report, reported, handed_back, tally_report}
use Rattle.survey.specs.declared.tallies.Finding.{Finding}
use Rattle.survey.specs.declared.tallies.Tally.{Tally}
use Rattle.survey.specs.declared.tallies.NotTaken.{NotTaken}
use Rattle.survey.proofs.Laws.Report.{finding_back, finding_reads}
use Prim.Native.Nat.{ℕ}
use mathlib.Core.List.{[]}
use Rattle.units.specs.Refusals.{refusal, fault_reply}
use Rattle.units.proofs.Laws.Tests.{answer_has, fault_so}
use Rattle.entry.specs.Report.{entry_tests}

-- the fault of a tally's tests is its answer, with the tally as it was
pub refused_taken : (t : Tally) (f : ℕ) (fault : Fault) → fault_reply fault ≡ refusal (entry_tests t.shape t.next.0 f)
    → reported (Err (record { fault = fault; tally = t })) ≡ tally_report (state_of t) f
refused_taken t f fault tests = fault_so (handed_back (state_of t)) _ (entry_tests t.shape t.next.0 f) [] fault tests

tally_back : State → Tally
tally_back s = record { shape = s.shape; next = record { 0 = s.next }; finding = finding_back s.finding }

tally_reads : (t : Tally) → tally_back (state_of t) ≡ t
unfolding tally_back
tally_reads t = ap (λ (f : Finding). record { shape = t.shape; next = t.next; finding = f }) (finding_reads t.finding)

pub state_one_to_one : (a b : Tally) → state_of a ≡ state_of b → a ≡ b
state_one_to_one = one_to_one state_of tally_back tally_reads

not_taken : Tally → Fault → Result Tally NotTaken
not_taken t fault = Err (record { fault = fault; tally = t })

answer_of : Report → Result Tally NotTaken
answer_of r = by_fault r.number r.n (Ok (tally_back r.state)) (not_taken (tally_back r.state))

reads : (a : Result Tally NotTaken) → answer_of (reported a) ≡ a
unfolding answer_of not_taken
reads (Ok t) = ap (λ (t : Tally). Ok t) (tally_reads t)
reads (Err not) =
    fault_reads not.fault _ (not_taken (tally_back (state_of not.tally))) ∙ ap (λ (t : Tally). not_taken t not.fault) (tally_reads not.tally)

pub reported_one_to_one : (a b : Result Tally NotTaken) → reported a ≡ reported b → a ≡ b
reported_one_to_one = one_to_one reported answer_of reads

-- "Fields that an answer doesn't use are zero, with any number, 0 and 5 too."
-- a tally's answer: n with 5 alone; the tally itself comes back with every number
pub take_unused : (t : State) (f : ℕ) → ((tally_report t f).number ≡ 5 → ⊥) → (tally_report t f).n ≡ 0
take_unused t f =
    answer_has (λ (r : Report). (r.number ≡ 5 → ⊥) → r.n ≡ 0) (handed_back t) _ (entry_tests t.shape t.next f)
    (λ _. refl, (λ _. refl, (λ _. refl, (λ not. absurd (not refl), tt))))
    (λ _. refl)
