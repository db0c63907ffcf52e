-- What the answer of `named_bank` says to a caller. Assumes nothing.
use Prim.Native.Nat.{ℕ, ◌+◌, ◌-◌}
use mathlib.Core.List.{List, ◌++◌}
use mathlib.Core.Path.{◌≡◌, refl, sym, ap, ◌∙◌}
use native.Mathlib.Omega.{arith}
use Rattle.units.specs.Refusals.{Reply, reply, Test, answer, refusal, refusal_number}
use Rattle.units.specs.declared.refusals.Refusal.{Refusal}
use Rattle.units.specs.declared.shapes.Shape.{Shape}
use Rattle.units.proofs.Laws.Tests.{answer_maps, done_by, refused_by, refusal_numbered, zero_passed}
use Rattle.table.specs.Banks.{bank_size, bank_start, named_tests}
use Rattle.table.specs.Inner.Good.{GoodNamed}
use Rattle.table.specs.Inner.Located.{Located, unlocated, located, bank_located}
use Rattle.std.specs.Prelude.{Ok, Err}
use Rattle.table.specs.declared.banks.Stretch.{Stretch}
use Rattle.table.proofs.Laws.Banks.{Within, good_bank_within}
use Rattle.table.proofs.Laws.Good.{named_good}

-- a stretch is that of bank b of 2^h, which lies within the table
pub record IsBank (s : Shape) (h b : ℕ) (place : Stretch) : Type 0 where
  pub named : GoodNamed s h b
  pub first_is : place.first ≡ bank_start s.k h b
  pub end_is : place.end ≡ bank_start s.k h b + bank_size s.k h
  pub size_is : place.end - place.first ≡ bank_size s.k h
  pub ends : Within s.k place.first place.end

module _ (s : Shape) (h b : ℕ) where
  pub at_is_bank : (place : Stretch) → located (Ok place) ≡ bank_located s h b → IsBank s h b place
  at_is_bank place is =
      let passed =
      zero_passed (λ (l : Located). l.number) unlocated _ (named_tests s h b) (omega arith) (λ r. refl) refl (sym (ap (λ (l : Located). l.number) is)) in
      let at = is ∙ sym (done_by unlocated _ (named_tests s h b) passed) in
      let first_is = ap (λ (l : Located). l.first) at in
      let end_is = ap (λ (l : Located). l.end) at in
      let named = named_good passed in
      record {
        named = named;
        first_is = first_is;
        end_is = end_is;
        size_is = omega (arith, first_is, end_is);
        ends = good_bank_within named.bank (first_is, end_is);
      }

  -- a refusal is that of the tests
  pub not_named : {A : Type 0} (refuse : Reply → A) (done : A) (rest : List Test) (r : Refusal) → located (Err r) ≡ bank_located s h b
      → refuse (reply (refusal_number r) 0) ≡ answer refuse done (named_tests s h b ++ rest)
  unfolding answer
  not_named refuse done rest r e =
      let number : Located → Reply = λ l. reply l.number 0 in
      let is : reply (refusal_number r) 0 ≡ refusal (named_tests s h b) =
      ap number e ∙ answer_maps number unlocated _ (named_tests s h b) in
      refused_by refuse done (named_tests s h b) rest is (refusal_numbered r)
