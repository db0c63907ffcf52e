-- A call that looks for 5 last. Assumes nothing.
use Prim.Native.Nat.{ℕ, ◌<◌}
use mathlib.Core.Bool.{Bool, true, false, cond}
use mathlib.Core.List.{List, [], ◌∷◌, ◌++◌}
use mathlib.Core.Path.{◌≡◌, refl, sym, subst}
use native.Mathlib.Omega.{arith}
use Rattle.units.specs.Refusals.{Reply, reply, Test, answer}
use Rattle.units.specs.declared.shapes.Shape.{Shape}
use Rattle.units.proofs.Laws.Tests.{Each}
use Rattle.entry.specs.Fields.{is_wide}
use Rattle.table.specs.Wide.{any_wide, first_wide, wide_among}
use Rattle.table.proofs.Laws.First.{Smallest, first_is_smallest}

-- 5: "number and the smallest such n": where it answers 5, it names the smallest n
pub five_names_smallest : {A : Type 0} (number named : A → ℕ) (refuse : Reply → A) (done : A)
    → ((b : Reply) → (number (refuse b) ≡ b.number) × (named (refuse b) ≡ b.n))
    → number done ≡ 0
    → (tests : List Test)
    → Each (λ (t : Test). t.gives.number < 5) tests
    → (s : Shape) (n : ℕ) (fs : List ℕ)
    → number (answer refuse done (tests ++ (wide_among s n fs ∷ []))) ≡ 5
    → Smallest (is_wide s) n fs (named (answer refuse done (tests ++ (wide_among s n fs ∷ []))))
unfolding answer
five_names_smallest {A} number named refuse done given done_is_0 [] below s n fs = by_wide (any_wide s fs) refl
  where
    by_wide : (wide : Bool) → any_wide s fs ≡ wide → number (cond wide (refuse (reply 5 (first_wide s n fs))) done) ≡ 5
        → Smallest (is_wide s) n fs (named (cond wide (refuse (reply 5 (first_wide s n fs))) done))
    by_wide true w five = subst (Smallest (is_wide s) n fs) (sym (given (reply 5 (first_wide s n fs))).1) (first_is_smallest (is_wide s) n fs w)
    by_wide false w five = absurd (omega (arith, done_is_0, five))
five_names_smallest {A} number named refuse done given done_is_0 (t ∷ ts) below s n fs =
    by_test t.holds (answer refuse done (ts ++ (wide_among s n fs ∷ []))) (five_names_smallest number named refuse done given done_is_0 ts below.1 s n fs)
  where
    by_test : (holds : Bool) (rest : A) → (number rest ≡ 5 → Smallest (is_wide s) n fs (named rest))
        → number (cond holds (refuse t.gives) rest) ≡ 5
        → Smallest (is_wide s) n fs (named (cond holds (refuse t.gives) rest))
    by_test true rest later five = absurd (omega (arith, (given t.gives).0, five, below.0))
    by_test false rest later five = later five
