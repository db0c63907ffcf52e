-- Document 01, "Twelve proved examples", of the definitions: one list under one theorem. Its tables are plain. Assumes nothing.
use Prim.Native.Nat.{ℕ, ◌^◌}
use mathlib.Core.List.{List, [], ◌∷◌, map}
use mathlib.Core.Path.{◌≡◌, refl}
use lib.IntN.{pos, negsuc}
use Rattle.units.specs.Refusals.{reply, answer, outside, refusal}
use Rattle.units.specs.Shapes.{shape}
use Rattle.units.specs.declared.kinds.Kind.TheVariants.{Plain}
use Rattle.units.specs.declared.shapes.Shape.{Shape}
use Rattle.entry.specs.Errors.{unit, i_of, j_of, low, high, worst, side}
use Rattle.entry.specs.Fields.{fields_end, is_wide, cap}
use Rattle.entry.specs.Least.{least, least_of, least_worst}
use Rattle.entry.specs.Rule.{nearest, rule, rule_value, rule_field}
use Rattle.table.specs.Banks.{bank_size, view_tests, shown}
use Rattle.table.specs.Build.{rows}
use Rattle.table.specs.Lookup.{looked_up, refused, lookup_report}
use Rattle.table.specs.Shift.{least_from, shift_of}
use Rattle.table.specs.First.{any_of, first_of}
use Rattle.survey.specs.Finding.{finding_over}
use Rattle.survey.specs.Survey.{surveyed, survey_report}
use Rattle.verdict.specs.Check.{passed, not_best, first_failing, check_report}

abbrev pub plain : ℕ → ℕ → Shape
plain k m = shape k m Plain

-- the fields that a build writes, and the values they stand for
abbrev pub fields : Shape → List ℕ
fields s = rows (rule_field s) 0 (2 ^ s.k)

abbrev pub values : Shape → List ℕ
values s = map (j_of s) (fields s)

-- cells that hold their own n
abbrev pub numbered : ℕ → List ℕ
numbered count = rows (λ (n : ℕ). n) 0 count

pub record TwelveExamples : Type 0 where
  -- 1. (1,2): values 6, 5
  pub first : values (plain 1 2) ≡ 6 ∷ 5 ∷ []
  -- 2. (1,2) with fields 2, 0 passes the check: at n = 1, values 5 and 4 both have worst 4
  pub second : (check_report (plain 1 2) (2 ∷ 0 ∷ []) ≡ passed) × (worst (unit (plain 1 2)) (i_of (plain 1 2) 1) 5 ≡ 4) × (worst (unit (plain 1 2)) (i_of (plain 1 2) 1) 4 ≡ 4)
  -- 3. (1,2) with fields 3, 1 fails at n = 0, worst 5, least 4
  pub third : check_report (plain 1 2) (3 ∷ 1 ∷ []) ≡ not_best 0 5 4
  -- 4. (1,4), n = 0: 26 and 25 both have worst 14; the builder takes 26
  pub fourth : (worst (unit (plain 1 4)) (i_of (plain 1 4) 0) 26 ≡ 14) × (worst (unit (plain 1 4)) (i_of (plain 1 4) 0) 25 ≡ 14) × (least_worst (plain 1 4) 0 ≡ 14) × (rule_value (plain 1 4) 0 ≡ 26)
  -- 5. (2,2): values 7, 6, 5, 4; worst 4 of 32, n = 0, left
  pub fifth : (values (plain 2 2) ≡ 7 ∷ 6 ∷ 5 ∷ 4 ∷ []) × (unit (plain 2 2) ≡ 32) × (survey_report (plain 2 2) (fields (plain 2 2)) ≡ surveyed (record { worst = 4; n = 0; side = 0 }))
  -- 6. (3,3): values 15, 13, 12, 11, 10, 9, 9, 8; worst 11 of 128, n = 1, left
  pub sixth : (values (plain 3 3) ≡ 15 ∷ 13 ∷ 12 ∷ 11 ∷ 10 ∷ 9 ∷ 9 ∷ 8 ∷ [])
      × (unit (plain 3 3) ≡ 128)
      × (survey_report (plain 3 3) (fields (plain 3 3)) ≡ surveyed (record { worst = 11; n = 1; side = 0 }))
  -- 7. (5,5), n = 8: value 51, low -43, high 8, right. The survey gives 43, n = 8; n = 18 (value 41) has 43 too
  pub seventh : (rule_value (plain 5 5) 8 ≡ 51)
      × (low (unit (plain 5 5)) (i_of (plain 5 5) 8) 51 ≡ negsuc 42)
      × (high (unit (plain 5 5)) (i_of (plain 5 5) 8) 51 ≡ pos 8)
      × (side (unit (plain 5 5)) (i_of (plain 5 5) 8) 51 ≡ 1)
      × (survey_report (plain 5 5) (fields (plain 5 5)) ≡ surveyed (record { worst = 43; n = 8; side = 1 }))
      × (rule_value (plain 5 5) 18 ≡ 41)
      × (worst (unit (plain 5 5)) (i_of (plain 5 5) 18) 41 ≡ 43)
  -- 8. (5,6), n = 3: value 115, low -44, high 71, left
  pub eighth : (rule_value (plain 5 6) 3 ≡ 115)
      × (low (unit (plain 5 6)) (i_of (plain 5 6) 3) 115 ≡ negsuc 43)
      × (high (unit (plain 5 6)) (i_of (plain 5 6) 3) 115 ≡ pos 71)
      × (side (unit (plain 5 6)) (i_of (plain 5 6) 3) 115 ≡ 0)
  -- 9. (4,3), n = 0: the cap gives 15, low 1, high 16, left
  pub ninth : (rule_value (plain 4 3) 0 ≡ 15)
      × (low (unit (plain 4 3)) (i_of (plain 4 3) 0) 15 ≡ pos 1)
      × (high (unit (plain 4 3)) (i_of (plain 4 3) 0) 15 ≡ pos 16)
      × (side (unit (plain 4 3)) (i_of (plain 4 3) 0) 15 ≡ 0)
  -- 10. (10,10), n = 36: value 1978, low -1506, high 472
  pub tenth : (rule_value (plain 10 10) 36 ≡ 1978)
      × (low (unit (plain 10 10)) (i_of (plain 10 10) 36) 1978 ≡ negsuc 1505)
      × (high (unit (plain 10 10)) (i_of (plain 10 10) 36) 1978 ≡ pos 472)
  -- 11, as document 02 has it. (5,5), X = 40960 gives s = 0, n = 8, j = 51; 65535 gives s = 0, n = 31, j = 32; 32767 gives s = 1, n = 31,
  -- j = 32; 65536 and 0 are refused with 6
  pub eleventh : (lookup_report (plain 5 5) 40960 (fields (plain 5 5)) ≡ looked_up 0 8 51)
      × (lookup_report (plain 5 5) 65535 (fields (plain 5 5)) ≡ looked_up 0 31 32)
      × (lookup_report (plain 5 5) 32767 (fields (plain 5 5)) ≡ looked_up 1 31 32)
      × (lookup_report (plain 5 5) 65536 (fields (plain 5 5)) ≡ refused (reply 6 0))
      × (lookup_report (plain 5 5) 0 (fields (plain 5 5)) ≡ refused (reply 6 0))
  -- 12. k = 5, h = 2, b = 3: entries 24 to 31. b = 4 and h = 6 are refused with 4; h = 5, b = 31 is one entry
  pub twelfth : (shown 5 2 3 (numbered 32) ≡ 24 ∷ 25 ∷ 26 ∷ 27 ∷ 28 ∷ 29 ∷ 30 ∷ 31 ∷ [])
      × (refusal (view_tests 5 2 4 32) ≡ reply 4 0)
      × (refusal (view_tests 5 6 0 32) ≡ reply 4 0)
      × (shown 5 5 31 (numbered 32) ≡ 31 ∷ [])
      × (bank_size 5 5 ≡ 1)

pub twelve_examples : TwelveExamples
unfolding rows rule nearest fields_end is_wide cap low high worst side least least_of answer outside least_from shift_of any_of first_of finding_over first_failing
twelve_examples =
    record {
      first = refl;
      second = (refl, refl, refl);
      third = refl;
      fourth = (refl, refl, refl, refl);
      fifth = (refl, refl, refl);
      sixth = (refl, refl, refl);
      seventh = (refl, refl, refl, refl, refl, refl, refl);
      eighth = (refl, refl, refl, refl);
      ninth = (refl, refl, refl, refl);
      tenth = (refl, refl, refl);
      eleventh = (refl, refl, refl, refl, refl);
      twelfth = (refl, refl, refl, refl, refl);
    }
