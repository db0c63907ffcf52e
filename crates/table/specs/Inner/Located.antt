-- Where a bank lies, as `named_bank` answers it. Assumes nothing.
use Rattle.std.specs.Prelude.{ℕ, ◌+◌, Result, Ok, Err}
use Rattle.units.specs.Refusals.{Reply, reply, answer, refusal_number}
use Rattle.units.specs.declared.shapes.Shape.{Shape}
use Rattle.table.specs.Banks.{bank_size, bank_start, named_tests}
use Rattle.units.specs.declared.refusals.Refusal.{Refusal}
use Rattle.table.specs.declared.banks.Stretch.{Stretch}

-- its first cell and the one after its last
pub record Located : Type 0 where
  pub number : ℕ
  pub first : ℕ
  pub end : ℕ

abbrev pub unlocated : Reply → Located
unlocated b = record { number = b.number; first = 0; end = 0 }

abbrev pub located : Result Stretch Refusal → Located
located (Ok place) = record { number = 0; first = place.first; end = place.end }
located (Err r) = unlocated (reply (refusal_number r) 0)

abbrev pub bank_located : Shape → ℕ → ℕ → Located
bank_located s h b =
    answer unlocated (record { number = 0; first = bank_start s.k h b; end = bank_start s.k h b + bank_size s.k h }) (named_tests s h b)
