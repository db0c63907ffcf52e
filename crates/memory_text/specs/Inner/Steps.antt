-- What the functions that obey tokens hand to each other. Assumes nothing.
use Rattle.std.specs.Prelude.{ℕ, ◌+◌, ◌^◌, ◌≤◌, ◌<◌, cond, List, [], ◌∷◌, ◌≡◌, Result, Ok, Err, OnOk}
use Rattle.units.specs.Refusals.{answer}
use Rattle.units.specs.declared.shapes.Shape.{Shape}
use Rattle.memory_tokens.specs.Words.{Saying}
use Rattle.memory_text.specs.Read.{Reading, error_report, reported, is_missing, token_tests, next_address, next_cells, stopped}
use Rattle.memory_text.specs.declared.errors.ReadError.{ReadError}
use Rattle.memory_text.specs.declared.storing.Progress.{Progress}

-- how many cells were given
unfoldable pub count_given : List ℕ → ℕ
count_given [] = 0
count_given (c ∷ cs) = cond (is_missing c) 0 1 + count_given cs

-- an answer, with the cells that were filled, is what a text comes to
abbrev pub Came : {A : Type 0} → Reading → Result A ReadError → List ℕ → Type 0
Came r a cells = (reported a ≡ r.report) × OnOk a (cells ≡ r.fields)

-- a token that finds an address and cells: it is obeyed, or the reading stops at it
pub record GoesOn (s : Shape) (before : Progress) (t : Saying) (cells after : List ℕ) (next : Progress) : Type 0 where
  pub passed : (done : Reading) → answer stopped done (token_tests s before.address cells t) ≡ done
  pub address_is : next.address ≡ next_address before.address t
  pub cells_are : after ≡ next_cells before.address cells t
  pub near : next.address ≤ 2 ^ s.k
  pub small : t.value < 65536
  pub counted : before.given ≡ count_given cells → next.given ≡ count_given after

abbrev pub Stops : Shape → Progress → Saying → List ℕ → ReadError → Type 0
Stops s before t cells e =
    (done : Reading) → answer stopped done (token_tests s before.address cells t) ≡ record { report = error_report e; fields = [] }

abbrev pub Obeyed : Shape → Progress → Saying → List ℕ → List ℕ → Result Progress ReadError → Type 0
Obeyed s before t cells after (Ok next) = GoesOn s before t cells after next
Obeyed s before t cells after (Err e) = Stops s before t cells e
