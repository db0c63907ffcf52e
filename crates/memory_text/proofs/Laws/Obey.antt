-- What a token does: each of its tests, and what it leaves where they pass. Assumes nothing.
use Prim.Native.Nat.{ℕ, ◌^◌}
use mathlib.Core.Bool.{true, false}
use mathlib.Core.List.{List}
use mathlib.Core.Path.{◌≡◌}
use lib.Dec.{leb}
use lib.ListN.{get_or}
use Rattle.units.specs.Refusals.{reply, answer}
use Rattle.units.specs.declared.shapes.Shape.{Shape}
use Rattle.entry.specs.Fields.{is_wide}
use Rattle.memory_tokens.specs.Words.{Saying}
use Rattle.memory_text.specs.Read.{Reading, is_missing, token_tests, stopped}

module _ (s : Shape) (address : ℕ) (cells : List ℕ) (t : Saying) (formed : t.formed ≡ true) where
  -- what becomes of a text at a token, whatever comes after it
  abbrev pub Becomes : (Reading → Reading) → Type 0
  Becomes f = (done : Reading) → answer stopped done (token_tests s address cells t) ≡ f done

  module _ (is : t.address ≡ true) where
    pub address_past : leb (2 ^ s.k) t.value ≡ true → Becomes (λ _. stopped (reply 9 t.offset))
    unfolding answer
    address_past past done = rw (formed, is, past)

    pub address_passes : leb (2 ^ s.k) t.value ≡ false → Becomes (λ done. done)
    unfolding answer
    address_passes near done = rw (formed, is, near)

  module _ (is : t.address ≡ false) where
    pub value_past : leb (2 ^ s.k) address ≡ true → Becomes (λ _. stopped (reply 9 t.offset))
    unfolding answer
    value_past past done = rw (formed, is, past)

    module _ (near : leb (2 ^ s.k) address ≡ false) where
      pub value_wide : is_wide s t.value ≡ true → Becomes (λ _. stopped (reply 5 t.offset))
      unfolding answer
      value_wide wide done = rw (formed, is, near, wide)

      module _ (narrow : is_wide s t.value ≡ false) where
        pub value_twice : is_missing (get_or cells address 0) ≡ false → Becomes (λ _. stopped (reply 10 t.offset))
        unfolding answer
        value_twice again done = rw (formed, is, near, narrow, again)

        pub value_passes : is_missing (get_or cells address 0) ≡ true → Becomes (λ done. done)
        unfolding answer
        value_passes first done = rw (formed, is, near, narrow, first)
