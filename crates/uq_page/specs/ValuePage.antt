-- A page of a value's chain.
use Rattle.std.specs.Prelude.{◌≡◌, ℕ, ◌-◌, ◌<◌, ◌≤◌, ◌^◌, List, [], ◌∷◌, ◌++◌, length, take}
use Rattle.std.specs.Int.{w16, w32, to_be_bytes}
use Rattle.uq_page.specs.declared.layout.TheConstants.{VALUE_AT, VALUE_ROOM}
use Rattle.uq_page.specs.declared.value_page.ValueHead.{ValueHead}
use Rattle.uq_page.specs.Page.{zeros}

-- bytes 0 to 15: the mark, how many bytes are held, the next page
abbrev pub value_fields : ValueHead → List ℕ
value_fields head = 0x56 ∷ 0 ∷ [] ++ to_be_bytes w16 head.held ++ to_be_bytes w32 head.next ++ 0 ∷ 0 ∷ 0 ∷ 0 ∷ 0 ∷ 0 ∷ 0 ∷ 0 ∷ []

-- the page begins as one of a value's chain, with this head
pub record IsValueHead (page : List ℕ) (head : ValueHead) : Type 0 where
  pub next : head.next < 2 ^ 32
  pub low : 1 ≤ head.held
  pub high : head.held ≤ VALUE_ROOM
  pub bytes : take VALUE_AT page ≡ value_fields head

-- the whole page with these bytes of a value
unfoldable pub value_page : List ℕ → ℕ → List ℕ
value_page bytes next = value_fields (record { held = length bytes; next = next }) ++ (bytes ++ zeros (VALUE_ROOM - length bytes))
