-- A chain of pages that holds bytes.
use Rattle.std.specs.Prelude.{◌≡◌, ℕ, ◌+◌, ◌-◌, ◌*◌, ◌/◌, ◌<◌, ◌≤◌, List, [], ◌∷◌, ◌++◌, length, take, drop, Option}
use Rattle.std.specs.Option.{ForSome}
use Rattle.uq_page.specs.declared.layout.TheConstants.{VALUE_AT, VALUE_ROOM}
use Rattle.uq_page.specs.ValuePage.{value_page}
use Rattle.uq_chain.specs.FreeList.{IsFreeList, Turned, Turns}
use Rattle.uq_page.specs.Row.{IsRow}

-- the bytes that each page of a chain holds: all that it can while there are so many
abbrev pub pieces : List ℕ → List ℕ → List (List ℕ)
pieces [] bytes = []
pieces (n ∷ row) bytes = take VALUE_ROOM bytes ∷ pieces row (drop VALUE_ROOM bytes)

-- The chain of these pages holds the bytes, and no page of it is without any. No bytes have no page.
pub record IsChain (pages : List (List ℕ)) (first : ℕ) (row bytes : List ℕ) : Type 0 where
  pub linked : IsRow value_page pages first row (pieces row bytes)
  pub enough : length bytes ≤ VALUE_ROOM * length row
  pub full : VALUE_ROOM * length row < length bytes + VALUE_ROOM

-- P of the bytes, where the pages are told and a chain of so many bytes begins there
abbrev pub WhereChain : Option (List (List ℕ)) → ℕ → ℕ → (List (List ℕ) → List ℕ → List ℕ → Type 0) → Type 0
WhereChain told first len P = ForSome told (λ pages. (row bytes : List ℕ) → IsChain pages first row bytes → length bytes ≡ len → P pages row bytes)

-- where the pages are told, the bytes of the chain were appended
abbrev pub ReadsChain : Option (List (List ℕ)) → ℕ → ℕ → List ℕ → List ℕ → Type 0
ReadsChain told first len old new = WhereChain told first len (λ pages row bytes. new ≡ old ++ bytes)

-- where the pages are told and the free list is right, the pages of the chain were given up
abbrev pub FreesChain : Option (List (List ℕ)) → Option (List (List ℕ)) → ℕ → ℕ → ℕ → ℕ → Type 0
FreesChain old new head now first len = WhereChain old first len (λ pages row bytes. Turns old new head now row [])

-- the pages that so many bytes need
abbrev pub pages_for : ℕ → ℕ
pages_for len = (len + (VALUE_ROOM - 1)) / VALUE_ROOM

-- the pages are not told, or no chain of so many bytes begins there
abbrev pub NoChain : Option (List (List ℕ)) → ℕ → ℕ → Type 0
NoChain told first len = WhereChain told first len (λ pages row bytes. ⊥)

-- From one list of pages to the next the bytes were written into a chain of pages that were free or are new.
pub record IsWritten (before after : List (List ℕ)) (head : ℕ) (free : List ℕ) (first : ℕ) (bytes : List ℕ) : Type 0 where
  pub row : List ℕ
  pub chain : IsChain after first row bytes
  pub turned : Turned before after head free [] row

-- the same where the pages are told and the free list is right
abbrev pub Writes : Option (List (List ℕ)) → Option (List (List ℕ)) → ℕ → ℕ → ℕ → List ℕ → Type 0
Writes old new head now first bytes = ForSome old (λ before. (free : List ℕ) → IsFreeList before head free → ForSome new (λ after. IsWritten before after now free first bytes))

-- From one list of pages to the next a chain of these pages was made one with these bytes.
pub record IsAppended (before after : List (List ℕ)) (head : ℕ) (free row : List ℕ) (first : ℕ) (bytes : List ℕ) : Type 0 where
  pub made : List ℕ
  pub chain : IsChain after first made bytes
  pub turned : Turned before after head free row made

-- The last page of a chain, which holds the last bytes.
pub record IsTail (pages : List (List ℕ)) (row bytes : List ℕ) (at held : ℕ) (page : List ℕ) : Type 0 where
  pub passed : List ℕ
  pub split : row ≡ passed ++ at ∷ []
  pub whole : VALUE_ROOM * length passed + held ≡ length bytes
  pub bytes_are : take held (drop VALUE_AT page) ≡ drop (VALUE_ROOM * length passed) bytes

-- the pages are not told, or no chain of so many bytes begins there, or the free list is not right
abbrev pub NoChainOrFreeList : Option (List (List ℕ)) → ℕ → ℕ → ℕ → Type 0
NoChainOrFreeList told first len head = WhereChain told first len (λ pages row bytes. (free : List ℕ) → IsFreeList pages head free → ⊥)

-- the chain of so many bytes was made one with these behind them, where the pages are told and the chain and the free list are right
abbrev pub Appends : Option (List (List ℕ)) → Option (List (List ℕ)) → ℕ → ℕ → ℕ → ℕ → List ℕ → Type 0
Appends old new head now first len bytes = WhereChain old first len (λ before row held. (free : List ℕ) → IsFreeList before head free
    → ForSome new (λ after. IsAppended before after now free row first (held ++ bytes)))

-- where the pages are told, this is the last page of the chain
abbrev pub EndsChain : Option (List (List ℕ)) → ℕ → ℕ → ℕ → ℕ → List ℕ → Type 0
EndsChain told first len at held page = WhereChain told first len (λ pages row bytes. IsTail pages row bytes at held page)
