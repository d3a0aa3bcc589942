-- The values and the cells of a bucket that changes.
use Rattle.std.specs.Prelude.{◌≡◌, ℕ, List, [], ◌∷◌, Option}
use Rattle.std.specs.Option.{ForSome}
use Rattle.uq_page.specs.Cell.{kept_bytes}
use Rattle.uq_chain.specs.FreeList.{IsFreeList, Turned}
use Rattle.uq_hash.specs.Looked.{IsEntry}
use Rattle.uq_hash.specs.Map.{HasValue, Stored, first_of, value_pages}
use Rattle.uq_hash.specs.declared.searching.Standing.{Standing}
use Rattle.uq_hash.specs.declared.searching.Standing.TheVariants.{Cell as AtCell, Nothing}

-- From one list of pages to the next a value was put where it should stand: into a chain of pages that were free or are new, or nowhere.
pub record StoresValue (before after : List (List ℕ)) (head : ℕ) (free : List ℕ) (first : ℕ) (key value : List ℕ) : Type 0 where
  pub row : List ℕ
  pub first_is : first ≡ first_of row
  pub has : HasValue after (record { key = key; value = value; row = row })
  pub turned : Turned before after head free [] row

-- the same where the pages are told and the free list is right
abbrev pub Stores : Option (List (List ℕ)) → Option (List (List ℕ)) → ℕ → ℕ → ℕ → List ℕ → Type 0
Stores old new head now first value = ForSome old (λ before. (free : List ℕ) → IsFreeList before head free → ForSome new (λ after. (key : List ℕ) → StoresValue before after now free first key value))

-- where the pages are told and the free list is right, the pages of the value were given up
abbrev pub Drops : Option (List (List ℕ)) → Option (List (List ℕ)) → ℕ → ℕ → ℕ → List ℕ → Type 0
Drops old new head now len bytes = ForSome old (λ before. (it : Stored) → IsEntry before it len bytes → (free : List ℕ) → IsFreeList before head free → ForSome new (λ after. Turned before after now free it.row []))

-- the pages are not told, or no value of this length stands where a cell says, or the free list is not right
abbrev pub NoValueOrFreeList : Option (List (List ℕ)) → ℕ → List ℕ → ℕ → Type 0
NoValueOrFreeList told len bytes head = ForSome told (λ pages. (it : Stored) → IsEntry pages it len bytes → (free : List ℕ) → IsFreeList pages head free → ⊥)

-- what stood behind a place is the cell of the one entry, or nothing where there is none
abbrev pub AreOld : List (List ℕ) → List Stored → Standing → Type 0
AreOld pages [] (AtCell cell) = ⊥
AreOld pages [] Nothing = Unit {0}
AreOld pages (it ∷ []) (AtCell cell) = IsEntry pages it cell.len (kept_bytes cell.value)
AreOld pages (it ∷ []) Nothing = ⊥
AreOld pages (it ∷ next ∷ more) standing = ⊥

-- where the pages are told and the free list is right, the pages of the values that stood there were given up
abbrev pub DropsOld : Option (List (List ℕ)) → Option (List (List ℕ)) → ℕ → ℕ → Standing → Type 0
DropsOld old new head now standing = ForSome old (λ before. (olds : List Stored) → AreOld before olds standing → (free : List ℕ) → IsFreeList before head free → ForSome new (λ after. Turned before after now free (value_pages olds) []))

abbrev pub NoOldOrFreeList : Option (List (List ℕ)) → Standing → ℕ → Type 0
NoOldOrFreeList told standing head = ForSome told (λ pages. (olds : List Stored) → AreOld pages olds standing → (free : List ℕ) → IsFreeList pages head free → ⊥)
