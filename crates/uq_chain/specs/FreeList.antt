-- The free list, and what a call takes from it and gives to it.
use Rattle.std.specs.Prelude.{◌≡◌, ◌⊎◌, ℕ, ◌+◌, ◌<◌, ◌≤◌, List, ◌++◌, length, Option, Some, slice_get}
use Rattle.std.specs.Option.{ForSome}
use Rattle.uq_page.specs.declared.header.Header.{Header}
use Rattle.uq_page.specs.FreePage.{free_page}
use Rattle.uq_page.specs.Numbers.{times, SameNumbers}
use Rattle.uq_chain.specs.Grown.{grown}
use Rattle.uq_page.specs.Row.{IsRow}

-- a page of the free list, which holds nothing but the next number
abbrev pub free_at : ℕ → ℕ → List ℕ
free_at n next = free_page next

-- these pages are free, and no others
abbrev pub IsFreeList : List (List ℕ) → ℕ → List ℕ → Type 0
IsFreeList pages head row = IsRow free_at pages head row row

-- where the pages are told, this one is not in the free list
abbrev pub IsUnlisted : Option (List (List ℕ)) → ℕ → ℕ → Type 0
IsUnlisted told head n = ForSome told (λ pages. (row : List ℕ) → IsFreeList pages head row → times n row ≡ 0)

-- From one list of pages to the next the free list was this row and is another one. The pages `gone` were given up and those `made`
-- taken into use. No page is lost, and each stands once where it did: in the list or in use now are those that were, and those by which
-- the pages have grown. Other pages stay.
pub record Turned (before after : List (List ℕ)) (head : ℕ) (row gone made : List ℕ) : Type 0 where
  pub left : List ℕ
  pub free : IsFreeList after head left
  pub once : SameNumbers (left ++ made) (row ++ gone ++ grown (length before) (length after))
  pub count : length left + length made + length before ≡ length row + length gone + length after
  pub longer : length before ≤ length after
  pub others : (n : ℕ) → n < length before → times n (row ++ gone) ≡ 0 → slice_get after n ≡ slice_get before n

-- the same where the pages are told and the free list is right
abbrev pub Turns : Option (List (List ℕ)) → Option (List (List ℕ)) → ℕ → ℕ → List ℕ → List ℕ → Type 0
Turns old new head now gone made = ForSome old (λ before. (row : List ℕ) → IsFreeList before head row → ForSome new (λ after. Turned before after now row gone made))

-- the free list is right only where it was right
abbrev pub WasRight : Option (List (List ℕ)) → Option (List (List ℕ)) → ℕ → ℕ → Type 0
WasRight old new head now = ForSome new (λ after. (left : List ℕ) → IsFreeList after now left → ForSome old (λ before. (row : List ℕ) × IsFreeList before head row))

-- of the header at most the free list and the number of pages are others
pub record KeepsHeader (old new : Header) : Type 0 where
  pub version : new.version ≡ old.version
  pub buckets : new.buckets ≡ old.buckets
  pub root : new.root ≡ old.root
  pub entries : new.entries ≡ old.entries
  pub bytes : new.bytes ≡ old.bytes

-- the header counts the pages after, where it did so before
abbrev pub KeepsCount : Header → Header → ℕ → ℕ → Type 0
KeepsCount old new before now = old.pages ≡ before → new.pages ≡ now

-- where the pages are told and the free list is right, this page is told at its number after
abbrev pub Places : Option (List (List ℕ)) → Option (List (List ℕ)) → ℕ → ℕ → List ℕ → Type 0
Places old new head n page = ForSome old (λ before. (row : List ℕ) → IsFreeList before head row → ForSome new (λ after. slice_get after n ≡ Some page))

-- The page is the first of the free list where it has one, and else a new one: the free list begins at `head` and then at `last`.
pub record IsTaken (head last before now n : ℕ) : Type 0 where
  pub listed : (head ≡ 0 → ⊥) → (n ≡ head) × (now ≡ before)
  pub grown : head ≡ 0 → (n ≡ before) × (now ≡ before + 1) × (last ≡ 0)

-- there are more pages only where the free list was used up
abbrev pub GrowsLast : ℕ → ℕ → ℕ → Type 0
GrowsLast last before now = (now ≡ before) ⊎ (last ≡ 0)
