-- When pages are a database of what is stored.
use Rattle.std.specs.Prelude.{◌≡◌, ◌⊎◌, ℕ, ◌≤◌, List, [], Option, Some, length, slice_get}
use Rattle.std.specs.Option.{ForSome}
use Rattle.std.specs.FinMap.{empty}
use Rattle.uq_page.specs.Header.{IsHeader}
use Rattle.uq_page.specs.declared.header.Header.{Header}
use Rattle.uq_hash.specs.Map.{HoldsMap}
use Rattle.uq_kv.specs.Stored.{IsWithinLimits, Stored}

-- page 0 is that of this header
pub record HasHeader (header : Header) (pages : List (List ℕ)) : Type 0 where
  pub page : List ℕ
  pub first : slice_get pages 0 ≡ Some page
  pub fields : IsHeader page header

-- the pages behind this header hold the entries
pub record HoldEntries (header : Header) (stored : Stored) (pages : List (List ℕ)) : Type 0 where
  pub head : HasHeader header pages
  pub map : HoldsMap pages header stored
  pub limits : IsWithinLimits stored

-- there is no page, and nothing is stored
pub record IsEmpty (stored : Stored) (pages : List (List ℕ)) : Type 0 where
  pub no_pages : pages ≡ []
  pub no_keys : stored ≡ empty

-- The pages are a database of what is stored, with this header where there is a page.
abbrev pub IsDatabase : Header → Stored → List (List ℕ) → Type 0
IsDatabase header stored pages = IsEmpty stored pages ⊎ HoldEntries header stored pages

-- there are pages, which hold a map, whatever page 0 is
pub record HoldAll (header : Header) (stored : Stored) (pages : List (List ℕ)) : Type 0 where
  pub some : 1 ≤ length pages
  pub map : HoldsMap pages header stored

-- the pages keep what is stored, with this header where there is a page
abbrev pub IsKept : Header → Stored → List (List ℕ) → Type 0
IsKept header stored pages = IsEmpty stored pages ⊎ HoldAll header stored pages

-- P of what the pages keep, where they are told
abbrev pub WhereKept : Option (List (List ℕ)) → Header → (Stored → Type 0) → Type 0
WhereKept told header P = ForSome told (λ pages. (stored : Stored) → IsKept header stored pages → P stored)

-- P of what is stored, where the pages are told and a database with this header
abbrev pub WhereStored : Option (List (List ℕ)) → Header → (Stored → Type 0) → Type 0
WhereStored told header P = ForSome told (λ pages. (stored : Stored) → IsDatabase header stored pages → P stored)

-- page 0 is a header that names the number of the pages
pub record NamesItsPages (pages : List (List ℕ)) : Type 0 where
  pub header : Header
  pub head : HasHeader header pages
  pub names : header.pages ≡ length pages

-- no page, or the first is a header that names their number
abbrev pub HaveShape : List (List ℕ) → Type 0
HaveShape pages = (pages ≡ []) ⊎ NamesItsPages pages
