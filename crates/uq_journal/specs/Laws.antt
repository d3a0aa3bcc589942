-- What follows from the definitions alone.
use Rattle.std.specs.Prelude.{◌≡◌, ℕ, ◌*◌, List, [], ◌∷◌, ◌++◌, length, replicate, Option, Some, None}
use Rattle.std.specs.List.{All}
use Rattle.uq_page.specs.declared.layout.TheConstants.{PAGE_SIZE}
use Rattle.uq_journal.specs.declared.format.TheConstants.{OPEN}
use Rattle.uq_outside.specs.Files.{Files}
use Rattle.uq_journal.specs.Calls.{HasPages}
use Rattle.uq_journal.specs.Pages.{IsWhole, joined, pages_of}
use Rattle.uq_journal.specs.Recovered.{recovered}

-- a main file is the bytes of its pages
abbrev pub PagesAreBytes : Type 0
PagesAreBytes = (main : List ℕ) (pages : List (List ℕ)) → pages_of main ≡ Some pages → (main ≡ joined pages) × (length main ≡ PAGE_SIZE * length pages)

-- bytes of whole pages have these pages
abbrev pub BytesArePages : Type 0
BytesArePages = (pages : List (List ℕ)) → All IsWhole pages → pages_of (joined pages) ≡ Some pages

-- a main file of so many pages has their number
abbrev pub LengthsArePages : Type 0
LengthsArePages = (count : ℕ) (files : Files) → length files.main ≡ PAGE_SIZE * count → HasPages count files

-- each page is whole
abbrev pub PagesAreWhole : Type 0
PagesAreWhole = (main : List ℕ) (pages : List (List ℕ)) → pages_of main ≡ Some pages → All IsWhole pages

-- a gate, an old page count and a number of originals below 256, and what stands behind them
abbrev pub head : ℕ → ℕ → ℕ → List ℕ → List ℕ
head gate old_pages count behind = gate ∷ 0 ∷ 0 ∷ 0 ∷ old_pages ∷ 0 ∷ 0 ∷ 0 ∷ count ∷ behind

-- a page of this byte
abbrev pub filled : ℕ → List ℕ
filled byte = replicate PAGE_SIZE byte

-- an original of this page, filled with this byte, and what stands behind it
abbrev pub original : ℕ → ℕ → List ℕ → List ℕ
original k byte behind = 0 ∷ 0 ∷ 0 ∷ k ∷ (filled byte ++ behind)

-- what a main file and a journal recover to
abbrev pub of : List ℕ → List ℕ → Option (List ℕ)
of main journal = recovered (record { main = main; journal = journal })

-- a row for each rule of recovery
pub record Rows : Type 0 where
  -- no journal, and a gate alone
  pub empty : of (1 ∷ []) [] ≡ Some (1 ∷ [])
  pub one_byte : of (1 ∷ []) (OPEN ∷ []) ≡ Some (1 ∷ [])
  -- A whole batch behind a closed gate does not count, whatever byte closes it. With its gate read as open it would: so
  -- a gate is never written over an old batch.
  pub closed : of (1 ∷ 2 ∷ []) (head 0 0 0 (0 ∷ [])) ≡ Some (1 ∷ 2 ∷ [])
  pub other_byte : of (1 ∷ 2 ∷ []) (head 7 0 0 (0 ∷ [])) ≡ Some (1 ∷ 2 ∷ [])
  pub reopened : of (1 ∷ 2 ∷ []) (head OPEN 0 0 (0 ∷ [])) ≡ Some []
  -- one open batch: its page comes back, and the main file has its old length; what stands behind the next gate is nothing
  pub one : of (filled 9 ++ filled 8) (head OPEN 1 1 (original 0 3 (7 ∷ OPEN ∷ []))) ≡ Some (filled 3)
  -- two open batches, the same page in both
  pub two : of (1 ∷ 2 ∷ []) (head OPEN 0 0 (head OPEN 0 0 (7 ∷ []))) ≡ Some []
  pub twice : of (filled 9) (head OPEN 1 1 (original 0 1 (head OPEN 1 1 (original 0 2 (0 ∷ []))))) ≡ Some (filled 2)
  -- a batch without a gate behind it, and one that is cut off before the second of its pages
  pub torn : of [] (head OPEN 0 0 []) ≡ None
  pub torn_second : of (filled 9) (head OPEN 1 1 (original 0 1 (head OPEN 1 2 (original 0 2 (0 ∷ []))))) ≡ None
  -- a whole batch, and behind it an open gate and nothing further
  pub open_behind : of [] (head OPEN 0 0 (OPEN ∷ [])) ≡ None
  -- a page number that is not below the old page count
  pub past : of (filled 9) (head OPEN 1 1 (original 1 1 (0 ∷ []))) ≡ None
  -- two old page counts
  pub counts : of (filled 9) (head OPEN 1 0 (head OPEN 0 0 (0 ∷ []))) ≡ None
  -- a main file that is shorter than the old page count
  pub short : of [] (head OPEN 1 0 (0 ∷ [])) ≡ None
