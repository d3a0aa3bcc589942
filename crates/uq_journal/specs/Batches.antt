-- The batches of originals in a journal. Numbers are of four bytes, the highest first.
use Rattle.std.specs.Prelude.{ℕ, zero, suc, ◌+◌, ◌*◌, ◌==◌, if◌then◌else◌, List, [], ◌∷◌, ◌++◌, length, take, drop, Option, Some, None}
use Rattle.std.specs.Option.{option_map}
use Rattle.std.specs.List.{flat_map}
use Rattle.std.specs.Int.{w32, from_be_bytes, to_be_bytes}
use Rattle.uq_page.specs.declared.layout.TheConstants.{PAGE_SIZE}
use Rattle.uq_journal.specs.declared.format.TheConstants.{OPEN, ORIGINAL_SIZE}

-- a page by its number and its bytes
abbrev pub Original : Type 0
Original = ℕ × List ℕ

-- a batch: the old page count, and the originals
pub record Batch : Type 0 where
  pub old_pages : ℕ
  pub originals : List Original

-- the number in the first four bytes
abbrev pub number : List ℕ → ℕ
number bytes = from_be_bytes w32 (take 4 bytes)

-- the n originals at the front of these bytes
abbrev pub originals_in : ℕ → List ℕ → List Original
originals_in zero bytes = []
originals_in (suc n) bytes = (number bytes, take PAGE_SIZE (drop 4 bytes)) ∷ originals_in n (drop ORIGINAL_SIZE bytes)

-- The batches up to the first closed gate. None where one does not lie whole before its next gate.
-- The number counts the bytes to pass over.
abbrev pub open_batches : ℕ → List ℕ → Option (List Batch)
open_batches skip [] = None
open_batches (suc skip) (byte ∷ bytes) = open_batches skip bytes
open_batches zero (gate ∷ bytes) =
    let n = number (drop 4 bytes) in
    let batch : Batch = record { old_pages = number bytes; originals = originals_in n (drop 8 bytes) } in
    if gate == OPEN then option_map (λ later. batch ∷ later) (open_batches (8 + ORIGINAL_SIZE * n) bytes) else Some []

-- how an original is written
abbrev pub original_bytes : Original → List ℕ
original_bytes original = to_be_bytes w32 original.0 ++ original.1

-- how the body of a batch is written
abbrev pub body : ℕ → List Original → List ℕ
body old_pages originals = to_be_bytes w32 old_pages ++ to_be_bytes w32 (length originals) ++ flat_map original_bytes originals
