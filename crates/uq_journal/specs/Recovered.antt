-- What two files recover to.
use Rattle.std.specs.Prelude.{ℕ, ◌+◌, ◌*◌, ◌≤◌, max, ◌==◌, nat_le, nat_lt, ◌&&◌, if◌then◌else◌, Bool, List, [], ◌∷◌, length, take, map, Option, Some, None}
use Rattle.std.specs.Option.{option_and_then}
use Rattle.std.specs.List.{flat_map, list_all}
use Rattle.uq_outside.specs.Files.{Files}
use Rattle.uq_facts.specs.Written.{written}
use Rattle.uq_page.specs.declared.layout.TheConstants.{PAGE_SIZE}
use Rattle.uq_page.specs.Page.{bytes_of}
use Rattle.uq_journal.specs.Batches.{Original, Batch, open_batches}
use Rattle.uq_journal.specs.declared.dirty.Dirty.{Dirty}

-- these pages in their places, one after the other
abbrev pub with_pages : List Original → List ℕ → List ℕ
with_pages [] main = main
with_pages (page ∷ pages) main = with_pages pages (written (PAGE_SIZE * page.0) page.1 main)

-- each batch has this old page count, and page numbers below it
abbrev pub are_right : ℕ → List Batch → Bool
are_right old_pages batches =
    list_all (λ batch. (batch.old_pages == old_pages) && list_all (λ page. nat_lt page.0 old_pages) batch.originals) batches

-- the main file with the originals of the batches
abbrev pub restored : List ℕ → List Batch → Option (List ℕ)
restored main [] = Some main
restored main (batch ∷ later) =
    let old_pages = batch.old_pages in
    let originals = flat_map (λ it. it.originals) (batch ∷ later) in
    if are_right old_pages (batch ∷ later) && nat_le (PAGE_SIZE * old_pages) (length main)
    then Some (take (PAGE_SIZE * old_pages) (with_pages originals main)) else None

-- the main file, or nothing
abbrev pub recovered : Files → Option (List ℕ)
recovered files = if nat_le (length files.journal) 1 then Some files.main else option_and_then (restored files.main) (open_batches 0 files.journal)

-- the pages of a batch, by number and bytes
abbrev pub changes : List Dirty → List Original
changes dirty = map (λ it. (it.no, bytes_of it.page)) dirty

-- the numbers ascend, and none is above the number of pages by then
abbrev pub Ascends : ℕ → ℕ → List ℕ → Type 0
Ascends least pages [] = Unit {0}
Ascends least pages (k ∷ later) = (least ≤ k) × (k ≤ pages) × Ascends (k + 1) (max pages (k + 1)) later

-- their numbers
abbrev pub numbers : List Dirty → List ℕ
numbers dirty = map (λ it. it.no) dirty
