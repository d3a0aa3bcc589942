-- How opening reads the batches of a journal.
use Rattle.std.specs.Prelude.{◌≡◌, ℕ, ◌+◌, ◌*◌, ◌<◌, nat_lt, Bool, false, List, [], ◌∷◌, take, drop, Option, Some, None, Result, IfOk}
use Rattle.std.specs.Option.{ForSome, option_map}
use Rattle.std.specs.List.{flat_map, list_all}
use Rattle.uq_outside.specs.Files.{Files}
use Rattle.uq_outside.specs.declared.disk.Disk.{Ghosts}
use Rattle.uq_journal.specs.declared.format.TheConstants.{HEAD_SIZE, OPEN, ORIGINAL_SIZE}
use Rattle.uq_journal.specs.Batches.{Original, Batch, originals_in, open_batches}
use Rattle.uq_journal.specs.Recovered.{are_right}
use Rattle.uq_journal.specs.declared.reading.Found.{Found}
use Rattle.uq_journal.specs.declared.reading.Found.TheVariants.{Closed, Broken, Open}

-- at Ok the answer is this of what is told
abbrev pub Reads : {D T E : Type 0} → Ghosts D → (Files → T) → D → Result T E → Type 0
Reads g told disk result = IfOk result (λ it. ForSome (g.content disk) (λ files. it ≡ told files))

-- the batches from this place on
abbrev pub batches_at : ℕ → List ℕ → Option (List Batch)
batches_at at journal = open_batches 0 (drop at journal)

-- the page numbers are below this count
abbrev pub are_below : ℕ → List Original → Bool
are_below old_pages originals = list_all (λ page. nat_lt page.0 old_pages) originals

-- so are those of the originals from this place on
abbrev pub are_below_at : ℕ → ℕ → ℕ → Files → Bool
are_below_at old_pages count from files = are_below old_pages (originals_in count (drop from files.journal))

-- the batches lie whole, each with this old page count and page numbers below it
abbrev pub is_whole : ℕ → Option (List Batch) → Bool
is_whole old_pages None = false
is_whole old_pages (Some batches) = are_right old_pages batches

-- their originals, none where a batch is not whole
abbrev pub originals_all : Option (List Batch) → List Original
originals_all None = []
originals_all (Some batches) = flat_map (λ it. it.originals) batches

-- the place of the next gate
abbrev pub Leads : ℕ → ℕ → Found → Type 0
Leads at len Closed = Unit {0}
Leads at len Broken = Unit {0}
Leads at len (Open head) = (head.next ≡ at + HEAD_SIZE + ORIGINAL_SIZE * head.count) × (head.next < len)

-- what stands at a gate, as the rules of recovery read it
abbrev pub Tells : ℕ → List ℕ → Found → Type 0
Tells at journal Closed = (gate : ℕ) × (rest : List ℕ) × (drop at journal ≡ gate ∷ rest) × (gate ≡ OPEN → ⊥)
Tells at journal Broken = batches_at at journal ≡ None
Tells at journal (Open head) =
    let batch : Batch = record { old_pages = head.old_pages; originals = originals_in head.count (drop (at + HEAD_SIZE) journal) } in
    (take 1 (drop at journal) ≡ OPEN ∷ []) × (batches_at at journal ≡ option_map (λ later. batch ∷ later) (batches_at head.next journal))
