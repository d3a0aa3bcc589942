-- How the batches are read from a place on.
use Rattle.std.proofs.Common.{◌≡◌, ◌≢◌, ℕ, zero, suc, ◌+◌, ◌*◌, ◌<◌, ◌≤◌, Bool, true, false, nat_lt, List, [], ◌∷◌, length, get_or, take, drop, refl, sym, ◌∙◌, ap, arith, Option, Some, None}
use Rattle.std.specs.Prelude.{◌==◌, ◌&&◌}
use Rattle.std.specs.Option.{option_map}
use Rattle.std.proofs.lemmas.List.{drop_more, drop_all, drop-drop}
use Rattle.std.proofs.lemmas.Bool.Decides.{nat_tests}
use Rattle.uq_page.specs.declared.layout.TheConstants.{PAGE_SIZE}
use Rattle.uq_journal.specs.declared.format.TheConstants.{OPEN, ORIGINAL_SIZE}
use Rattle.uq_journal.specs.Batches.{Original, Batch, number, originals_in, open_batches}
use Rattle.uq_journal.specs.Opening.{batches_at, are_below, is_whole, Tells}
use Rattle.uq_journal.specs.declared.reading.Found.TheVariants.{Closed, Open}
use Rattle.uq_journal.proofs.Recovery.{gate_shut}

-- bytes passed over are dropped
skip_drop : (skip : ℕ) (bytes : List ℕ) → open_batches skip bytes ≡ open_batches zero (drop skip bytes)
skip_drop zero bytes = refl
skip_drop (suc skip) [] = refl
skip_drop (suc skip) (byte ∷ bytes) = skip_drop skip bytes

-- from the end on there is no batch
pub past_end : (at : ℕ) (journal : List ℕ) → length journal ≤ at → batches_at at journal ≡ None
past_end at journal past = ap (open_batches zero) (drop_all at journal past)

-- the place after another
pub drop_on : (n at to : ℕ) (journal : List ℕ) → to ≡ at + n → drop n (drop at journal) ≡ drop to journal
drop_on n at to journal is = drop-drop n at journal ∙ ap (λ (k : ℕ). drop k journal) (sym is)

-- an open gate
abbrev pub batch_of : ℕ → List ℕ → ℕ → Batch
batch_of at journal count = record { old_pages = number (drop (at + 1) journal); originals = originals_in count (drop (at + 9) journal) }

gate_open : (rest : List ℕ) → open_batches zero (OPEN ∷ rest) ≡ option_map (λ later. record { old_pages = number rest; originals = originals_in (number (drop 4 rest)) (drop 8 rest) } ∷ later) (open_batches (8 + ORIGINAL_SIZE * number (drop 4 rest)) rest)
gate_open rest = refl

pub open_at : (at count next : ℕ) (journal : List ℕ) → at < length journal → get_or journal at 0 ≡ OPEN → count ≡ number (drop (at + 5) journal) → next ≡ at + 9 + ORIGINAL_SIZE * count → batches_at at journal ≡ option_map (λ later. batch_of at journal count ∷ later) (batches_at next journal)
open_at at count next journal lt open_gate is leads =
    let rest : List ℕ = drop (at + 1) journal in
    let gate : drop at journal ≡ OPEN ∷ rest = drop_more journal at 0 lt ∙ ap (λ (g : ℕ). g ∷ rest) open_gate in
    let four : drop 4 rest ≡ drop (at + 5) journal = drop_on 4 (at + 1) (at + 5) journal (omega arith) in
    let n_is : number (drop 4 rest) ≡ count = ap number four ∙ sym is in
    let eight : drop 8 rest ≡ drop (at + 9) journal = drop_on 8 (at + 1) (at + 9) journal (omega arith) in
    let place : next ≡ at + 1 + (8 + ORIGINAL_SIZE * count) = omega (arith, leads) in
    let later : open_batches (8 + ORIGINAL_SIZE * number (drop 4 rest)) rest ≡ batches_at next journal =
    ap (λ (n : ℕ). open_batches (8 + ORIGINAL_SIZE * n) rest) n_is ∙ skip_drop (8 + ORIGINAL_SIZE * count) rest ∙ ap (open_batches zero) (drop_on (8 + ORIGINAL_SIZE * count) (at + 1) next journal place) in
    let batch : ◌≡◌ {A = Batch} (record { old_pages = number rest; originals = originals_in (number (drop 4 rest)) (drop 8 rest) }) (batch_of at journal count) =
    λ i. record { old_pages = number rest; originals = originals_in (n_is i) (eight i) } in
    ap (open_batches zero) gate ∙ gate_open rest ∙ (λ i. option_map (λ more. batch i ∷ more) (later i))

-- an open gate with no whole batch behind it
pub broken_at : (at count next : ℕ) (journal : List ℕ) → at < length journal → get_or journal at 0 ≡ OPEN → count ≡ number (drop (at + 5) journal) → next ≡ at + 9 + ORIGINAL_SIZE * count → length journal ≤ next → batches_at at journal ≡ None
broken_at at count next journal lt open_gate is leads past =
    open_at at count next journal lt open_gate is leads ∙ ap (option_map (λ (later : List Batch). batch_of at journal count ∷ later)) (past_end next journal past)

pub closed_at : (at : ℕ) (journal : List ℕ) → at < length journal → get_or journal at 0 ≢ OPEN → Tells at journal Closed
closed_at at journal lt shut = (get_or journal at 0, drop (at + 1) journal, drop_more journal at 0 lt, shut)

pub found_at : (at old_pages count next : ℕ) (journal : List ℕ) → at < length journal → get_or journal at 0 ≡ OPEN → old_pages ≡ number (drop (at + 1) journal) → count ≡ number (drop (at + 5) journal) → next ≡ at + 9 + ORIGINAL_SIZE * count → Tells at journal (Open (record { old_pages = old_pages; count = count; next = next }))
found_at at old_pages count next journal lt open_gate old_is is leads =
    let batch : ◌≡◌ {A = Batch} (batch_of at journal count) (record { old_pages = old_pages; originals = originals_in count (drop (at + 9) journal) }) =
    λ i. record { old_pages = sym old_is i; originals = originals_in count (drop (at + 9) journal) } in (
      ap (λ (l : List ℕ). take 1 l) (drop_more journal at 0 lt) ∙ ap (λ (g : ℕ). g ∷ []) open_gate,
      open_at at count next journal lt open_gate is leads ∙ (λ i. option_map (λ later. batch i ∷ later) (batches_at next journal)),
    )

-- the gate as it was read
pub gate_read : (at : ℕ) (journal read : List ℕ) → at < length journal → read ≡ take 1 (drop at journal) → get_or read 0 0 ≡ get_or journal at 0
gate_read at journal read lt is =
    ap (λ (l : List ℕ). get_or l 0 0) (is ∙ ap (λ (l : List ℕ). take 1 l) (drop_more journal at 0 lt))

-- the first of some originals
pub first_original : (k m p next : ℕ) (journal : List ℕ) → k ≡ suc m → next ≡ p + ORIGINAL_SIZE → originals_in k (drop p journal) ≡ (number (drop p journal), take PAGE_SIZE (drop (p + 4) journal)) ∷ originals_in m (drop next journal)
first_original k m p next journal is on =
    ap (λ (n : ℕ). originals_in n (drop p journal)) is
    ∙ (λ i. (number (drop p journal), take PAGE_SIZE (drop_on 4 p (p + 4) journal refl i)) ∷ originals_in m (drop_on ORIGINAL_SIZE p next journal on i))

-- one number more is below
pub below_on : (old_pages n : ℕ) (page : List ℕ) (later : List Original) → n < old_pages → are_below old_pages ((n, page) ∷ later) ≡ are_below old_pages later
below_on old_pages n page later lt =
    let test : nat_lt n old_pages ≡ true = grind (arith, nat_tests) in
    ap (λ b. b && are_below old_pages later) test

pub below_ends : (old_pages n : ℕ) (page : List ℕ) (later : List Original) → old_pages ≤ n → are_below old_pages ((n, page) ∷ later) ≡ false
below_ends old_pages n page later le =
    let test : nat_lt n old_pages ≡ false = grind (arith, nat_tests) in
    ap (λ b. b && are_below old_pages later) test

and_false : (b : Bool) → (b && false) ≡ false
and_false true = refl
and_false false = refl

-- one batch more
pub whole_step : (old_pages : ℕ) (batch : Batch) (later : Option (List Batch)) → is_whole old_pages (option_map (λ l. batch ∷ l) later) ≡ (((batch.old_pages == old_pages) && are_below old_pages batch.originals) && is_whole old_pages later)
whole_step old_pages batch None = sym (and_false ((batch.old_pages == old_pages) && are_below old_pages batch.originals))
whole_step old_pages batch (Some later) = refl

pub whole_on : (old_pages : ℕ) (batch : Batch) (later : Option (List Batch)) → batch.old_pages ≡ old_pages → are_below old_pages batch.originals ≡ true → is_whole old_pages (option_map (λ l. batch ∷ l) later) ≡ is_whole old_pages later
whole_on old_pages batch later same below =
    let test : (batch.old_pages == old_pages) ≡ true = grind (arith, nat_tests) in
    whole_step old_pages batch later ∙ ap (λ b. (b && are_below old_pages batch.originals) && is_whole old_pages later) test ∙ ap (λ b. b && is_whole old_pages later) below

pub whole_other : (old_pages : ℕ) (batch : Batch) (later : Option (List Batch)) → batch.old_pages ≢ old_pages → is_whole old_pages (option_map (λ l. batch ∷ l) later) ≡ false
whole_other old_pages batch later other =
    let test : (batch.old_pages == old_pages) ≡ false = grind (arith, nat_tests) in
    whole_step old_pages batch later ∙ ap (λ b. (b && are_below old_pages batch.originals) && is_whole old_pages later) test

pub whole_above : (old_pages : ℕ) (batch : Batch) (later : Option (List Batch)) → are_below old_pages batch.originals ≡ false → is_whole old_pages (option_map (λ l. batch ∷ l) later) ≡ false
whole_above old_pages batch later below =
    whole_step old_pages batch later ∙ ap (λ b. ((batch.old_pages == old_pages) && b) && is_whole old_pages later) below ∙ ap (λ b. b && is_whole old_pages later) (and_false (batch.old_pages == old_pages))

pub whole_end : (old_pages at : ℕ) (journal : List ℕ) → Tells at journal Closed → is_whole old_pages (batches_at at journal) ≡ true
whole_end old_pages at journal told = ap (is_whole old_pages) (ap (open_batches zero) told.2 ∙ gate_shut told.0 told.1 told.3)
