-- What files with one batch recover to.
use Rattle.std.proofs.Common.{◌≡◌, ◌≢◌, ◌⊎◌, inl, inr, ⊎_elim, ℕ, zero, ◌+◌, ◌*◌, ◌^◌, ◌-◌, ◌<◌, ◌≤◌, true, nat_lt, nat_le, List, [], ◌∷◌, ◌++◌, length, get_or, take, drop, refl, ◌∙◌, ap, arith, Some, None, append_assoc, length-append, length-take, length-drop, sym, take-append-drop}
use Rattle.std.specs.Prelude.{cond, ◌==◌, ◌&&◌}
use Rattle.std.specs.Option.{option_map, option_and_then}
use Rattle.std.specs.List.{flat_map, list_all}
use Rattle.std.specs.Int.{w32, to_be_bytes}
use Rattle.std.proofs.lemmas.Nat.{from_be_bytes-to_be_bytes_4}
use Rattle.std.proofs.lemmas.List.{take_at, drop_at, append-nil, get_or-take, places}
use Rattle.std.proofs.lemmas.Bool.{cases_lt, cases_Bool}
use Rattle.std.proofs.lemmas.Bool.Decides.{nat_tests}
use Rattle.std.proofs.lemmas.Grind.{same_number_lists}
use Rattle.uq_outside.specs.declared.disk.Disk.{Ghosts}
use Rattle.uq_outside.specs.Files.{Files}
use Rattle.uq_outside.specs.Since.{IsSettled}
use Rattle.uq_facts.specs.Written.{written}
use Rattle.uq_page.specs.declared.layout.TheConstants.{PAGE_SIZE}
use Rattle.uq_journal.specs.declared.format.TheConstants.{OPEN, ORIGINAL_SIZE}
use Rattle.uq_journal.specs.Batches.{Original, Batch, number, originals_in, open_batches, original_bytes, body}
use Rattle.uq_journal.specs.Calls.{IsAtRest}
use Rattle.uq_journal.specs.Recovered.{with_pages, restored, recovered}
use Rattle.uq_journal.specs.Steps.{Covers, page_at}

-- a closed gate ends the batches
pub gate_shut : (gate : ℕ) (rest : List ℕ) → gate ≢ OPEN → open_batches zero (gate ∷ rest) ≡ Some []
gate_shut gate rest shut = grind (arith, nat_tests)

pub closed_recovers : (files : Files) (gate : ℕ) (rest : List ℕ) → files.journal ≡ gate ∷ rest → gate ≢ OPEN → recovered files ≡ Some files.main
closed_recovers files gate rest is shut =
    elim (cases_Bool (nat_le (length files.journal) 1)) [
      | inl short ↦ ap (λ b. cond b (Some files.main) (option_and_then (restored files.main) (open_batches zero files.journal))) short
      | inr long ↦
          ap (λ b. cond b (Some files.main) (option_and_then (restored files.main) (open_batches zero files.journal))) long
          ∙ ap (λ o. option_and_then (restored files.main) o) (ap (open_batches zero) is ∙ gate_shut gate rest shut)
    ]

-- a closed gate and nothing pending
pub resting : {D : Type 0} (g : Ghosts D) (disk : D) (files : Files) → take 1 files.journal ≡ 0 ∷ [] → IsSettled g disk files → IsAtRest g disk files
resting g disk files closed settled = record {
  closed = closed;
  recovers = closed_recovers files 0 (drop 1 files.journal) (sym (take-append-drop 1 files.journal) ∙ ap (λ (l : List ℕ). l ++ drop 1 files.journal) closed) (omega arith);
  settled = settled;
}

-- the bytes that are passed over
skipped : (xs ys : List ℕ) → open_batches (length xs) (xs ++ ys) ≡ open_batches zero ys
skipped [] ys = refl
skipped (x ∷ xs) ys = skipped xs ys

number_read : (n : ℕ) (rest : List ℕ) → n < 2 ^ 32 → number (to_be_bytes w32 n ++ rest) ≡ n
number_read n rest lt = from_be_bytes-to_be_bytes_4 n lt

-- each number has 32 bits, and each page its size
abbrev pub AreOriginals : List Original → Type 0
AreOriginals [] = Unit {0}
AreOriginals (page ∷ pages) = (page.0 < 2 ^ 32) × (length page.1 ≡ PAGE_SIZE) × AreOriginals pages

originals_read : (pages : List Original) (rest : List ℕ) → AreOriginals pages → originals_in (length pages) (flat_map original_bytes pages ++ rest) ≡ pages
originals_read [] rest are = refl
originals_read (page ∷ pages) rest are =
    let tail : List ℕ = flat_map original_bytes pages ++ rest in
    let apart : page.1 ++ flat_map original_bytes pages ++ rest ≡ page.1 ++ tail = append_assoc page.1 (flat_map original_bytes pages) rest in
    let no_is : number (to_be_bytes w32 page.0 ++ tail) ≡ page.0 = number_read page.0 tail are.0 in
    let page_is : take PAGE_SIZE (page.1 ++ flat_map original_bytes pages ++ rest) ≡ page.1 = ap (λ (l : List ℕ). take PAGE_SIZE l) apart ∙ take_at page.1 tail PAGE_SIZE are.1 in
    let later_is : originals_in (length pages) (drop PAGE_SIZE (page.1 ++ flat_map original_bytes pages ++ rest)) ≡ pages =
    ap (λ (l : List ℕ). originals_in (length pages) (drop PAGE_SIZE l)) apart ∙ ap (originals_in (length pages)) (drop_at page.1 tail PAGE_SIZE are.1) ∙ originals_read pages rest are.2 in
    λ i. (no_is i, page_is i) ∷ later_is i

length_bodies : (pages : List Original) → AreOriginals pages → length (flat_map original_bytes pages) ≡ ORIGINAL_SIZE * length pages
length_bodies [] are = refl
length_bodies (page ∷ pages) are = omega (arith, length-append (original_bytes page) (flat_map original_bytes pages), length_bodies pages are.2, are.1)

-- one whole batch behind an open gate
pub batch_read : (old_pages : ℕ) (pages : List Original) (gate : ℕ) (rest : List ℕ) → old_pages < 2 ^ 32 → length pages < 2 ^ 32 → AreOriginals pages → gate ≢ OPEN → open_batches zero (OPEN ∷ (body old_pages pages ++ gate ∷ rest)) ≡ Some (record { old_pages = old_pages; originals = pages } ∷ [])
batch_read old_pages pages gate rest low few are shut =
    let tail : List ℕ = flat_map original_bytes pages ++ gate ∷ rest in
    let count : ℕ = number (to_be_bytes w32 (length pages) ++ tail) in
    let count_is : count ≡ length pages = number_read (length pages) tail few in
    let old_is : number (to_be_bytes w32 old_pages ++ (to_be_bytes w32 (length pages) ++ tail)) ≡ old_pages = number_read old_pages (to_be_bytes w32 (length pages) ++ tail) low in
    let pages_are : originals_in count tail ≡ pages = ap (λ (n : ℕ). originals_in n tail) count_is ∙ originals_read pages (gate ∷ rest) are in
    let size : 8 + ORIGINAL_SIZE * count ≡ length (body old_pages pages) = omega (arith, count_is, length_bodies pages are) in
    let later : open_batches (8 + ORIGINAL_SIZE * count) (body old_pages pages ++ gate ∷ rest) ≡ Some [] =
    ap (λ (n : ℕ). open_batches n (body old_pages pages ++ gate ∷ rest)) size ∙ skipped (body old_pages pages) (gate ∷ rest) ∙ gate_shut gate rest shut in
    let batch : ◌≡◌ {A = Batch} (record { old_pages = number (to_be_bytes w32 old_pages ++ (to_be_bytes w32 (length pages) ++ tail)); originals = originals_in count tail }) (record { old_pages = old_pages; originals = pages }) = λ i. record { old_pages = old_is i; originals = pages_are i } in
    λ i. option_map (λ more. batch i ∷ more) (later i)

-- each is a page of this main file
abbrev pub ArePagesOf : List ℕ → List Original → Type 0
ArePagesOf main [] = Unit {0}
ArePagesOf main (page ∷ pages) = (page.1 ≡ page_at main page.0) × (PAGE_SIZE * page.0 + PAGE_SIZE ≤ length main) × ArePagesOf main pages

pub long_with : (pages : List Original) (main : List ℕ) → length main ≤ length (with_pages pages main)
long_with [] main = omega arith
long_with (page ∷ pages) main =
    let one : length main ≤ length (written (PAGE_SIZE * page.0) page.1 main) = grind (arith, places) in
    omega (arith, one, long_with pages (written (PAGE_SIZE * page.0) page.1 main))

pub before_written : (at : ℕ) (page main : List ℕ) (k : ℕ) → at ≤ length main → k < at → get_or (written at page main) k 0 ≡ get_or main k 0
before_written at page main k le lt = grind (arith, places)

pub in_written : (at : ℕ) (page main : List ℕ) (k : ℕ) → at ≤ length main → at ≤ k → k < at + length page → get_or (written at page main) k 0 ≡ get_or page (k - at) 0
in_written at page main k le from to = grind (arith, places)

pub after_written : (at : ℕ) (page main : List ℕ) (k : ℕ) → at ≤ length main → at + length page ≤ k → get_or (written at page main) k 0 ≡ get_or main k 0
after_written at page main k le from = grind (arith, places)

in_part : (at n : ℕ) (old : List ℕ) (k : ℕ) → at ≤ k → k < at + n → get_or (take n (drop at old)) (k - at) 0 ≡ get_or old k 0
in_part at n old k from to = grind (arith, places)

put_back : (at n : ℕ) (page main old : List ℕ) → page ≡ take n (drop at old) → at + n ≤ length old → length old ≤ length main → (k : ℕ) → k < length old → ((k < at) ⊎ (at + n ≤ k) → get_or main k 0 ≡ get_or old k 0) → get_or (written at page main) k 0 ≡ get_or old k 0
put_back at n page main old is inside long k below out =
    let size : length page ≡ n = omega (arith, ap length is, length-take n (drop at old), length-drop at old) in
    let room : at ≤ length main = omega arith in
    ⊎_elim (λ (front : k < at). before_written at page main k room front ∙ out (inl front)) (λ (past : at ≤ k).
    ⊎_elim (λ (within : k < at + n). in_written at page main k room past (omega (arith, size, within)) ∙ ap (λ (l : List ℕ). get_or l (k - at) 0) is ∙ in_part at n old k past within)
    (λ (behind : at + n ≤ k). after_written at page main k room (omega (arith, size, behind)) ∙ out (inr behind)) (cases_lt k (at + n))) (cases_lt k at)

outside : (at k : ℕ) → (at ≤ k) × (k < at + PAGE_SIZE) → (k < at) ⊎ (at + PAGE_SIZE ≤ k) → ⊥
outside at k within (inl front) = let low = within.0 in omega arith
outside at k within (inr behind) = let high = within.1 in omega arith

-- originals put back over a main file that is the old one elsewhere
restores : (old : List ℕ) (pages : List Original) (main : List ℕ) → ArePagesOf old pages → length old ≤ length main → ((i : ℕ) → i < length old → (Covers pages i → ⊥) → get_or main i 0 ≡ get_or old i 0) → (i : ℕ) → i < length old → get_or (with_pages pages main) i 0 ≡ get_or old i 0
restores old [] main are long same i lt = same i lt (λ none. none)
restores old (page ∷ pages) main are long same i lt =
    restores old pages (written (PAGE_SIZE * page.0) page.1 main) are.2 (omega (arith, long_with (page ∷ []) main)) (λ k below out.
    put_back (PAGE_SIZE * page.0) PAGE_SIZE page.1 main old are.0 are.1 long k below (λ away.
    same k below (λ covers. ⊎_elim (λ within. absurd (outside (PAGE_SIZE * page.0) k within away)) out covers))) i lt

below_test : (m n : ℕ) → m < n → nat_lt m n ≡ true
below_test m n lt = grind (arith, nat_tests)

same_test : (n : ℕ) → (n == n) ≡ true
same_test n = grind (arith, nat_tests)

at_most_test : (m n : ℕ) → m ≤ n → nat_le m n ≡ true
at_most_test m n le = grind (arith, nat_tests)

all_below : (old_pages : ℕ) (main : List ℕ) (pages : List Original) → length main ≡ PAGE_SIZE * old_pages → ArePagesOf main pages → list_all (λ page. nat_lt page.0 old_pages) pages ≡ true
all_below old_pages main [] size are = refl
all_below old_pages main (page ∷ pages) size are =
    let test : nat_lt page.0 old_pages ≡ true = below_test page.0 old_pages (omega (arith, size, are.1)) in
    ap (λ b. b && list_all (λ it. nat_lt it.0 old_pages) pages) test ∙ all_below old_pages main pages size are.2

-- a batch of originals restores the old main file, whatever was written over its pages and behind them
pub batch_restores : (old_pages : ℕ) (old main : List ℕ) (pages : List Original) → length old ≡ PAGE_SIZE * old_pages → ArePagesOf old pages → length old ≤ length main → ((i : ℕ) → i < length old → (Covers pages i → ⊥) → get_or main i 0 ≡ get_or old i 0) → restored main (record { old_pages = old_pages; originals = pages } ∷ []) ≡ Some old
batch_restores old_pages old main pages size are long same =
    let test : (((old_pages == old_pages) && list_all (λ page. nat_lt page.0 old_pages) pages) && true) && nat_le (PAGE_SIZE * old_pages) (length main) ≡ true =
    ap (λ b. ((b && list_all (λ page. nat_lt page.0 old_pages) pages) && true) && nat_le (PAGE_SIZE * old_pages) (length main)) (same_test old_pages)
    ∙ ap (λ b. (b && true) && nat_le (PAGE_SIZE * old_pages) (length main)) (all_below old_pages old pages size are)
    ∙ at_most_test (PAGE_SIZE * old_pages) (length main) (omega (arith, size, long)) in
    let put : List ℕ = with_pages (pages ++ []) main in
    let put_is : put ≡ with_pages pages main = ap (λ ps. with_pages ps main) (append-nil pages) in
    let wide : length old ≤ length put = omega (arith, ap length put_is, long_with pages main, long) in
    let whole : take (PAGE_SIZE * old_pages) put ≡ old =
    same_number_lists (take (PAGE_SIZE * old_pages) put) old (omega (arith, length-take (PAGE_SIZE * old_pages) put, size, wide)) (λ k lt.
    let below : k < PAGE_SIZE * old_pages = omega (arith, length-take (PAGE_SIZE * old_pages) put, lt) in
    get_or-take (PAGE_SIZE * old_pages) put k 0 below ∙ ap (λ (l : List ℕ). get_or l k 0) put_is ∙ restores old pages main are long same k (omega (arith, size, below))) in
    ap (λ b. cond b (Some (take (PAGE_SIZE * old_pages) put)) None) test ∙ ap (λ (l : List ℕ). Some l) whole
