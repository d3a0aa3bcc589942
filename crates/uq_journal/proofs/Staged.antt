-- How the originals come into the journal, one after the other.
use Rattle.std.proofs.Common.{◌≡◌, ℕ, ◌+◌, ◌-◌, ◌*◌, ◌<◌, ◌≤◌, Bool, true, false, nat_lt, List, [], ◌∷◌, ◌++◌, length, take, drop, map, refl, sym, ◌∙◌, ap, arith, Some, append_assoc, length-take, take-append-drop, length-append, length-drop}
use Rattle.std.specs.Prelude.{cond, max}
use Rattle.std.specs.Int.{w32, to_be_bytes}
use Rattle.std.specs.List.{flat_map}
use Rattle.std.specs.Option.{ForSome, option_map}
use Rattle.std.proofs.lemmas.List.{take_at, append-nil, map-append, places}
use Rattle.std.proofs.lemmas.List.Elements.{filter-append}
use Rattle.std.proofs.lemmas.Grind.{flat_map-append}
use Rattle.std.proofs.lemmas.Bool.Decides.{nat_tests}
use Rattle.uq_outside.specs.declared.disk.Disk.{Ghosts}
use Rattle.uq_outside.specs.declared.fault.FileNo.TheVariants.{Journal}
use Rattle.uq_outside.specs.Files.{Keeps, in_file}
use Rattle.uq_outside.specs.Stops.{Only}
use Rattle.uq_facts.specs.Written.{written}
use Rattle.uq_page.specs.declared.layout.TheConstants.{PAGE_SIZE}
use Rattle.uq_journal.specs.declared.format.TheConstants.{ORIGINAL_SIZE}
use Rattle.uq_journal.specs.Recovered.{Ascends, numbers}
use Rattle.uq_journal.specs.Batches.{Original, original_bytes}
use Rattle.uq_journal.specs.Steps.{IsStaged, IsStagedWhole, kept, page_at, originals_of, with_originals, staged}
use Rattle.uq_journal.specs.declared.dirty.Dirty.{Dirty}

-- bytes written behind a known front
pub written_front : (at : ℕ) (bytes old front : List ℕ) → at ≤ length old → take at old ≡ front → take (at + length bytes) (written at bytes old) ≡ front ++ bytes
written_front at bytes old front le is =
    let size : length (take at old ++ bytes) ≡ at + length bytes = omega (arith, length-append (take at old) bytes, length-take at old) in
    take_at (take at old ++ bytes) (drop (at + length bytes) old) (at + length bytes) size ∙ ap (λ (f : List ℕ). f ++ bytes) is

pub written_long : (at : ℕ) (bytes old : List ℕ) → at ≤ length old → at + length bytes ≤ length (written at bytes old)
written_long at bytes old le = grind (arith, places)

pub kept_more : (old_pages : ℕ) (xs : List Dirty) (d : Dirty) → kept old_pages (xs ++ d ∷ []) ≡ kept old_pages xs ++ kept old_pages (d ∷ [])
kept_more old_pages xs d = filter-append (λ it. nat_lt it.no old_pages) xs (d ∷ [])

pub staged_more : (old_pages count : ℕ) (main : List ℕ) (xs : List Dirty) (d : Dirty) → staged old_pages count main (xs ++ d ∷ []) ≡ staged old_pages count main xs ++ flat_map original_bytes (originals_of old_pages main (d ∷ []))
staged_more old_pages count main xs d =
    let original : Dirty → Original = λ it. (it.no, page_at main it.no) in
    let each : flat_map original_bytes (originals_of old_pages main (xs ++ d ∷ [])) ≡ flat_map original_bytes (originals_of old_pages main xs) ++ flat_map original_bytes (originals_of old_pages main (d ∷ [])) =
    ap (λ (os : List Original). flat_map original_bytes os) (ap (map original) (kept_more old_pages xs d) ∙ map-append original (kept old_pages xs) (kept old_pages (d ∷ [])))
    ∙ flat_map-append original_bytes (originals_of old_pages main xs) (originals_of old_pages main (d ∷ [])) in
    ap (λ (l : List ℕ). to_be_bytes w32 old_pages ++ to_be_bytes w32 count ++ l) each

added_by : (b : Bool) (main : List ℕ) (d : Dirty) → (b ≡ true → PAGE_SIZE * d.no + PAGE_SIZE ≤ length main) → length (flat_map original_bytes (map (λ (it : Dirty). (it.no, page_at main it.no)) (cond b (d ∷ []) []))) ≡ ORIGINAL_SIZE * length (cond b (d ∷ []) [])
added_by false main d inside = refl
added_by true main d inside =
    let there = inside refl in
    let page : length (page_at main d.no) ≡ PAGE_SIZE = omega (arith, length-take PAGE_SIZE (drop (PAGE_SIZE * d.no) main), length-drop (PAGE_SIZE * d.no) main, there) in
    let whole : length (original_bytes (d.no, page_at main d.no)) ≡ ORIGINAL_SIZE = omega (arith, page) in
    ap length (append-nil (original_bytes (d.no, page_at main d.no))) ∙ whole

pub length_added : (old_pages : ℕ) (main : List ℕ) (d : Dirty) → PAGE_SIZE * old_pages ≤ length main → length (flat_map original_bytes (originals_of old_pages main (d ∷ []))) ≡ ORIGINAL_SIZE * length (kept old_pages (d ∷ []))
length_added old_pages main d whole =
    added_by (nat_lt d.no old_pages) main d (λ test. let below : d.no < old_pages = grind (arith, nat_tests) in omega (arith, below, whole))

module _ {D : Type 0} (g : Ghosts D) (old_pages count : ℕ) (start : D) where
  pub staged_start : (disk : D) (header : List ℕ) → header ≡ to_be_bytes w32 old_pages ++ to_be_bytes w32 count → ForSome (g.content start) (λ files. 1 ≤ length files.journal) → g.content disk ≡ option_map (in_file Journal (written 1 header)) (g.content start) → IsStaged g old_pages count [] start disk 9
  staged_start disk header is rest ok = record {
    size = refl;
    told = λ files told.
        let now = in_file Journal (written 1 header) files in
        let eight : length header ≡ 8 = ap length is in (
          now,
          ok ∙ ap (option_map (in_file Journal (written 1 header))) told,
          refl,
          omega (arith, written_long 1 header files.journal (rest files told), eight),
          ap (λ (n : ℕ). take n (written 1 header files.journal)) (sym (ap (λ (n : ℕ). 1 + n) eight)) ∙ written_front 1 header files.journal (take 1 files.journal) (rest files told) refl ∙ ap (λ (h : List ℕ). take 1 files.journal ++ h) (is ∙ sym (append-nil (to_be_bytes w32 old_pages ++ to_be_bytes w32 count))),
        );
  }

  pub staged_step : (xs : List Dirty) (d : Dirty) (mid disk : D) (at next : ℕ) → ForSome (g.content start) (λ files. PAGE_SIZE * old_pages ≤ length files.main) → IsStaged g old_pages count xs start mid at → g.content disk ≡ option_map (with_originals old_pages at (d ∷ [])) (g.content mid) → next ≡ at + ORIGINAL_SIZE * length (kept old_pages (d ∷ [])) → IsStaged g old_pages count (xs ++ d ∷ []) start disk next
  staged_step xs d mid disk at next whole so_far added is = record {
    size = omega (arith, is, so_far.size, ap length (kept_more old_pages xs d), length-append (kept old_pages xs) (kept old_pages (d ∷ [])));
    told = λ files told.
        let was = so_far.told files told in
        let now = with_originals old_pages at (d ∷ []) was.0 in
        let bytes : List ℕ = flat_map original_bytes (originals_of old_pages was.0.main (d ∷ [])) in
        let long : PAGE_SIZE * old_pages ≤ length was.0.main = omega (arith, ap length was.2, whole files told) in
        let end : next ≡ at + length bytes = omega (arith, is, length_added old_pages was.0.main d long) in (
          now,
          added ∙ ap (option_map (with_originals old_pages at (d ∷ []))) was.1,
          was.2,
          omega (arith, end, written_long at bytes was.0.journal was.3),
          ap (λ (n : ℕ). take n (written at bytes was.0.journal)) end
              ∙ written_front at bytes was.0.journal (take 1 files.journal ++ staged old_pages count files.main xs) was.3 was.4
              ∙ append_assoc (take 1 files.journal) (staged old_pages count files.main xs) bytes
              ∙ ap (λ (l : List ℕ). take 1 files.journal ++ l) (ap (λ (m : List ℕ). staged old_pages count files.main xs ++ flat_map original_bytes (originals_of old_pages m (d ∷ []))) was.2 ∙ sym (staged_more old_pages count files.main xs d)),
        );
  }

-- fewer pages than there are below a place have a number from there on
few_one : (b : Bool) (d : Dirty) (later : List Dirty) (old_pages least : ℕ) → (b ≡ true → d.no < old_pages) → least ≤ d.no → length later ≤ old_pages - (d.no + 1) → length (cond b (d ∷ later) later) ≤ old_pages - least
few_one true d later old_pages least test up few = let below = test refl in omega arith
few_one false d later old_pages least test up few = omega arith

below_if : (m n : ℕ) → nat_lt m n ≡ true → m < n
below_if m n test = grind (arith, nat_tests)

pub few_kept : (least pages old_pages : ℕ) (dirty : List Dirty) → Ascends least pages (numbers dirty) → length (kept old_pages dirty) ≤ old_pages - least
few_kept least pages old_pages [] up = omega arith
few_kept least pages old_pages (d ∷ dirty) up = few_one (nat_lt d.no old_pages) d (kept old_pages dirty) old_pages least (below_if d.no old_pages) up.0 (few_kept (d.no + 1) (max pages (d.no + 1)) old_pages dirty up.2)

pub front_kept : (old_pages i : ℕ) (xs : List Dirty) → length (kept old_pages (take i xs)) ≤ length (kept old_pages xs)
front_kept old_pages i xs =
    let parts : length (kept old_pages (take i xs ++ drop i xs)) ≡ length (kept old_pages (take i xs)) + length (kept old_pages (drop i xs)) =
    ap length (filter-append (λ (it : Dirty). nat_lt it.no old_pages) (take i xs) (drop i xs)) ∙ length-append (kept old_pages (take i xs)) (kept old_pages (drop i xs)) in
    omega (arith, parts, ap (λ (l : List Dirty). length (kept old_pages l)) (take-append-drop i xs))

module _ {D : Type 0} (g : Ghosts D) (old_pages count : ℕ) (start : D) where
  -- and a closed gate behind them
  pub staged_whole : (dirty : List Dirty) (body wrote synced : D) (end : ℕ) → IsStaged g old_pages count dirty start body end → g.content wrote ≡ option_map (in_file Journal (written end (0 ∷ []))) (g.content body) → g.content synced ≡ g.content wrote → ForSome (g.content wrote) (λ files. Only (Keeps Journal files) (g.may_leave synced)) → IsStagedWhole g old_pages count dirty start synced
  staged_whole dirty body wrote synced end so_far ok same durable = record {
    told = λ files told.
        let was = so_far.told files told in
        let now = in_file Journal (written end (0 ∷ [])) was.0 in
        let is : g.content wrote ≡ Some now = ok ∙ ap (option_map (in_file Journal (written end (0 ∷ [])))) was.1 in
        let rest : List ℕ = drop (end + 1) was.0.journal in (
          now,
          same ∙ is,
          was.2,
          (rest, append_assoc (take end was.0.journal) (0 ∷ []) rest ∙ ap (λ (l : List ℕ). l ++ 0 ∷ rest) was.4),
          durable now is,
        );
  }
