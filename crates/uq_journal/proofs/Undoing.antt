-- What originals that are put back restore, whatever of it a stop leaves.
use Rattle.std.proofs.Common.{◌≡◌, ◌≢◌, ⊎_elim, ℕ, zero, suc, ◌+◌, ◌*◌, ◌<◌, ◌≤◌, Bool, true, false, nat_lt, nat_le, List, [], ◌∷◌, ◌++◌, length, get_or, take, drop, refl, sym, ◌∙◌, ap, subst, arith, Option, Some, None, length-take, length-drop, take-append-drop}
use Rattle.std.specs.Prelude.{cond, ◌==◌, ◌&&◌}
use Rattle.std.specs.Option.{ForSome, option_map, option_and_then}
use Rattle.std.specs.List.{flat_map}
use Rattle.std.proofs.lemmas.List.{get_or-take}
use Rattle.std.proofs.lemmas.Bool.{cases_lt, cases_eq}
use Rattle.std.proofs.lemmas.Bool.Decides.{nat_tests}
use Rattle.std.proofs.lemmas.Grind.{same_number_lists}
use Rattle.uq_outside.specs.declared.disk.Disk.{Ghosts}
use Rattle.uq_outside.specs.declared.fault.FileNo.TheVariants.{Main, Journal}
use Rattle.uq_outside.specs.Files.{Files, Keeps, in_file}
use Rattle.uq_outside.specs.Stops.{Only}
use Rattle.uq_outside.specs.Since.{LeavesOnly, After, Steps, IsSettled}
use Rattle.uq_outside.specs.SinceLaws.{weaker, at_end}
use Rattle.uq_facts.specs.Written.{written}
use Rattle.uq_page.specs.declared.layout.TheConstants.{PAGE_SIZE}
use Rattle.uq_journal.specs.declared.format.TheConstants.{OPEN, ORIGINAL_SIZE}
use Rattle.uq_journal.specs.Batches.{Original, Batch, number, originals_in, open_batches}
use Rattle.uq_journal.specs.Calls.{RecoversAs}
use Rattle.uq_journal.specs.Opening.{batches_at, are_below, is_whole, originals_all}
use Rattle.uq_journal.specs.PutBack.{put_whole, originals_of_journal, BeginWithin, ArePuttable, PutsBack}
use Rattle.uq_journal.specs.Recovered.{with_pages, are_right, restored, recovered}
use Rattle.uq_journal.specs.Recovery.{IsOpen, IsRecovered}
use Rattle.uq_journal.specs.Steps.{AtGate, Covers}
use Rattle.uq_journal.proofs.Phases.{same_files}
use Rattle.uq_journal.proofs.Recovery.{closed_recovers, long_with, before_written, in_written, after_written}

-- each page lies below this length, and is whole
abbrev pub ArePlaced : ℕ → List Original → Type 0
ArePlaced len [] = Unit {0}
ArePlaced len (page ∷ pages) = (PAGE_SIZE * page.0 + PAGE_SIZE ≤ len) × (length page.1 ≡ PAGE_SIZE) × ArePlaced len pages

both_true : (a b : Bool) → (a && b) ≡ true → (a ≡ true) × (b ≡ true)
both_true true b is = (refl, is)
both_true false b is = let no_truth : false ≡ true = is in absurd (grind arith)

below_if : (m n : ℕ) → nat_lt m n ≡ true → m < n
below_if m n test = grind (arith, nat_tests)

at_most_test : (m n : ℕ) → m ≤ n → nat_le m n ≡ true
at_most_test m n le = grind (arith, nat_tests)

above_one : (n : ℕ) → 1 < n → nat_le n 1 ≡ false
above_one n lt = grind (arith, nat_tests)

-- whole originals
abbrev AreFull : List Original → Type 0
AreFull [] = Unit {0}
AreFull (page ∷ pages) = (length page.1 ≡ PAGE_SIZE) × AreFull pages

full_both : (xs ys : List Original) → AreFull xs → AreFull ys → AreFull (xs ++ ys)
full_both [] ys one two = two
full_both (x ∷ xs) ys one two = (one.0, full_both xs ys one.1 two)

originals_full : (n : ℕ) (bytes : List ℕ) → ORIGINAL_SIZE * n ≤ length bytes → AreFull (originals_in n bytes)
originals_full zero bytes long = tt
originals_full (suc n) bytes long =
    (omega (arith, length-take PAGE_SIZE (drop 4 bytes), length-drop 4 bytes, long), originals_full n (drop ORIGINAL_SIZE bytes) (omega (arith, length-drop ORIGINAL_SIZE bytes, long)))

-- batches begin within the bytes
some_long : (skip : ℕ) (bytes : List ℕ) (batches : List Batch) → open_batches skip bytes ≡ Some batches → skip < length bytes
some_long skip [] batches is = let none : None ≡ Some batches = is in absurd (cc)
some_long zero (byte ∷ bytes) batches is = omega arith
some_long (suc skip) (byte ∷ bytes) batches is = omega (arith, some_long skip bytes batches is)

full_by : (batch : Batch) (n : ℕ) (bytes : List ℕ) (b : Bool) (later : Option (List Batch)) (batches : List Batch) → ((rest : List Batch) → later ≡ Some rest → AreFull (batch.originals) × AreFull (flat_map (λ it. it.originals) rest))
    → cond b (option_map (λ l. batch ∷ l) later) (Some []) ≡ Some batches → AreFull (flat_map (λ it. it.originals) batches)
full_by batch n bytes false later batches each is = let same : [] ≡ batches = cc in subst (λ bs. AreFull (flat_map (λ it. it.originals) bs)) same tt
full_by batch n bytes true None batches each is = let none : None ≡ Some batches = is in absurd (cc)
full_by batch n bytes true (Some rest) batches each is =
    let same : batch ∷ rest ≡ batches = cc in
    let parts = each rest refl in
    subst (λ bs. AreFull (flat_map (λ it. it.originals) bs)) same (full_both batch.originals (flat_map (λ it. it.originals) rest) parts.0 parts.1)

whole_full : (skip : ℕ) (bytes : List ℕ) (batches : List Batch) → open_batches skip bytes ≡ Some batches → AreFull (flat_map (λ it. it.originals) batches)
whole_full skip [] batches is = let none : None ≡ Some batches = is in absurd (cc)
whole_full (suc skip) (byte ∷ bytes) batches is = whole_full skip bytes batches is
whole_full zero (gate ∷ bytes) batches is =
    let n : ℕ = number (drop 4 bytes) in
    let batch : Batch = record { old_pages = number bytes; originals = originals_in n (drop 8 bytes) } in
    full_by batch n bytes (gate == OPEN) (open_batches (8 + ORIGINAL_SIZE * n) bytes) batches (λ rest there.
    let long : 8 + ORIGINAL_SIZE * n < length bytes = some_long (8 + ORIGINAL_SIZE * n) bytes rest there in
    (originals_full n (drop 8 bytes) (omega (arith, length-drop 8 bytes, long)), whole_full (8 + ORIGINAL_SIZE * n) bytes rest there)) is

placed_both : (len : ℕ) (xs ys : List Original) → ArePlaced len xs → ArePlaced len ys → ArePlaced len (xs ++ ys)
placed_both len [] ys one two = two
placed_both len (x ∷ xs) ys one two = (one.0, one.1, placed_both len xs ys one.2 two)

full_left : (xs ys : List Original) → AreFull (xs ++ ys) → AreFull xs
full_left [] ys full = tt
full_left (x ∷ xs) ys full = (full.0, full_left xs ys full.1)

full_right : (xs ys : List Original) → AreFull (xs ++ ys) → AreFull ys
full_right [] ys full = full
full_right (x ∷ xs) ys full = full_right xs ys full.1

placed_pages : (old_pages : ℕ) (pages : List Original) → AreFull pages → are_below old_pages pages ≡ true → ArePlaced (PAGE_SIZE * old_pages) pages
placed_pages old_pages [] full below = tt
placed_pages old_pages (page ∷ pages) full below =
    let parts = both_true (nat_lt page.0 old_pages) (are_below old_pages pages) below in
    let lt : page.0 < old_pages = below_if page.0 old_pages parts.0 in
    (omega (arith, lt), full.0, placed_pages old_pages pages full.1 parts.1)

placed_batches : (old_pages : ℕ) (batches : List Batch) → AreFull (flat_map (λ it. it.originals) batches) → are_right old_pages batches ≡ true → ArePlaced (PAGE_SIZE * old_pages) (flat_map (λ it. it.originals) batches)
placed_batches old_pages [] full right = tt
placed_batches old_pages (batch ∷ batches) full right =
    let parts = both_true ((batch.old_pages == old_pages) && are_below old_pages batch.originals) (are_right old_pages batches) right in
    let here = both_true (batch.old_pages == old_pages) (are_below old_pages batch.originals) parts.0 in
    let later : List Original = flat_map (λ it. it.originals) batches in
    placed_both (PAGE_SIZE * old_pages) batch.originals later (placed_pages old_pages batch.originals (full_left batch.originals later full) here.1) (placed_batches old_pages batches (full_right batch.originals later full) parts.1)

placed_by : (old_pages : ℕ) (journal : List ℕ) (batches : Option (List Batch)) → open_batches zero journal ≡ batches → is_whole old_pages batches ≡ true → ((all : List Batch) × (batches ≡ Some all)) × ArePlaced (PAGE_SIZE * old_pages) (originals_all batches)
placed_by old_pages journal None is whole = let no_truth : false ≡ true = whole in absurd (grind arith)
placed_by old_pages journal (Some batches) is whole = ((batches, refl), placed_batches old_pages batches (whole_full zero journal batches is) whole)

begin_of_placed : (len more : ℕ) (pages : List Original) → len ≤ more → ArePlaced len pages → BeginWithin more pages
begin_of_placed len more [] le placed = tt
begin_of_placed len more (page ∷ pages) le placed = (omega (arith, le, placed.0), begin_of_placed len more pages le placed.2)

-- the same originals over main files that agree elsewhere
agree : (len : ℕ) (pages : List Original) (a b : List ℕ) → ArePlaced len pages → len ≤ length a → len ≤ length b → ((i : ℕ) → i < len → (Covers pages i → ⊥) → get_or a i 0 ≡ get_or b i 0) → (i : ℕ) → i < len → get_or (with_pages pages a) i 0 ≡ get_or (with_pages pages b) i 0
agree len [] a b placed in_a in_b same i lt = same i lt (λ none. none)
agree len (page ∷ pages) a b placed in_a in_b same i lt =
    let at : ℕ = PAGE_SIZE * page.0 in
    let bytes : List ℕ = page.1 in
    let size : length bytes ≡ PAGE_SIZE = placed.1 in
    let room_a : at ≤ length a = omega (arith, placed.0, in_a) in
    let room_b : at ≤ length b = omega (arith, placed.0, in_b) in
    agree len pages (written at bytes a) (written at bytes b) placed.2 (omega (arith, in_a, long_with (page ∷ []) a)) (omega (arith, in_b, long_with (page ∷ []) b)) (λ k below out.
    ⊎_elim (λ (front : k < at).
    before_written at bytes a k room_a front ∙ same k below (λ covers. ⊎_elim (λ within. let low : at ≤ k = within.0 in absurd (omega arith)) out covers) ∙ sym (before_written at bytes b k room_b front))
    (λ (past : at ≤ k).
    ⊎_elim (λ (within : k < at + PAGE_SIZE). in_written at bytes a k room_a past (omega (arith, size, within)) ∙ sym (in_written at bytes b k room_b past (omega (arith, size, within))))
    (λ (behind : at + PAGE_SIZE ≤ k).
    after_written at bytes a k room_a (omega (arith, size, behind)) ∙ same k below (λ covers. ⊎_elim (λ within. let high : k < at + PAGE_SIZE = within.1 in absurd (omega arith)) out covers) ∙ sym (after_written at bytes b k room_b (omega (arith, size, behind))))
    (cases_lt k (at + PAGE_SIZE))) (cases_lt k at)) i lt

-- what files with an open gate recover to
by_batches : (main : List ℕ) (batch : Batch) (later : Option (List Batch)) → option_and_then (restored main) (option_map (λ l. batch ∷ l) later)
    ≡ cond (is_whole batch.old_pages (option_map (λ l. batch ∷ l) later) && nat_le (PAGE_SIZE * batch.old_pages) (length main)) (Some (take (PAGE_SIZE * batch.old_pages) (with_pages (originals_all (option_map (λ l. batch ∷ l) later)) main))) None
by_batches main batch None = refl
by_batches main batch (Some later) = refl

pub recovered_by : (files : Files) (batch : Batch) (later : Option (List Batch)) → 1 < length files.journal → batches_at 0 files.journal ≡ option_map (λ l. batch ∷ l) later
    → recovered files ≡ cond (is_whole batch.old_pages (batches_at 0 files.journal) && nat_le (PAGE_SIZE * batch.old_pages) (length files.main)) (Some (take (PAGE_SIZE * batch.old_pages) (with_pages (originals_of_journal files) files.main))) None
recovered_by files batch later more told =
    ap (λ b. cond b (Some files.main) (option_and_then (restored files.main) (open_batches zero files.journal))) (above_one (length files.journal) more)
    ∙ ap (option_and_then (restored files.main)) told ∙ by_batches files.main batch later
    ∙ ap (λ o. cond (is_whole batch.old_pages o && nat_le (PAGE_SIZE * batch.old_pages) (length files.main)) (Some (take (PAGE_SIZE * batch.old_pages) (with_pages (originals_all o) files.main))) None) (sym told)

module _ (old_pages : ℕ) (start : Files) (open_now : IsOpen old_pages start) where
  abbrev len : ℕ
  len = PAGE_SIZE * old_pages

  abbrev pages : List Original
  pages = originals_of_journal start

  placed : ((all : List Batch) × (batches_at 0 start.journal ≡ Some all)) × ArePlaced len pages
  placed = placed_by old_pages start.journal (batches_at 0 start.journal) refl open_now.whole

  pub puttable : ArePuttable (length start.main) 0 start.journal
  puttable = record { whole = placed.0; begin = begin_of_placed len (length start.main) pages open_now.long placed.1 }

  -- each image recovers to the same
  recovers_whole : (left : Files) → left.journal ≡ start.journal → len ≤ length left.main → recovered left ≡ Some (take len (with_pages pages left.main))
  recovers_whole left journal long =
      let batch : Batch = record { old_pages = old_pages; originals = open_now.first.0 } in
      let batches : batches_at 0 left.journal ≡ batches_at 0 start.journal = ap (batches_at 0) journal in
      recovered_by left batch open_now.first.1 (omega (arith, ap length journal, open_now.more)) (batches ∙ open_now.first.2)
      ∙ ap (λ o. cond (is_whole old_pages o && nat_le len (length left.main)) (Some (take len (with_pages (originals_all o) left.main))) None) batches
      ∙ ap (λ b. cond (b && nat_le len (length left.main)) (Some (take len (with_pages pages left.main))) None) open_now.whole
      ∙ ap (λ b. cond b (Some (take len (with_pages pages left.main))) None) (at_most_test len (length left.main) long)

  pub recovers_start : recovered start ≡ Some (take len (with_pages pages start.main))
  recovers_start = recovers_whole start refl open_now.long

  pub recovers_same : (left : Files) → PutsBack len pages start left → recovered left ≡ recovered start
  recovers_same left step =
      let long : len ≤ length left.main = step.no_shorter open_now.long in
      let a : List ℕ = take len (with_pages pages left.main) in
      let b : List ℕ = take len (with_pages pages start.main) in
      let same : a ≡ b =
      same_number_lists a b (omega (arith, length-take len (with_pages pages left.main), length-take len (with_pages pages start.main), long_with pages left.main, long_with pages start.main, long, open_now.long)) (λ k lt.
      let below : k < len = omega (arith, length-take len (with_pages pages left.main), lt) in
      get_or-take len (with_pages pages left.main) k 0 below ∙ agree len pages left.main start.main placed.1 long open_now.long (step.same open_now.long) k below ∙ sym (get_or-take len (with_pages pages start.main) k 0 below)) in
      recovers_whole left step.journal long ∙ ap (λ (m : List ℕ). Some m) same ∙ sym recovers_start

  gate_first : start.journal ≡ OPEN ∷ drop 1 start.journal
  gate_first = sym (take-append-drop 1 start.journal) ∙ ap (λ (l : List ℕ). l ++ drop 1 start.journal) open_now.gate

  -- so does one of the restored main file with any byte at the gate
  gate_recovers : (put left : Files) → PutsBack len pages start put → recovered start ≡ Some put.main → AtGate put left → recovered left ≡ recovered start
  gate_recovers put left step main at =
      let some = at.behind (omega (arith, ap length step.journal, open_now.more)) in
      let journal : left.journal ≡ some.0 ∷ drop 1 start.journal = some.1 ∙ ap (λ (l : List ℕ). some.0 ∷ drop 1 l) step.journal in
      ⊎_elim (λ (is : some.0 ≡ OPEN).
      let whole : left.journal ≡ put.journal = journal ∙ ap (λ (b : ℕ). b ∷ drop 1 start.journal) is ∙ sym gate_first ∙ sym step.journal in
      let same : left ≡ put = same_files left put at.main whole in
      ap recovered same ∙ recovers_same put step)
      (λ (shut : some.0 ≢ OPEN). closed_recovers left some.0 (drop 1 start.journal) journal shut ∙ ap (λ (m : List ℕ). Some m) at.main ∙ sym main) (cases_eq some.0 OPEN)

  module _ {D : Type 0} (g : Ghosts D) (may_stay : (d : D) → ForSome (g.content d) (g.may_leave d)) (counts_now : (d : D) (t : ℕ) (f : Files) → t ≤ g.moment d → g.may_leave d f → g.left_since d t f) (before : D) (told : g.content before ≡ Some start) (settled : IsSettled g before start) where
    pub put_stop : (after : D) → Steps g (PutsBack len pages) before after → LeavesOnly g before after (RecoversAs start)
    put_stop after steps = weaker g (After g before (PutsBack len pages)) (RecoversAs start) before after (λ left was. recovers_same left (subst (λ f. PutsBack len pages f left) (settled was.0 was.1) was.2)) steps.stop

    module _ (after : D) (steps : Steps g (PutsBack len pages) before after) (put : g.content after ≡ option_map (put_whole len) (g.content before)) (durable : ForSome (g.content after) (λ files. Only (Keeps Main files) (g.may_leave after))) where
      abbrev restored_files : Files
      restored_files = put_whole len start

      restored_told : g.content after ≡ Some restored_files
      restored_told = put ∙ ap (option_map (put_whole len)) told

      from_start : (left : Files) → g.may_leave after left → PutsBack len pages start left
      from_start left may = let was = at_end g (After g before (PutsBack len pages)) counts_now before after steps.stop left may in subst (λ f. PutsBack len pages f left) (settled was.0 was.1) was.2

      restored_step : PutsBack len pages start restored_files
      restored_step = from_start restored_files (may_stay after restored_files restored_told)

      restored_settled : IsSettled g after restored_files
      restored_settled left may = same_files left restored_files (durable restored_files restored_told left may) ((from_start left may).journal)

      pub gate_stop : (closed : D) → Steps g AtGate after closed → LeavesOnly g after closed (RecoversAs start)
      gate_stop closed run = weaker g (After g after AtGate) (RecoversAs start) after closed (λ left was.
          gate_recovers restored_files left restored_step recovers_start (subst (λ f. AtGate f left) (restored_settled was.0 was.1) was.2)) run.stop

      pub gate_closed : (closed : D) → Steps g AtGate after closed → g.content closed ≡ option_map (in_file Journal (written 0 (0 ∷ []))) (g.content after) → ForSome (g.content closed) (λ f. Only (Keeps Journal f) (g.may_leave closed)) → IsRecovered g start closed
      gate_closed closed run set only =
          let now : Files = in_file Journal (written 0 (0 ∷ [])) restored_files in
          let is : g.content closed ≡ Some now = set ∙ ap (option_map (in_file Journal (written 0 (0 ∷ [])))) restored_told in
          record {
            now = now;
            told = is;
            main = recovers_start;
            shut = (0, drop 1 start.journal, refl, λ (no_gate : 0 ≡ OPEN). absurd (omega (arith, no_gate)));
            settled = λ left may.
                let was = at_end g (After g after AtGate) counts_now after closed run.stop left may in
                let at = subst (λ f. AtGate f left) (restored_settled was.0 was.1) was.2 in
                same_files left now at.main (only now is left may);
          }
