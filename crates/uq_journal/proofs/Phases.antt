-- A commit of one batch, phase by phase.
use Rattle.std.proofs.Common.{◌≡◌, ◌≢◌, ◌⊎◌, inl, inr, ⊎_elim, ℕ, zero, ◌+◌, ◌*◌, ◌^◌, ◌<◌, ◌≤◌, Bool, true, false, nat_lt, List, [], ◌∷◌, ◌++◌, length, get_or, take, drop, map, refl, sym, ◌∙◌, ap, subst, arith, Option, Some, length-append, length-take, length-drop, take-append-drop}
use Rattle.std.specs.Prelude.{cond, nat_le}
use Rattle.std.specs.Option.{ForSome, option_map, option_and_then}
use Rattle.std.proofs.lemmas.List.{length-map}
use Rattle.std.proofs.lemmas.Bool.{cases_eq}
use Rattle.std.proofs.lemmas.Bool.Decides.{nat_tests}
use Rattle.uq_outside.specs.declared.disk.Disk.{Ghosts}
use Rattle.uq_outside.specs.declared.fault.FileNo.TheVariants.{Main, Journal}
use Rattle.uq_outside.specs.Files.{Files, Keeps, in_file}
use Rattle.uq_facts.specs.Written.{written}
use Rattle.uq_outside.specs.Stops.{Only}
use Rattle.uq_outside.specs.Since.{LeavesOnly, After, Steps, IsSettled}
use Rattle.uq_outside.specs.SinceLaws.{weaker, at_end}
use Rattle.uq_page.specs.declared.layout.TheConstants.{PAGE_SIZE}
use Rattle.uq_journal.specs.declared.format.TheConstants.{OPEN}
use Rattle.uq_journal.specs.Batches.{Original, open_batches, body}
use Rattle.uq_journal.specs.Recovered.{with_pages, changes, recovered, restored}
use Rattle.uq_journal.specs.Steps.{Behind, AtGate, InPages, Covers, kept, page_at, originals_of, staged, IsStagedWhole, RecoversToCommit}
use Rattle.uq_journal.specs.Calls.{IsAtRest}
use Rattle.uq_journal.specs.declared.dirty.Dirty.{Dirty}
use Rattle.uq_journal.proofs.Recovery.{AreOriginals, ArePagesOf, batch_read, batch_restores, closed_recovers, resting}

pub same_files : (a b : Files) → a.main ≡ b.main → a.journal ≡ b.journal → a ≡ b
same_files a b main journal i = record { main = main i; journal = journal i }

-- the originals are pages of the main file
one_are : (b : Bool) (old_pages : ℕ) (main : List ℕ) (d : Dirty) (later : List Dirty) → (b ≡ true → d.no < old_pages) → length main ≡ PAGE_SIZE * old_pages → old_pages < 2 ^ 32
    → AreOriginals (map (λ (it : Dirty). (it.no, page_at main it.no)) later) × ArePagesOf main (map (λ (it : Dirty). (it.no, page_at main it.no)) later)
    → AreOriginals (map (λ (it : Dirty). (it.no, page_at main it.no)) (cond b (d ∷ later) later)) × ArePagesOf main (map (λ (it : Dirty). (it.no, page_at main it.no)) (cond b (d ∷ later) later))
one_are false old_pages main d later test size low are = are
one_are true old_pages main d later test size low are =
    let below = test refl in
    let inside : PAGE_SIZE * d.no + PAGE_SIZE ≤ length main = omega (arith, below, size) in
    ((omega (arith, below, low), omega (arith, length-take PAGE_SIZE (drop (PAGE_SIZE * d.no) main), length-drop (PAGE_SIZE * d.no) main, inside), are.0), (refl, inside, are.1))

below_if : (m n : ℕ) → nat_lt m n ≡ true → m < n
below_if m n test = grind (arith, nat_tests)

pub originals_are : (old_pages : ℕ) (main : List ℕ) (dirty : List Dirty) → length main ≡ PAGE_SIZE * old_pages → old_pages < 2 ^ 32 → AreOriginals (originals_of old_pages main dirty) × ArePagesOf main (originals_of old_pages main dirty)
originals_are old_pages main [] size low = (tt, tt)
originals_are old_pages main (d ∷ dirty) size low = one_are (nat_lt d.no old_pages) old_pages main d (kept old_pages dirty) (below_if d.no old_pages) size low (originals_are old_pages main dirty size low)

-- what a batch writes below the old end has its original
one_covers : (b : Bool) (main : List ℕ) (d : Dirty) (later : List Dirty) (i : ℕ) → ((PAGE_SIZE * d.no ≤ i) × (i < PAGE_SIZE * d.no + PAGE_SIZE) → b ≡ true) → ((PAGE_SIZE * d.no ≤ i) × (i < PAGE_SIZE * d.no + PAGE_SIZE)) ⊎ Covers (map (λ (it : Dirty). (it.no, page_at main it.no)) later) i → Covers (map (λ (it : Dirty). (it.no, page_at main it.no)) (cond b (d ∷ later) later)) i
one_covers true main d later i test covers = covers
one_covers false main d later i test (inl within) = let no : false ≡ true = test within in absurd (grind arith)
one_covers false main d later i test (inr later_covers) = later_covers

below_test : (m n : ℕ) → m < n → nat_lt m n ≡ true
below_test m n lt = grind (arith, nat_tests)

pub covered : (old_pages : ℕ) (main : List ℕ) (dirty : List Dirty) (i : ℕ) → i < PAGE_SIZE * old_pages → Covers (changes dirty) i → Covers (originals_of old_pages main dirty) i
covered old_pages main [] i lt covers = covers
covered old_pages main (d ∷ dirty) i lt covers =
    one_covers (nat_lt d.no old_pages) main d (kept old_pages dirty) i (λ within. below_test d.no old_pages (let low = within.0 in omega arith))
    (⊎_elim (λ here. inl here) (λ there. inr (covered old_pages main dirty i lt there)) covers)

-- the main file is the old one but for the pages that have originals and what lies past the old end
pub record IsRestorable (old main : List ℕ) (originals : List Original) : Type 0 where
  pub long : length old ≤ length main
  pub same : (i : ℕ) → i < length old → (Covers originals i → ⊥) → get_or main i 0 ≡ get_or old i 0

pub restorable_itself : (old : List ℕ) (originals : List Original) → IsRestorable old old originals
restorable_itself old originals = record { long = omega arith; same = λ i lt out. refl }

-- the journal is this gate, one whole batch, and a closed gate
pub record HasBatch (gate old_pages : ℕ) (originals : List Original) (journal : List ℕ) : Type 0 where
  pub rest : List ℕ
  pub is : journal ≡ gate ∷ (body old_pages originals ++ 0 ∷ rest)

above_one : (n : ℕ) → 2 ≤ n → nat_le n 1 ≡ false
above_one n le = grind (arith, nat_tests)

module _ (old_pages : ℕ) (old : List ℕ) (originals : List Original) (size : length old ≡ PAGE_SIZE * old_pages) (low : old_pages < 2 ^ 32) (few : length originals < 2 ^ 32) (are : AreOriginals originals) (of : ArePagesOf old originals) where
  open_recovers : (files : Files) → HasBatch OPEN old_pages originals files.journal → IsRestorable old files.main originals → recovered files ≡ Some old
  open_recovers files has ok =
      let batches : open_batches zero files.journal ≡ Some (record { old_pages = old_pages; originals = originals } ∷ []) = ap (open_batches zero) has.is ∙ batch_read old_pages originals 0 has.rest low few are (omega arith) in
      let long : nat_le (length files.journal) 1 ≡ false = above_one (length files.journal) (omega (arith, ap length has.is, length-append (body old_pages originals) (0 ∷ has.rest))) in
      ap (λ b. cond b (Some files.main) (option_and_then (restored files.main) (open_batches zero files.journal))) long
      ∙ ap (option_and_then (restored files.main)) batches ∙ batch_restores old_pages old files.main originals size of ok.long ok.same

  -- a gate that reads as open restores the old main file, and every other leaves what is there
  pub any_gate_recovers : (files : Files) (gate : ℕ) → HasBatch gate old_pages originals files.journal → IsRestorable old files.main originals → (recovered files ≡ Some old) ⊎ (recovered files ≡ Some files.main)
  any_gate_recovers files gate has ok =
      ⊎_elim (λ (open_gate : gate ≡ OPEN). inl (open_recovers files (record { rest = has.rest; is = has.is ∙ ap (λ (b : ℕ). b ∷ (body old_pages originals ++ 0 ∷ has.rest)) open_gate }) ok))
      (λ (shut : gate ≢ OPEN). inr (closed_recovers files gate (body old_pages originals ++ 0 ∷ has.rest) has.is shut)) (cases_eq gate OPEN)

-- the disk tells this main file, and a journal of this gate, the batch and a closed gate, and nothing is pending
pub record Stands {D : Type 0} (g : Ghosts D) (gate old_pages : ℕ) (originals : List Original) (main : List ℕ) (disk : D) : Type 0 where
  pub now : Files
  pub told : g.content disk ≡ Some now
  pub main_is : now.main ≡ main
  pub batch : HasBatch gate old_pages originals now.journal
  pub settled : IsSettled g disk now

module _ {D : Type 0} (g : Ghosts D) (counts_now : (d : D) (t : ℕ) (files : Files) → t ≤ g.moment d → g.may_leave d files → g.left_since d t files) (old_pages : ℕ) (dirty : List Dirty) (files : Files) (size : length files.main ≡ PAGE_SIZE * old_pages) (low : old_pages < 2 ^ 32) (few : length (kept old_pages dirty) < 2 ^ 32) where
  abbrev pub P : Files → Type 0
  P = RecoversToCommit files.main dirty

  abbrev pub originals : List Original
  originals = originals_of old_pages files.main dirty

  abbrev pub new_main : List ℕ
  new_main = with_pages (changes dirty) files.main

  few_originals : length originals < 2 ^ 32
  few_originals = omega (arith, length-map {B = Original} (kept old_pages dirty) (λ (it : Dirty). (it.no, page_at files.main it.no)), few)

  restorable : (main : List ℕ) → length files.main ≤ length main → ((i : ℕ) → i < length files.main → (Covers (changes dirty) i → ⊥) → get_or main i 0 ≡ get_or files.main i 0) → IsRestorable files.main main originals
  restorable main long same = record { long = long; same = λ i lt out. same i lt (λ covers. out (covered old_pages files.main dirty i (omega (arith, size, lt)) covers)) }

  recovers : (left : Files) (gate : ℕ) → HasBatch gate old_pages originals left.journal → IsRestorable files.main left.main originals → (recovered left ≡ Some files.main) ⊎ (recovered left ≡ Some left.main)
  recovers left gate has ok =
      let are = originals_are old_pages files.main dirty size low in
      any_gate_recovers old_pages files.main originals size low few_originals are.0 are.1 left gate has ok

  -- first phase: the batch is staged behind the closed gate
  pub stage_stop : (start staged_disk : D) → g.content start ≡ Some files → IsSettled g start files → take 1 files.journal ≡ 0 ∷ [] → Steps g (Behind 1) start staged_disk → LeavesOnly g start staged_disk P
  stage_stop start end told settled closed steps =
      weaker g (After g start (Behind 1)) P start end (λ left after.
      let behind = subst (λ f. Behind 1 f left) (settled after.0 after.1) after.2 in
      let long : 1 ≤ length files.journal = omega (arith, ap length closed, length-take 1 files.journal) in
      let shut : left.journal ≡ 0 ∷ drop 1 left.journal = sym (take-append-drop 1 left.journal) ∙ ap (λ (l : List ℕ). l ++ drop 1 left.journal) (behind.front long ∙ closed) in
      inl (closed_recovers left 0 (drop 1 left.journal) shut (omega arith) ∙ ap (λ (m : List ℕ). Some m) behind.main)) steps.stop

  -- a gate is set
  pub gate_stop : (gate : ℕ) (main : List ℕ) (before after : D) → Stands g gate old_pages originals main before → IsRestorable files.main main originals → ((left : Files) → recovered left ≡ Some main → P left) → Steps g AtGate before after → LeavesOnly g before after P
  gate_stop gate main before end stands ok stays steps =
      weaker g (After g before AtGate) P before end (λ left after.
      let at_gate = subst (λ f. AtGate f left) (stands.settled after.0 after.1) after.2 in
      let some = at_gate.behind (omega (arith, ap length stands.batch.is)) in
      let has : HasBatch some.0 old_pages originals left.journal = record { rest = stands.batch.rest; is = some.1 ∙ ap (λ (l : List ℕ). some.0 ∷ drop 1 l) stands.batch.is } in
      let main_is : left.main ≡ main = at_gate.main ∙ stands.main_is in
      ⊎_elim (λ old. inl old) (λ here. stays left (here ∙ ap (λ (m : List ℕ). Some m) main_is)) (recovers left some.0 has (subst (λ m. IsRestorable files.main m originals) (sym main_is) ok))) steps.stop

  -- third phase: the pages are written behind the open gate
  pub pages_stop : (before after : D) → Stands g OPEN old_pages originals files.main before → Steps g (InPages (changes dirty)) before after → LeavesOnly g before after P
  pages_stop before end stands steps =
      weaker g (After g before (InPages (changes dirty))) P before end (λ left after.
      let within = subst (λ f. InPages (changes dirty) f left) (stands.settled after.0 after.1) after.2 in
      let has : HasBatch OPEN old_pages originals left.journal = record { rest = stands.batch.rest; is = within.journal ∙ stands.batch.is } in
      let are = originals_are old_pages files.main dirty size low in
      let ok : IsRestorable files.main left.main originals = restorable left.main (omega (arith, within.no_shorter, ap length stands.main_is)) (λ i lt out. within.same i (omega (arith, lt, ap length stands.main_is)) out ∙ ap (λ (m : List ℕ). get_or m i 0) stands.main_is) in
      inl (open_recovers old_pages files.main originals size low few_originals are.0 are.1 left has ok)) steps.stop

  pub stage_done : (start staged_disk : D) → g.content start ≡ Some files → IsSettled g start files → take 1 files.journal ≡ 0 ∷ [] → Steps g (Behind 1) start staged_disk → IsStagedWhole g old_pages (length (kept old_pages dirty)) dirty start staged_disk → Stands g 0 old_pages originals files.main staged_disk
  stage_done start end told settled closed steps whole =
      let was = whole.told files told in
      let count : length (kept old_pages dirty) ≡ length originals = sym (length-map {B = Original} (kept old_pages dirty) (λ (it : Dirty). (it.no, page_at files.main it.no))) in
      record {
        now = was.0;
        told = was.1;
        main_is = was.2;
        batch = record {
          rest = was.3.0;
          is = was.3.1 ∙ ap (λ (l : List ℕ). l ++ staged old_pages (length (kept old_pages dirty)) files.main dirty ++ 0 ∷ was.3.0) closed
              ∙ ap (λ (n : ℕ). 0 ∷ (staged old_pages n files.main dirty ++ 0 ∷ was.3.0)) count;
        };
        settled = λ left may.
            let after = at_end g (After g start (Behind 1)) counts_now start end steps.stop left may in
            let behind = subst (λ f. Behind 1 f left) (settled after.0 after.1) after.2 in
            same_files left was.0 (behind.main ∙ sym was.2) (was.4 left may);
      }

  pub gate_done : (gate new : ℕ) (main : List ℕ) (before after : D) → Stands g gate old_pages originals main before → Steps g AtGate before after → g.content after ≡ option_map (in_file Journal (written 0 (new ∷ []))) (g.content before) → ForSome (g.content after) (λ f. Only (Keeps Journal f) (g.may_leave after)) → Stands g new old_pages originals main after
  gate_done gate new main before end stands steps set only =
      let now : Files = in_file Journal (written 0 (new ∷ [])) stands.now in
      let is : g.content end ≡ Some now = set ∙ ap (option_map (in_file Journal (written 0 (new ∷ [])))) stands.told in
      record {
        now = now;
        told = is;
        main_is = stands.main_is;
        batch = record { rest = stands.batch.rest; is = ap (λ (l : List ℕ). new ∷ drop 1 l) stands.batch.is };
        settled = λ left may.
            let after = at_end g (After g before AtGate) counts_now before end steps.stop left may in
            let at_gate = subst (λ f. AtGate f left) (stands.settled after.0 after.1) after.2 in
            same_files left now at_gate.main (only now is left may);
      }

  pub pages_done : (before after : D) → Stands g OPEN old_pages originals files.main before → Steps g (InPages (changes dirty)) before after → g.content after ≡ option_map (in_file Main (with_pages (changes dirty))) (g.content before) → ForSome (g.content after) (λ f. Only (Keeps Main f) (g.may_leave after)) → Stands g OPEN old_pages originals new_main after
  pages_done before end stands steps set only =
      let now : Files = in_file Main (with_pages (changes dirty)) stands.now in
      let is : g.content end ≡ Some now = set ∙ ap (option_map (in_file Main (with_pages (changes dirty)))) stands.told in
      record {
        now = now;
        told = is;
        main_is = ap (with_pages (changes dirty)) stands.main_is;
        batch = record { rest = stands.batch.rest; is = stands.batch.is };
        settled = λ left may.
            let after = at_end g (After g before (InPages (changes dirty))) counts_now before end steps.stop left may in
            let within = subst (λ f. InPages (changes dirty) f left) (stands.settled after.0 after.1) after.2 in
            same_files left now (only now is left may) within.journal;
      }

  -- the new main file is restorable to the old one
  pub new_restorable : (may_stay : (d : D) → ForSome (g.content d) (g.may_leave d)) (before after : D) → Stands g OPEN old_pages originals files.main before → Stands g OPEN old_pages originals new_main after → Steps g (InPages (changes dirty)) before after → IsRestorable files.main new_main originals
  new_restorable may_stay before end stands done steps =
      let after = at_end g (After g before (InPages (changes dirty))) counts_now before end steps.stop done.now (may_stay end done.now done.told) in
      let within = subst (λ f. InPages (changes dirty) f done.now) (stands.settled after.0 after.1) after.2 in
      restorable new_main (omega (arith, within.no_shorter, ap length stands.main_is, ap length done.main_is)) (λ i lt out.
      ap (λ (m : List ℕ). get_or m i 0) (sym done.main_is) ∙ within.same i (omega (arith, lt, ap length stands.main_is)) out ∙ ap (λ (m : List ℕ). get_or m i 0) stands.main_is)

pub same_told : (a b : Files) (told : Option Files) → told ≡ Some a → told ≡ Some b → a ≡ b
same_told a b told one two = let e : Some a ≡ Some b = sym one ∙ two in cc

-- a closed gate over a whole batch is at rest
pub at_rest : {D : Type 0} (g : Ghosts D) (old_pages : ℕ) (were : List Original) (main : List ℕ) (disk : D) (now : Files) → Stands g 0 old_pages were main disk → g.content disk ≡ Some now → IsAtRest g disk now
at_rest g old_pages were main disk now stands told =
    let same = same_told stands.now now (g.content disk) stands.told told in
    resting g disk now (subst (λ f. take 1 f.journal ≡ 0 ∷ []) same (ap (λ (l : List ℕ). take 1 l) stands.batch.is)) (subst (λ f. IsSettled g disk f) same stands.settled)
