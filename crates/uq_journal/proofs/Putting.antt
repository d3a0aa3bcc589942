-- How originals are put back, one after the other.
use Rattle.std.proofs.Common.{◌≡◌, inl, inr, ⊎_elim, ℕ, zero, suc, ◌+◌, ◌-◌, ◌*◌, ◌<◌, ◌≤◌, List, [], ◌∷◌, ◌++◌, length, take, drop, refl, sym, ◌∙◌, ap, subst, arith, Option, Some, None}
use Rattle.std.specs.Option.{ForSome, option_map}
use Rattle.uq_outside.specs.declared.disk.Disk.{Ghosts}
use Rattle.uq_outside.specs.declared.fault.FileNo.TheVariants.{Main}
use Rattle.uq_outside.specs.Files.{Files, in_file}
use Rattle.uq_outside.specs.Since.{Steps}
use Rattle.uq_outside.specs.Stops.{ToldAlike}
use Rattle.uq_outside.specs.SinceLaws.{steps_on, steps_weaker}
use Rattle.uq_facts.specs.Written.{written}
use Rattle.uq_page.specs.declared.layout.TheConstants.{PAGE_SIZE}
use Rattle.uq_journal.specs.declared.format.TheConstants.{ORIGINAL_SIZE}
use Rattle.uq_journal.specs.Batches.{Original, Batch, number, originals_in, open_batches}
use Rattle.uq_journal.specs.Recovered.{with_pages}
use Rattle.uq_journal.specs.Opening.{batches_at, originals_all, Tells}
use Rattle.uq_journal.specs.Calls.{IsStill}
use Rattle.uq_journal.specs.PutBack.{put_from, put_all, originals_of_journal, BeginWithin, ArePuttable, IsPutBack}
use Rattle.uq_journal.specs.Steps.{InPages, Covers}
use Rattle.uq_journal.specs.declared.reading.Found.{Found}
use Rattle.uq_journal.specs.declared.reading.Found.TheVariants.{Closed, Broken, Open}
use Rattle.uq_journal.specs.declared.reading.Head.{Head}
use Rattle.uq_journal.proofs.Pages.{pages_same, pages_on}
use Rattle.uq_journal.proofs.BatchesAt.{drop_on, first_original, past_end}
use Rattle.uq_journal.proofs.Recovery.{long_with, gate_shut}
use Rattle.uq_journal.proofs.Still.{still_run}

pub covers_left : (xs ys : List Original) (i : ℕ) → Covers xs i → Covers (xs ++ ys) i
covers_left [] ys i covers = absurd covers
covers_left (x ∷ xs) ys i covers = ⊎_elim (λ here. inl here) (λ there. inr (covers_left xs ys i there)) covers

pub covers_right : (xs ys : List Original) (i : ℕ) → Covers ys i → Covers (xs ++ ys) i
covers_right [] ys i covers = covers
covers_right (x ∷ xs) ys i covers = inr (covers_right xs ys i covers)

-- more pages may change
pub pages_wider : (xs ys : List Original) → ((i : ℕ) → Covers xs i → Covers ys i) → (old new : Files) → InPages xs old new → InPages ys old new
pages_wider xs ys wide old new step = record { journal = step.journal; no_shorter = step.no_shorter; same = λ i lt out. step.same i lt (λ covers. out (wide i covers)) }

pub with_both : (xs ys : List Original) (main : List ℕ) → with_pages (xs ++ ys) main ≡ with_pages ys (with_pages xs main)
with_both [] ys main = refl
with_both (x ∷ xs) ys main = with_both xs ys (written (PAGE_SIZE * x.0) x.1 main)

pub begin_left : (len : ℕ) (xs ys : List Original) → BeginWithin len (xs ++ ys) → BeginWithin len xs
begin_left len [] ys begin = tt
begin_left len (x ∷ xs) ys begin = (begin.0, begin_left len xs ys begin.1)

pub begin_right : (len : ℕ) (xs ys : List Original) → BeginWithin len (xs ++ ys) → BeginWithin len ys
begin_right len [] ys begin = begin
begin_right len (x ∷ xs) ys begin = begin_right len xs ys begin.1

pub begin_wider : (len more : ℕ) (xs : List Original) → len ≤ more → BeginWithin len xs → BeginWithin more xs
begin_wider len more [] le begin = tt
begin_wider len more (x ∷ xs) le begin = (omega (arith, le, begin.0), begin_wider len more xs le begin.1)

-- some originals, and those behind them
pub split : (i m n k : ℕ) (bytes : List ℕ) → n ≡ i + m → k ≡ ORIGINAL_SIZE * i → originals_in n bytes ≡ originals_in i bytes ++ originals_in m (drop k bytes)
split zero m n k bytes all at =
    let n_is : n ≡ m = omega (arith, all) in
    let k_is : k ≡ 0 = omega (arith, at) in
    ap (λ (c : ℕ). originals_in c bytes) n_is ∙ ap (λ (c : ℕ). originals_in m (drop c bytes)) (sym k_is)
split (suc i) m n k bytes all at =
    let n_is : n ≡ suc (i + m) = omega (arith, all) in
    let first : Original = (number bytes, take PAGE_SIZE (drop 4 bytes)) in
    ap (λ (c : ℕ). originals_in c bytes) n_is
    ∙ ap (λ (os : List Original). first ∷ os) (split i m (i + m) (ORIGINAL_SIZE * i) (drop ORIGINAL_SIZE bytes) refl refl ∙ ap (λ (l : List ℕ). originals_in i (drop ORIGINAL_SIZE bytes) ++ originals_in m l) (drop_on (ORIGINAL_SIZE * i) ORIGINAL_SIZE k bytes (omega (arith, at))))

-- the original of a turn
module _ (i n from : ℕ) (journal : List ℕ) (lt : i < n) where
  pub turn_split : originals_in n (drop from journal) ≡ originals_in i (drop from journal) ++ originals_in (n - i) (drop (from + ORIGINAL_SIZE * i) journal)
  turn_split = split i (n - i) n (ORIGINAL_SIZE * i) (drop from journal) (omega (arith, lt)) refl ∙ ap (λ (l : List ℕ). originals_in i (drop from journal) ++ originals_in (n - i) l) (drop_on (ORIGINAL_SIZE * i) from (from + ORIGINAL_SIZE * i) journal refl)

  turn_first : originals_in (n - i) (drop (from + ORIGINAL_SIZE * i) journal) ≡ originals_in 1 (drop (from + ORIGINAL_SIZE * i) journal) ++ originals_in (n - (i + 1)) (drop (from + ORIGINAL_SIZE * i + ORIGINAL_SIZE) journal)
  turn_first =
      let k : n - i ≡ suc (n - (i + 1)) = omega (arith, lt) in
      let at : ℕ = from + ORIGINAL_SIZE * i in
      first_original (n - i) (n - (i + 1)) at (at + ORIGINAL_SIZE) journal k refl
      ∙ ap (λ (l : List ℕ). (number (drop at journal), take PAGE_SIZE l) ∷ originals_in (n - (i + 1)) (drop (at + ORIGINAL_SIZE) journal)) (sym (drop_on 4 at (at + 4) journal refl))

  pub turn_covers : (b : ℕ) → Covers (originals_in 1 (drop (from + ORIGINAL_SIZE * i) journal)) b → Covers (originals_in n (drop from journal)) b
  turn_covers b covers =
      let later : Covers (originals_in (n - i) (drop (from + ORIGINAL_SIZE * i) journal)) b =
      subst (λ os. Covers os b) (sym turn_first) (covers_left (originals_in 1 (drop (from + ORIGINAL_SIZE * i) journal)) (originals_in (n - (i + 1)) (drop (from + ORIGINAL_SIZE * i + ORIGINAL_SIZE) journal)) b covers) in
      subst (λ os. Covers os b) (sym turn_split) (covers_right (originals_in i (drop from journal)) (originals_in (n - i) (drop (from + ORIGINAL_SIZE * i) journal)) b later)

  pub turn_begins : (len : ℕ) → BeginWithin len (originals_in n (drop from journal)) → PAGE_SIZE * number (drop (from + ORIGINAL_SIZE * i) journal) ≤ len
  turn_begins len begin =
      let later = begin_right len (originals_in i (drop from journal)) (originals_in (n - i) (drop (from + ORIGINAL_SIZE * i) journal)) (subst (BeginWithin len) turn_split begin) in
      let here : BeginWithin len (originals_in 1 (drop (from + ORIGINAL_SIZE * i) journal) ++ originals_in (n - (i + 1)) (drop (from + ORIGINAL_SIZE * i + ORIGINAL_SIZE) journal)) = subst (BeginWithin len) turn_first later in
      here.0

-- one more is put back
pub put_more : (i from : ℕ) (files : Files) → put_from 1 (from + ORIGINAL_SIZE * i) (put_from i from files) ≡ put_from (i + 1) from files
put_more i from files =
    let bytes : List ℕ = drop from files.journal in
    let more : originals_in (i + 1) bytes ≡ originals_in i bytes ++ originals_in 1 (drop (from + ORIGINAL_SIZE * i) files.journal) =
    split i 1 (i + 1) (ORIGINAL_SIZE * i) bytes refl refl ∙ ap (λ (l : List ℕ). originals_in i bytes ++ originals_in 1 l) (drop_on (ORIGINAL_SIZE * i) from (from + ORIGINAL_SIZE * i) files.journal refl) in
    sym (ap (λ (m : List ℕ). in_file Main (λ _. m) files) (ap (λ (os : List Original). with_pages os files.main) more ∙ with_both (originals_in i bytes) (originals_in 1 (drop (from + ORIGINAL_SIZE * i) files.journal)) files.main))

pub told_put_more : (i from : ℕ) (start mid new : Option Files) → mid ≡ option_map (put_from i from) start → new ≡ option_map (put_from 1 (from + ORIGINAL_SIZE * i)) mid → new ≡ option_map (put_from (i + 1) from) start
told_put_more i from None mid new so_far put = put ∙ ap (option_map (put_from 1 (from + ORIGINAL_SIZE * i))) so_far
told_put_more i from (Some files) mid new so_far put = put ∙ ap (option_map (put_from 1 (from + ORIGINAL_SIZE * i))) so_far ∙ ap (λ (f : Files). Some f) (put_more i from files)

-- a batch is there where a list with it is
some_of : (batch : Batch) (later : Option (List Batch)) (all : List Batch) → option_map (λ l. batch ∷ l) later ≡ Some all → (rest : List Batch) × (later ≡ Some rest)
some_of batch None all is = let none : None ≡ Some all = is in absurd (cc)
some_of batch (Some rest) all is = (rest, refl)

all_of_more : (batch : Batch) (later : Option (List Batch)) (rest : List Batch) → later ≡ Some rest → originals_all (option_map (λ l. batch ∷ l) later) ≡ batch.originals ++ originals_all later
all_of_more batch later rest is = ap (λ o. originals_all (option_map (λ l. batch ∷ l) o)) is ∙ ap (λ o. batch.originals ++ originals_all o) (sym is)

-- the batches behind an open gate
module _ (len at next : ℕ) (journal : List ℕ) (batch : Batch) (told : batches_at at journal ≡ option_map (λ l. batch ∷ l) (batches_at next journal)) (puttable : ArePuttable len at journal) where
  behind : (rest : List Batch) × (batches_at next journal ≡ Some rest)
  behind = some_of batch (batches_at next journal) puttable.whole.0 (sym told ∙ puttable.whole.1)

  pub batch_first : originals_all (batches_at at journal) ≡ batch.originals ++ originals_all (batches_at next journal)
  batch_first = ap originals_all told ∙ all_of_more batch (batches_at next journal) behind.0 behind.1

  begin_parts : BeginWithin len (batch.originals ++ originals_all (batches_at next journal))
  begin_parts = subst (BeginWithin len) batch_first puttable.begin

  pub batch_begins : BeginWithin len batch.originals
  batch_begins = begin_left len batch.originals (originals_all (batches_at next journal)) begin_parts

  pub batches_behind : ArePuttable len next journal
  batches_behind = record { whole = behind; begin = begin_right len batch.originals (originals_all (batches_at next journal)) begin_parts }

module _ {D : Type 0} (g : Ghosts D) (start : D) (files : Files) where
  -- before the first
  pub put_start : (only_now : (d : D) (f : Files) → g.left_since d (g.moment d) f → g.may_leave d f) → g.content start ≡ Some files → ArePuttable (length files.main) 0 files.journal → Steps g (InPages (originals_of_journal files)) start start → IsPutBack g start files start 0
  put_start only_now told puttable steps = record { now = files; told = told; journal = refl; no_shorter = omega arith; rest = refl; puttable = puttable; covered = λ i covers. covers; steps = steps }

  module _ (counts_now : (d : D) (t : ℕ) (f : Files) → t ≤ g.moment d → g.may_leave d f → g.left_since d t f) where
    pub put_still : (mid new : D) (at : ℕ) → IsPutBack g start files mid at → IsStill g mid new → IsPutBack g start files new at
    put_still mid new at so_far still = record {
      now = so_far.now;
      told = still.same ∙ so_far.told;
      journal = so_far.journal;
      no_shorter = so_far.no_shorter;
      rest = so_far.rest;
      puttable = so_far.puttable;
      covered = so_far.covered;
      steps = let pages = originals_of_journal files in steps_on g (InPages pages) (pages_on pages) counts_now start mid new so_far.steps (still_run g (InPages pages) (pages_same pages) mid new still);
    }

    -- one batch
    pub put_steps : (mid new : D) (at old_pages count next : ℕ) → IsPutBack g start files mid at
        → batches_at at files.journal ≡ option_map (λ l. record { old_pages = old_pages; originals = originals_in count (drop (at + 9) files.journal) } ∷ l) (batches_at next files.journal)
        → ForSome (g.content mid) (λ f. Steps g (InPages (originals_in count (drop (at + 9) f.journal))) mid new) → Steps g (InPages (originals_of_journal files)) start new
    put_steps mid new at old_pages count next so_far told steps =
        let pages = originals_of_journal files in
        let batch : Batch = record { old_pages = old_pages; originals = originals_in count (drop (at + 9) files.journal) } in
        let first = batch_first (length files.main) at next files.journal batch told so_far.puttable in
        let one : Steps g (InPages batch.originals) mid new = subst (λ j. Steps g (InPages (originals_in count (drop (at + 9) j))) mid new) so_far.journal (steps so_far.now so_far.told) in
        let wide = pages_wider batch.originals pages (λ i covers. so_far.covered i (subst (λ os. Covers os i) (sym first) (covers_left batch.originals (originals_all (batches_at next files.journal)) i covers))) in
        steps_on g (InPages pages) (pages_on pages) counts_now start mid new so_far.steps (steps_weaker g (InPages batch.originals) (InPages pages) wide mid new one)

    pub put_step : (mid new : D) (at old_pages count next : ℕ) → IsPutBack g start files mid at
        → batches_at at files.journal ≡ option_map (λ l. record { old_pages = old_pages; originals = originals_in count (drop (at + 9) files.journal) } ∷ l) (batches_at next files.journal)
        → ForSome (g.content mid) (λ f. Steps g (InPages (originals_in count (drop (at + 9) f.journal))) mid new)
        → g.content new ≡ option_map (put_from count (at + 9)) (g.content mid) → IsPutBack g start files new next
    put_step mid new at old_pages count next so_far told steps put =
        let batch : Batch = record { old_pages = old_pages; originals = originals_in count (drop (at + 9) files.journal) } in
        let first = batch_first (length files.main) at next files.journal batch told so_far.puttable in
        let later = originals_all (batches_at next files.journal) in
        let here : originals_in count (drop (at + 9) so_far.now.journal) ≡ batch.originals = ap (λ (j : List ℕ). originals_in count (drop (at + 9) j)) so_far.journal in
        record {
          now = put_from count (at + 9) so_far.now;
          told = put ∙ ap (option_map (put_from count (at + 9))) so_far.told;
          journal = so_far.journal;
          no_shorter = omega (arith, so_far.no_shorter, long_with (originals_in count (drop (at + 9) so_far.now.journal)) so_far.now.main);
          rest = ap (λ os. with_pages later (with_pages os so_far.now.main)) here ∙ sym (with_both batch.originals later so_far.now.main) ∙ ap (λ os. with_pages os so_far.now.main) (sym first) ∙ so_far.rest;
          puttable = batches_behind (length files.main) at next files.journal batch told so_far.puttable;
          covered = λ i covers. so_far.covered i (subst (λ os. Covers os i) (sym first) (covers_right batch.originals later i covers));
          steps = put_steps mid new at old_pages count next so_far told steps;
        }

  -- and after the last
  pub put_end : (disk : D) (at : ℕ) → IsPutBack g start files disk at → originals_all (batches_at at files.journal) ≡ [] → g.content disk ≡ Some (put_all files)
  put_end disk at done none =
      let main_is : done.now.main ≡ with_pages (originals_of_journal files) files.main = ap (λ os. with_pages os done.now.main) (sym none) ∙ done.rest in
      let same : ◌≡◌ {A = Files} done.now (put_all files) = λ i. record { main = main_is i; journal = done.journal i } in
      done.told ∙ ap (λ (f : Files). Some f) same

-- no batch is left behind a gate that is not open
pub none_left : (at : ℕ) (journal : List ℕ) (found : Found) → ((head : Head) → found ≡ Open head → ⊥) → Tells at journal found → originals_all (batches_at at journal) ≡ []
none_left at journal Closed other told = ap originals_all (ap (open_batches zero) told.2 ∙ gate_shut told.0 told.1 told.3)
none_left at journal Broken other told = ap originals_all told
none_left at journal (Open head) other told = absurd (other head refl)

-- what is told on both sides, where it is the same on every side that is told
pub told_as : {X : Type 0} (change : X → X) (old new : Option X) → ToldAlike old new → ((x : X) → old ≡ Some x → new ≡ Some (change x)) → new ≡ option_map change old
told_as change None None alike each = refl
told_as change (Some x) new alike each = each x refl
told_as change None (Some y) alike each = absurd alike

-- there is none past the end
pub past_none : (at : ℕ) (journal : List ℕ) → length journal ≤ at → originals_all (batches_at at journal) ≡ []
past_none at journal past = ap originals_all (past_end at journal past)

-- what was read at the gate, of the journal as it was
pub told_open : {D : Type 0} (g : Ghosts D) (start : D) (files : Files) (disk : D) (at : ℕ) (found : Found) (head : Head) → IsPutBack g start files disk at → ForSome (g.content disk) (λ f. Tells at f.journal found) → found ≡ Open head → Tells at files.journal (Open head)
told_open g start files disk at found head so_far told is =
    subst (λ j. Tells at j (Open head)) so_far.journal (subst (λ f. Tells at so_far.now.journal f) is (told so_far.now so_far.told))
