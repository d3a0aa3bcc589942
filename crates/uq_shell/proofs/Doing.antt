-- Events that are done, and what was saved by them.
use Rattle.std.proofs.Common.{◌≡◌, ℕ, zero, suc, ◌+◌, Bool, true, false, if◌then◌else◌, List, [], ◌∷◌, ◌++◌, length, take, Some, inl, inr, refl, sym, ap, subst, ◌∙◌, arith, append-nil, append_assoc, length-append}
use Rattle.std.proofs.lemmas.List.{take_at}
use Rattle.std.proofs.Math.Seq.{take-append-add}
use Rattle.std.specs.Prelude.{slice_get}
use Rattle.std.specs.List.{flat_map}
use Rattle.uq_kv.specs.Stored.{Stored}
use Rattle.uq_shell.specs.Events.{Event, Out, Commit, IsSavedIn, bytes_of, last_commit, output}
use Rattle.uq_shell.specs.Obeys.{commits_before}

-- the events that are done, and some of those behind them
pub taken : (before more : List Event) (n k : ℕ) → length before ≡ n → take (n + k) (before ++ more) ≡ before ++ take k more
taken before more n k is = subst (λ m. take (m + k) (before ++ more) ≡ before ++ take k more) is (take-append-add before more k)

-- their output is that of the first of all
pub output_done : (before more : List Event) (n : ℕ) → length before ≡ n → output n (before ++ more) ≡ flat_map bytes_of before
output_done before more n is = ap (flat_map bytes_of) (take_at before more n is)

-- what was there at entry is among what was saved
pub saved_entry : (entry : Stored) (events : List Event) → IsSavedIn entry events entry
saved_entry entry [] = refl
saved_entry entry (Out bytes ∷ events) = saved_entry entry events
saved_entry entry (Commit later ∷ events) = inl refl

-- so is what the last commit left, whatever comes behind it
pub saved_last : (entry : Stored) (before more : List Event) → IsSavedIn entry (before ++ more) (last_commit entry before)
saved_last entry [] more = saved_entry entry more
saved_last entry (Out bytes ∷ before) more = saved_last entry before more
saved_last entry (Commit later ∷ before) more = inr (saved_last later before more)

-- and what a commit behind it leaves
pub saved_next : (entry next : Stored) (before more : List Event) → IsSavedIn entry (before ++ Commit next ∷ more) next
saved_next entry next [] more = inr (saved_entry next more)
saved_next entry next (Out bytes ∷ before) more = saved_next entry next before more
saved_next entry next (Commit later ∷ before) more = inr (saved_next later next before more)

-- and all that was saved before
pub saved_more : (entry stored : Stored) (before more : List Event) → IsSavedIn entry before stored → IsSavedIn entry (before ++ more) stored
saved_more entry stored [] more is = subst (λ (it : Stored). IsSavedIn entry more it) (sym is) (saved_entry entry more)
saved_more entry stored (Out bytes ∷ before) more is = saved_more entry stored before more is
saved_more entry stored (Commit later ∷ before) more (inl is) = inl is
saved_more entry stored (Commit later ∷ before) more (inr is) = inr (saved_more later stored before more is)

-- a commit behind them is the last one
pub last_next : (entry next : Stored) (before : List Event) → last_commit entry (before ++ Commit next ∷ []) ≡ next
last_next entry next [] = refl
last_next entry next (Out bytes ∷ before) = last_next entry next before
last_next entry next (Commit later ∷ before) = last_next later next before

-- the event behind them
next_event : (before more : List Event) (event : Event) → slice_get (before ++ event ∷ more) (length before) ≡ Some event
next_event [] more event = refl
next_event (first ∷ before) more event = next_event before more event

pub event_next : (before more : List Event) (event : Event) (n : ℕ) → length before ≡ n → slice_get (before ++ event ∷ more) n ≡ Some event
event_next before more event n is = subst (λ m. slice_get (before ++ event ∷ more) m ≡ Some event) is (next_event before more event)

-- an event stays at its place, whatever comes behind
pub event_more : (before more : List Event) (event : Event) (n : ℕ) → slice_get before n ≡ Some event → slice_get (before ++ more) n ≡ Some event
event_more [] more event n is = absurd (cc)
event_more (first ∷ before) more event zero is = is
event_more (first ∷ before) more event (suc n) is = event_more before more event n is

-- the first of some events are the first of more, and others
pub taken_more : (n : ℕ) (before more : List Event) → (others : List Event) × (take n (before ++ more) ≡ take n before ++ others)
taken_more zero before more = ([], refl)
taken_more (suc n) [] more = (take (suc n) more, refl)
taken_more (suc n) (first ∷ before) more = ((taken_more n before more).0, ap (λ (l : List Event). first ∷ l) (taken_more n before more).1)

-- ---- the events of a command: a commit, where one stands before the reply, and the line of that

abbrev pub commit_in : Bool → Stored → List Event
commit_in b next = if b then Commit next ∷ [] else []

abbrev pub told_by : Bool → Stored → List ℕ → List Event
told_by b next line = commit_in b next ++ Out line ∷ []

pub told_count : (before : List Event) (b : Bool) (next : Stored) (line : List ℕ) → length (before ++ told_by b next line) ≡ length before + commits_before b + 1
told_count before true next line = let both = length-append before (Commit next ∷ Out line ∷ []) in omega arith
told_count before false next line = let both = length-append before (Out line ∷ []) in omega arith

pub told_output : (before : List Event) (b : Bool) (next : Stored) (line : List ℕ) → flat_map bytes_of (before ++ told_by b next line) ≡ flat_map bytes_of before ++ line
told_output [] true next line = append-nil line
told_output [] false next line = append-nil line
told_output (event ∷ before) b next line =
    ap (λ (l : List ℕ). bytes_of event ++ l) (told_output before b next line) ∙ sym (append_assoc (bytes_of event) (flat_map bytes_of before) line)

-- what is saved behind it
pub told_last : (entry : Stored) (before : List Event) (b : Bool) (next : Stored) (line : List ℕ) → last_commit entry (before ++ told_by b next line) ≡ (if b then next else last_commit entry before)
told_last entry [] true next line = refl
told_last entry [] false next line = refl
told_last entry (Out bytes ∷ before) b next line = told_last entry before b next line
told_last entry (Commit later ∷ before) b next line = told_last later before b next line

pub told_saved : (entry : Stored) (before : List Event) (b : Bool) (next : Stored) (line : List ℕ) → IsSavedIn entry (before ++ told_by b next line) (if b then next else last_commit entry before)
told_saved entry before true next line = saved_next entry next before (Out line ∷ [])
told_saved entry before false next line = saved_last entry before (Out line ∷ [])

-- within its first event it may be saved already
pub first_saved : (entry : Stored) (before : List Event) (b : Bool) (next : Stored) (line : List ℕ) → IsSavedIn entry (before ++ take 1 (told_by b next line)) (if b then next else last_commit entry before)
first_saved entry before true next line = saved_next entry next before []
first_saved entry before false next line = saved_last entry before (Out line ∷ [])

-- ---- the commit is done, and the line is under way

module _ (before : List Event) (next : Stored) (line : List ℕ) (n : ℕ) (count : length before ≡ n) where
  pub half_taken : (b : Bool) → take (n + commits_before b) (before ++ told_by b next line) ≡ before ++ commit_in b next
  half_taken true = taken before (Commit next ∷ Out line ∷ []) n 1 count
  half_taken false = taken before (Out line ∷ []) n 0 count

  pub half_event : (b : Bool) → slice_get (before ++ told_by b next line) (n + commits_before b) ≡ Some (Out line)
  half_event true =
      let both : length (before ++ Commit next ∷ []) ≡ n + 1 = length-append before (Commit next ∷ []) ∙ ap (λ (m : ℕ). m + 1) count in
      subst (λ (l : List Event). slice_get l (n + 1) ≡ Some (Out line)) (append_assoc before (Commit next ∷ []) (Out line ∷ []))
      (event_next (before ++ Commit next ∷ []) [] (Out line) (n + 1) both)
  half_event false = event_next before [] (Out line) (n + 0) (let e : length before ≡ n + 0 = omega arith in e)

-- a commit puts nothing out
pub silent : (before : List Event) (b : Bool) (next : Stored) → flat_map bytes_of (before ++ commit_in b next) ≡ flat_map bytes_of before
silent [] true next = refl
silent [] false next = refl
silent (event ∷ before) b next = ap (λ (l : List ℕ). bytes_of event ++ l) (silent before b next)

pub half_last : (entry : Stored) (before : List Event) (b : Bool) (next : Stored) → last_commit entry (before ++ commit_in b next) ≡ (if b then next else last_commit entry before)
half_last entry [] true next = refl
half_last entry [] false next = refl
half_last entry (Out bytes ∷ before) b next = half_last entry before b next
half_last entry (Commit later ∷ before) b next = half_last later before b next
