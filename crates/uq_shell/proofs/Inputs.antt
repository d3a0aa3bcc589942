-- A run over the input stands between two lines.
use Rattle.std.proofs.Common.{◌≡◌, ◌≤◌, ◌<◌, ℕ, ◌+◌, ◌-◌, ◌^◌, min, Bool, true, false, ltb, if◌then◌else◌, List, [], ◌∷◌, ◌++◌, length, take, Option, Some, None, Result, Ok, Err, inl, inr, refl, sym, ap, subst, ◌∙◌, arith, append-nil, append_assoc, length-append, zero-add}
use Rattle.std.specs.Option.{option_map}
use Rattle.std.specs.Prelude.{IfErr, IsTrue, OnOk}
use Rattle.uq_facts.specs.Causes.{Rose}
use Rattle.uq_outside.specs.declared.disk.Disk as disk
use Rattle.uq_outside.specs.declared.sink.Sink as sink
use Rattle.uq_outside.specs.declared.source.Source as source
use Rattle.uq_outside.specs.Since.{Laws}
use Rattle.uq_outside.specs.SinceLaws.{started, told_some}
use Rattle.uq_outside.specs.Stops.{Told}
use Rattle.uq_model.specs.Session.{opened}
use Rattle.uq_model.specs.declared.limits.Limits.{Limits}
use Rattle.uq_kv.specs.Holds.{RecoversTo}
use Rattle.uq_kv.specs.Kv.{Tells, disk_of, is_begun_of, limits_of}
use Rattle.uq_kv.specs.KvLaws.{holds_saved}
use Rattle.uq_kv.specs.Stored.{Stored}
use Rattle.uq_kv.specs.declared.kv.Kv.{Kv}
use Rattle.uq_words.specs.Taking.{Going, IsNotEnded, Takes, Took, left_of, most_of, pending, room_of, text_of}
use Rattle.uq_words.specs.declared.error.InputFault.{InputFault}
use Rattle.uq_words.specs.declared.error.InputFault.TheVariants.{Source, Memory}
use Rattle.uq_words.specs.declared.lines.Lines.{Lines}
use Rattle.uq_words.specs.declared.lines.Step.{Step}
use Rattle.uq_words.specs.declared.lines.Step.TheVariants.{Line, Last, TooMuch}
use Rattle.uq_shell.specs.Asks.{Asking, Closes, FindsNext, IsCut, IsPart, Leads, asked_in, asking_of, fault_of}
use Rattle.uq_shell.specs.Carries.{CarriedBy, Carries, DrawsBy, IsCutOff, IsReadWhole, OfTaken}
use Rattle.uq_shell.specs.Events.{Event}
use Rattle.uq_shell.specs.Followed.{RecoversIn}
use Rattle.uq_shell.specs.Obeys.{MovesOn, at_start, most_at_once}
use Rattle.uq_shell.specs.Reached.{CutShort, IsTold, Reached, Stands, is_of_command}
use Rattle.uq_shell.specs.Replies.{stop_by_input}
use Rattle.uq_shell.specs.Run.{Outcome, commit_at_end}
use Rattle.uq_shell.specs.Statuses.{is_early}
use Rattle.uq_shell.specs.Stream.{State, at_end, cut_off, listening, run_from, start}
use Rattle.uq_shell.specs.Verdicts.{IsRight, Judge}
use Rattle.uq_shell.specs.declared.asking.Ask.{Ask}
use Rattle.uq_shell.specs.declared.asking.Next.TheVariants as asks
use Rattle.uq_shell.specs.declared.progress.Progress.{Progress}
use Rattle.uq_shell.specs.declared.progress.Stop.{Stop}
use Rattle.uq_shell.specs.declared.progress.Stop.TheVariants.{At}
use Rattle.uq_shell.specs.declared.status.Status.{Status}
use Rattle.uq_shell.specs.declared.status.Status.TheVariants.{Disk, Stream, NotDatabase, TooMuchInput}
use Rattle.uq_shell.specs.declared.terms.Terms.{Terms}
use Rattle.uq_shell.proofs.Alike.{alike_here}
use Rattle.uq_shell.proofs.Extending.{Extends, run_extends}
use Rattle.uq_shell.proofs.Lines.{grows_nothing}
use Rattle.uq_shell.proofs.Moving.{cut_more, reached_cut}
use Rattle.uq_shell.proofs.Standing.{stands_cut}
use Rattle.uq_shell.proofs.Stopping.{command_run, never, no_more_input, within_run}

-- ---- at the start

module _ {D O : Type 0} (g : disk.Ghosts D) (o : sink.Ghosts O) (laws : Laws g) where
  pub reached_start : (entry : Stored) (at : Progress) (place : Option (List ℕ)) (kv : Kv D g) (out : O) → at ≡ at_start → place ≡ None → Tells g kv (opened entry) → Reached g o entry (start entry) at place (disk_of g kv).now kv out out
  reached_start entry at place kv out begins unset tells =
      let holds = holds_saved g kv (opened entry) tells in
      subst (λ (it : Progress). Reached g o entry (start entry) it place (disk_of g kv).now kv out out) (sym begins) (record {
        done = refl;
        last = refl;
        refused = refl;
        units = refl;
        tells = tells;
        cursor = unset;
        saved = refl;
        written = grows_nothing (o.written out);
        quiet = refl;
        stop = started g (RecoversIn entry []) laws.only_now (disk_of g kv).now (λ files may. record {
          stored = entry;
          saved = refl;
          recovers = subst (RecoversTo entry) (sym (holds.settled files may)) holds.recovers;
        });
      })

  pub stands_start : (at : Progress) (kv : Kv D g) (out : O) → at ≡ at_start → is_begun_of g kv ≡ false → Stands g o at (disk_of g kv).now kv out out
  stands_start at kv out begins idle =
      subst (λ (it : Progress). Stands g o it (disk_of g kv).now kv out out) (sym begins) (record {
        later = omega arith;
        quiet = refl;
        replies = [];
        written = grows_nothing (o.written out);
        ends = refl;
        idle = λ _. idle;
        kept = λ _. alike_here g laws (disk_of g kv).now;
      })

-- ---- behind some lines

-- The lines at the front of the input have led to this state, from which the run over all of it goes on with what is left.
pub record Passed {D I O : Type 0} (g : disk.Ghosts D) (i : source.Ghosts I) (o : sink.Ghosts O) (judge : Judge) (terms : Terms) (entry : Stored) (most : ℕ) (bytes : List ℕ) (at : Progress) (place : Option (List ℕ)) (disk_first : D) (kv : Kv D g) (x0 x : O)
    (it : Lines) (input : I) : Type 0 where
  pub state : State
  pub reached : Reached g o entry state at place disk_first kv x0 x
  pub consumed : List ℕ
  pub left : List ℕ
  pub split : bytes ≡ consumed ++ left
  pub there : left_of i it input ≡ Some left
  pub count : most ≡ length consumed + most_of it
  pub heard : (m : ℕ) (tail : List ℕ)
      → run_from judge terms (listening (start entry)) (length consumed + m) (consumed ++ tail) ≡ run_from judge terms (listening state) m tail

module _ {D I O : Type 0} (g : disk.Ghosts D) (i : source.Ghosts I) (o : sink.Ghosts O) (judge : Judge) (terms : Terms) (entry : Stored) (most : ℕ) (bytes : List ℕ) (at : Progress) (place : Option (List ℕ)) (disk_first : D) (kv : Kv D g) (x0 x : O)
    (it : Lines) (input : I) where
  -- no line was taken yet
  pub passed_start : Reached g o entry (start entry) at place disk_first kv x0 x → pending it ≡ [] → room_of it ≡ most → i.left input ≡ Some bytes
      → Passed g i o judge terms entry most bytes at place disk_first kv x0 x it input
  passed_start reached none room there = record {
    state = start entry;
    reached = reached;
    consumed = [];
    left = bytes;
    split = refl;
    there = ap (λ (l : Option (List ℕ)). option_map (λ rest. pending it ++ rest) l) there ∙ ap (λ (w : List ℕ). Some (w ++ bytes)) none;
    count = let empty : length (pending it) ≡ 0 = ap length none in omega arith;
    heard = λ m tail. ap (λ (n : ℕ). run_from judge terms (listening (start entry)) n tail) (zero-add m);
  }

  module _ (passed : Passed g i o judge terms entry most bytes at place disk_first kv x0 x it input) where
    -- the whole run, as it goes on from here
    pub run_is : run_from judge terms (listening (start entry)) most bytes ≡ run_from judge terms (listening passed.state) (most_of it) passed.left
    run_is =
        ap (λ (n : ℕ). run_from judge terms (listening (start entry)) n bytes) passed.count ∙ ap (λ (w : List ℕ). run_from judge terms (listening (start entry)) (length passed.consumed + most_of it) w) passed.split
        ∙ passed.heard (most_of it) passed.left

    -- a run that ends here is part of it
    pub cut_here : (status : Status) → CutShort g o entry (run_from judge terms (listening (start entry)) most bytes).events (At status) at disk_first kv x0 x
    cut_here status =
        let more : Extends passed.state (run_from judge terms (listening passed.state) (most_of it) passed.left).events = run_extends judge terms (listening passed.state) (most_of it) passed.left in
        let all : (run_from judge terms (listening (start entry)) most bytes).events ≡ passed.state.events ++ more.0 = ap (λ (r : Outcome). r.events) run_is ∙ more.1 in
        subst (λ (l : List Event). CutShort g o entry l (At status) at disk_first kv x0 x) (sym all)
        (cut_more g o entry passed.state.events more.0 (At status) at disk_first kv x0 x (reached_cut g o entry passed.state at place disk_first kv x0 x status passed.reached))

    -- more input is left than is read
    pub much_here : IsCut listening (most_of it) passed.left
        → ((run_from judge terms (listening (start entry)) most bytes).status ≡ TooMuchInput) × (at.done ≡ length (run_from judge terms (listening (start entry)) most bytes).events)
        × (at.meter ≡ (run_from judge terms (listening (start entry)) most bytes).units)
    much_here is =
        let same : run_from judge terms (listening (start entry)) most bytes ≡ cut_off passed.state = run_is ∙ is judge terms passed.state in (
          ap (λ (r : Outcome). r.status) same,
          sym (passed.reached.done) ∙ sym (ap (λ (r : Outcome). length r.events) same),
          sym (passed.reached.units) ∙ sym (ap (λ (r : Outcome). r.units) same),
        )

    -- the source failed behind part of a line
    pub part_here : (in_new : I) (behind : List ℕ) → i.left in_new ≡ Some behind → IsPart listening passed.left behind
        → OfTaken i bytes in_new (λ taken. at.done ≡ length (run_from judge terms (listening (start entry)) (length taken) taken).events)
    part_here in_new behind there is =
        let both : length (passed.consumed ++ is.part) ≡ length passed.consumed + length is.part = length-append passed.consumed is.part in
        let same : run_from judge terms (listening (start entry)) (length (passed.consumed ++ is.part)) (passed.consumed ++ is.part) ≡ cut_off passed.state
        = ap (λ (n : ℕ). run_from judge terms (listening (start entry)) n (passed.consumed ++ is.part)) both ∙ passed.heard (length is.part) is.part
        ∙ is.cut judge terms passed.state in (
          passed.consumed ++ is.part,
          behind,
          passed.split ∙ ap (λ (w : List ℕ). passed.consumed ++ w) is.split ∙ sym (append_assoc passed.consumed is.part behind),
          there,
          sym passed.reached.done ∙ sym (ap (λ (r : Outcome). length r.events) same),
        )

    -- ---- something is asked for, and more may follow

    module _ (asking : Asking) (most_behind : ℕ) (behind : List ℕ) (is : Leads listening asking (most_of it) passed.left most_behind behind) where
      pub passed_on : (at_new : Progress) (place_new : Option (List ℕ)) (new : Kv D g) (z : O) (next : Lines) (in_new : I) → left_of i next in_new ≡ Some behind → most_of next ≡ most_behind
          → Reached g o entry (asked_in judge terms passed.state asking) at_new place_new disk_first new x0 z → Passed g i o judge terms entry most bytes at_new place_new disk_first new x0 z next in_new
      passed_on at_new place_new new z next in_new there same reached =
          let both : length (passed.consumed ++ is.consumed) ≡ length passed.consumed + length is.consumed = length-append passed.consumed is.consumed in
          let before = passed.count in
          let here = is.count in
          record {
            state = asked_in judge terms passed.state asking;
            reached = reached;
            consumed = passed.consumed ++ is.consumed;
            left = behind;
            split = passed.split ∙ ap (λ (w : List ℕ). passed.consumed ++ w) is.split ∙ sym (append_assoc passed.consumed is.consumed behind);
            there = there;
            count = omega arith;
            heard = λ m tail.
                ap (λ (n : ℕ). run_from judge terms (listening (start entry)) n ((passed.consumed ++ is.consumed) ++ tail))
                (let e : length (passed.consumed ++ is.consumed) + m ≡ length passed.consumed + (length is.consumed + m) = omega arith in e)
                ∙ ap (λ (w : List ℕ). run_from judge terms (listening (start entry)) (length passed.consumed + (length is.consumed + m)) w) (append_assoc passed.consumed is.consumed tail)
                ∙ passed.heard (length is.consumed + m) (is.consumed ++ tail)
                ∙ is.leads judge terms passed.state m tail;
          }

      -- the run is cut short within it
      pub cut_more_here : (stop : Stop) (at_new : Progress) (new : Kv D g) (z : O) → CutShort g o entry (asked_in judge terms passed.state asking).events stop at_new disk_first new x0 z
          → CutShort g o entry (run_from judge terms (listening (start entry)) most bytes).events stop at_new disk_first new x0 z
      cut_more_here stop at_new new z cut =
          let next : State = asked_in judge terms passed.state asking in
          let same : run_from judge terms (listening (start entry)) most bytes ≡ run_from judge terms (listening next) most_behind behind
          = ap (λ (n : ℕ). run_from judge terms (listening (start entry)) n bytes) passed.count ∙ ap (λ (w : List ℕ). run_from judge terms (listening (start entry)) (length passed.consumed + most_of it) w) passed.split
          ∙ passed.heard (most_of it) passed.left
          ∙ ap (λ (n : ℕ). run_from judge terms (listening passed.state) n passed.left) is.count ∙ ap (λ (w : List ℕ). run_from judge terms (listening passed.state) (length is.consumed + most_behind) w) is.split
          ∙ is.leads judge terms passed.state most_behind behind in
          let more : Extends next (run_from judge terms (listening next) most_behind behind).events = run_extends judge terms (listening next) most_behind behind in
          let all : (run_from judge terms (listening (start entry)) most bytes).events ≡ next.events ++ more.0 = ap (λ (r : Outcome). r.events) same ∙ more.1 in
          subst (λ (l : List Event). CutShort g o entry l stop at_new disk_first new x0 z) (sym all)
          (cut_more g o entry next.events more.0 stop at_new disk_first new x0 z cut)

    -- ---- the last that is asked for

    module _ (asking : Asking) (is : Closes listening asking (most_of it) passed.left) where
      last_run : run_from judge terms (listening (start entry)) most bytes ≡ at_end (asked_in judge terms passed.state asking)
      last_run = run_is ∙ is judge terms passed.state

      pub carried_last : (at_new : Progress) (place_new : Option (List ℕ)) (new : Kv D g) (z : O) → Reached g o entry (asked_in judge terms passed.state asking) at_new place_new disk_first new x0 z
          → (state : State) × (place : Option (List ℕ)) × Reached g o entry state at_new place disk_first new x0 z × (at_end state ≡ run_from judge terms (listening (start entry)) most bytes)
      carried_last at_new place_new new z reached = (asked_in judge terms passed.state asking, place_new, reached, sym last_run)

      pub cut_last : (stop : Stop) (at_new : Progress) (new : Kv D g) (z : O) → CutShort g o entry (asked_in judge terms passed.state asking).events stop at_new disk_first new x0 z
          → CutShort g o entry (run_from judge terms (listening (start entry)) most bytes).events stop at_new disk_first new x0 z
      cut_last stop at_new new z cut =
          let next : State = asked_in judge terms passed.state asking in
          subst (λ (r : Outcome). CutShort g o entry r.events stop at_new disk_first new x0 z) (sym last_run)
          (cut_more g o entry next.events (commit_at_end next.desk.session) stop at_new disk_first new x0 z cut)

-- ---- what is taken of the input

-- what is taken in two runs of takes
took_on : (a b x y z : ℕ) → Took a x y → Took b y z → Took (a + b) x z
took_on a b x y z (inl first) (inl second) = inl (omega (arith, first.0, second.0), second.1 ∙ first.1)
took_on a b x y z (inl first) (inr second) =
    let none = first.0 in
    let same = first.1 in
    inr (let e : z ≡ min (x + (a + b)) (2 ^ 64 - 1) = omega arith in e)
took_on a b x y z (inr first) (inl second) =
    let none = second.0 in
    let same = second.1 in
    inr (let e : z ≡ min (x + (a + b)) (2 ^ 64 - 1) = omega arith in e)
took_on a b x y z (inr first) (inr second) = inr (let e : z ≡ min (x + (a + b)) (2 ^ 64 - 1) = omega arith in e)

module _ {I : Type 0} (i : source.Ghosts I) (old mid new : Lines) (in_old in_mid in_new : I) (going : Going i old in_old mid in_mid) where
  pub taken_on : (result : Result Step InputFault) → Takes i result mid in_mid new in_new → Took (room_of old - room_of new) (i.taken in_old) (i.taken in_new)
  taken_on result takes =
      let first = going.room in
      let second = takes.room in
      let count : room_of old - room_of mid + (room_of mid - room_of new) ≡ room_of old - room_of new = omega arith in
      subst (λ (n : ℕ). Took n (i.taken in_old) (i.taken in_new)) count (took_on (room_of old - room_of mid) (room_of mid - room_of new) _ _ _ going.taken takes.taken)

  pub fresh_on : IsNotEnded i old in_old mid in_mid → IsNotEnded i mid in_mid new in_new → IsNotEnded i old in_old new in_new
  fresh_on first (inr open_still) = inr open_still
  fresh_on (inl same) (inl still) = inl (still.0 ∙ same.0, still.1 ∙ same.1)
  fresh_on (inr open_still) (inl still) = inr (ap (λ (it : I). i.ended it) still.1 ∙ open_still)

  pub going_line : Takes i (Ok Line) mid in_mid new in_new → Going i old in_old new in_new
  going_line takes =
      let first = going.room in
      let second = takes.room in
      record {
        faults = takes.cause.quiet (λ is. cc) ∙ going.faults;
        room = omega arith;
        taken = taken_on (Ok Line) takes;
        fresh = fresh_on going.fresh (takes.not_last (inl refl));
      }

  -- all of the bytes that may be taken were, of which there is one at least, and the end was not told
  pub cut_off_here : (most : ℕ) → room_of old ≡ most → 1 ≤ most → Takes i (Ok TooMuch) mid in_mid new in_new → IsCutOff i most in_old in_new
  cut_off_here most all some takes =
      let none : room_of new ≡ 0 = takes.too_much refl in
      let count : room_of old - room_of new ≡ most = omega arith in
      record {
        taken = subst (λ (n : ℕ). Took n (i.taken in_old) (i.taken in_new)) count (taken_on (Ok TooMuch) takes);
        not_ended = λ ended. untold ended (fresh_on going.fresh (takes.not_last (inr refl)));
      }
    where
      untold : i.ended in_new ≡ true → IsNotEnded i old in_old new in_new → ⊥
      untold ended (inr no_end) = let both : true ≡ false = sym ended ∙ no_end in cc
      untold ended (inl same) =
          let none : room_of new ≡ 0 = takes.too_much refl in
          let room = same.0 in
          absurd (omega arith)

  -- the faults of the source in all
  pub later_on : (result : Result Step InputFault) → Takes i result mid in_mid new in_new → i.faults in_old ≤ i.faults in_new
  later_on result takes =
      let quiet = going.faults in
      let later = takes.cause.later in
      omega arith

  pub source_on : Takes i (Err Source) mid in_mid new in_new → Rose (i.faults in_old) (i.faults in_new)
  source_on takes = let quiet = going.faults in rw (← quiet) (takes.cause.failed refl)

  -- a fault of the input ended it
  pub draws_stop : (most : ℕ) (fault : InputFault) (stop : Stop) → stop ≡ stop_by_input fault → Takes i (Err (fault_of stop)) mid in_mid new in_new → DrawsBy i most in_old in_new (Err stop)
  draws_stop most fault stop is takes = record {
    later = later_on (Err (fault_of stop)) takes;
    whole = tt;
    source = λ failed. let same : stop ≡ At Stream = cc in source_on (subst (λ (s : Stop). Takes i (Err (fault_of s)) mid in_mid new in_new) same takes);
    too_much = λ failed. let same : stop ≡ At TooMuchInput = cc in absurd (no_much fault (sym is ∙ same));
  }
    where
      no_much : (fault : InputFault) → stop_by_input fault ≡ At TooMuchInput → ⊥
      no_much Source is = cc
      no_much Memory is = cc

  -- what was asked for stopped it
  pub draws_cut : (most : ℕ) (stop : Stop) → IsTrue (is_of_command stop) → Takes i (Ok Line) mid in_mid new in_new → DrawsBy i most in_old in_new (Err stop)
  draws_cut most stop within takes =
      let result : Result (Unit {0}) Stop = Err stop in
      record {
        later = later_on (Ok Line) takes;
        whole = tt;
        source = λ failed. absurd (let never_so : is_of_command (At Stream) ≡ true = never result (At Stream) within failed in cc);
        too_much = λ failed. absurd (let never_so : is_of_command (At TooMuchInput) ≡ true = never result (At TooMuchInput) within failed in cc);
      }

  -- more is left than is read
  pub draws_much : (most : ℕ) (nothing : pending old ≡ []) (room : room_of old ≡ most) → 1 ≤ most → Takes i (Ok TooMuch) mid in_mid new in_new → DrawsBy i most in_old in_new (Err (At TooMuchInput))
  draws_much most nothing room some takes = record {
    later = later_on (Ok TooMuch) takes;
    whole = tt;
    source = λ failed. absurd (cc);
    too_much = λ _. cut_off_here most room some takes;
  }

-- nothing is left behind the last line
pub none_left : (front : List ℕ) (left : Option (List ℕ)) (behind : List ℕ) → option_map (λ rest. front ++ rest) left ≡ Some behind → behind ≡ [] → left ≡ Some []
none_left front None behind is none = absurd (cc)
none_left front (Some rest) behind is none = ap (λ (w : List ℕ). Some w) (empty front rest (let e : front ++ rest ≡ behind = cc in e ∙ none))
  where
    empty : (a b : List ℕ) → a ++ b ≡ [] → b ≡ []
    empty [] b is = is
    empty (x ∷ a) b is = absurd (cc)

-- no take yet
pub going_start : {I : Type 0} (i : source.Ghosts I) (it : Lines) (input : I) → Going i it input it input
going_start i it input = record { faults = refl; room = omega arith; taken = inl (omega arith, refl); fresh = inl (refl, refl) }

-- ---- how far the reading has come, and how it ends

module _ {D I O : Type 0} (g : disk.Ghosts D) (i : source.Ghosts I) (o : sink.Ghosts O) (terms : Terms) (most : ℕ) (first : Kv D g) (in_first : I) (x0 : O) (at : Progress) (place : Option (List ℕ)) (kv : Kv D g) (x : O) (it : Lines) (input : I)
    (same_reference : (disk_of g kv).ghost_name ≡ (disk_of g first).ghost_name) (stands : Stands g o at (disk_of g first).now kv x0 x)
    (tells : IsTold g o first → IsTold g o kv)
    (told : (judge : Judge) → IsRight judge → (entry : Stored) (bytes : List ℕ) → Tells g first (opened entry) → i.left in_first ≡ Some bytes
    → Passed g i o judge terms entry most bytes at place (disk_of g first).now kv x0 x it input) where
  abbrev reads : List ℕ → Type 0
  reads bytes = i.left in_first ≡ Some bytes

  abbrev run : Judge → Stored → List ℕ → Outcome
  run judge entry bytes = run_from judge terms (listening (start entry)) most bytes

  -- it ends here with a status
  pub carries_here : (status : Status) → IsTrue (is_early status) → (status ≡ Disk → ⊥) → (status ≡ NotDatabase → ⊥)
      → ((judge : Judge) → IsRight judge → (entry : Stored) (bytes : List ℕ) → Tells g first (opened entry) → reads bytes → status ≡ TooMuchInput
      → ((run judge entry bytes).status ≡ TooMuchInput) × (at.done ≡ length (run judge entry bytes).events) × (at.meter ≡ (run judge entry bytes).units))
      → Carries g o reads run at first kv x0 x (Err (At status))
  carries_here status early other another much = record {
    same_reference = same_reference;
    unclosed = tt;
    few = tt;
    within = early;
    stands = stands_cut g o at (disk_of g first).now kv x0 x status stands other;
    not_database = λ is. absurd (another (cc));
    told = λ judge right entry bytes tells there. (
      cut_here g i o judge terms entry most bytes at place (disk_of g first).now kv x0 x it input (told judge right entry bytes tells there) status,
      λ is. much judge right entry bytes tells there (cc),
    );
  }

  module _ (next_at : Progress) (next_place : Option (List ℕ)) (new : Kv D g) (z : O) (next : Lines) (in_new : I) (ask : Ask) (text : Option (List ℕ)) (text_is : text ≡ text_of next) where
    abbrev step : Judge → State → State
    step judge state = asked_in judge terms state (asking_of ask text)

    abbrev asking : Asking
    asking = asking_of ask (text_of next)

    -- the states are those of what was taken
    step_is : (judge : Judge) (state : State) → step judge state ≡ asked_in judge terms state asking
    step_is judge state = ap (λ (t : Option (List ℕ)). asked_in judge terms state (asking_of ask t)) text_is

    -- ---- more may follow

    module _ (found : FindsNext i (Ok (asks.More ask)) (left_of i it input) (most_of it) next in_new) where
      abbrev More_at : List ℕ → List ℕ → Type 0
      More_at before behind = Leads listening asking (most_of it) before (most_of next) behind

      more_here : (left : List ℕ) → left_of i it input ≡ Some left → (behind : List ℕ) × (left_of i next in_new ≡ Some behind) × More_at left behind
      more_here left there =
          told_some More_at left (left_of i next in_new) (subst (λ (l : Option (List ℕ)). Told More_at l (left_of i next in_new)) there found)

      -- it goes on
      pub told_more : (done : Unit {0}) → MovesOn g o step at next_at place next_place kv new x z (Ok done)
          → (judge : Judge) → IsRight judge → (entry : Stored) (bytes : List ℕ) → Tells g first (opened entry) → reads bytes
          → Passed g i o judge terms entry most bytes next_at next_place (disk_of g first).now new x0 z next in_new
      told_more done moves judge right entry bytes tells there =
          let passed = told judge right entry bytes tells there in
          let more = more_here passed.left passed.there in
          passed_on g i o judge terms entry most bytes at place (disk_of g first).now kv x0 x it input passed asking (most_of next) more.0 more.2 next_at next_place new z next in_new more.1 refl
          (subst (λ (s : State). Reached g o entry s next_at next_place (disk_of g first).now new x0 z) (step_is judge passed.state)
          (moves.reached judge right entry passed.state (disk_of g first).now x0 passed.reached))

      -- the run is cut short within it
      pub carries_cut : (stop : Stop) → MovesOn g o step at next_at place next_place kv new x z (Err stop) → Carries g o reads run next_at first new x0 z (Err stop)
      carries_cut stop moves = record {
        same_reference = moves.same_reference ∙ same_reference;
        unclosed = tt;
        few = tt;
        within = command_run stop moves.within;
        stands = moves.stands (disk_of g first).now x0 stands;
        not_database = λ is it_told. moves.not_database is (tells it_told);
        told = λ judge right entry bytes it_tells there.
            let passed = told judge right entry bytes it_tells there in
            let more = more_here passed.left passed.there in (
              cut_more_here g i o judge terms entry most bytes at place (disk_of g first).now kv x0 x it input passed asking (most_of next) more.0 more.2 stop next_at new z
                  (subst (λ (s : State). CutShort g o entry s.events stop next_at (disk_of g first).now new x0 z) (step_is judge passed.state)
                  (moves.reached judge right entry passed.state (disk_of g first).now x0 passed.reached)),
              λ is. absurd (no_more_input stop moves.within is),
            );
      }

    -- ---- nothing follows

    module _ (found : FindsNext i (Ok (asks.Last ask)) (left_of i it input) (most_of it) next in_new) where
      abbrev Last_at : List ℕ → List ℕ → Type 0
      Last_at before behind = Closes listening asking (most_of it) before × (behind ≡ [])

      last_here : (left : List ℕ) → left_of i it input ≡ Some left → (behind : List ℕ) × (left_of i next in_new ≡ Some behind) × Last_at left behind
      last_here left there =
          told_some Last_at left (left_of i next in_new) (subst (λ (l : Option (List ℕ)). Told Last_at l (left_of i next in_new)) there found)

      last_told : (result : Result (Unit {0}) Stop) → MovesOn g o step at next_at place next_place kv new x z result
          → (judge : Judge) → IsRight judge → (entry : Stored) (bytes : List ℕ) → Tells g first (opened entry) → reads bytes
          → CarriedBy g o result entry (run judge entry bytes) next_at (disk_of g first).now new x0 z
      last_told (Ok done) moves judge right entry bytes it_tells there =
          let passed = told judge right entry bytes it_tells there in
          let last = last_here passed.left passed.there in
          carried_last g i o judge terms entry most bytes at place (disk_of g first).now kv x0 x it input passed asking last.2.0 next_at next_place new z
          (subst (λ (s : State). Reached g o entry s next_at next_place (disk_of g first).now new x0 z) (step_is judge passed.state)
          (moves.reached judge right entry passed.state (disk_of g first).now x0 passed.reached))
      last_told (Err stop) moves judge right entry bytes it_tells there =
          let passed = told judge right entry bytes it_tells there in
          let last = last_here passed.left passed.there in (
            cut_last g i o judge terms entry most bytes at place (disk_of g first).now kv x0 x it input passed asking last.2.0 stop next_at new z
                (subst (λ (s : State). CutShort g o entry s.events stop next_at (disk_of g first).now new x0 z) (step_is judge passed.state)
                (moves.reached judge right entry passed.state (disk_of g first).now x0 passed.reached)),
            λ is. absurd (no_more_input stop moves.within is),
          )

      pub carries_last : (result : Result (Unit {0}) Stop) → at.done + most_at_once < 2 ^ 120 → MovesOn g o step at next_at place next_place kv new x z result → Carries g o reads run next_at first new x0 z result
      carries_last result few moves = record {
        same_reference = moves.same_reference ∙ same_reference;
        unclosed = moves.unclosed;
        few = few_last result moves.few;
        within = within_run result moves.within;
        stands = moves.stands (disk_of g first).now x0 stands;
        not_database = λ is it_told. moves.not_database is (tells it_told);
        told = last_told result moves;
      }
        where
          few_last : (result : Result (Unit {0}) Stop) → OnOk result (next_at.done ≤ at.done + most_at_once) → OnOk result (next_at.done < 2 ^ 120)
          few_last (Ok done) less = omega arith
          few_last (Err stop) less = tt

  -- the source fails behind a part in which nothing is complete
  pub behind_here : (in_new : I) → Told (IsPart listening) (left_of i it input) (i.left in_new)
      → (judge : Judge) → IsRight judge → (entry : Stored) (bytes : List ℕ) → Tells g first (opened entry) → reads bytes
      → OfTaken i bytes in_new (λ taken. at.done ≡ length (run_from judge terms (listening (start entry)) (length taken) taken).events)
  behind_here in_new found judge right entry bytes it_tells there =
      let passed = told judge right entry bytes it_tells there in
      let part = told_some (IsPart listening) passed.left (i.left in_new) (subst (λ (l : Option (List ℕ)). Told (IsPart listening) l (i.left in_new)) passed.there found) in
      part_here g i o judge terms entry most bytes at place (disk_of g first).now kv x0 x it input passed in_new part.0 part.1 part.2

-- ---- what is left of the input

module _ {I : Type 0} (i : source.Ghosts I) (first it next : Lines) (in_first input in_new : I) (going : Going i first in_first it input)
    (left : (bytes : List ℕ) → i.left in_first ≡ Some bytes → (rest : List ℕ) × (left_of i it input ≡ Some rest)) where
  module _ (ask : Ask) where
    abbrev Leads_at : List ℕ → List ℕ → Type 0
    Leads_at before behind = Leads listening (asking_of ask (text_of next)) (most_of it) before (most_of next) behind

    pub left_on : FindsNext i (Ok (asks.More ask)) (left_of i it input) (most_of it) next in_new → (bytes : List ℕ) → i.left in_first ≡ Some bytes → (rest : List ℕ) × (left_of i next in_new ≡ Some rest)
    left_on found bytes there =
        let here = left bytes there in
        let after_it = told_some Leads_at here.0 (left_of i next in_new) (subst (λ (l : Option (List ℕ)). Told Leads_at l (left_of i next in_new)) here.1 found) in
        (after_it.0, after_it.1)

    abbrev Closes_at : List ℕ → List ℕ → Type 0
    Closes_at before behind = Closes listening (asking_of ask (text_of next)) (most_of it) before × (behind ≡ [])

    pub read_whole : FindsNext i (Ok (asks.Last ask)) (left_of i it input) (most_of it) next in_new → Takes i (Ok Last) it input next in_new → IsReadWhole i in_first in_new
    read_whole found takes = record {
      ended = takes.last refl;
      left = λ bytes there.
          let here = left bytes there in
          let after_it = told_some Closes_at here.0 (left_of i next in_new) (subst (λ (l : Option (List ℕ)). Told Closes_at l (left_of i next in_new)) here.1 found) in
          none_left (pending next) (i.left in_new) after_it.0 after_it.1 after_it.2.1;
    }

    pub draws_last : (most : ℕ) (result : Result (Unit {0}) Stop) → IfErr result (λ stop. IsTrue (is_of_command stop)) → FindsNext i (Ok (asks.Last ask)) (left_of i it input) (most_of it) next in_new
        → Takes i (Ok Last) it input next in_new → DrawsBy i most in_first in_new result
    draws_last most result within found takes = record {
      later = later_on i first it next in_first input in_new going (Ok Last) takes;
      whole = on_ok result;
      source = λ failed. absurd (let no : is_of_command (At Stream) ≡ true = never result (At Stream) within failed in cc);
      too_much = λ failed. absurd (let no : is_of_command (At TooMuchInput) ≡ true = never result (At TooMuchInput) within failed in cc);
    }
      where
        on_ok : (result : Result (Unit {0}) Stop) → OnOk result (IsReadWhole i in_first in_new)
        on_ok (Ok done) = read_whole found takes
        on_ok (Err stop) = tt
