-- A run that is one script, or that does nothing.
use Rattle.std.proofs.Common.{◌≡◌, ◌⊎◌, ◌≤◌, ◌<◌, ℕ, ◌+◌, ◌^◌, Bool, true, false, ltb, if◌then◌else◌, List, [], ◌∷◌, ◌++◌, length, take, Option, Some, None, Result, Ok, Err, inl, inr, refl, sym, ap, subst, ◌∙◌, arith, length-append}
use Rattle.std.proofs.lemmas.List.{take_all}
use Rattle.std.specs.Option.{ForSome}
use Rattle.std.specs.Prelude.{IfErr, IfOk, IsTrue, OnOk}
use Rattle.uq_outside.specs.declared.disk.Disk as disk
use Rattle.uq_outside.specs.declared.sink.Sink as sink
use Rattle.uq_outside.specs.declared.source.Source as source
use Rattle.uq_outside.specs.Since.{Laws}
use Rattle.uq_outside.specs.SinceLaws.{told_some}
use Rattle.uq_outside.specs.Stops.{Told}
use Rattle.uq_model.specs.Session.{opened}
use Rattle.uq_kv.specs.Kv.{Tells, disk_of, is_begun_of}
use Rattle.uq_kv.specs.Stored.{Stored}
use Rattle.uq_kv.specs.declared.kv.Kv.{Kv}
use Rattle.uq_value.specs.Data.{Bytes}
use Rattle.uq_words.specs.Blocks.{Complete, IsScriptPart, IsWhole, Overlong, Unended, Whole, is_ended, longest_script, whole}
use Rattle.uq_words.specs.TakingBlocks.{FindsScript, TakesScript, whole_of}
use Rattle.uq_words.specs.declared.error.InputFault.{InputFault}
use Rattle.uq_words.specs.declared.error.InputFault.TheVariants.{Source, Memory}
use Rattle.uq_words.specs.declared.script.Script.{Script}
use Rattle.uq_words.specs.declared.script.Script.TheVariants as script
use Rattle.uq_shell.specs.Carries.{CarriedBy, Carries, DrawsScript, IsCutOff, IsReadWhole, IsTooLong, OfTaken, StopsBehind}
use Rattle.uq_shell.specs.Obeys.{MovesOn, at_start}
use Rattle.uq_shell.specs.Reached.{CutShort, is_of_command}
use Rattle.uq_shell.specs.Replies.{stop_by_input}
use Rattle.uq_shell.specs.Run.{Outcome}
use Rattle.uq_shell.specs.Statuses.{is_early}
use Rattle.uq_shell.specs.Stream.{State, at_end, cut_off, run_whole, script_in, start}
use Rattle.uq_shell.specs.Verdicts.{IsRight, Judge}
use Rattle.uq_shell.specs.declared.progress.Progress.{Progress}
use Rattle.uq_shell.specs.declared.progress.Stop.{Stop}
use Rattle.uq_shell.specs.declared.progress.Stop.TheVariants.{At, Sink}
use Rattle.uq_shell.specs.declared.status.Status.{Status}
use Rattle.uq_shell.specs.declared.status.Status.TheVariants.{Disk, Stream, NotDatabase, TooMuchInput}
use Rattle.uq_shell.specs.declared.terms.Terms.{Terms}
use Rattle.uq_shell.specs.Events.{Event}
use Rattle.uq_shell.proofs.Extending.{Extends, whole_extends}
use Rattle.uq_shell.proofs.Inputs.{reached_start, stands_start}
use Rattle.uq_shell.proofs.Moving.{cut_more, reached_cut}
use Rattle.uq_shell.proofs.Served.{few_within, told_by}
use Rattle.uq_shell.proofs.Standing.{stands_cut}
use Rattle.uq_shell.proofs.Stopping.{input_disk, input_early, input_much, input_none, never, status_by, stop_is, within_run}

module _ {D I O : Type 0} (g : disk.Ghosts D) (i : source.Ghosts I) (o : sink.Ghosts O) (laws : Laws g) (terms : Terms) (most : ℕ) (reads : List ℕ → Type 0) (run : Judge → Stored → List ℕ → Outcome) (was : Progress)
    (place_old : Option (List ℕ)) (old : Kv D g) (x : O) (begins : was ≡ at_start) (unset : place_old ≡ None) (idle : is_begun_of g old ≡ false) where
  -- one move is all of it
  pub carries_one : (next : Judge → State → State) (now : Progress) (place_new : Option (List ℕ)) (new : Kv D g) (y : O) (result : Result (Unit {0}) Stop)
      → ((judge : Judge) → IsRight judge → (entry : Stored) (bytes : List ℕ) → reads bytes → at_end (next judge (start entry)) ≡ run judge entry bytes)
      → MovesOn g o next was now place_old place_new old new x y result → Carries g o reads run now old new x y result
  carries_one next now place_new new y result same moves = record {
    same_reference = moves.same_reference;
    unclosed = moves.unclosed;
    few = few_within g i o terms most now old new was result begins moves.few;
    within = within_run result moves.within;
    stands = moves.stands (disk_of g old).now x (stands_start g o laws was old x begins idle);
    not_database = moves.not_database;
    told = λ judge right entry bytes tells there.
        subst (λ (r : Outcome). CarriedBy g o result entry r now (disk_of g old).now new x y) (same judge right entry bytes there)
        (told_by g i o terms most now old new result entry (next judge (start entry)) place_new (disk_of g old).now x y
        (moves.reached judge right entry (start entry) (disk_of g old).now x (reached_start g o laws entry was place_old old x begins unset tells)) moves.within);
  }

  -- nothing is done
  pub carries_none : (status : Status) → IsTrue (is_early status) → (status ≡ Disk → ⊥) → (status ≡ NotDatabase → ⊥)
      → ((judge : Judge) (entry : Stored) (bytes : List ℕ) → Extends (start entry) (run judge entry bytes).events)
      → ((judge : Judge) (entry : Stored) (bytes : List ℕ) → reads bytes → status ≡ TooMuchInput → ((run judge entry bytes).status ≡ TooMuchInput) × (0 ≡ length (run judge entry bytes).events) × (0 ≡ (run judge entry bytes).units))
      → Carries g o reads run was old old x x (Err (At status))
  carries_none status early other another extends much = record {
    same_reference = refl;
    unclosed = tt;
    few = tt;
    within = early;
    stands = stands_cut g o was (disk_of g old).now old x x status (stands_start g o laws was old x begins idle) other;
    not_database = λ is. absurd (another (cc));
    told = λ judge right entry bytes tells there.
        let more = extends judge entry bytes in
        let cut = reached_cut g o entry (start entry) was place_old (disk_of g old).now old x x status (reached_start g o laws entry was place_old old x begins unset tells) in (
          subst (λ (l : List Event). CutShort g o entry l (At status) was (disk_of g old).now old x x) (sym more.1) (cut_more g o entry [] more.0 (At status) was (disk_of g old).now old x x cut),
          λ is.
              let all = much judge entry bytes there (cc) in
              (all.0, ap (λ (p : Progress). p.done) begins ∙ all.1, ap (λ (p : Progress). p.meter) begins ∙ all.2),
        );
  }

-- ---- an input that is one script

-- what it is, where that is its text
text_of_whole : (long ends : Bool) (input text : Bytes) → (if long then Overlong else if ends then Complete input else Unended) ≡ Complete text → input ≡ text
text_of_whole true ends input text is = absurd (cc)
text_of_whole false true input text is = cc
text_of_whole false false input text is = absurd (cc)

none_behind : (taken behind : Bytes) → length (taken ++ behind) ≡ length taken → behind ≡ []
none_behind taken [] is = refl
none_behind taken (byte ∷ behind) is = let both = length-append taken (byte ∷ behind) in absurd (omega (arith, both, is))

-- all of it was taken
all_taken : (most : ℕ) (input text behind : Bytes) → IsWhole most input (Complete text) behind → behind ≡ []
all_taken most input text behind is =
    let same : input ≡ text = text_of_whole (ltb longest_script (length (take most input))) (ltb (length input) most) input text is.is in
    let split : length input ≡ length (is.taken ++ behind) = ap length is.split in
    let count : length is.taken ≡ length text = is.count in
    let equal : length input ≡ length text = ap length same in
    none_behind is.taken behind (sym split ∙ equal ∙ sym count)

-- part of it is no script yet
part_unended : (taken : Bytes) → length taken ≤ longest_script → whole (length taken) taken ≡ Unended
part_unended taken short =
    let all : take (length taken) taken ≡ taken = take_all (length taken) taken (omega arith) in
    let few : ltb longest_script (length (take (length taken) taken)) ≡ false = ap (λ (w : Bytes). ltb longest_script (length w)) all ∙ not_less longest_script (length taken) short in
    let ends : ltb (length taken) (length taken) ≡ false = not_less (length taken) (length taken) (omega arith) in
    ap (λ (b : Bool). if b then Overlong else if ltb (length taken) (length taken) then Complete taken else Unended) few ∙ ap (λ (b : Bool). if b then Complete taken else Unended) ends
  where
    not_less : (a b : ℕ) → b ≤ a → ltb a b ≡ false
    not_less a b least = grind arith

module _ {I : Type 0} (i : source.Ghosts I) (most : ℕ) (in_old in_new : I) where
  -- what the input is that tells these bytes
  pub is_whole : (read : Script) (bytes : Bytes) → FindsScript i (Ok read) (i.left in_old) most in_new → i.left in_old ≡ Some bytes → whole most bytes ≡ whole_of read
  is_whole read bytes finds there =
      let At_once : Bytes → Bytes → Type 0 = λ before behind. IsWhole most before (whole_of read) behind in
      (told_some At_once bytes (i.left in_new) (subst (λ (l : Option Bytes). Told At_once l (i.left in_new)) there finds)).2.is

  read_text : (read : Script) (text : Bytes) → whole_of read ≡ Complete text → FindsScript i (Ok read) (i.left in_old) most in_new → TakesScript i (Ok read) most in_old in_new → IsReadWhole i in_old in_new
  read_text read text is finds takes = record {
    ended = takes.shows.ended ∙ ap is_ended is;
    left = λ bytes there.
        let At_once : Bytes → Bytes → Type 0 = λ before behind. IsWhole most before (whole_of read) behind in
        let found = told_some At_once bytes (i.left in_new) (subst (λ (l : Option Bytes). Told At_once l (i.left in_new)) there finds) in
        let it : IsWhole most bytes (Complete text) found.0 = subst (λ (w : Whole). IsWhole most bytes w found.0) is found.2 in
        found.1 ∙ ap (λ (w : Bytes). Some w) (all_taken most bytes text found.0 it);
  }

  pub draws_text : (read : Script) (text : Bytes) (result : Result (Unit {0}) Stop) → whole_of read ≡ Complete text → IfErr result (λ stop. IsTrue (is_of_command stop)) → FindsScript i (Ok read) (i.left in_old) most in_new
      → TakesScript i (Ok read) most in_old in_new → DrawsScript i most in_old in_new result
  draws_text read text result is within finds takes = record {
    later = takes.cause.later;
    whole = on_ok result;
    source = λ failed. absurd (let no : is_of_command (At Stream) ≡ true = never result (At Stream) within failed in cc);
    too_much = λ failed. absurd (let no : is_of_command (At TooMuchInput) ≡ true = never result (At TooMuchInput) within failed in cc);
  }
    where
      on_ok : (result : Result (Unit {0}) Stop) → OnOk result (IsReadWhole i in_old in_new ⊎ IsTooLong i in_old in_new)
      on_ok (Ok done) = inl (read_text read text is finds takes)
      on_ok (Err stop) = tt

  pub draws_long : (result : Result (Unit {0}) Stop) → IfErr result (λ stop. IsTrue (is_of_command stop)) → TakesScript i (Ok script.TooLong) most in_old in_new → DrawsScript i most in_old in_new result
  draws_long result within takes = record {
    later = takes.cause.later;
    whole = on_ok result;
    source = λ failed. absurd (let no : is_of_command (At Stream) ≡ true = never result (At Stream) within failed in cc);
    too_much = λ failed. absurd (let no : is_of_command (At TooMuchInput) ≡ true = never result (At TooMuchInput) within failed in cc);
  }
    where
      on_ok : (result : Result (Unit {0}) Stop) → OnOk result (IsReadWhole i in_old in_new ⊎ IsTooLong i in_old in_new)
      on_ok (Ok done) = inr takes.shows.taken
      on_ok (Err stop) = tt

  pub draws_much : TakesScript i (Ok script.TooMuch) most in_old in_new → DrawsScript i most in_old in_new (Err (At TooMuchInput))
  draws_much takes = record {
    later = takes.cause.later;
    whole = tt;
    source = λ failed. absurd (cc);
    too_much = λ _. record { taken = takes.shows.taken; not_ended = λ is. let both : true ≡ false = sym is ∙ takes.shows.ended in cc };
  }

  pub draws_fault : (fault : InputFault) → TakesScript i (Err fault) most in_old in_new → DrawsScript i most in_old in_new (Err (At (status_by fault)))
  draws_fault fault takes = record {
    later = takes.cause.later;
    whole = tt;
    source = λ failed. takes.cause.failed (ap Err (source_is fault (let same : status_by fault ≡ Stream = cc in same)));
    too_much = λ failed. absurd (input_much fault (let same : status_by fault ≡ TooMuchInput = cc in same));
  }
    where
      source_is : (fault : InputFault) → status_by fault ≡ Stream → fault ≡ Source
      source_is Source is = refl
      source_is Memory is = absurd (cc)

  -- part of it was taken, and nothing is done
  pub part_taken : (fault : InputFault) (judge : Judge) (terms : Terms) (entry : Stored) (bytes : Bytes) → FindsScript i (Err fault) (i.left in_old) most in_new → i.left in_old ≡ Some bytes
      → OfTaken i bytes in_new (λ taken. 0 ≡ length (run_whole judge terms (start entry) (whole (length taken) taken)).events)
  part_taken fault judge terms entry bytes finds there =
      let found = told_some (IsScriptPart most) bytes (i.left in_new) (subst (λ (l : Option Bytes). Told (IsScriptPart most) l (i.left in_new)) there finds) in
      let part = found.2 in (
        part.taken,
        found.0,
        part.split,
        found.1,
        sym (ap (λ (w : Whole). length (run_whole judge terms (start entry) w).events) (part_unended part.taken part.short)),
      )
