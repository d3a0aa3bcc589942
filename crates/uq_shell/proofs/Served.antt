-- A run over an open store: it is carried out, and ends.
use Rattle.std.proofs.Common.{◌≡◌, ◌⊎◌, ◌≤◌, ◌<◌, ℕ, ◌+◌, ◌^◌, Bool, true, false, List, [], ◌∷◌, length, Option, Some, None, Result, Ok, Err, inl, inr, refl, sym, ap, subst, ◌∙◌, arith}
use Rattle.std.specs.Prelude.{IfErr, IsTrue, OnOk}
use Rattle.std.specs.Borrow.{MutBor}
use Rattle.uq_outside.specs.declared.disk.Disk as disk
use Rattle.uq_outside.specs.declared.sink.Sink as sink
use Rattle.uq_outside.specs.declared.source.Source as source
use Rattle.uq_outside.specs.Since.{Laws}
use Rattle.uq_journal.specs.Calls.{IsStill}
use Rattle.uq_model.specs.Session.{opened}
use Rattle.uq_model.specs.declared.limits.Limits.{Limits}
use Rattle.uq_kv.specs.Kv.{Tells, disk_of, is_begun_of, limits_of}
use Rattle.uq_kv.specs.Stored.{Stored}
use Rattle.uq_kv.specs.declared.kv.Kv.{Kv}
use Rattle.uq_words.specs.Blocks.{whole}
use Rattle.uq_shell.specs.Carries.{CarriedBy, Carries, CarriesOut, DrawsBy, DrawsScript, ReadsIn, StopsBehind, reads_input}
use Rattle.uq_shell.specs.Commands.{Request, request}
use Rattle.uq_shell.specs.Ends.{Ends, RunsOver, Settles, Writes}
use Rattle.uq_shell.specs.Followed.{some_line}
use Rattle.uq_shell.specs.Obeys.{MovesOn, PutsNone, ReadsBy, at_start, most_at_once}
use Rattle.uq_shell.specs.Reached.{ReachedBy, is_of_command}
use Rattle.uq_shell.specs.Run.{Outcome, commit_at_end}
use Rattle.uq_shell.specs.Statuses.{is_early, row, status_of}
use Rattle.uq_shell.specs.Stream.{Mode, OfLines, OfScript, OfWords, State, at_end, listening, obeyed_in, run_by, run_from, run_whole, start}
use Rattle.uq_shell.specs.Verdicts.{IsRight, Judge}
use Rattle.uq_shell.specs.declared.ended.Ended.{Ended}
use Rattle.uq_shell.specs.declared.progress.Progress.{Progress}
use Rattle.uq_shell.specs.declared.progress.Stop.{Stop}
use Rattle.uq_shell.specs.declared.progress.Stop.TheVariants.{At, Sink}
use Rattle.uq_shell.specs.declared.status.Status.{Status}
use Rattle.uq_shell.specs.declared.status.Status.TheVariants.{Done, Refused, Disk, Stream, NotDatabase, TooMuchInput}
use Rattle.uq_shell.specs.declared.terms.Terms.{Terms}
use Rattle.uq_shell.proofs.Finishing.{anywhere_at, anywhere_else, anywhere_sink, ends_at, ends_else, ends_sink}
use Rattle.uq_shell.proofs.Inputs.{reached_start, stands_start}
use Rattle.uq_shell.proofs.Moving.{cut_more}
use Rattle.uq_shell.proofs.Stopping.{never, no_more_input, within_run}

-- ---- statuses

-- the input has ended with one of these
abbrev IsSettled : Bool → Status → Type 0
IsSettled is_refusal status = (status ≡ status_of is_refusal) ⊎ (status ≡ Disk)

settled_other : (b : Bool) (status other : Status) → IsSettled b status → status ≡ other → (Done ≡ other → ⊥) → (Refused ≡ other → ⊥) → (Disk ≡ other → ⊥) → ⊥
settled_other true status other (inl is) same done refused failed = refused (sym is ∙ same)
settled_other false status other (inl is) same done refused failed = done (sym is ∙ same)
settled_other b status other (inr is) same done refused failed = failed (sym is ∙ same)

early_done : (status : Status) → IsTrue (is_early status) → (status ≡ Done) ⊎ (status ≡ Refused) → ⊥
early_done status early (inl is) = let early_is : IsTrue (is_early Done) = subst (λ (s : Status). IsTrue (is_early s)) is early in cc
early_done status early (inr is) = let early_is : IsTrue (is_early Refused) = subst (λ (s : Status). IsTrue (is_early s)) is early in cc

-- an input that is read neither by lines nor as a script is not read
not_read : (mode : Mode) → (mode ≡ OfLines → ⊥) → (mode ≡ OfScript → ⊥) → reads_input mode ≡ false
not_read OfLines unlined unread = absurd (unlined refl)
not_read OfScript unlined unread = absurd (unread refl)
not_read (OfWords words) unlined unread = refl

-- ---- it ends

module _ {D I O : Type 0} (g : disk.Ghosts D) (i : source.Ghosts I) (o : sink.Ghosts O) (terms : Terms) (mode : Mode) (most : ℕ) (now : Progress) (old mid : Kv D g) (in_old in_new : I) (x y : O) where
  -- at the end of the words or of the input
  pub served_whole : (new : Kv D g) (z : O) (ended : Ended) (done : Unit {0}) → is_begun_of g old ≡ false → CarriesOut g i o terms mode most now old mid in_old in_new x y (Ok done) → Settles g o now mid new y z ended
      → RunsOver g i o (λ entry. Tells g old (opened entry)) terms mode most (disk_of g old).now (disk_of g new).now in_old in_new x z ended
  served_whole new z ended done idle carries settles = record {
    ends = λ judge right entry bytes tells reads.
        let carried = carries.carries.told judge right entry bytes tells reads in
        ends_else g o entry (run_by judge terms (start entry) mode most bytes) _ (disk_of g old).now (disk_of g new).now x z ended
        (subst (λ (r : Outcome). Ends g o entry r ⊥ (disk_of g old).now (disk_of g new).now x z ended) carried.3
        (settles.ends entry carried.0 carried.1 (disk_of g old).now x carried.2 carries.carries.stands.later));
    behind = λ judge right entry bytes tells reads is. absurd (settled_other now.is_refused ended.status Stream settles.status is (λ e. cc) (λ e. cc) (λ e. cc));
    anywhere = anywhere_else g o _ _ (disk_of g old).now (disk_of g new).now x z ended (settles.anywhere (disk_of g old).now x carries.carries.stands);
    input = record {
      unread = λ unlined unread. carries.unread (not_read mode unlined unread);
      later = carries.later;
      whole = λ reads _. carries.whole reads;
      script = λ reads _. carries.script reads;
      too_much = λ is. absurd (settled_other now.is_refused ended.status TooMuchInput settles.status is (λ e. cc) (λ e. cc) (λ e. cc));
    };
    reads = λ command is writes.
        let reads = carries.reads command is in
        subst (λ (d : MutBor D). IsStill g (disk_of g old).now d.now) (sym (settles.idle (reads.idle writes idle))) (reads.still writes);
    first = λ _ is. absurd (settled_other now.is_refused ended.status NotDatabase settles.status is (λ e. cc) (λ e. cc) (λ e. cc));
  }

  -- before it, with the line of a status
  pub served_at : (status : Status) (z : O) → CarriesOut g i o terms mode most now old mid in_old in_new x y (Err (At status)) → Writes o (some_line now.last (row status).text) y z → o.faults y ≤ o.faults z
      → RunsOver g i o (λ entry. Tells g old (opened entry)) terms mode most (disk_of g old).now (disk_of g mid).now in_old in_new x z (record { status = status; done = now.done; meter = now.meter })
  served_at status z carries line later =
      let early : IsTrue (is_early status) = carries.carries.within in
      record {
        ends = λ judge right entry bytes tells reads.
            let carried = carries.carries.told judge right entry bytes tells reads in
            ends_at g o entry (run_by judge terms (start entry) mode most bytes) _ now (disk_of g old).now mid x status y z carried.0 line early
            (λ is. carries.source (ap error is)) (λ is. carries.carries.stands.disk (ap At is)) (λ is. carries.carries.not_database (ap error is) (opened entry, tells))
            (λ is. carried.1 (ap At is));
        behind = λ judge right entry bytes tells reads is. inr (carries.source (ap error is), carries.behind (ap error is) judge right entry bytes tells reads);
        anywhere = anywhere_at g o _ _ now (disk_of g old).now (disk_of g mid).now x status y z carries.carries.stands line later early (λ is. carries.source (ap error is))
            (λ is entry tells. carries.carries.not_database (ap error is) (opened entry, tells));
        input = record {
          unread = λ unlined unread. carries.unread (not_read mode unlined unread);
          later = carries.later;
          whole = λ _ is. absurd (early_done status early is);
          script = λ _ is. absurd (early_done status early is);
          too_much = λ is. carries.too_much (ap error is);
        };
        reads = λ command is writes. (carries.reads command is).still writes;
        first = λ unread is. first_line (carries.silent unread status refl) is;
      }
    where
      error : Status → Result (Unit {0}) Stop
      error s = Err (At s)

      first_line : (y ≡ x) × (now ≡ at_start) → status ≡ NotDatabase → Writes o (some_line None (row NotDatabase).text) x z
      first_line same is =
          subst (λ (s : Status). Writes o (some_line None (row s).text) x z) is
          (subst (λ (p : Progress). Writes o (some_line p.last (row status).text) x z) same.1
          (subst (λ (it : O). Writes o (some_line now.last (row status).text) it z) same.0 line))

  -- or where the sink failed
  pub served_sink : CarriesOut g i o terms mode most now old mid in_old in_new x y (Err Sink)
      → RunsOver g i o (λ entry. Tells g old (opened entry)) terms mode most (disk_of g old).now (disk_of g mid).now in_old in_new x y (record { status = Stream; done = now.done; meter = now.meter })
  served_sink carries = record {
    ends = λ judge right entry bytes tells reads.
        ends_sink g o entry (run_by judge terms (start entry) mode most bytes) _ now (disk_of g old).now mid x y (carries.carries.told judge right entry bytes tells reads).0;
    behind = λ judge right entry bytes tells reads is.
        let part = (carries.carries.told judge right entry bytes tells reads).0.part refl in
        inl (record { event = part.event; there = part.under_way; rose = part.rose });
    anywhere = anywhere_sink g o _ _ now (disk_of g old).now (disk_of g mid).now x y carries.carries.stands;
    input = record {
      unread = λ unlined unread. carries.unread (not_read mode unlined unread);
      later = carries.later;
      whole = λ _ is. elim is [ inl it ↦ absurd (cc) | inr it ↦ absurd (cc) ];
      script = λ _ is. elim is [ inl it ↦ absurd (cc) | inr it ↦ absurd (cc) ];
      too_much = λ is. absurd (cc);
    };
    reads = λ command is writes. (carries.reads command is).still writes;
    first = λ _ is. absurd (cc);
  }

-- ---- it is carried out

module _ {D I O : Type 0} (g : disk.Ghosts D) (i : source.Ghosts I) (o : sink.Ghosts O) (terms : Terms) (most : ℕ) (now : Progress) (old new : Kv D g) where
  read_one : (in_old : I) (reads : Bool) (bytes : List ℕ) → reads ≡ true → (IsTrue reads → i.left in_old ≡ Some bytes) → i.left in_old ≡ Some bytes
  read_one in_old true bytes is reads = reads refl
  read_one in_old false bytes is reads = absurd (cc)

  -- the input is read, as commands or as a script
  carries_read : (mode : Mode) (in_old : I) (run : Judge → Stored → List ℕ → Outcome) (x y : O) (result : Result (Unit {0}) Stop) → reads_input mode ≡ true
      → Carries g o (λ bytes. i.left in_old ≡ Some bytes) run now old new x y result → Carries g o (ReadsIn i mode in_old) run now old new x y result
  carries_read mode in_old run x y result is carries = record {
    same_reference = carries.same_reference;
    unclosed = carries.unclosed;
    few = carries.few;
    within = carries.within;
    stands = carries.stands;
    not_database = carries.not_database;
    told = λ judge right entry bytes tells reads. carries.told judge right entry bytes tells (read_one in_old (reads_input mode) bytes is reads);
  }

  pub carries_input : (in_old in_new : I) (x y : O) (result : Result (Unit {0}) Stop)
      → Carries g o (λ bytes. i.left in_old ≡ Some bytes) (λ judge entry bytes. run_from judge terms (listening (start entry)) most bytes) now old new x y result
      → StopsBehind g i o (λ bytes. i.left in_old ≡ Some bytes) (λ judge entry count bytes. run_from judge terms (listening (start entry)) count bytes) now old in_new result
      → DrawsBy i most in_old in_new result → CarriesOut g i o terms OfLines most now old new in_old in_new x y result
  carries_input in_old in_new x y result carries behind draws = record {
    carries = carries_read OfLines in_old (λ judge entry bytes. run_from judge terms (listening (start entry)) most bytes) x y result refl carries;
    behind = λ is judge right entry bytes tells reads. behind is judge right entry bytes tells (reads refl);
    unread = λ is. absurd (cc);
    later = draws.later;
    whole = λ _. draws.whole;
    script = λ is. absurd (cc);
    source = draws.source;
    too_much = draws.too_much;
    reads = λ command is. absurd (cc);
    silent = λ is. absurd (cc);
  }

  pub carries_script : (in_old in_new : I) (x y : O) (result : Result (Unit {0}) Stop)
      → Carries g o (λ bytes. i.left in_old ≡ Some bytes) (λ judge entry bytes. run_whole judge terms (start entry) (whole most bytes)) now old new x y result
      → StopsBehind g i o (λ bytes. i.left in_old ≡ Some bytes) (λ judge entry count bytes. run_whole judge terms (start entry) (whole count bytes)) now old in_new result
      → DrawsScript i most in_old in_new result → CarriesOut g i o terms OfScript most now old new in_old in_new x y result
  carries_script in_old in_new x y result carries behind draws = record {
    carries = carries_read OfScript in_old (λ judge entry bytes. run_whole judge terms (start entry) (whole most bytes)) x y result refl carries;
    behind = λ is judge right entry bytes tells reads. behind is judge right entry bytes tells (reads refl);
    unread = λ is. absurd (cc);
    later = draws.later;
    whole = λ is. absurd (cc);
    script = λ _. draws.whole;
    source = draws.source;
    too_much = draws.too_much;
    reads = λ command is. absurd (cc);
    silent = λ is. absurd (cc);
  }

  -- what a command leaves, up to the end of the run
  pub told_by : (result : Result (Unit {0}) Stop) (entry : Stored) (state : State) (place : Option (List ℕ)) (disk_first : D) (x y : O) → ReachedBy g o result entry state now place disk_first new x y → IfErr result (λ stop. IsTrue (is_of_command stop))
      → CarriedBy g o result entry (at_end state) now disk_first new x y
  told_by (Ok done) entry state place disk_first x y reached within = (state, place, reached, refl)
  told_by (Err stop) entry state place disk_first x y cut within =
      (cut_more g o entry state.events (commit_at_end state.desk.session) stop now disk_first new x y cut, λ is. absurd (no_more_input stop within is))

  pub few_within : (was : Progress) (result : Result (Unit {0}) Stop) → was ≡ at_start → OnOk result (now.done ≤ was.done + most_at_once) → OnOk result (now.done < 2 ^ 120)
  few_within was (Ok done) begins few = let none : was.done ≡ 0 = ap (λ (p : Progress). p.done) begins in omega arith
  few_within was (Err stop) begins few = tt

  -- the words of a command
  pub carries_words : Laws g → limits_of g old ≡ terms.limits → (asked : Request) (words : List (List ℕ)) (was : Progress) (place_old place_new : Option (List ℕ)) (input : I) (x y : O) (result : Result (Unit {0}) Stop) → asked ≡ request words
      → was ≡ at_start → place_old ≡ None → is_begun_of g old ≡ false → MovesOn g o (λ _ state. obeyed_in (limits_of g old) state asked) was now place_old place_new old new x y result → ReadsBy g o asked old new → PutsNone g o result was now x y
      → CarriesOut g i o terms (OfWords words) most now old new input input x y result
  carries_words laws limits_are asked words was place_old place_new input x y result is begins unset idle moves reads silent = record {
    carries = record {
      same_reference = moves.same_reference;
      unclosed = moves.unclosed;
      few = few_within was result begins moves.few;
      within = within_run result moves.within;
      stands = moves.stands (disk_of g old).now x (stands_start g o laws was old x begins idle);
      not_database = moves.not_database;
      told = λ judge right entry bytes tells _.
          subst (λ (l : Limits). CarriedBy g o result entry (at_end (obeyed_in l (start entry) (request words))) now (disk_of g old).now new x y) limits_are
          (subst (λ (a : Request). CarriedBy g o result entry (at_end (obeyed_in (limits_of g old) (start entry) a)) now (disk_of g old).now new x y) is
          (told_by result entry (obeyed_in (limits_of g old) (start entry) asked) place_new (disk_of g old).now x y
          (moves.reached judge right entry (start entry) (disk_of g old).now x (reached_start g o laws entry was place_old old x begins unset tells)) moves.within));
    };
    behind = λ failed. absurd (let no : is_of_command (At Stream) ≡ true = never result (At Stream) moves.within failed in cc);
    unread = λ _. refl;
    later = omega arith;
    whole = λ none. absurd (cc);
    script = λ none. absurd (cc);
    source = λ failed. absurd (let no : is_of_command (At Stream) ≡ true = never result (At Stream) moves.within failed in cc);
    too_much = λ failed. absurd (let no : is_of_command (At TooMuchInput) ≡ true = never result (At TooMuchInput) moves.within failed in cc);
    reads = λ command same. subst (λ (w : List (List ℕ)). ReadsBy g o (request w) old new) (let e : words ≡ command = cc in e) (subst (λ (a : Request). ReadsBy g o a old new) is reads);
    silent = λ _. subst (λ (p : Progress). PutsNone g o result p now x y) begins silent;
  }

-- ---- the store was made over a disk, and gave it back

module _ {D I O : Type 0} (g : disk.Ghosts D) (i : source.Ghosts I) (o : sink.Ghosts O) (most : ℕ) (in_old in_new : I) (x z : O) (ended : Ended) where
  runs_where : (holds other : Stored → Type 0) (terms : Terms) (mode : Mode) (old new : D) → ((entry : Stored) → other entry → holds entry)
      → RunsOver g i o holds terms mode most old new in_old in_new x z ended → RunsOver g i o other terms mode most old new in_old in_new x z ended
  runs_where holds other terms mode old new wide runs = record {
    ends = λ judge right entry bytes it. runs.ends judge right entry bytes (wide entry it);
    behind = λ judge right entry bytes it. runs.behind judge right entry bytes (wide entry it);
    anywhere = record {
      causes = record {
        disk = runs.anywhere.causes.disk;
        stream = runs.anywhere.causes.stream;
        not_database = λ is entry it. runs.anywhere.causes.not_database is entry (wide entry it);
      };
      not_usage = runs.anywhere.not_usage;
      counts = runs.anywhere.counts;
      line = runs.anywhere.line;
      kept = runs.anywhere.kept;
    };
    input = runs.input;
    reads = runs.reads;
    first = runs.first;
  }

  pub runs_over : (holds : Stored → Type 0) (terms : Terms) (mode : Mode) (old new : Kv D g) (first last : D) → (disk_of g old).now ≡ first → last ≡ (disk_of g new).now
      → ((entry : Stored) → holds entry → Tells g old (opened entry)) → (its_terms : Terms) (its_mode : Mode) → its_terms ≡ terms → its_mode ≡ mode
      → RunsOver g i o (λ entry. Tells g old (opened entry)) its_terms its_mode most (disk_of g old).now (disk_of g new).now in_old in_new x z ended
      → RunsOver g i o holds terms mode most first last in_old in_new x z ended
  runs_over holds terms mode old new first last same given told its_terms its_mode terms_are mode_is runs =
      subst (λ (d : D). RunsOver g i o holds terms mode most first d in_old in_new x z ended) (sym given)
      (subst (λ (d : D). RunsOver g i o holds terms mode most d (disk_of g new).now in_old in_new x z ended) same
      (subst (λ (m : Mode). RunsOver g i o holds terms m most (disk_of g old).now (disk_of g new).now in_old in_new x z ended) mode_is
      (subst (λ (t : Terms). RunsOver g i o holds t its_mode most (disk_of g old).now (disk_of g new).now in_old in_new x z ended) terms_are
      (runs_where (λ entry. Tells g old (opened entry)) holds its_terms its_mode (disk_of g old).now (disk_of g new).now told runs))))
