-- A whole run: it ends before a store is open, or goes on over one.
use Rattle.std.proofs.Common.{◌≡◌, ◌⊎◌, ◌≤◌, ℕ, Bool, true, false, List, [], ◌∷◌, length, Option, Some, None, Err, inl, inr, refl, sym, ap, subst, ◌∙◌, arith}
use Rattle.std.specs.Prelude.{IsTrue, String}
use Rattle.std.specs.Global.{Global}
use Rattle.std.specs.Option.{ForSome}
use Rattle.uq_facts.specs.Causes.{Rose}
use Rattle.uq_outside.specs.declared.disk.Disk as disk
use Rattle.uq_outside.specs.declared.sink.Sink as sink
use Rattle.uq_outside.specs.declared.source.Source as source
use Rattle.uq_outside.specs.Since.{Laws}
use Rattle.uq_journal.specs.Calls.{IsStill, KeepsRecovered}
use Rattle.uq_kv.specs.Holds.{HasShape, Holds, HoldsNone}
use Rattle.uq_kv.specs.Opening.{Finds}
use Rattle.uq_kv.specs.Stored.{Stored}
use Rattle.uq_kv.specs.declared.error.OpenFault.{OpenFault}
use Rattle.uq_kv.specs.declared.error.OpenFault.TheVariants as opening
use Rattle.uq_kv.specs.declared.opening.Ready.{Ready}
use Rattle.uq_words.specs.Options.{Asked, order_of_words}
use Rattle.uq_words.specs.Texts.{AnswersAsked, asked_by, texts, texts_of}
use Rattle.uq_words.specs.declared.error.OptionsFault.{OptionsFault}
use Rattle.uq_words.specs.declared.error.OptionsFault.TheVariants as options
use Rattle.uq_words.specs.declared.options.Order.{Order}
use Rattle.uq_shell.specs.Carries.{ReadsIn, reads_input}
use Rattle.uq_shell.specs.Commands.{request}
use Rattle.uq_shell.specs.Ends.{Ends, EndsBehind, FindsWhatIsThere, IsUnderWay, RunsOver, Writes}
use Rattle.uq_shell.specs.Followed.{some_line}
use Rattle.uq_shell.specs.Headline.{HoldsLast, IsComplete, KeepsFilesAtGate, Meets, Recovers}
use Rattle.uq_shell.specs.Obeys.{at_start}
use Rattle.uq_shell.specs.Replies.{status_at_opening, status_of_words}
use Rattle.uq_shell.specs.Run.{Outcome}
use Rattle.uq_shell.specs.Statuses.{row}
use Rattle.uq_shell.specs.Stream.{Mode, OfLines, OfScript, OfWords, mode_of, run_by, run_in, run_within, start, terms_in}
use Rattle.uq_shell.specs.Verdicts.{IsRight, Judge}
use Rattle.uq_shell.specs.Within.{OfMode, ReadsInput, ReadsOnly, RunsAnywhere, RunsOverStore}
use Rattle.uq_shell.specs.declared.ended.Ended.{Ended}
use Rattle.uq_shell.specs.declared.progress.Progress.{Progress}
use Rattle.uq_shell.specs.declared.status.Status.{Status}
use Rattle.uq_shell.specs.declared.status.Status.TheVariants.{Done, Refused, Usage, Memory, Disk, Stream, NotDatabase, TooMuchInput}
use Rattle.uq_shell.proofs.Lines.{grows_nothing}
use Rattle.uq_shell.proofs.Meeting.{ends_in_line, meets_at}
use Rattle.uq_shell.proofs.Opened.{files_still, kept_alike, kept_still, recovers_behind, recovers_refused}
use Rattle.uq_shell.proofs.Standing.{rose_later}

-- ---- no store is opened

-- a run ends with these before
abbrev pub is_unopened : Status → Bool
is_unopened Done = false
is_unopened Refused = false
is_unopened Usage = true
is_unopened Memory = true
is_unopened Disk = true
is_unopened Stream = false
is_unopened NotDatabase = true
is_unopened TooMuchInput = false

unopened_only : (status other : Status) → IsTrue (is_unopened status) → status ≡ other → IsTrue (is_unopened other)
unopened_only status other unopened is = subst (λ (s : Status). IsTrue (is_unopened s)) is unopened

unopened_answered : (status : Status) → IsTrue (is_unopened status) → IsTrue (row status).is_answered → ⊥
unopened_answered Done unopened answered = cc
unopened_answered Refused unopened answered = cc
unopened_answered Usage unopened answered = cc
unopened_answered Memory unopened answered = cc
unopened_answered Disk unopened answered = cc
unopened_answered Stream unopened answered = cc
unopened_answered NotDatabase unopened answered = cc
unopened_answered TooMuchInput unopened answered = cc

unopened_whole : (status : Status) → IsTrue (is_unopened status) → IsTrue (row status).is_whole → status ≡ Usage
unopened_whole Done unopened whole = absurd (cc)
unopened_whole Refused unopened whole = absurd (cc)
unopened_whole Usage unopened whole = refl
unopened_whole Memory unopened whole = absurd (cc)
unopened_whole Disk unopened whole = absurd (cc)
unopened_whole Stream unopened whole = absurd (cc)
unopened_whole NotDatabase unopened whole = absurd (cc)
unopened_whole TooMuchInput unopened whole = absurd (cc)

unopened_complete : (run : Outcome) (status : Status) → IsTrue (is_unopened status) → (status ≡ Usage → status ≡ run.status) → (status ≡ Disk → ⊥) → (status ≡ NotDatabase → ⊥) → IsComplete run status
unopened_complete run Done unopened usage failed none = absurd (cc)
unopened_complete run Refused unopened usage failed none = absurd (cc)
unopened_complete run Usage unopened usage failed none = inl (usage refl)
unopened_complete run Memory unopened usage failed none = inr refl
unopened_complete run Disk unopened usage failed none = absurd (failed refl)
unopened_complete run Stream unopened usage failed none = absurd (cc)
unopened_complete run NotDatabase unopened usage failed none = absurd (none refl)
unopened_complete run TooMuchInput unopened usage failed none = absurd (cc)

module _ {D I O : Type 0} (g : disk.Ghosts D) (i : source.Ghosts I) (o : sink.Ghosts O) (laws : Laws g) (words : List (String Global)) (most : ℕ) (old new : D) (input : I) (x z : O) (status : Status)
    (unopened : IsTrue (is_unopened status)) (line : Writes o (some_line None (row status).text) x z) (later : o.faults x ≤ o.faults z) (disk_later : g.faults old ≤ g.faults new)
    (kept : KeepsRecovered g old new) (gate : KeepsFilesAtGate g old new)
    (rose : status ≡ Disk → Rose (g.faults old) (g.faults new)) (none : status ≡ NotDatabase → HoldsNone g old)
    (usage : status ≡ Usage → order_of_words (texts words) ≡ None) (form : order_of_words (texts words) ≡ None → (status ≡ Usage) ⊎ (status ≡ Memory)) (untouched : order_of_words (texts words) ≡ None → new ≡ old) where
  not_streaming : status ≡ Stream → ⊥
  not_streaming is = let never = unopened_only status Stream unopened is in cc

  not_done : (status ≡ Done) ⊎ (status ≡ Refused) → ⊥
  not_done (inl done) = let never = unopened_only status Done unopened done in cc
  not_done (inr refused) = let never = unopened_only status Refused unopened refused in cc

  pub unopened_anywhere : RunsAnywhere g i o words most old new input input x z (record { status = status; done = 0; meter = 0 })
  unopened_anywhere = record {
    causes = record { disk = rose; stream = λ is. absurd (not_streaming is); not_database = none };
    usage = usage;
    form = form;
    untouched = untouched;
    input = record {
      unread = λ _ _. refl;
      later = omega arith;
      whole = λ _ is. absurd (not_done is);
      script = λ _ is. absurd (not_done is);
      too_much = λ is. absurd (let never = unopened_only status TooMuchInput unopened is in cc);
    };
    counts = record { disk = disk_later; sink = later };
    line = ends_in_line o x x z refl [] _ status None refl (grows_nothing (o.written x)) (λ is. absurd (not_streaming is)) (λ _. refl) line;
    first = λ _ is. subst (λ (s : Status). Writes o (some_line None (row s).text) x z) is line;
    shape = λ answered. absurd (unopened_answered status unopened answered);
    foreign = λ _. kept;
    still = λ _. kept;
    reads = λ _. kept;
    bytes = λ _. gate;
  }

  -- what the words mean, where they are in no form
  usage_run : (judge : Judge) (bytes : List ℕ) (entry : Stored) (count : ℕ) → status ≡ Usage → run_within judge (texts words) count bytes entry ≡ record { events = []; status = Usage; units = 0 }
  usage_run judge bytes entry count is = ap (λ (asked : Option Asked). run_in judge asked count bytes entry) (usage is)

  no_database : (entry : Stored) → Holds g old entry → status ≡ NotDatabase → ⊥
  no_database entry holds is = none is holds.files holds.told entry holds.recovers

  pub unopened_store : RunsOverStore g i o words most old new input input x z (record { status = status; done = 0; meter = 0 })
  unopened_store = record {
    headline = λ judge right bytes entry reads holds.
        meets_at o x x z refl (run_within judge (texts words) most bytes entry) _ 0 0 status (grows_nothing (o.written x)) (λ is. absurd (not_streaming is))
        (λ whole.
        let is : status ≡ Usage = unopened_whole status unopened whole in
        let run = usage_run judge bytes entry most is in
        (is ∙ sym (ap (λ (r : Outcome). r.status) run), sym (ap (λ (r : Outcome). length r.events) run), sym (ap (λ (r : Outcome). r.units) run)))
        (no_database entry holds) None refl line;
    stopped = λ judge right bytes entry reads holds. recovers_refused g laws old new entry (run_within judge (texts words) most bytes entry) holds kept;
    stored = λ judge right bytes entry reads holds answered. absurd (unopened_answered status unopened answered);
    behind = λ judge right bytes entry reads holds is. absurd (not_streaming is);
    complete = λ judge right bytes entry reads holds still quiet.
        unopened_complete (run_within judge (texts words) most bytes entry) status unopened (λ is. is ∙ sym (ap (λ (r : Outcome). r.status) (usage_run judge bytes entry most is)))
        (λ is. quiet.disk (rose is)) (no_database entry holds);
  }

-- ---- a store is opened

module _ {D I O : Type 0} (g : disk.Ghosts D) (i : source.Ghosts I) (o : sink.Ghosts O) (laws : Laws g) (words : List (String Global)) (most : ℕ) (order : Order) (ready : Ready) (old mid new : D) (in_old in_new : I) (x z : O) (ended : Ended)
    (read : order_of_words (texts words) ≡ Some (asked_by order)) (found : ForSome (g.content old) (FindsWhatIsThere g ready mid)) (shape : ForSome (g.content old) HasShape)
    (disk_later : g.faults old ≤ g.faults mid) (kept : KeepsRecovered g old mid) (gate : KeepsFilesAtGate g old mid)
    (runs : RunsOver g i o (Finds g ready mid) (terms_in (asked_by order)) (mode_of (texts_of order.words)) most mid new in_old in_new x z ended) where
  abbrev mode : Mode
  mode = mode_of (texts_of order.words)

  -- the words are a command, or none
  same_order : (asked : Asked) → order_of_words (texts words) ≡ Some asked → asked ≡ asked_by order
  same_order asked is = let same : Some asked ≡ Some (asked_by order) = sym is ∙ read in cc

  -- what the words make of the input
  mode_read : (P : Mode → Type 0) → P mode → OfMode (texts words) P
  mode_read P is = (asked_by order, read, is)

  mode_asked : (P : Mode → Type 0) → OfMode (texts words) P → P mode
  mode_asked P asked = subst (λ (a : Asked). P (mode_of a.words)) (same_order asked.0 asked.1) asked.2

  run_is : (judge : Judge) (entry : Stored) (count : ℕ) (bytes : List ℕ) → run_within judge (texts words) count bytes entry ≡ run_by judge (terms_in (asked_by order)) (start entry) mode count bytes
  run_is judge entry count bytes = ap (λ (asked : Option Asked). run_in judge asked count bytes entry) read

  not_none : order_of_words (texts words) ≡ None → ⊥
  not_none is = let same : Some (asked_by order) ≡ None = sym read ∙ is in cc

  still_read : ReadsOnly (texts words) → IsStill g mid new
  still_read reads =
      let asked = mode_asked (λ (m : Mode). (command : List (List ℕ)) × (m ≡ OfWords command) × ((request command).writes ≡ false)) reads in
      runs.reads asked.0 asked.1 asked.2

  -- words that read no input
  unread_mode : (m : Mode) → (IsTrue (reads_input m) → ⊥) → reads_input m ≡ false
  unread_mode OfLines unread = absurd (unread refl)
  unread_mode OfScript unread = absurd (unread refl)
  unread_mode (OfWords command) unread = refl

  pub opened_anywhere : RunsAnywhere g i o words most old new in_old in_new x z ended
  opened_anywhere =
      let counts = runs.anywhere.counts in
      let disk_next = counts.disk in
      record {
        causes = record {
          disk = λ is. rose_later _ _ _ disk_later (runs.anywhere.causes.disk is);
          stream = runs.anywhere.causes.stream;
          not_database = λ is files told stored recovers. runs.anywhere.causes.not_database is stored (found files told stored recovers);
        };
        usage = λ is. absurd (runs.anywhere.not_usage is);
        form = λ is. absurd (not_none is);
        untouched = λ is. absurd (not_none is);
        input = record {
          unread = λ unlined unread. runs.input.unread (λ is. unlined (mode_read (λ (m : Mode). m ≡ OfLines) is)) (λ is. unread (mode_read (λ (m : Mode). m ≡ OfScript) is));
          later = runs.input.later;
          whole = λ reads. runs.input.whole (mode_asked (λ (m : Mode). m ≡ OfLines) reads);
          script = λ reads. runs.input.script (mode_asked (λ (m : Mode). m ≡ OfScript) reads);
          too_much = runs.input.too_much;
        };
        counts = record { disk = omega arith; sink = counts.sink };
        line = runs.anywhere.line;
        first = λ unread. runs.first (unread_mode mode (λ is. unread (mode_read (λ (m : Mode). IsTrue (reads_input m)) is)));
        shape = λ _. shape;
        foreign = λ no. absurd (no shape);
        still = λ nothing. kept_alike g laws old mid new kept (runs.anywhere.kept nothing);
        reads = λ reads. kept_still g laws old mid new kept (still_read reads);
        bytes = λ reads. files_still g laws old mid new gate (still_read reads);
      }

  -- what a run over the store means and leaves
  module _ (judge : Judge) (right : IsRight judge) (bytes : List ℕ) (entry : Stored) (reads : ReadsInput (texts words) → i.left in_old ≡ Some bytes) (holds : Holds g old entry) where
    abbrev run : ℕ → List ℕ → Outcome
    run = run_by judge (terms_in (asked_by order)) (start entry) mode

    found_here : Finds g ready mid entry
    found_here = found holds.files holds.told entry holds.recovers

    reads_here : ReadsIn i mode in_old bytes
    reads_here is = reads (mode_read (λ (m : Mode). IsTrue (reads_input m)) is)

    ends_here : Ends g o entry (run most bytes) (Rose (i.faults in_old) (i.faults in_new)) mid new x z ended
    ends_here = runs.ends judge right entry bytes found_here reads_here

    behind_here : EndsBehind g i o run most bytes in_old in_new x z ended
    behind_here = runs.behind judge right entry bytes found_here reads_here

    back : (P : Outcome → Type 0) → P (run most bytes) → P (run_within judge (texts words) most bytes entry)
    back P is = subst P (sym (run_is judge entry most bytes)) is

  pub opened_store : RunsOverStore g i o words most old new in_old in_new x z ended
  opened_store = record {
    headline = λ judge right bytes entry reads holds.
        back judge right bytes entry reads holds (λ run. Meets o run (Rose (i.faults in_old) (i.faults in_new)) ended x z) (ends_here judge right bytes entry reads holds).meets;
    stopped = λ judge right bytes entry reads holds.
        back judge right bytes entry reads holds (λ run. Recovers g entry run ended.done old new)
        (recovers_behind g laws old mid new entry _ ended.done holds kept (ends_here judge right bytes entry reads holds).recovers);
    stored = λ judge right bytes entry reads holds. back judge right bytes entry reads holds (λ run. HoldsLast g entry run ended new) (ends_here judge right bytes entry reads holds).holds;
    behind = λ judge right bytes entry reads holds is. elim (behind_here judge right bytes entry reads holds is) [
      | inl way ↦ inl (back judge right bytes entry reads holds (λ run. IsUnderWay o run.events ended.done x z) way)
      | inr part ↦ inr (part.0, (part.1.0, part.1.1, part.1.2, part.1.3, part.1.4 ∙ sym (ap (λ (r : Outcome). length r.events) (run_is judge entry (length part.1.0) part.1.0))))
    ];
    complete = λ judge right bytes entry reads holds still quiet.
        back judge right bytes entry reads holds (λ run. IsComplete run ended.status)
        ((ends_here judge right bytes entry reads holds).complete still (record { disk = λ rose. quiet.disk (rose_later _ _ _ disk_later rose); sink = quiet.sink }));
  }

-- ---- how a run ends that opens no store

pub end_is : (ended : Ended) (status other : Status) (at : Progress) → ended ≡ record { status = status; done = at.done; meter = at.meter } → status ≡ other → at ≡ at_start
    → ended ≡ record { status = other; done = 0; meter = 0 }
end_is ended status other at is same begins =
    let first : ended ≡ record { status = other; done = at.done; meter = at.meter } = is ∙ ap (λ (s : Status). record { status = s; done = at.done; meter = at.meter }) same in
    first ∙ ap (λ (p : Progress). record { status = other; done = p.done; meter = p.meter }) begins

pub line_is : {O : Type 0} (o : sink.Ghosts O) (status other : Status) (at : Progress) (x z : O) → Writes o (some_line at.last (row status).text) x z → status ≡ other → at ≡ at_start
    → Writes o (some_line None (row other).text) x z
line_is o status other at x z line same begins =
    subst (λ (s : Status). Writes o (some_line None (row s).text) x z) same (subst (λ (p : Progress). Writes o (some_line p.last (row status).text) x z) begins line)

-- ---- the words are in no form, or there is no memory to read them

pub words_unopened : (fault : OptionsFault) → IsTrue (is_unopened (status_of_words fault))
words_unopened options.Usage = refl
words_unopened options.Memory = refl

pub words_usage : (asked : Option Asked) (fault : OptionsFault) → AnswersAsked asked (Err fault) → status_of_words fault ≡ Usage → asked ≡ None
words_usage asked options.Usage answers is = answers
words_usage asked options.Memory answers is = absurd (cc)

pub words_form : (fault : OptionsFault) → (status_of_words fault ≡ Usage) ⊎ (status_of_words fault ≡ Memory)
words_form options.Usage = inl refl
words_form options.Memory = inr refl

pub words_disk : (fault : OptionsFault) → status_of_words fault ≡ Disk → ⊥
words_disk options.Usage is = cc
words_disk options.Memory is = cc

pub words_none : (fault : OptionsFault) → status_of_words fault ≡ NotDatabase → ⊥
words_none options.Usage is = cc
words_none options.Memory is = cc

-- ---- the opening is refused

pub open_unopened : (fault : OpenFault) → IsTrue (is_unopened (status_at_opening fault))
open_unopened opening.Disk = refl
open_unopened opening.NotDatabase = refl
open_unopened opening.Memory = refl

pub open_disk : (fault : OpenFault) → status_at_opening fault ≡ Disk → fault ≡ opening.Disk
open_disk opening.Disk is = refl
open_disk opening.NotDatabase is = absurd (cc)
open_disk opening.Memory is = absurd (cc)

pub open_none : (fault : OpenFault) → status_at_opening fault ≡ NotDatabase → fault ≡ opening.NotDatabase
open_none opening.Disk is = absurd (cc)
open_none opening.NotDatabase is = refl
open_none opening.Memory is = absurd (cc)

pub open_usage : (fault : OpenFault) → status_at_opening fault ≡ Usage → ⊥
open_usage opening.Disk is = cc
open_usage opening.NotDatabase is = cc
open_usage opening.Memory is = cc
