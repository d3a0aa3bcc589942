use Rattle.std.proofs.Common.{◌≡◌, ℕ, List, Option, Some, None, Result, Ok, Err, length, refl, sym, ap, subst, ◌∙◌}
use Rattle.std.proofs.lemmas.Result.{err_from_is_err_and}
use Rattle.std.specs.Option.{option_map}
use Rattle.uq_outside.specs.Since.{Laws}
use Rattle.uq_model.specs.declared.limits.Limits.{Limits}
use Rattle.uq_kv.specs.Cursor.{place_of}
use Rattle.uq_kv.specs.Kv.{limits_of}
use Rattle.uq_kv.specs.Stored.{stored_key}
use Rattle.uq_kv.specs.declared.space.Space.TheVariants.{Keys}
use Rattle.uq_words.specs.Blocks.{Whole, whole}
use Rattle.uq_words.specs.TakingBlocks.{FindsScript, TakesScript, whole_of}
use Rattle.uq_words.specs.declared.script.Script.{Script}
use Rattle.uq_shell.specs.Carries.{Carries}
use Rattle.uq_shell.specs.Commands.{refuses_words}
use Rattle.uq_shell.specs.Run.{Outcome}
use Rattle.uq_shell.specs.Stream.{at_end, cut_off, obeyed_in, run_whole, script_in, start}
use Rattle.uq_shell.specs.declared.progress.Stop.{Stop}
use Rattle.uq_shell.specs.declared.progress.Stop.TheVariants.{At}
use Rattle.uq_shell.specs.declared.reply.Refusal.TheVariants.{ScriptTooLong}
use Rattle.uq_shell.specs.declared.status.Status.TheVariants.{TooMuchInput}
use Rattle.uq_shell.proofs.Extending.{whole_extends}
use Rattle.uq_shell.proofs.Single.{carries_none, carries_one, draws_text, is_whole}
use Rattle.uq_shell.proofs.Stopping.{input_disk, input_early, input_much, input_none, status_by, stop_is}
use Rattle.uq_shell.proofs.reciting.recite.Goals as goal

pub returns-in_err-text-clause-carries : goal.returns-in_err-text-clause-carries
returns-in_err-text-clause-carries g c =
    let laws : Laws g.D.Disk = record { only_now = g.met.D.Disk.only_now; counts_now = g.met.D.Disk.counts_now } in
    let p = err_from_is_err_and c.from_residual.result c.from_residual.ensures.1 in
    let fault = c.in_err-text.field-0.0 in
    let terms = c.args.terms.now in
    let is : c.from_residual.result ≡ Err (At (status_by fault)) = p.1 ∙ ap (λ (s : Stop). Err s) (p.2 ∙ stop_is fault) in
    subst (λ (r : Result (Unit {0}) Stop). Carries g.D.Disk g.O.Sink (λ bytes. g.I.Source.left c.args.input.now ≡ Some bytes)
    (λ judge entry bytes. run_whole judge terms (start entry) (whole c.args.most bytes)) c.args.progress.now c.args.kv.now c.args.kv.now c.args.out.now c.args.out.now r) (sym is)
    (carries_none g.D.Disk g.I.Source g.O.Sink laws terms c.args.most (λ bytes. g.I.Source.left c.args.input.now ≡ Some bytes) (λ judge entry bytes. run_whole judge terms (start entry) (whole c.args.most bytes))
    c.args.progress.now (place_of c.args.cursor.now) c.args.kv.now c.args.out.now c.requires.begins (ap (option_map (stored_key Keys)) c.requires.unset) c.requires.idle
    (status_by fault) (input_early fault) (input_disk fault) (input_none fault) (λ judge entry bytes. whole_extends judge terms (start entry) (whole c.args.most bytes)) (λ _ _ _ _ much. absurd (input_much fault much)))

pub returns-in-Complete-clause-carries : goal.returns-in-Complete-clause-carries
returns-in-Complete-clause-carries g c =
    let laws : Laws g.D.Disk = record { only_now = g.met.D.Disk.only_now; counts_now = g.met.D.Disk.counts_now } in
    let terms = c.args.terms.now in
    carries_one g.D.Disk g.I.Source g.O.Sink laws terms c.args.most (λ bytes. g.I.Source.left c.args.input.now ≡ Some bytes) (λ judge entry bytes. run_whole judge terms (start entry) (whole c.args.most bytes))
    c.args.progress.now (place_of c.args.cursor.now) c.args.kv.now c.args.out.now c.requires.begins (ap (option_map (stored_key Keys)) c.requires.unset) c.requires.idle
    (λ judge state. script_in judge terms state (Some c.as_slice.result.now)) c.run_script.new.progress (place_of c.run_script.new.cursor) c.run_script.new.kv c.run_script.new.out c.run_script.result
    (λ judge right entry bytes there.
    ap (λ (t : List ℕ). at_end (script_in judge terms (start entry) (Some t))) c.as_slice.ensures.value
    ∙ ap (λ (read : Script). run_whole judge terms (start entry) (whole_of read)) (sym c.in-Complete.is)
    ∙ ap (λ (w : Whole). run_whole judge terms (start entry) w) (sym (is_whole g.I.Source c.args.most c.args.input.now c.read_script.new.input c.in_ok-text.field-0 bytes c.in_ok-text.ensures.finds there)))
    c.run_script.ensures

pub returns-in-Complete-clause-draws : goal.returns-in-Complete-clause-draws
returns-in-Complete-clause-draws g c =
    draws_text g.I.Source c.args.most c.args.input.now c.read_script.new.input c.in_ok-text.field-0 c.in-Complete.text.items c.run_script.result (ap whole_of c.in-Complete.is) c.run_script.ensures.within
    c.in_ok-text.ensures.finds c.in_ok-text.ensures.takes

pub returns-in-TooLong-clause-carries : goal.returns-in-TooLong-clause-carries
returns-in-TooLong-clause-carries g c =
    let laws : Laws g.D.Disk = record { only_now = g.met.D.Disk.only_now; counts_now = g.met.D.Disk.counts_now } in
    let terms = c.args.terms.now in
    carries_one g.D.Disk g.I.Source g.O.Sink laws terms c.args.most (λ bytes. g.I.Source.left c.args.input.now ≡ Some bytes) (λ judge entry bytes. run_whole judge terms (start entry) (whole c.args.most bytes))
    c.args.progress.now (place_of c.args.cursor.now) c.args.kv.now c.args.out.now c.requires.begins (ap (option_map (stored_key Keys)) c.requires.unset) c.requires.idle
    (λ _ state. obeyed_in (limits_of g.D.Disk c.args.kv.now) state (refuses_words ScriptTooLong)) c.obey.new.progress (place_of c.obey.new.cursor) c.obey.new.kv c.obey.new.out c.obey.result
    (λ judge right entry bytes there.
    ap (λ (l : Limits). at_end (obeyed_in l (start entry) (refuses_words ScriptTooLong))) (sym c.requires.terms.of_store)
    ∙ ap (λ (read : Script). run_whole judge terms (start entry) (whole_of read)) (sym c.in-TooLong.is)
    ∙ ap (λ (w : Whole). run_whole judge terms (start entry) w) (sym (is_whole g.I.Source c.args.most c.args.input.now c.read_script.new.input c.in_ok-text.field-0 bytes c.in_ok-text.ensures.finds there)))
    c.obey.ensures.moves

pub returns-in-TooMuch-clause-carries : goal.returns-in-TooMuch-clause-carries
returns-in-TooMuch-clause-carries g c =
    let laws : Laws g.D.Disk = record { only_now = g.met.D.Disk.only_now; counts_now = g.met.D.Disk.counts_now } in
    let terms = c.args.terms.now in
    carries_none g.D.Disk g.I.Source g.O.Sink laws terms c.args.most (λ bytes. g.I.Source.left c.args.input.now ≡ Some bytes) (λ judge entry bytes. run_whole judge terms (start entry) (whole c.args.most bytes))
    c.args.progress.now (place_of c.args.cursor.now) c.args.kv.now c.args.out.now c.requires.begins (ap (option_map (stored_key Keys)) c.requires.unset) c.requires.idle
    TooMuchInput refl (λ is. cc) (λ is. cc) (λ judge entry bytes. whole_extends judge terms (start entry) (whole c.args.most bytes))
    (λ judge entry bytes there _.
    let same : run_whole judge terms (start entry) (whole c.args.most bytes) ≡ cut_off (start entry)
    = ap (λ (w : Whole). run_whole judge terms (start entry) w) (is_whole g.I.Source c.args.most c.args.input.now c.read_script.new.input c.in_ok-text.field-0 bytes c.in_ok-text.ensures.finds there)
    ∙ ap (λ (read : Script). run_whole judge terms (start entry) (whole_of read)) c.in-TooMuch.is in
    (ap (λ (r : Outcome). r.status) same, sym (ap (λ (r : Outcome). length r.events) same), sym (ap (λ (r : Outcome). r.units) same)))
