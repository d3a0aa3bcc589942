use Rattle.std.proofs.Common.{◌≡◌, None, Some, Err, refl, sym, ap, subst, ◌∙◌, arith}
use Rattle.uq_outside.specs.Since.{Laws}
use Rattle.uq_words.specs.Options.{order_of_words}
use Rattle.uq_words.specs.Texts.{asked_by, texts}
use Rattle.uq_shell.specs.Replies.{status_at_opening, status_of_words}
use Rattle.uq_shell.specs.Within.{RunsAnywhere, RunsOverStore}
use Rattle.uq_shell.specs.declared.ended.Ended.{Ended}
use Rattle.uq_shell.proofs.Opened.{files_none, kept_none}
use Rattle.uq_shell.proofs.Whole.{end_is, line_is, open_disk, open_none, open_unopened, open_usage, opened_anywhere, opened_store, unopened_anywhere, unopened_store, words_disk, words_form, words_none, words_unopened, words_usage}
use Rattle.uq_shell.proofs.running.run_within.Goals as goal

-- ---- the words are in no form

pub returns-in-Err-clause-anywhere : goal.returns-in-Err-clause-anywhere
returns-in-Err-clause-anywhere g c =
    let laws : Laws g.D.Disk = record { only_now = g.met.D.Disk.only_now; counts_now = g.met.D.Disk.counts_now } in
    let fault = c.in-Err.fault in
    subst (λ (ended : Ended). RunsAnywhere g.D.Disk g.I.Source g.O.Sink c.args.words.now c.args.most c.args.disk.now c.args.disk.now c.args.input.now c.args.input.now c.args.out.now c.end.new.out ended)
    (sym (end_is c.end.result c.from.result (status_of_words fault) c.new.result c.end.ensures.ended c.from.ensures c.new.ensures))
    (unopened_anywhere g.D.Disk g.I.Source g.O.Sink laws c.args.words.now c.args.most c.args.disk.now c.args.disk.now c.args.input.now c.args.out.now c.end.new.out (status_of_words fault) (words_unopened fault)
    (line_is g.O.Sink c.from.result (status_of_words fault) c.new.result c.args.out.now c.end.new.out c.end.ensures.line c.from.ensures c.new.ensures) c.end.ensures.later (omega arith)
    (kept_none g.D.Disk laws c.args.disk.now) (files_none g.D.Disk laws c.args.disk.now) (λ is. absurd (words_disk fault is)) (λ is. absurd (words_none fault is))
    (words_usage (order_of_words (texts c.args.words.now)) fault c.in-Err.ensures.answers) (λ _. words_form fault) (λ _. refl))

pub returns-in-Err-clause-store : goal.returns-in-Err-clause-store
returns-in-Err-clause-store g c =
    let laws : Laws g.D.Disk = record { only_now = g.met.D.Disk.only_now; counts_now = g.met.D.Disk.counts_now } in
    let fault = c.in-Err.fault in
    subst (λ (ended : Ended). RunsOverStore g.D.Disk g.I.Source g.O.Sink c.args.words.now c.args.most c.args.disk.now c.args.disk.now c.args.input.now c.args.input.now c.args.out.now c.end.new.out ended)
    (sym (end_is c.end.result c.from.result (status_of_words fault) c.new.result c.end.ensures.ended c.from.ensures c.new.ensures))
    (unopened_store g.D.Disk g.I.Source g.O.Sink laws c.args.words.now c.args.most c.args.disk.now c.args.disk.now c.args.input.now c.args.out.now c.end.new.out (status_of_words fault) (words_unopened fault)
    (line_is g.O.Sink c.from.result (status_of_words fault) c.new.result c.args.out.now c.end.new.out c.end.ensures.line c.from.ensures c.new.ensures) c.end.ensures.later (omega arith)
    (kept_none g.D.Disk laws c.args.disk.now) (files_none g.D.Disk laws c.args.disk.now) (λ is. absurd (words_disk fault is)) (λ is. absurd (words_none fault is))
    (words_usage (order_of_words (texts c.args.words.now)) fault c.in-Err.ensures.answers) (λ _. words_form fault) (λ _. refl))

-- ---- the opening is refused

pub returns-clause-anywhere : goal.returns-clause-anywhere
returns-clause-anywhere g c =
    let laws : Laws g.D.Disk = record { only_now = g.met.D.Disk.only_now; counts_now = g.met.D.Disk.counts_now } in
    let fault = c.in-Err-open.fault in
    let read = c.in-Ok.ensures.answers in
    let some : order_of_words (texts c.args.words.now) ≡ None → ⊥ = λ none. let same : Some (asked_by c.in-Ok.order) ≡ None = sym read ∙ none in cc in
    subst (λ (ended : Ended). RunsAnywhere g.D.Disk g.I.Source g.O.Sink c.args.words.now c.args.most c.args.disk.now c.open.new.disk c.args.input.now c.args.input.now c.args.out.now c.end-in-Err-open.new.out ended)
    (sym (end_is c.end-in-Err-open.result c.from-in-Err-open.result (status_at_opening fault) c.new-in-Err-open.result c.end-in-Err-open.ensures.ended c.from-in-Err-open.ensures c.new-in-Err-open.ensures))
    (unopened_anywhere g.D.Disk g.I.Source g.O.Sink laws c.args.words.now c.args.most c.args.disk.now c.open.new.disk c.args.input.now c.args.out.now c.end-in-Err-open.new.out (status_at_opening fault) (open_unopened fault)
    (line_is g.O.Sink c.from-in-Err-open.result (status_at_opening fault) c.new-in-Err-open.result c.args.out.now c.end-in-Err-open.new.out c.end-in-Err-open.ensures.line c.from-in-Err-open.ensures c.new-in-Err-open.ensures)
    c.end-in-Err-open.ensures.later c.open.ensures.cause.later c.open.ensures.stop c.open.ensures.gate
    (λ is. c.open.ensures.cause.failed (c.in-Err-open.is ∙ ap Err (open_disk fault is))) (λ is. c.open.ensures.not_database (c.in-Err-open.is ∙ ap Err (open_none fault is)))
    (λ is. absurd (open_usage fault is)) (λ none. absurd (some none)) (λ none. absurd (some none)))

pub returns-clause-store : goal.returns-clause-store
returns-clause-store g c =
    let laws : Laws g.D.Disk = record { only_now = g.met.D.Disk.only_now; counts_now = g.met.D.Disk.counts_now } in
    let fault = c.in-Err-open.fault in
    let read = c.in-Ok.ensures.answers in
    let some : order_of_words (texts c.args.words.now) ≡ None → ⊥ = λ none. let same : Some (asked_by c.in-Ok.order) ≡ None = sym read ∙ none in cc in
    subst (λ (ended : Ended). RunsOverStore g.D.Disk g.I.Source g.O.Sink c.args.words.now c.args.most c.args.disk.now c.open.new.disk c.args.input.now c.args.input.now c.args.out.now c.end-in-Err-open.new.out ended)
    (sym (end_is c.end-in-Err-open.result c.from-in-Err-open.result (status_at_opening fault) c.new-in-Err-open.result c.end-in-Err-open.ensures.ended c.from-in-Err-open.ensures c.new-in-Err-open.ensures))
    (unopened_store g.D.Disk g.I.Source g.O.Sink laws c.args.words.now c.args.most c.args.disk.now c.open.new.disk c.args.input.now c.args.out.now c.end-in-Err-open.new.out (status_at_opening fault) (open_unopened fault)
    (line_is g.O.Sink c.from-in-Err-open.result (status_at_opening fault) c.new-in-Err-open.result c.args.out.now c.end-in-Err-open.new.out c.end-in-Err-open.ensures.line c.from-in-Err-open.ensures c.new-in-Err-open.ensures)
    c.end-in-Err-open.ensures.later c.open.ensures.cause.later c.open.ensures.stop c.open.ensures.gate
    (λ is. c.open.ensures.cause.failed (c.in-Err-open.is ∙ ap Err (open_disk fault is))) (λ is. c.open.ensures.not_database (c.in-Err-open.is ∙ ap Err (open_none fault is)))
    (λ is. absurd (open_usage fault is)) (λ none. absurd (some none)) (λ none. absurd (some none)))

-- ---- a store is opened

pub returns-in-Ok-open-clause-anywhere : goal.returns-in-Ok-open-clause-anywhere
returns-in-Ok-open-clause-anywhere g c =
    let laws : Laws g.D.Disk = record { only_now = g.met.D.Disk.only_now; counts_now = g.met.D.Disk.counts_now } in
    opened_anywhere g.D.Disk g.I.Source g.O.Sink laws c.args.words.now c.args.most c.in-Ok.order c.in-Ok-open.ready c.args.disk.now c.open.new.disk c.follow.new.disk c.args.input.now c.follow.new.input
    c.args.out.now c.follow.new.out c.follow.result c.in-Ok.ensures.answers c.in-Ok-open.ensures.found c.in-Ok-open.ensures.shape c.open.ensures.cause.later c.open.ensures.stop c.open.ensures.gate c.follow.ensures

pub returns-in-Ok-open-clause-store : goal.returns-in-Ok-open-clause-store
returns-in-Ok-open-clause-store g c =
    let laws : Laws g.D.Disk = record { only_now = g.met.D.Disk.only_now; counts_now = g.met.D.Disk.counts_now } in
    opened_store g.D.Disk g.I.Source g.O.Sink laws c.args.words.now c.args.most c.in-Ok.order c.in-Ok-open.ready c.args.disk.now c.open.new.disk c.follow.new.disk c.args.input.now c.follow.new.input
    c.args.out.now c.follow.new.out c.follow.result c.in-Ok.ensures.answers c.in-Ok-open.ensures.found c.in-Ok-open.ensures.shape c.open.ensures.cause.later c.open.ensures.stop c.open.ensures.gate c.follow.ensures
