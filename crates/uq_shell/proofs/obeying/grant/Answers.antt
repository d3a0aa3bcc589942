use Rattle.std.proofs.Common.{◌≡◌, List, Option, Some, None, ℕ, Bor, sym, ap, ◌∙◌}
use Rattle.std.specs.Option.{option_map}
use Rattle.uq_model.specs.declared.limits.Limits.{Limits}
use Rattle.uq_kv.specs.Cursor.{place_of}
use Rattle.uq_kv.specs.Kv.{limits_of}
use Rattle.uq_words.specs.Texts.{spoken_as}
use Rattle.uq_shell.specs.Answers.{request_of}
use Rattle.uq_shell.specs.Asks.{asked_in, asking_of}
use Rattle.uq_shell.specs.Commands.{Request, refuses_words}
use Rattle.uq_shell.specs.Stream.{after, asked_by, obeyed_in}
use Rattle.uq_shell.specs.declared.asking.Ask.{Ask}
use Rattle.uq_shell.specs.declared.asking.Ask.TheVariants.{Script}
use Rattle.uq_shell.specs.declared.reply.Refusal.TheVariants.{ScriptTooLong, UnfinishedScript}
use Rattle.uq_shell.proofs.Answered.{moves_as}
use Rattle.uq_shell.proofs.obeying.grant.Goals as goal

pub returns-in-Some : goal.returns-in-Some
returns-in-Some g c =
    let terms = c.args.terms.now in
    let text : Option (List ℕ) = option_map (λ t. t.now) c.args.text in
    let asked = sym (ap (option_map request_of) c.in-Some.is) ∙ c.asked_by.ensures in
    moves_as g.D.Disk g.O.Sink c.args.progress.now c.obey.new.progress (place_of c.args.cursor.now) (place_of c.obey.new.cursor) c.args.kv.now c.obey.new.kv c.args.out.now c.obey.new.out c.obey.result
    (λ _ state. obeyed_in (limits_of g.D.Disk c.args.kv.now) state (request_of c.in-Some.command)) (λ judge state. asked_in judge terms state (asking_of c.args.ask.now text))
    (λ judge right state.
    ap (λ (l : Limits). obeyed_in l state (request_of c.in-Some.command)) (sym c.requires.terms.of_store)
    ∙ ap (λ (a : Option Request). after terms.limits state a) asked
    ∙ ap (λ (ask : Ask). asked_in judge terms state (asking_of ask text)) (sym c.in-Line.is))
    c.obey.ensures.moves

pub returns-in-None-text : goal.returns-in-None-text
returns-in-None-text g c =
    let terms = c.args.terms.now in
    moves_as g.D.Disk g.O.Sink c.args.progress.now c.obey-in-None-text.new.progress (place_of c.args.cursor.now) (place_of c.obey-in-None-text.new.cursor) c.args.kv.now c.obey-in-None-text.new.kv c.args.out.now c.obey-in-None-text.new.out c.obey-in-None-text.result
    (λ _ state. obeyed_in (limits_of g.D.Disk c.args.kv.now) state (refuses_words ScriptTooLong)) (λ judge state. asked_in judge terms state (asking_of c.args.ask.now (option_map (λ t. t.now) c.args.text)))
    (λ judge right state.
    ap (λ (l : Limits). obeyed_in l state (refuses_words ScriptTooLong)) (sym c.requires.terms.of_store)
    ∙ ap (λ (t : Option (Bor (List ℕ))). asked_in judge terms state (asking_of Script (option_map (λ t. t.now) t))) (sym c.in-None-text.is)
    ∙ ap (λ (ask : Ask). asked_in judge terms state (asking_of ask (option_map (λ t. t.now) c.args.text))) (sym c.in-Script.is))
    c.obey-in-None-text.ensures.moves

pub returns-in-Unfinished : goal.returns-in-Unfinished
returns-in-Unfinished g c =
    let terms = c.args.terms.now in
    let text : Option (List ℕ) = option_map (λ t. t.now) c.args.text in
    moves_as g.D.Disk g.O.Sink c.args.progress.now c.obey-in-Unfinished.new.progress (place_of c.args.cursor.now) (place_of c.obey-in-Unfinished.new.cursor) c.args.kv.now c.obey-in-Unfinished.new.kv c.args.out.now c.obey-in-Unfinished.new.out c.obey-in-Unfinished.result
    (λ _ state. obeyed_in (limits_of g.D.Disk c.args.kv.now) state (refuses_words UnfinishedScript)) (λ judge state. asked_in judge terms state (asking_of c.args.ask.now text))
    (λ judge right state.
    ap (λ (l : Limits). obeyed_in l state (refuses_words UnfinishedScript)) (sym c.requires.terms.of_store)
    ∙ ap (λ (ask : Ask). asked_in judge terms state (asking_of ask text)) (sym c.in-Unfinished.is))
    c.obey-in-Unfinished.ensures.moves
