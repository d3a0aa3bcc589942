use Rattle.std.proofs.Common.{List, Option, Result, Ok, sym, ap, subst, ◌∙◌, ℕ}
use Rattle.std.proofs.lemmas.Result.{err_from_is_err_and}
use Rattle.std.specs.Option.{option_map}
use Rattle.uq_words.specs.Lines.{spoken_by}
use Rattle.uq_words.specs.Taking.{Finds, left_of, most_of}
use Rattle.uq_words.specs.declared.line.Line.{Line}
use Rattle.uq_words.specs.declared.lines.Step.{Step}
use Rattle.std.specs.Prelude.{IfErr}
use Rattle.uq_words.specs.declared.error.InputFault.TheVariants.{Memory}
use Rattle.uq_shell.specs.Asks.{FindsNext, IsByInput, IsPlain}
use Rattle.uq_shell.specs.Stream.{begins_block}
use Rattle.uq_shell.specs.declared.asking.Next.{Next}
use Rattle.uq_shell.specs.declared.progress.Stop.{Stop}
use Rattle.uq_shell.proofs.Leading.{behind_line, broken_finds, last_block_finds, last_finds, line_finds, much_finds}
use Rattle.uq_shell.proofs.asking.take_next.Goals as goal

pub returns-in_err-advance-clause-finds : goal.returns-in_err-advance-clause-finds
returns-in_err-advance-clause-finds g c =
    let p = err_from_is_err_and c.from_residual.result c.from_residual.ensures.1 in
    let left = left_of g.I.Source c.args.lines.now c.args.input.now in
    subst (λ (r : Result Next Stop). FindsNext g.I.Source r left (most_of c.args.lines.now) c.advance.new.self c.advance.new.input) (sym p.1)
    (λ _. broken_finds g.I.Source c.in_err-advance.field-0.0 left (most_of c.args.lines.now) c.advance.new.self c.advance.new.input c.in_err-advance.ensures.finds)

pub returns-in-Some-clause-finds : goal.returns-in-Some-clause-finds
returns-in-Some-clause-finds g c =
    let left = left_of g.I.Source c.args.lines.now c.args.input.now in
    let found = subst (λ (s : Step). Finds g.I.Source (Ok s) left (most_of c.args.lines.now) c.advance.new.self c.advance.new.input) c.in-Line.is c.in_ok-advance.ensures.finds in
    let plain = subst (λ (o : Option Line). IsPlain (spoken_by (option_map (λ t. t.now) c.text.result)) o) c.in-Some.is c.in_ok-line-in-Line.ensures.line in
    line_finds g.I.Source left (most_of c.args.lines.now) c.advance.new.self c.advance.new.input found c.in-Some.line (plain.0 ∙ ap spoken_by c.text.ensures)
    (ap (λ (t : Option (List ℕ)). begins_block (spoken_by t)) (sym c.text.ensures) ∙ plain.1)

pub returns-in-None-clause-finds : goal.returns-in-None-clause-finds
returns-in-None-clause-finds g c =
    let left = left_of g.I.Source c.args.lines.now c.args.input.now in
    let found = subst (λ (s : Step). Finds g.I.Source (Ok s) left (most_of c.args.lines.now) c.advance.new.self c.advance.new.input) c.in-Line.is c.in_ok-advance.ensures.finds in
    let begins = subst (λ (o : Option Line). IsPlain (spoken_by (option_map (λ t. t.now) c.text.result)) o) c.in-None.is c.in_ok-line-in-Line.ensures.line in
    behind_line g.I.Source left (most_of c.args.lines.now) c.advance.new.self c.advance.new.input found (ap (λ (t : Option (List ℕ)). begins_block (spoken_by t)) (sym c.text.ensures) ∙ begins)
    c.block.result c.block.new.lines c.block.new.input c.block.ensures.finds

pub returns-in-Some-2-clause-finds : goal.returns-in-Some-2-clause-finds
returns-in-Some-2-clause-finds g c =
    let left = left_of g.I.Source c.args.lines.now c.args.input.now in
    let found = subst (λ (s : Step). Finds g.I.Source (Ok s) left (most_of c.args.lines.now) c.advance.new.self c.advance.new.input) c.in-Last.is c.in_ok-advance.ensures.finds in
    let plain = subst (λ (o : Option Line). IsPlain (spoken_by (option_map (λ t. t.now) c.text-in-Last.result)) o) c.in-Some-2.is c.in_ok-line-in-Last.ensures.line in
    last_finds g.I.Source left (most_of c.args.lines.now) c.advance.new.self c.advance.new.input found c.in-Some-2.line (plain.0 ∙ ap spoken_by c.text-in-Last.ensures)
    (ap (λ (t : Option (List ℕ)). begins_block (spoken_by t)) (sym c.text-in-Last.ensures) ∙ plain.1)

pub returns-in-None-2-clause-finds : goal.returns-in-None-2-clause-finds
returns-in-None-2-clause-finds g c =
    let left = left_of g.I.Source c.args.lines.now c.args.input.now in
    let found = subst (λ (s : Step). Finds g.I.Source (Ok s) left (most_of c.args.lines.now) c.advance.new.self c.advance.new.input) c.in-Last.is c.in_ok-advance.ensures.finds in
    let begins = subst (λ (o : Option Line). IsPlain (spoken_by (option_map (λ t. t.now) c.text-in-Last.result)) o) c.in-None-2.is c.in_ok-line-in-Last.ensures.line in
    last_block_finds g.I.Source left (most_of c.args.lines.now) c.advance.new.self c.advance.new.input found (ap (λ (t : Option (List ℕ)). begins_block (spoken_by t)) (sym c.text-in-Last.ensures) ∙ begins)

pub returns-in-TooMuch-clause-finds : goal.returns-in-TooMuch-clause-finds
returns-in-TooMuch-clause-finds g c =
    let left = left_of g.I.Source c.args.lines.now c.args.input.now in
    much_finds g.I.Source left (most_of c.args.lines.now) c.advance.new.self c.advance.new.input
    (subst (λ (s : Step). Finds g.I.Source (Ok s) left (most_of c.args.lines.now) c.advance.new.self c.advance.new.input) c.in-TooMuch.is c.in_ok-advance.ensures.finds)

pub returns-in_err-advance-clause-stops : goal.returns-in_err-advance-clause-stops
returns-in_err-advance-clause-stops g c =
    let p = err_from_is_err_and c.from_residual.result c.from_residual.ensures.1 in
    subst (λ (r : Result Next Stop). IfErr r IsByInput) (sym p.1) (c.in_err-advance.field-0.0, p.2)

pub returns-in_err-line-in-Line-clause-stops : goal.returns-in_err-line-in-Line-clause-stops
returns-in_err-line-in-Line-clause-stops g c =
    let p = err_from_is_err_and c.from_residual-in_err-line-in-Line.result c.from_residual-in_err-line-in-Line.ensures.1 in
    subst (λ (r : Result Next Stop). IfErr r IsByInput) (sym p.1) (Memory, p.2 ∙ c.in_err-line-in-Line.ensures.memory)

pub returns-in_err-line-in-Last-clause-stops : goal.returns-in_err-line-in-Last-clause-stops
returns-in_err-line-in-Last-clause-stops g c =
    let p = err_from_is_err_and c.from_residual-in_err-line-in-Last.result c.from_residual-in_err-line-in-Last.ensures.1 in
    subst (λ (r : Result Next Stop). IfErr r IsByInput) (sym p.1) (Memory, p.2 ∙ c.in_err-line-in-Last.ensures.memory)
