use Rattle.std.proofs.Common.{Result, Ok, Err, inl, inr, sym, ap, subst, ◌∙◌}
use Rattle.std.proofs.lemmas.Result.{err_from_is_err_and}
use Rattle.uq_words.specs.Taking.{left_of, most_of}
use Rattle.uq_words.specs.TakingBlocks.{FindsBlock}
use Rattle.uq_words.specs.declared.blocks.BlockStep.{BlockStep}
use Rattle.std.specs.Prelude.{IfErr}
use Rattle.uq_shell.specs.Asks.{FindsInBlock, IsByInput}
use Rattle.uq_shell.specs.declared.asking.Next.{Next}
use Rattle.uq_shell.specs.declared.progress.Stop.{Stop}
use Rattle.uq_shell.proofs.Leading.{closed_finds, closed_last_finds, fault_finds, too_much_finds, unfinished_finds}
use Rattle.uq_shell.proofs.asking.block.Goals as goal

pub returns-in_err-advance_block-clause-finds : goal.returns-in_err-advance_block-clause-finds
returns-in_err-advance_block-clause-finds g c =
    let p = err_from_is_err_and c.from_residual.result c.from_residual.ensures.1 in
    subst (λ (r : Result Next Stop). FindsInBlock g.I.Source r (left_of g.I.Source c.args.lines.now c.args.input.now) (most_of c.args.lines.now) c.advance_block.new.self c.advance_block.new.input) (sym p.1)
    (λ _. fault_finds g.I.Source c.in_err-advance_block.field-0.0 (left_of g.I.Source c.args.lines.now c.args.input.now) (most_of c.args.lines.now) c.advance_block.new.self c.advance_block.new.input c.in_err-advance_block.ensures.finds)

pub returns-in-Closed-clause-finds : goal.returns-in-Closed-clause-finds
returns-in-Closed-clause-finds g c =
    let left = left_of g.I.Source c.args.lines.now c.args.input.now in
    closed_finds g.I.Source left (most_of c.args.lines.now) c.advance_block.new.self c.advance_block.new.input
    (subst (λ (b : BlockStep). FindsBlock g.I.Source (Ok b) left (most_of c.args.lines.now) c.advance_block.new.self c.advance_block.new.input) c.in-Closed.is c.in_ok-advance_block.ensures.finds)

pub returns-in-Closed-clause-short : goal.returns-in-Closed-clause-short
returns-in-Closed-clause-short g c = c.in_ok-advance_block.ensures.short (inl (ap (λ (b : BlockStep). Ok b) c.in-Closed.is))

pub returns-in-ClosedLast-clause-finds : goal.returns-in-ClosedLast-clause-finds
returns-in-ClosedLast-clause-finds g c =
    let left = left_of g.I.Source c.args.lines.now c.args.input.now in
    closed_last_finds g.I.Source left (most_of c.args.lines.now) c.advance_block.new.self c.advance_block.new.input
    (subst (λ (b : BlockStep). FindsBlock g.I.Source (Ok b) left (most_of c.args.lines.now) c.advance_block.new.self c.advance_block.new.input) c.in-ClosedLast.is c.in_ok-advance_block.ensures.finds)

pub returns-in-ClosedLast-clause-short : goal.returns-in-ClosedLast-clause-short
returns-in-ClosedLast-clause-short g c = c.in_ok-advance_block.ensures.short (inr (ap (λ (b : BlockStep). Ok b) c.in-ClosedLast.is))

pub returns-in-Unfinished-clause-finds : goal.returns-in-Unfinished-clause-finds
returns-in-Unfinished-clause-finds g c =
    let left = left_of g.I.Source c.args.lines.now c.args.input.now in
    unfinished_finds g.I.Source left (most_of c.args.lines.now) c.advance_block.new.self c.advance_block.new.input
    (subst (λ (b : BlockStep). FindsBlock g.I.Source (Ok b) left (most_of c.args.lines.now) c.advance_block.new.self c.advance_block.new.input) c.in-Unfinished.is c.in_ok-advance_block.ensures.finds)

pub returns-in-TooMuch-clause-finds : goal.returns-in-TooMuch-clause-finds
returns-in-TooMuch-clause-finds g c =
    let left = left_of g.I.Source c.args.lines.now c.args.input.now in
    too_much_finds g.I.Source left (most_of c.args.lines.now) c.advance_block.new.self c.advance_block.new.input
    (subst (λ (b : BlockStep). FindsBlock g.I.Source (Ok b) left (most_of c.args.lines.now) c.advance_block.new.self c.advance_block.new.input) c.in-TooMuch.is c.in_ok-advance_block.ensures.finds)

pub returns-in_err-advance_block-clause-stops : goal.returns-in_err-advance_block-clause-stops
returns-in_err-advance_block-clause-stops g c =
    let p = err_from_is_err_and c.from_residual.result c.from_residual.ensures.1 in
    subst (λ (r : Result Next Stop). IfErr r IsByInput) (sym p.1) (c.in_err-advance_block.field-0.0, p.2)
