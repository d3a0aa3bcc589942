use Rattle.std.proofs.Common.{Option, Result, Err, sym, ap, subst, ◌∙◌}
use Rattle.std.proofs.lemmas.Result.{err_from_is_err_and}
use Rattle.uq_words.specs.Taking.{left_of, most_of}
use Rattle.uq_words.specs.TakingBlocks.{FindsInner}
use Rattle.uq_words.specs.declared.blocks.BlockStep.{BlockStep}
use Rattle.uq_words.specs.declared.error.InputFault.{InputFault}
use Rattle.uq_words.proofs.BlockSteps.{dot_found, inner_found, part_found, too_much_found}
use Rattle.uq_words.proofs.lines.Lines.pass_line.Goals as goal

pub returns-in_err-step-clause-finds : goal.returns-in_err-step-clause-finds
returns-in_err-step-clause-finds g c =
    let p = err_from_is_err_and c.from_residual.result c.from_residual.ensures.1 in
    subst (λ (r : Result (Option BlockStep) InputFault). FindsInner g.I.Source r (left_of g.I.Source c.args.self.now c.args.input.now) (most_of c.args.self.now) c.take_line.new.self c.take_line.new.input)
    (sym (p.1 ∙ ap (λ (e : InputFault). Err e) p.2)) (part_found g.I.Source _ _ c.in_err-step.ensures.finds)

pub returns-in-Line-true-clause-finds : goal.returns-in-Line-true-clause-finds
returns-in-Line-true-clause-finds g c =
    dot_found g.I.Source c.take_line.new.self c.drop_line-is_dot.new.self c.take_line.new.input c.drop_line-is_dot.ensures.drops c.in_ok-step.step _ _ c.in-Line-true.is-0 c.in_ok-step.ensures.finds
    c.in-Line-true.ensures.dot

pub returns-in-Line-false-clause-finds : goal.returns-in-Line-false-clause-finds
returns-in-Line-false-clause-finds g c =
    inner_found g.I.Source c.take_line.new.self c.drop_line-is_dot.new.self c.take_line.new.input c.drop_line-is_dot.ensures.drops c.in_ok-step.step _ _ c.in-Line-false.is-0 c.in_ok-step.ensures.finds
    c.in-Line-false.ensures.dot

pub returns-in-TooMuch-default-clause-finds : goal.returns-in-TooMuch-default-clause-finds
returns-in-TooMuch-default-clause-finds g c =
    too_much_found g.I.Source c.in_ok-step.step _ _ c.take_line.new.self c.take_line.new.input c.in-TooMuch-default.is-0 c.in_ok-step.ensures.finds
