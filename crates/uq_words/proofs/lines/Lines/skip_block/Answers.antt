use Rattle.std.proofs.Common.{Option, Result, Err, Ok, refl, sym, ap, subst, ◌∙◌, arith}
use Rattle.std.proofs.lemmas.Result.{err_from_is_err_and}
use Rattle.uq_words.specs.Blocks.{no_text}
use Rattle.uq_words.specs.Taking.{Shortens, Takes, left_of, most_of}
use Rattle.uq_words.specs.TakingBlocks.{FindsBlockBy, FindsInner, passed_step}
use Rattle.uq_words.specs.declared.blocks.BlockStep.{BlockStep}
use Rattle.uq_words.specs.declared.error.InputFault.{InputFault}
use Rattle.uq_words.specs.declared.lines.Step.TheVariants.{Line}
use Rattle.uq_words.proofs.BlockSteps.{fault_behind, found_behind, going_line, passed_on}
use Rattle.uq_words.proofs.Pieces.{takes_on}
use Rattle.uq_words.proofs.lines.Lines.skip_block.Goals as goal

pub returns-in_err-step-clause-finds : goal.returns-in_err-step-clause-finds
returns-in_err-step-clause-finds g c =
    let p = err_from_is_err_and c.from_residual.result c.from_residual.ensures.1 in
    subst (λ (r : Result BlockStep InputFault). FindsBlockBy g.I.Source no_text r (left_of g.I.Source c.args.self.now c.args.input.now) (most_of c.args.self.now) c.pass_line.new.self c.pass_line.new.input)
    (sym (p.1 ∙ ap (λ (e : InputFault). Err e) p.2)) (fault_behind g.I.Source _ _ _ _ _ c.lines.invariant.passed c.in_err-step.ensures.finds)

pub returns-in-Some-clause-finds : goal.returns-in-Some-clause-finds
returns-in-Some-clause-finds g c =
    found_behind g.I.Source c.in-Some.step _ _ _ _ c.pass_line.new.self c.pass_line.new.input c.lines.invariant.passed
    (subst (λ (o : Option BlockStep). FindsInner g.I.Source (Ok o) (left_of g.I.Source c.lines.self c.lines.input) (most_of c.lines.self) c.pass_line.new.self c.pass_line.new.input) c.in-Some.is
    c.in_ok-step.ensures.finds)

pub lines-preserved : goal.lines-preserved
lines-preserved g c = record {
  passed =
      passed_on g.I.Source _ _ _ _ _ _ c.lines.invariant.passed
      (subst (λ (o : Option BlockStep). FindsInner g.I.Source (Ok o) (left_of g.I.Source c.lines.self c.lines.input) (most_of c.lines.self) c.pass_line.new.self c.pass_line.new.input) c.in_default.is
      c.in_ok-step.ensures.finds);
  most =
      let less = subst (λ (o : Option BlockStep). Shortens (passed_step (Ok o)) c.lines.self c.pass_line.new.self) c.in_default.is c.in_ok-step.ensures.shorter refl in
      let before = c.lines.invariant.most in
      omega arith;
  going =
      going_line g.I.Source c.args.self.now c.pass_line.new.self c.args.input.now c.pass_line.new.input
      (takes_on g.I.Source c.args.self.now c.args.input.now c.lines.self c.lines.input c.lines.invariant.going (Ok Line) c.pass_line.new.self c.pass_line.new.input
      (subst (λ (o : Option BlockStep). Takes g.I.Source (passed_step (Ok o)) c.lines.self c.lines.input c.pass_line.new.self c.pass_line.new.input) c.in_default.is c.in_ok-step.ensures.takes));
}
