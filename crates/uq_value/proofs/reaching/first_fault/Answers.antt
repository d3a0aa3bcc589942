use Rattle.std.proofs.Common.{◌+◌, drop, refl, subst}
use Rattle.uq_value.proofs.Steps.{StandsFor, now_or, goes_on, refused_here, leads_whole}
use Rattle.uq_value.proofs.reaching.first_fault.Goals as goal

pub returns-in-Err : goal.returns-in-Err
returns-in-Err c = refused_here c.args.steps.now c.args.v.now c.loop-step.here.now c.loop-step.step-index c.step-item.result c.step-item.is c.loop-step-test.true c.loop-step.invariant c.in-Err.e c.in-Err.ensures

pub loop-step-preserved : goal.loop-step-preserved
loop-step-preserved c =
    subst (λ here. StandsFor (drop (c.loop-step.step-index + 1) c.args.steps.now) here c.args.steps.now c.args.v.now) (now_or c.in-Ok.next _ c.unwrap_or-here.result c.unwrap_or-here.ensures refl)
    (goes_on c.args.steps.now c.args.v.now c.loop-step.here.now c.loop-step.step-index c.step-item.result c.step-item.is c.loop-step-test.true c.loop-step.invariant _ c.in-Ok.ensures)

pub returns : goal.returns
returns c = leads_whole c.args.steps.now c.args.v.now c.loop-step.here.now c.loop-step.step-index c.loop-step-test.false c.loop-step.invariant
