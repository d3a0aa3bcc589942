use Rattle.std.proofs.Common.{sym, ◌∙◌, ap}
use Rattle.std.specs.Prelude.{slice_get}
use Rattle.jx9_vm.proofs.Outcomes.{if_err_map, if_ok_map}
use Rattle.jx9_vm.proofs.RunLemmas.{step_did, step_fails, step_off}
use Rattle.jx9_vm.proofs.machine.step.Goals as goal

pub returns-in-Some-clause-did : goal.returns-in-Some-clause-did
returns-in-Some-clause-did g c =
    if_ok_map c.perform.result c.perform.ensures.did
    (λ flow did. step_did _ _ flow _ _ _ _ (ap (λ ops. slice_get ops c.args.work.now.place) (sym c.ops_at-ops.ensures) ∙ sym c.in-Some.ensures) did)

pub returns-in-Some-clause-halts : goal.returns-in-Some-clause-halts
returns-in-Some-clause-halts g c =
    if_err_map c.perform.result c.perform.ensures.fails
    (λ cause fails. step_fails _ _ _ _ _ _ _ _ cause (ap (λ ops. slice_get ops c.args.work.now.place) (sym c.ops_at-ops.ensures) ∙ sym c.in-Some.ensures) fails)

pub returns-in-None-clause-did : goal.returns-in-None-clause-did
returns-in-None-clause-did g c = step_off _ _ _ (ap (λ ops. slice_get ops c.args.work.now.place) (sym c.ops_at-ops.ensures) ∙ sym c.in-None.ensures)
