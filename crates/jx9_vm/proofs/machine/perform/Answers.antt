use Rattle.jx9_compile.specs.declared.op.Op.TheVariants.{Change, Count}
use Rattle.jx9_vm.proofs.Arms.{arm, arm_fails, dropped_in_code, within_code}
use Rattle.jx9_vm.proofs.DropLemmas.{unshown_did}
use Rattle.jx9_vm.proofs.Outcomes.{if_err_map, if_ok_map}
use Rattle.jx9_vm.proofs.OpLemmas.{add_did, assign_did, change_did, copy_did, count_did, join_did, load_did, not_did, operate_did, pop_did, push_did, store_did, unit_did}
use Rattle.jx9_vm.proofs.JumpLemmas.{if_did, jump_did, unless_did}
use Rattle.jx9_vm.proofs.CallLemmas.{call_did, end_did}
use Rattle.jx9_vm.proofs.LayerLemmas.{rest_under}
use Rattle.jx9_vm.proofs.PrintLemmas.{memory_fails, print_did, print_fails}
use Rattle.jx9_vm.proofs.machine.perform.Goals as goal

pub returns-in-Unit-clause-did : goal.returns-in-Unit-clause-did
returns-in-Unit-clause-did g c = arm _ _ _ _ _ _ _ _ c.in-Unit.is (unit_did _ _ _ _ _ (within_code c.args.code.now c.args.ops.now c.args.work.now c.requires.ops c.requires.within) c.in-Unit._line c.unit.ensures)

pub returns-in-Push-clause-did : goal.returns-in-Push-clause-did
returns-in-Push-clause-did g c = if_ok_map c.push.result c.push.ensures.ok (λ flow ok. arm _ _ _ _ _ _ _ _ c.in-Push.is (push_did _ _ _ _ _ (within_code c.args.code.now c.args.ops.now c.args.work.now c.requires.ops c.requires.within) _ ok))

pub returns-in-Push-clause-fails : goal.returns-in-Push-clause-fails
returns-in-Push-clause-fails g c = if_err_map c.push.result c.push.ensures.stopped (λ cause unmade. memory_fails _ _ _ _ _ _ cause unmade)

pub returns-in-Pop-clause-did : goal.returns-in-Pop-clause-did
returns-in-Pop-clause-did g c = arm _ _ _ _ _ _ _ _ c.in-Pop.is (pop_did _ _ _ _ _ (within_code c.args.code.now c.args.ops.now c.args.work.now c.requires.ops c.requires.within) c.drop_top.ensures)

pub returns-in-Copy-clause-did : goal.returns-in-Copy-clause-did
returns-in-Copy-clause-did g c = if_ok_map c.copy_top.result c.copy_top.ensures.ok (λ flow ok. arm _ _ _ _ _ _ _ _ c.in-Copy.is (copy_did _ _ _ _ _ (within_code c.args.code.now c.args.ops.now c.args.work.now c.requires.ops c.requires.within) ok))

pub returns-in-Copy-clause-fails : goal.returns-in-Copy-clause-fails
returns-in-Copy-clause-fails g c = if_err_map c.copy_top.result c.copy_top.ensures.stopped (λ cause unmade. memory_fails _ _ _ _ _ _ cause unmade)

pub returns-in-Load-clause-did : goal.returns-in-Load-clause-did
returns-in-Load-clause-did g c = if_ok_map c.load.result c.load.ensures.ok (λ flow ok. arm _ _ _ _ _ _ _ _ c.in-Load.is (load_did _ _ _ _ _ (within_code c.args.code.now c.args.ops.now c.args.work.now c.requires.ops c.requires.within) _ ok))

pub returns-in-Load-clause-fails : goal.returns-in-Load-clause-fails
returns-in-Load-clause-fails g c = if_err_map c.load.result c.load.ensures.stopped (λ cause unmade. memory_fails _ _ _ _ _ _ cause unmade)

pub returns-in-Store-clause-did : goal.returns-in-Store-clause-did
returns-in-Store-clause-did g c = arm _ _ _ _ _ _ _ _ c.in-Store.is (store_did _ _ _ _ _ (within_code c.args.code.now c.args.ops.now c.args.work.now c.requires.ops c.requires.within) _ c.store.ensures)

pub returns-in-Assign-clause-did : goal.returns-in-Assign-clause-did
returns-in-Assign-clause-did g c = arm _ _ _ _ _ _ _ _ c.in-Assign.is (assign_did _ _ _ _ _ (within_code c.args.code.now c.args.ops.now c.args.work.now c.requires.ops c.requires.within) _ _ c.assign.ensures.fits c.assign.ensures.passes)

pub returns-then-is_dropped-clause-did : goal.returns-then-is_dropped-clause-did
returns-then-is_dropped-clause-did g c =
    arm _ _ _ _ _ _ _ _ c.in-Count.is (unshown_did _ (Count c.in-Count.slot c.in-Count.step c.in-Count.line) _ c.count_unshown.result c.args.work.now c.count_unshown.new.self _
    (dropped_in_code c.args.code.now c.args.ops.now c.args.work.now c.requires.ops c.if-is_dropped.ensures.pops)
    (λ f mid counts. count_did _ f c.args.work.now mid _ (within_code c.args.code.now c.args.ops.now c.args.work.now c.requires.ops c.requires.within) _ _ _ counts) c.count_unshown.ensures)

pub returns-else-is_dropped-clause-did : goal.returns-else-is_dropped-clause-did
returns-else-is_dropped-clause-did g c = if_ok_map c.count.result c.count.ensures.ok (λ flow ok. arm _ _ _ _ _ _ _ _ c.in-Count.is (count_did _ _ _ _ _ (within_code c.args.code.now c.args.ops.now c.args.work.now c.requires.ops c.requires.within) _ _ _ ok))

pub returns-else-is_dropped-clause-fails : goal.returns-else-is_dropped-clause-fails
returns-else-is_dropped-clause-fails g c = if_err_map c.count.result c.count.ensures.stopped (λ cause unmade. memory_fails _ _ _ _ _ _ cause unmade)

pub returns-then-is_dropped-2-clause-did : goal.returns-then-is_dropped-2-clause-did
returns-then-is_dropped-2-clause-did g c =
    if_ok_map c.change_unshown.result c.change_unshown.ensures.ok (λ flow ok. arm _ _ _ _ _ _ _ _ c.in-Change.is (unshown_did _ (Change c.in-Change.slot c.in-Change.how c.in-Change.line) _ flow c.args.work.now c.change_unshown.new.self _
    (dropped_in_code c.args.code.now c.args.ops.now c.args.work.now c.requires.ops c.if-is_dropped-2.ensures.pops)
    (λ f mid changes. change_did _ f c.args.work.now mid _ (within_code c.args.code.now c.args.ops.now c.args.work.now c.requires.ops c.requires.within) _ _ _ changes) ok))

pub returns-then-is_dropped-2-clause-fails : goal.returns-then-is_dropped-2-clause-fails
returns-then-is_dropped-2-clause-fails g c = if_err_map c.change_unshown.result c.change_unshown.ensures.stopped (λ cause unmade. memory_fails _ _ _ _ _ _ cause unmade)

pub returns-else-is_dropped-2-clause-did : goal.returns-else-is_dropped-2-clause-did
returns-else-is_dropped-2-clause-did g c = if_ok_map c.change.result c.change.ensures.ok (λ flow ok. arm _ _ _ _ _ _ _ _ c.in-Change.is (change_did _ _ _ _ _ (within_code c.args.code.now c.args.ops.now c.args.work.now c.requires.ops c.requires.within) _ _ _ ok))

pub returns-else-is_dropped-2-clause-fails : goal.returns-else-is_dropped-2-clause-fails
returns-else-is_dropped-2-clause-fails g c = if_err_map c.change.result c.change.ensures.stopped (λ cause unmade. memory_fails _ _ _ _ _ _ cause unmade)

pub returns-in-Add-clause-did : goal.returns-in-Add-clause-did
returns-in-Add-clause-did g c = if_ok_map c.operate.result c.operate.ensures.ok (λ flow ok. arm _ _ _ _ _ _ _ _ c.in-Add.is (add_did _ _ _ _ _ (within_code c.args.code.now c.args.ops.now c.args.work.now c.requires.ops c.requires.within) _ ok))

pub returns-in-Add-clause-fails : goal.returns-in-Add-clause-fails
returns-in-Add-clause-fails g c = if_err_map c.operate.result c.operate.ensures.stopped (λ cause unmade. memory_fails _ _ _ _ _ _ cause unmade)

pub returns-in-Operate-clause-did : goal.returns-in-Operate-clause-did
returns-in-Operate-clause-did g c = if_ok_map c.operate-in-Operate.result c.operate-in-Operate.ensures.ok (λ flow ok. arm _ _ _ _ _ _ _ _ c.in-Operate.is (operate_did _ _ _ _ _ (within_code c.args.code.now c.args.ops.now c.args.work.now c.requires.ops c.requires.within) _ _ ok))

pub returns-in-Operate-clause-fails : goal.returns-in-Operate-clause-fails
returns-in-Operate-clause-fails g c = if_err_map c.operate-in-Operate.result c.operate-in-Operate.ensures.stopped (λ cause unmade. memory_fails _ _ _ _ _ _ cause unmade)

pub returns-in-Not-clause-did : goal.returns-in-Not-clause-did
returns-in-Not-clause-did g c = if_ok_map c.not.result c.not.ensures.ok (λ flow ok. arm _ _ _ _ _ _ _ _ c.in-Not.is (not_did _ _ _ _ _ (within_code c.args.code.now c.args.ops.now c.args.work.now c.requires.ops c.requires.within) ok))

pub returns-in-Not-clause-fails : goal.returns-in-Not-clause-fails
returns-in-Not-clause-fails g c = if_err_map c.not.result c.not.ensures.stopped (λ cause unmade. memory_fails _ _ _ _ _ _ cause unmade)

pub returns-in-Join-clause-did : goal.returns-in-Join-clause-did
returns-in-Join-clause-did g c = if_ok_map c.join.result c.join.ensures.ok (λ flow ok. arm _ _ _ _ _ _ _ _ c.in-Join.is (join_did _ _ _ _ _ (within_code c.args.code.now c.args.ops.now c.args.work.now c.requires.ops c.requires.within) _ _ ok))

pub returns-in-Join-clause-fails : goal.returns-in-Join-clause-fails
returns-in-Join-clause-fails g c = if_err_map c.join.result c.join.ensures.stopped (λ cause unmade. memory_fails _ _ _ _ _ _ cause unmade)

pub returns-in-Jump-clause-did : goal.returns-in-Jump-clause-did
returns-in-Jump-clause-did g c = arm _ _ _ _ _ _ _ _ c.in-Jump.is (jump_did _ _ _ _ _ _ _ c.requires.ops c.requires.within c.jump.ensures)

pub returns-in-JumpUnless-clause-did : goal.returns-in-JumpUnless-clause-did
returns-in-JumpUnless-clause-did g c = arm _ _ _ _ _ _ _ _ c.in-JumpUnless.is (unless_did _ _ _ _ _ _ _ c.requires.ops c.requires.within c.jump_where.ensures)

pub returns-in-JumpIf-clause-did : goal.returns-in-JumpIf-clause-did
returns-in-JumpIf-clause-did g c = arm _ _ _ _ _ _ _ _ c.in-JumpIf.is (if_did _ _ _ _ _ _ _ c.requires.ops c.requires.within c.jump_where-in-JumpIf.ensures)

pub returns-in-Call-clause-did : goal.returns-in-Call-clause-did
returns-in-Call-clause-did g c = if_ok_map c.call.result c.call.ensures.ok (λ flow ok. arm _ _ _ _ _ _ _ _ c.in-Call.is (call_did _ _ _ _ _ _ _ _ (within_code c.args.code.now c.args.ops.now c.args.work.now c.requires.ops c.requires.within) (rest_under _ c.args.work.now.stack.here) ok))

pub returns-in-Call-clause-fails : goal.returns-in-Call-clause-fails
returns-in-Call-clause-fails g c = if_err_map c.call.result c.call.ensures.stopped (λ cause unmade. memory_fails _ _ _ _ _ _ cause unmade)

pub returns-in-End-clause-did : goal.returns-in-End-clause-did
returns-in-End-clause-did g c = if_ok_map c.end.result c.end.ensures.ok (λ flow ok. arm _ _ _ _ _ _ _ _ c.in-End.is (end_did _ _ _ _ _ (within_code c.args.code.now c.args.ops.now c.args.work.now c.requires.ops c.requires.within) ok))

pub returns-in-End-clause-fails : goal.returns-in-End-clause-fails
returns-in-End-clause-fails g c = if_err_map c.end.result c.end.ensures.stopped (λ cause unmade. memory_fails _ _ _ _ _ _ cause unmade)

pub returns-in-Print-clause-did : goal.returns-in-Print-clause-did
returns-in-Print-clause-did g c = if_ok_map c.print.result c.print.ensures.prints (λ flow prints. arm _ _ _ _ _ _ _ _ c.in-Print.is (print_did _ _ _ _ _ _ (within_code c.args.code.now c.args.ops.now c.args.work.now c.requires.ops c.requires.within) prints))

pub returns-in-Print-clause-fails : goal.returns-in-Print-clause-fails
returns-in-Print-clause-fails g c = if_err_map c.print.result c.print.ensures.misses (λ cause misses. arm_fails _ _ _ _ _ _ _ _ _ cause c.in-Print.is (print_fails _ _ _ _ _ _ _ cause misses))
