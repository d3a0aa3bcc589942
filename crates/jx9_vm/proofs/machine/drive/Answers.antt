use Rattle.std.proofs.Common.{refl, sym, ◌∙◌, subst}
use Rattle.jx9_vm.specs.Step.{IsGoing}
use Rattle.jx9_vm.proofs.RunLemmas.{at_arm, at_halt, at_start}
use Rattle.jx9_vm.proofs.machine.drive.Goals as goal

pub ops-init : goal.ops-init
ops-init g c = record { at = at_start _ _ _ c.requires.events c.requires.last; calm = refl }

pub ops-preserved : goal.ops-preserved
ops-preserved g c = record {
  at = at_arm _ _ _ _ _ _ _ _ _ c.in-Next.is c.ops.invariant.at c.in-Ok.ensures.did;
  calm = c.in-Ok.ensures.quiet ∙ c.ops.invariant.calm;
}

pub ops-smaller : goal.ops-smaller
ops-smaller g c = c.in-Ok.ensures.did.1.falls (subst IsGoing (sym c.in-Next.is) tt)

pub returns-in-Ends-clause-ended : goal.returns-in-Ends-clause-ended
returns-in-Ends-clause-ended g c = at_arm _ _ _ _ _ _ _ _ _ c.in-Ends.is c.ops.invariant.at c.in-Ok.ensures.did

pub returns-in-Ends-clause-quiet : goal.returns-in-Ends-clause-quiet
returns-in-Ends-clause-quiet g c = c.in-Ok.ensures.quiet ∙ c.ops.invariant.calm

pub returns-in-Err-clause-stopped : goal.returns-in-Err-clause-stopped
returns-in-Err-clause-stopped g c = at_halt _ _ _ _ _ _ _ _ _ _ _ c.ops.invariant.at c.ops.invariant.calm c.in-Err.ensures.halts
