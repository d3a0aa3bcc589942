use Rattle.std.proofs.Common.{◌≡◌}
use Rattle.jx9_vm.specs.declared.work.Flow.TheVariants.{Next}
use Rattle.jx9_vm.specs.Step.{At}
use Rattle.jx9_vm.specs.Work.{left_of}
use Rattle.jx9_vm.proofs.machine.drive.Given as goal

abbrev pub invariant-ops : goal.invariant-ops
invariant-ops g l = record {
  at : At l.code Next l.fn.work l.work (g.O.Sink.written l.fn.out) (g.O.Sink.written l.out);
  calm : g.O.Sink.faults l.out ≡ g.O.Sink.faults l.fn.out;
}

abbrev pub decreases-ops : goal.decreases-ops
decreases-ops g l = left_of l.code l.work
