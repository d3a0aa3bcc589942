use Rattle.std.proofs.Common.{refl}
use Rattle.jx9_vm.specs.Operating.{value_of}
use Rattle.jx9_vm.proofs.UnshownLemmas.{counts_unshown, no_step}
use Rattle.jx9_vm.proofs.work.Work.count_unshown.Goals as goal

pub returns-in-Ok : goal.returns-in-Ok
returns-in-Ok c = counts_unshown c.args.self.now c.keep_plain.new.self c.args.line c.args.slot c.args.step c.keep_plain.result (value_of c.in-Ok.new) _ c.in-Ok.ensures.ok c.keep_plain.ensures

pub returns-in-Err : goal.returns-in-Err
returns-in-Err c = no_step c.args.self.now _ c.args.line c.args.slot c.args.step c.in-Err.kind _ c.in-Err.ensures.fault
    (record { ends = refl; calls = refl; units = refl; events = refl; last = refl })
