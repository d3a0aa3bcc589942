use Rattle.jx9_vm.proofs.UnshownLemmas.{changes_unshown, operated_after}
use Rattle.jx9_vm.proofs.work.Work.change_by_unshown.Goals as goal

pub returns-in-Ok : goal.returns-in-Ok
returns-in-Ok c =
    changes_unshown c.args.self.now c.pop-right.new.self c.keep.new.self c.args.line c.args.slot c.keep.result c.pop-right.ensures.popped c.in-Ok.value _
    (operated_after c.args.self.now c.pop-right.new.self c.args.slot c.args.operator c.in-Ok.value _ c.pop-right.ensures.popped c.pop-right.ensures.value c.in-Ok.ensures)
    c.keep.ensures.fits c.keep.ensures.skips
