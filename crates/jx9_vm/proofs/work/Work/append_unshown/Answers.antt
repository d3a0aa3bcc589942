use Rattle.std.proofs.Common.{◌≤◌, subst, sym}
use Rattle.uq_value.specs.Size.{most_size, text_size}
use Rattle.jx9_vm.proofs.UnshownLemmas.{text_unshown}
use Rattle.jx9_vm.proofs.work.Work.append_unshown.Goals as goal

pub returns-in-Ok-clause-ok : goal.returns-in-Ok-clause-ok
returns-in-Ok-clause-ok c =
    text_unshown c.args.self.now c.take_joined.new.self c.keep_sized.new.self c.args.line c.args.slot c.keep_sized.result c.take_joined.ensures.taken
    c.in-Ok.text c.in-Ok.ensures.ok (subst (λ bs. text_size bs ≤ most_size) (sym c.in-Ok.ensures.ok) c.in-Ok.ensures.fits) c.keep_sized.ensures
