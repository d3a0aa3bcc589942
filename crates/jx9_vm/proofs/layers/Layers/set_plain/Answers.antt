use Rattle.std.proofs.Common.{◌∙◌, ap}
use Rattle.std.specs.Prelude.{slice_set}
use Rattle.std.proofs.lemmas.List.{drop-set-add}
use Rattle.jx9_vm.specs.Layered.{Layered}
use Rattle.jx9_vm.specs.Operating.{value_of}
use Rattle.jx9_vm.proofs.layers.Layers.set_plain.Goals as goal

pub returns-then-at-len-clause-here : goal.returns-then-at-len-clause-here
returns-then-at-len-clause-here c =
    drop-set-add c.self.inside.floor c.self.inside.values.items c.args.at c.write_plain.new.value
    ∙ ap (slice_set _ c.args.at) c.write_plain.ensures
    ∙ ap (λ (l : Layered). slice_set l.here c.args.at (value_of c.args.plain)) c.self.view_is
