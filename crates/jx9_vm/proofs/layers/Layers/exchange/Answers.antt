use Rattle.std.proofs.Common.{◌∙◌, ap}
use Rattle.std.specs.Prelude.{slice_set}
use Rattle.std.proofs.lemmas.List.{drop-set-add}
use Rattle.jx9_vm.specs.Layered.{Layered}
use Rattle.jx9_vm.proofs.layers.Layers.exchange.Goals as goal

pub returns-then-at-len-clause-here : goal.returns-then-at-len-clause-here
returns-then-at-len-clause-here c =
    drop-set-add c.self.inside.floor c.self.inside.values.items c.args.at c.replace.new.dest
    ∙ ap (slice_set _ c.args.at) c.replace.ensures.after
    ∙ ap (λ (l : Layered). slice_set l.here c.args.at c.args.value) c.self.view_is
