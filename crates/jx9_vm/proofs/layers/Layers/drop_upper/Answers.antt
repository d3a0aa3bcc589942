use Rattle.std.proofs.Common.{◌-◌, ◌∙◌, ap, arith, drop, length, take}
use Rattle.jx9_vm.specs.Layered.{Layered}
use Rattle.jx9_vm.proofs.LayerLemmas.{left_under}
use Rattle.jx9_vm.proofs.layers.Layers.drop_upper.Goals as goal

pub returns-clause-here : goal.returns-clause-here
returns-clause-here c =
    ap (drop c.self.inside.floor) c.truncate.ensures.items
    ∙ left_under c.self.inside.floor c.args.count _ c.self.inside.values.items c.self.invariant (omega arith)
    ∙ ap (λ (l : Layered). take (length l.here - c.args.count) l.here) c.self.view_is
