use Rattle.std.proofs.Common.{◌-◌, ◌++◌, ◌∙◌, ap, arith, length, replicate}
use Rattle.uq_value.specs.declared.value.Value.{Value}
use Rattle.jx9_vm.specs.Layered.{Layered}
use Rattle.jx9_vm.proofs.Outcomes.{on_ok_map}
use Rattle.jx9_vm.proofs.LayerLemmas.{nulls_on_top}
use Rattle.jx9_vm.proofs.layers.Layers.fill.Goals as goal

pub returns-clause-here : goal.returns-clause-here
returns-clause-here c =
    on_ok_map c.push_nulls.result c.push_nulls.ensures.pushed (λ pushed.
    nulls_on_top c.self.inside.floor c.args.count _ c.self.inside.values.items c.push_nulls.new.values.items Value.Null c.self.invariant (omega arith) pushed
    ∙ ap (λ (l : Layered). l.here ++ replicate (c.args.count - length l.here) Value.Null) c.self.view_is)
