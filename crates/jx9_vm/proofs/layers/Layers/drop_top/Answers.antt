use Rattle.std.proofs.Common.{◌-◌, ◌∙◌, ap, arith, drop, length, reverse}
use Rattle.jx9_compile.specs.Machine.{below}
use Rattle.jx9_vm.specs.Layered.{Layered}
use Rattle.jx9_vm.proofs.LayerLemmas.{below_one, left_under, rest_under}
use Rattle.jx9_vm.proofs.layers.Layers.drop_top.Goals as goal

pub returns-then-self-len-clause-rest : goal.returns-then-self-len-clause-rest
returns-then-self-len-clause-rest c =
    let xs = c.self.inside.values.items in
    ap (λ ys. reverse (drop c.self.inside.floor ys)) c.drop_last.ensures.items
    ∙ ap reverse (left_under c.self.inside.floor 1 (length xs - 1) xs c.self.invariant (omega arith))
    ∙ rest_under 1 (drop c.self.inside.floor xs)
    ∙ below_one (reverse (drop c.self.inside.floor xs))
    ∙ ap (λ (l : Layered). below (reverse l.here)) c.self.view_is
