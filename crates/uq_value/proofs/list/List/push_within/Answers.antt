use Rattle.std.proofs.Common.{arith, map, ◌++◌, ◌∷◌, [], subst}
use Rattle.uq_value.specs.Plain.{depth}
use Rattle.uq_value.specs.Internal.Beside.{CountsAre}
use Rattle.uq_value.proofs.Fields.{push_is_list, few-items}
use Rattle.uq_value.proofs.list.List.push_within.Goals as goal

pub invariant_of-self-2 : goal.invariant_of-self-2
invariant_of-self-2 c =
    push_is_list c.self.inside c.args.self.now c.args.v _ c.self.invariant c.self.view_is c.requires.fits c.is_value.ensures.sound c.in_ok-push_item.ensures.ok
    (omega (arith, c.add.ensures.size, c.requires.size))
    (omega (arith, c.add.ensures.depth, c.requires.depth))
    (subst (λ d. CountsAre c.add.new.self (map depth c.self.inside.items.items ++ d ∷ [])) c.requires.depth
    (c.add.ensures.counts (map depth c.self.inside.items.items) (few-items c.self.inside c.self.invariant) c.self.invariant.counts))
