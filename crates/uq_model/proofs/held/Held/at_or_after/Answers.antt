use Rattle.std.proofs.Common.{sym, subst}
use Rattle.std.specs.Option.{IfSome}
use Rattle.uq_model.specs.Base.{IsIdFrom}
use Rattle.uq_model.proofs.Looks.{id_bounds}
use Rattle.uq_model.proofs.held.Held.at_or_after.Goals as goal

pub returns-in-Some-clause-bounds : goal.returns-in-Some-clause-bounds
returns-in-Some-clause-bounds c =
    subst (λ o. IfSome o (IsIdFrom c.args.id)) (sym c.at_or_after.ensures)
    (id_bounds c.args.name.now c.in-Some.collection.now c.args.id
    (c.args.self.now.is_store.collections c.args.name.now c.in-Some.collection.now (sym c.in-Some.ensures)))
