use Rattle.std.proofs.Common.{sym, ap, ◌∙◌}
use Rattle.std.specs.FinMap as map
use Rattle.std.specs.Cmp.{nat_cmp_total}
use Rattle.uq_model.proofs.Entries.{get_is}
use Rattle.uq_model.proofs.tables.ById.get.Goals as goal

pub returns : goal.returns
returns g c = c.get.ensures.value ∙ sym (get_is nat_cmp_total c.self.inside.tree.entries c.args.id)
    ∙ ap (λ m. map.get m c.args.id) c.self.view_is
