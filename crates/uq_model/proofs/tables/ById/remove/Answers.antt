use Rattle.std.proofs.Common.{sym, ap, ◌∙◌}
use Rattle.std.specs.FinMap as map
use Rattle.std.specs.Ordering.{nat_cmp}
use Rattle.std.specs.Cmp.{nat_cmp_total}
use Rattle.std.specs.FinMap.{nat_cmp-IsAntisymmetric}
use Rattle.uq_model.proofs.Entries.{get_is, removed}
use Rattle.uq_model.proofs.tables.ById.remove.Goals as goal

pub returns-clause-value : goal.returns-clause-value
returns-clause-value g c = c.remove.ensures.value ∙ sym (get_is nat_cmp_total c.self.inside.tree.entries c.args.id)
    ∙ ap (λ m. map.get m c.args.id) c.self.view_is

pub returns-clause-removed : goal.returns-clause-removed
returns-clause-removed g c =
    ap (λ es. map.from_entries {R = nat_cmp} es) c.remove.ensures.entries
    ∙ removed nat_cmp_total nat_cmp-IsAntisymmetric c.self.inside.tree.entries c.args.id c.len.ensures.ordered
    ∙ ap (λ m. map.remove m c.args.id) c.self.view_is
