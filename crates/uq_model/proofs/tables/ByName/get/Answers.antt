use Rattle.std.proofs.Common.{sym, ap, ◌∙◌}
use Rattle.std.specs.FinMap as map
use Rattle.std.specs.Ordering.{nat_cmp}
use Rattle.std.specs.Cmp.Lexicographic.{slice_cmp, nat_list_cmp_total}
use Rattle.uq_model.proofs.Entries.{get_is, with_parts, parts_found}
use Rattle.uq_model.proofs.tables.ByName.get.Goals as goal

pub returns : goal.returns
returns g c =
    c.get.ensures.value ∙ parts_found (slice_cmp nat_cmp) (λ k. k.items) c.args.name.now c.self.inside.tree.entries
    ∙ sym (get_is nat_list_cmp_total (with_parts (λ k. k.items) c.self.inside.tree.entries) c.args.name.now)
    ∙ ap (λ m. map.get m c.args.name.now) c.self.view_is
