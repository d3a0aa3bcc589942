use Rattle.std.proofs.Common.{sym, ap, ◌∙◌}
use Rattle.std.specs.FinMap as map
use Rattle.std.specs.Ordering.{nat_cmp}
use Rattle.std.specs.FinMap.{nat_cmp-IsAntisymmetric, slice_cmp-IsAntisymmetric}
use Rattle.std.specs.Cmp.Lexicographic.{slice_cmp, nat_list_cmp_total}
use Rattle.uq_model.proofs.Entries.{get_is, removed, with_parts, parts_found, parts_removed, parts_sorted}
use Rattle.uq_model.proofs.tables.ByName.remove.Goals as goal

pub returns-clause-value : goal.returns-clause-value
returns-clause-value g c =
    c.remove.ensures.value ∙ parts_found (slice_cmp nat_cmp) (λ k. k.items) c.args.name.now c.self.inside.tree.entries
    ∙ sym (get_is nat_list_cmp_total (with_parts (λ k. k.items) c.self.inside.tree.entries) c.args.name.now)
    ∙ ap (λ m. map.get m c.args.name.now) c.self.view_is

pub returns-clause-removed : goal.returns-clause-removed
returns-clause-removed g c =
    ap (λ es. map.from_entries {R = slice_cmp nat_cmp} (with_parts (λ k. k.items) es)) c.remove.ensures.entries
    ∙ ap (λ es. map.from_entries {R = slice_cmp nat_cmp} es)
    (parts_removed (slice_cmp nat_cmp) (λ k. k.items) c.args.name.now c.self.inside.tree.entries)
    ∙ removed nat_list_cmp_total (slice_cmp-IsAntisymmetric nat_cmp-IsAntisymmetric)
    (with_parts (λ k. k.items) c.self.inside.tree.entries) c.args.name.now
    (parts_sorted (slice_cmp nat_cmp) (λ k. k.items) c.self.inside.tree.entries c.len.ensures.ordered)
    ∙ ap (λ m. map.remove m c.args.name.now) c.self.view_is
