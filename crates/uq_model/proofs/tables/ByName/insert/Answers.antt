use Rattle.std.proofs.Common.{ap, ◌∙◌, subst}
use Rattle.std.specs.FinMap as map
use Rattle.std.specs.List.Sorted.{IsStrictlySortedBy}
use Rattle.std.specs.Map.{keys_of}
use Rattle.std.specs.Ordering.{nat_cmp}
use Rattle.std.specs.Cmp.Lexicographic.{slice_cmp, nat_list_cmp_total}
use Rattle.uq_model.proofs.Entries.{inserted, with_parts, parts_inserted, parts_sorted}
use Rattle.uq_model.proofs.tables.ByName.insert.Goals as goal

pub returns-in-Ok-clause-ok : goal.returns-in-Ok-clause-ok
returns-in-Ok-clause-ok g c =
    let names = with_parts (λ k. k.items) c.self.inside.tree.entries in
    let same = ap (with_parts (λ k. k.items)) c.in-Ok.ensures.entries
    ∙ parts_inserted (slice_cmp nat_cmp) (λ k. k.items) c.args.name c.args.value c.self.inside.tree.entries in
    ap (λ es. map.from_entries {R = slice_cmp nat_cmp} es) same
    ∙ inserted nat_list_cmp_total names c.args.name.items c.args.value
    (parts_sorted (slice_cmp nat_cmp) (λ k. k.items) c.self.inside.tree.entries c.insert.ensures.was_ordered)
    (subst (λ es. IsStrictlySortedBy (slice_cmp nat_cmp) (keys_of es)) same
    (parts_sorted (slice_cmp nat_cmp) (λ k. k.items) c.insert.new.self.entries c.insert.ensures.ordered))
    ∙ ap (λ m. map.insert m c.args.name.items c.args.value) c.self.view_is
