use Rattle.std.proofs.Common.{Some, refl, sym, ap, subst, ◌∙◌}
use Rattle.std.specs.FinMap as map
use Rattle.std.specs.Option.{IsSome, option_copied_mut}
use Rattle.std.specs.Ordering.{nat_cmp}
use Rattle.std.specs.FinMap.{nat_cmp-IsAntisymmetric, slice_cmp-IsAntisymmetric}
use Rattle.std.specs.Cmp.Lexicographic.{slice_cmp, nat_list_cmp_total}
use Rattle.uq_model.proofs.Entries.{get_is, with_parts, parts_found, parts_valued, valued}
use Rattle.uq_model.proofs.tables.ByName.replace.Goals as goal

pub returns-in-Some-clause-value : goal.returns-in-Some-clause-value
returns-in-Some-clause-value g c =
    ap Some c.replace-old.ensures.value ∙ c.in-Some.ensures.value
    ∙ parts_found (slice_cmp nat_cmp) (λ k. k.items) c.args.name.now c.self.inside.tree.entries
    ∙ sym (get_is nat_list_cmp_total (with_parts (λ k. k.items) c.self.inside.tree.entries) c.args.name.now)
    ∙ ap (λ m. map.get m c.args.name.now) c.self.view_is

pub returns-in-Some-clause-replaced : goal.returns-in-Some-clause-replaced
returns-in-Some-clause-replaced g c =
    let names = with_parts (λ k. k.items) c.self.inside.tree.entries in
    ap (λ es. map.from_entries {R = slice_cmp nat_cmp} (with_parts (λ k. k.items) es))
    (c.get_mut.follows.holds c.replace-old.new.dest).0
    ∙ ap (λ es. map.from_entries {R = slice_cmp nat_cmp} es)
    (parts_valued (slice_cmp nat_cmp)
    (λ k. k.items) c.args.name.now c.replace-old.new.dest c.self.inside.tree.entries)
    ∙ valued nat_list_cmp_total (slice_cmp-IsAntisymmetric nat_cmp-IsAntisymmetric) names c.args.name.now
    c.replace-old.new.dest
    (subst IsSome (c.in-Some.ensures.value
    ∙ parts_found (slice_cmp nat_cmp) (λ k. k.items) c.args.name.now c.self.inside.tree.entries) refl)
    ∙ ap (λ m. map.insert m c.args.name.now c.replace-old.new.dest) c.self.view_is
    ∙ ap (λ w. map.insert c.args.self.now c.args.name.now w) c.replace-old.ensures.after

pub returns-clause-value : goal.returns-clause-value
returns-clause-value g c =
    sym (ap option_copied_mut c.in_default.is) ∙ c.get_mut.ensures.value
    ∙ parts_found (slice_cmp nat_cmp) (λ k. k.items) c.args.name.now c.self.inside.tree.entries
    ∙ sym (get_is nat_list_cmp_total (with_parts (λ k. k.items) c.self.inside.tree.entries) c.args.name.now)
    ∙ ap (λ m. map.get m c.args.name.now) c.self.view_is
