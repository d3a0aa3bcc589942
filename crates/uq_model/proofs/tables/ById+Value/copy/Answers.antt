use Rattle.std.proofs.Common.{◌≡◌, ℕ, ◌∷◌, ◌++◌, [], map as list_map, sym, ap, subst, ◌∙◌}
use Rattle.std.specs.FinMap as map
use Rattle.std.specs.FinMap.{nat_cmp-IsAntisymmetric}
use Rattle.std.specs.Ordering.{nat_cmp}
use Rattle.std.specs.Cmp.{nat_cmp_total}
use Rattle.std.specs.List.Sorted.{IsStrictlySortedBy}
use Rattle.std.specs.Map.{keys_of}
use Rattle.std.specs.Map.Iter.{deref_pair}
use Rattle.std.proofs.lemmas.List.{map-append}
use Rattle.std.proofs.lemmas.Map.Iter.{rest_more, rest_so_far}
use Rattle.uq_value.specs.declared.value.Value.{Value}
use Rattle.uq_model.proofs.Entries.{pushed}
use Rattle.uq_model.proofs.tables.ById+Value.copy.Goals as goal

pub loop-id-preserved : goal.loop-id-preserved
loop-id-preserved c =
    let done = list_map deref_pair c.loop-id.yielded in
    let here : ℕ × Value = (c.in-Some.id.now, c.in-Some.value.now) in
    let left = rest_more deref_pair c.loop-id.id-iterator c.next.new.self c.next.result
    (c.in-Some.id, c.in-Some.value) c.in-Some.is c.next.ensures.steps in
    let whole : c.self.inside.tree.entries ≡ done ++ here ∷ c.next.new.self =
    sym (c.into_iter-id-iterator.ensures.into_iter_gives ∙ c.iter-id-items.ensures.rest)
    ∙ rest_so_far deref_pair c.loop-id.yielded c.into_iter-id-iterator.result c.loop-id.id-iterator
    c.loop-id.yielded_by ∙ ap (λ es. done ++ es) left in
    c.in_ok-insert.ensures.ok
    ∙ ap (λ w. map.insert c.loop-id.copied c.in-Some.id.now w) c.in_ok-copy.ensures
    ∙ ap (λ m. map.insert m c.in-Some.id.now c.in-Some.value.now) c.loop-id.invariant
    ∙ sym (pushed nat_cmp_total nat_cmp-IsAntisymmetric done here c.next.new.self
    (subst (λ es. IsStrictlySortedBy nat_cmp (keys_of es)) whole c.iter-id-items.ensures.ordered))
    ∙ ap (λ es. map.from_entries {R = nat_cmp} es) (sym (map-append deref_pair c.loop-id.yielded
    ((c.in-Some.id, c.in-Some.value) ∷ [])))
