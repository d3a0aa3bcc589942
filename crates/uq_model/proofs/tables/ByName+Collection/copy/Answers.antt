use Rattle.std.proofs.Common.{◌≡◌, ℕ, List, ◌∷◌, ◌++◌, [], map as list_map, sym, ap, subst, ◌∙◌}
use Rattle.std.specs.FinMap as map
use Rattle.std.specs.FinMap.{nat_cmp-IsAntisymmetric, slice_cmp-IsAntisymmetric}
use Rattle.std.specs.Ordering.{nat_cmp}
use Rattle.std.specs.Cmp.Lexicographic.{slice_cmp, nat_list_cmp_total}
use Rattle.std.specs.List.Sorted.{IsStrictlySortedBy}
use Rattle.std.specs.Map.{keys_of}
use Rattle.std.specs.Map.Iter.{deref_pair}
use Rattle.std.proofs.lemmas.List.{map-append}
use Rattle.std.proofs.lemmas.Map.Iter.{rest_more, rest_so_far}
use Rattle.uq_model.specs.declared.collection.Collection.{Collection}
use Rattle.uq_model.proofs.Entries.{pushed, with_parts, parts_sorted}
use Rattle.uq_model.proofs.tables.ByName+Collection.copy.Goals as goal

pub loop-name-preserved : goal.loop-name-preserved
loop-name-preserved c =
    let gone = list_map deref_pair c.loop-name.yielded in
    let done = with_parts (λ k. k.items) gone in
    let named : List ℕ × Collection = (c.in-Some.name.now.items, c.in-Some.value.now) in
    let left = rest_more deref_pair c.loop-name.name-iterator c.next.new.self c.next.result
    (c.in-Some.name, c.in-Some.value) c.in-Some.is c.next.ensures.steps in
    let whole : c.self.inside.tree.entries ≡ gone ++ (c.in-Some.name.now, c.in-Some.value.now) ∷ c.next.new.self =
    sym (c.into_iter-name-iterator.ensures.into_iter_gives ∙ c.iter-name-items.ensures.rest)
    ∙ rest_so_far deref_pair c.loop-name.yielded c.into_iter-name-iterator.result c.loop-name.name-iterator
    c.loop-name.yielded_by ∙ ap (λ es. gone ++ es) left in
    let parts = ap (with_parts (λ k. k.items)) whole
    ∙ map-append (λ e. (e.0.items, e.1)) gone ((c.in-Some.name.now, c.in-Some.value.now) ∷ c.next.new.self) in
    c.in_ok-insert.ensures.ok
    ∙ ap (λ w. map.insert c.loop-name.copied c.in_ok-name.name.items w) c.in_ok-copy.ensures
    ∙ ap (λ n. map.insert c.loop-name.copied n c.in-Some.value.now)
    (c.in_ok-name.ensures.items ∙ c.as_slice.ensures.value)
    ∙ ap (λ m. map.insert m c.in-Some.name.now.items c.in-Some.value.now) c.loop-name.invariant
    ∙ sym (pushed nat_list_cmp_total (slice_cmp-IsAntisymmetric nat_cmp-IsAntisymmetric) done named
    (with_parts (λ k. k.items) c.next.new.self)
    (subst (λ es. IsStrictlySortedBy (slice_cmp nat_cmp) (keys_of es)) parts
    (parts_sorted (slice_cmp nat_cmp)
    (λ k. k.items) c.self.inside.tree.entries c.iter-name-items.ensures.ordered)))
    ∙ ap (λ es. map.from_entries {R = slice_cmp nat_cmp} es)
    (sym (ap (with_parts (λ k. k.items)) (map-append deref_pair c.loop-name.yielded
    ((c.in-Some.name, c.in-Some.value) ∷ []))
    ∙ map-append (λ e. (e.0.items, e.1)) gone ((c.in-Some.name.now, c.in-Some.value.now) ∷ [])))
