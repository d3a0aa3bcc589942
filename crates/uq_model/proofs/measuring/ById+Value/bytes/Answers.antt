use Rattle.std.proofs.Common.{◌≡◌, ◌-◌, ◌^◌, ◌∷◌, ◌++◌, [], min, map as list_map, sym, ap, ◌∙◌, arith, sum_by}
use Rattle.std.specs.FinMap as map
use Rattle.std.specs.Cmp.{nat_cmp_total}
use Rattle.std.specs.Map.Iter.{deref_pair}
use Rattle.std.proofs.lemmas.List.{map-append, append-nil}
use Rattle.std.proofs.lemmas.List.Sums.{sum_by-append, sum_by-cons}
use Rattle.std.proofs.lemmas.Map.Iter.{rest_all, rest_so_far}
use Rattle.uq_model.specs.Full.{record_bytes}
use Rattle.uq_model.proofs.Entries.{entries_of_sorted}
use Rattle.uq_model.proofs.measuring.ById+Value.bytes.Goals as goal

pub loop-value-preserved : goal.loop-value-preserved
loop-value-preserved c =
    let f = record_bytes c.args.name.now in
    let done = list_map deref_pair c.loop-value.yielded in
    let all = ap (λ es. sum_by (record_bytes c.args.name.now) es)
    (map-append deref_pair c.loop-value.yielded ((c.in-Some.field-0-0, c.in-Some.value) ∷ [])) in
    let more = sum_by-append (record_bytes c.args.name.now) (list_map deref_pair c.loop-value.yielded)
    ((c.in-Some.field-0-0.now, c.in-Some.value.now) ∷ []) in
    let one = sum_by-cons (record_bytes c.args.name.now) (c.in-Some.field-0-0.now, c.in-Some.value.now) [] in
    let this = c.record_bytes.ensures c.in-Some.field-0-0.now in
    omega (arith, all, more, one, this, c.loop-value.invariant, c.saturating_add-bytes.ensures)

pub returns : goal.returns
returns c =
    let whole : c.self.inside.tree.entries ≡ list_map deref_pair c.loop-value.yielded =
    sym (c.into_iter-value-iterator.ensures.into_iter_gives ∙ c.iter-value-items.ensures.rest)
    ∙ rest_so_far deref_pair c.loop-value.yielded c.into_iter-value-iterator.result c.loop-value.value-iterator
    c.loop-value.yielded_by
    ∙ ap (λ es. list_map deref_pair c.loop-value.yielded ++ es)
    (rest_all deref_pair c.loop-value.value-iterator c.next.new.self c.next.result c.in-None.is
    c.next.ensures.steps)
    ∙ append-nil (list_map deref_pair c.loop-value.yielded) in
    c.loop-value.invariant
    ∙ ap (λ es. min (sum_by (record_bytes c.args.name.now) es) (2 ^ 64 - 1))
    (sym (sym (ap map.entries c.self.view_is)
    ∙ entries_of_sorted nat_cmp_total c.self.inside.tree.entries c.iter-value-items.ensures.ordered ∙ whole))
