use Rattle.std.proofs.Common.{ap, sym, ◌∙◌, ◌≡◌, ◌<◌, arith, map, take, length, get_or, ◌++◌, ◌∷◌, []}
use Rattle.std.proofs.lemmas.List.{map-append}
use Rattle.uq_value.specs.Plain.{plain}
use Rattle.uq_value.specs.Internal.Kept.{plain_member}
use Rattle.uq_value.specs.Internal.Names.{name_of}
use Rattle.uq_value.proofs.Rows.{map-more, take-past}
use Rattle.uq_value.proofs.Fields.{copied_object}
use Rattle.uq_value.proofs.+copy.Goals as goal

pub object::Object::copy-loop-m-preserved : goal.object::Object::copy-loop-m-preserved
object::Object::copy-loop-m-preserved t c =
    let ms = c.self.inside.members.items in
    let name : c.in_ok-name.name.items ≡ name_of c.m-item.result = c.in_ok-name.ensures ∙ c.name.ensures in
    let inside : c.loop-m.m-index < length ms = omega (arith, c.loop-m-test.true, ap (λ ns. length ns) c.deref-m-items.ensures.value) in
    ap (λ ns. map plain_member ns) c.in_ok-push.ensures.items
    ∙ map-append plain_member c.loop-m.members.items (record { name = c.in_ok-name.name; value = c.in_ok-value.value } ∷ [])
    ∙ ap (λ ns. ns ++ (c.in_ok-name.name.items, plain c.in_ok-value.value) ∷ []) c.loop-m.invariant
    ∙ (λ i. map plain_member (take c.loop-m.m-index ms) ++ (name i, plain (c.in_ok-value.ensures i)) ∷ [])
    ∙ sym (map-more plain_member ms c.loop-m.m-index c.m-item.result (c.m-item.is ∙ ap (λ ns. get_or ns c.loop-m.m-index c.m-item.result) c.deref-m-items.ensures.value) inside)

pub object::Object::copy-invariant_of-result : goal.object::Object::copy-invariant_of-result
object::Object::copy-invariant_of-result t c =
    copied_object c.self.inside _ c.self.invariant
    (c.loop-m.invariant ∙ ap (λ ns. map plain_member ns) (take-past c.self.inside.members.items c.loop-m.m-index (omega (arith, c.loop-m-test.false, ap (λ ns. length ns) c.deref-m-items.ensures.value))))
    c.in_ok-kept.ensures.size c.in_ok-kept.ensures.depth c.in_ok-kept.ensures.counts c.in_ok-kept.ensures.names
