use Rattle.std.proofs.Common.{◌∷◌, ◌++◌, [], ap, sym, ◌∙◌, take}
use Rattle.std.proofs.lemmas.List.{take_more}
use Rattle.uq_json.specs.Text.{text_of}
use Rattle.jx9_meaning.specs.Expression.{joined}
use Rattle.jx9_vm.proofs.WorkLemmas.{joined_append}
use Rattle.jx9_vm.proofs.joining.joined.Goals as goal

pub loop-value-preserved : goal.loop-value-preserved
loop-value-preserved c =
    let values = c.args.values.now in
    let front = take c.loop-value.value-index values in
    c.in_ok-append.ensures
    ∙ ap (λ bs. bs ++ text_of c.value-item.result) c.loop-value.invariant
    ∙ sym (joined_append front c.value-item.result)
    ∙ ap (λ v. joined (front ++ v ∷ [])) c.value-item.is
    ∙ ap joined (sym (take_more values c.loop-value.value-index c.value-item.result c.loop-value-test.true))
