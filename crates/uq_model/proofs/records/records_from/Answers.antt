use Rattle.std.proofs.Common.{ℕ, ◌<◌, ◌+◌, ◌∷◌, ◌++◌, [], length, take, All, sym, ap, subst, ◌∙◌, arith}
use Rattle.std.proofs.lemmas.List.Elements.{All-push}
use Rattle.std.proofs.lemmas.Result.{err_from_is_err_and}
use Rattle.uq_value.specs.declared.value.Value.{Value}
use Rattle.uq_model.specs.Batch.{members_or_none, records_from}
use Rattle.uq_model.specs.Collections.{record_of, is_small}
use Rattle.uq_model.specs.IsStore.{IsWithin}
use Rattle.uq_model.proofs.Batches.{was_made, records_more, small_more, one_refuses}
use Rattle.uq_model.proofs.records.records_from.Goals as goal

pub returns-in_err-made-clause-made : goal.returns-in_err-made-clause-made
returns-in_err-made-clause-made c =
    let p = err_from_is_err_and c.from_residual.result c.from_residual.ensures.1 in
    rw (p.1, p.2)
    (one_refuses (records_from c.args.first c.args.objects.now) _
    (c.args.first + c.loop-at.at) c.args.objects.now c.loop-at.at c.index-objects-at.result
    c.in_err-made.field-0.0
    c.loop-at-test.true c.index-objects-at.is c.requires.objects c.in_err-made.ensures.made)

pub loop-at-preserved : goal.loop-at-preserved
loop-at-preserved c =
    let at = c.loop-at.at in
    let v = c.index-objects-at.result in
    let within : at < length c.args.objects.now = omega (arith, c.loop-at-test.true) in
    let made = was_made (c.args.first + at) v c.in_ok-made.made c.in_ok-made.ensures.made in
    record {
      made = c.in_ok-push.ensures.items
          ∙ ap (λ rs. rs ++ (c.args.first + at, c.in_ok-made.made) ∷ []) c.loop-at.invariant.made
          ∙ ap (λ (w : Value). records_from c.args.first (take at c.args.objects.now) ++ (c.args.first + at, w) ∷ [])
          made.is
          ∙ ap (λ (w : Value). records_from c.args.first (take at c.args.objects.now) ++
          (c.args.first + at, record_of (c.args.first + at) (members_or_none w)) ∷ []) c.index-objects-at.is
          ∙ sym (records_more c.args.first c.args.objects.now at v within);
      small = small_more c.args.objects.now at v within c.loop-at.invariant.small
          (ap (λ w. is_small (record_of 0 (members_or_none w))) (sym c.index-objects-at.is) ∙ made.small);
      within = subst (All (λ (r : ℕ × Value). IsWithin r.1)) (sym c.in_ok-push.ensures.items)
          (All-push (λ (r : ℕ × Value). IsWithin r.1) c.loop-at.records.items
          (c.args.first + at, c.in_ok-made.made) c.loop-at.invariant.within c.in_ok-made.ensures.within);
    }
