use Rattle.std.proofs.Common.{◌∙◌, arith}
use Rattle.std.proofs.lemmas.List.{length-set, take-set-le}
use Rattle.jx9_vm.proofs.LayerLemmas.{behind_it, one_moved}
use Rattle.jx9_vm.proofs.layers.move_values.Goals as goal

pub loop-at-preserved : goal.loop-at-preserved
loop-at-preserved c = record {
  moved = c.in_ok-push.ensures.here
      ∙ one_moved c.args.from c.loop-at.at c.args.values.now.items c.loop-at.values.items c.args.to.now.here c.loop-at.to.here c.replace.result c.index_mut.result.now
      (omega arith) (omega arith) c.loop-at.invariant.rest (c.replace.ensures.value ∙ c.index_mut.ensures.value) c.loop-at.invariant.moved;
  under = c.in_ok-push.ensures.under ∙ c.loop-at.invariant.under;
  front = take-set-le c.args.from c.loop-at.values.items c.loop-at.at _ (omega arith) ∙ c.loop-at.invariant.front;
  rest = behind_it c.loop-at.at c.args.values.now.items c.loop-at.values.items _ c.loop-at.invariant.rest;
  same_length = length-set c.loop-at.values.items c.loop-at.at _ ∙ c.loop-at.invariant.same_length;
}
