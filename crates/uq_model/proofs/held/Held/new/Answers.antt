use Rattle.std.proofs.Common.{sym, ap, subst, ◌∙◌}
use Rattle.uq_model.specs.Full.{sums}
use Rattle.uq_model.specs.IsStore.{IsStore}
use Rattle.uq_model.specs.Store.{store_of}
use Rattle.uq_model.proofs.Stores.{empty-entries, empty-bytes, store-empty}
use Rattle.uq_model.proofs.held.Held.new.Goals as goal

pub invariant_of-result : goal.invariant_of-result
invariant_of-result c = record {
  counted = sym (ap (λ cs. (sums (store_of cs)).entries) c.new.ensures ∙ empty-entries);
  measured = sym (ap (λ cs. (sums (store_of cs)).bytes) c.new.ensures ∙ empty-bytes);
  is_store = subst (λ cs. IsStore (store_of cs)) (sym c.new.ensures) store-empty;
}
