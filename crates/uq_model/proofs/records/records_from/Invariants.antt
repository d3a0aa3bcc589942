use Rattle.std.proofs.Common.{◌≡◌, ℕ, true, take, All}
use Rattle.uq_value.specs.declared.value.Value.{Value}
use Rattle.uq_model.specs.Batch.{are_small, records_from}
use Rattle.uq_model.specs.IsStore.{IsWithin}
use Rattle.uq_model.proofs.records.records_from.Given as goal

-- so far the objects before this place are made records, and none is too large
abbrev pub invariant-loop-at : goal.invariant-loop-at
invariant-loop-at l = record {
  made : l.records.items ≡ records_from l.first (take l.at l.objects);
  small : are_small (take l.at l.objects) ≡ true;
  within : All (λ (r : ℕ × Value). IsWithin r.1) l.records.items;
}
