-- How much a store holds, and which writes are too much.
use Rattle.std.specs.Prelude.{ℕ, ◌+◌, Bool, ◌&&◌, ◌||◌, nat_lt, length, sum_by}
use Rattle.std.specs.FinMap as map
use Rattle.uq_value.specs.Data.{Bytes}
use Rattle.uq_value.specs.Plain.{size}
use Rattle.uq_value.specs.declared.value.Value.{Value}
use Rattle.uq_model.specs.declared.collection.Collection.{Collection}
use Rattle.uq_model.specs.declared.limits.Limits.{Limits}
use Rattle.uq_model.specs.Store.{Store, Keys, Collections}

-- how many entries there are, and the bytes of their stored keys and data
pub record Sums : Type 0 where
  pub entries : ℕ
  pub bytes : ℕ

abbrev pub key_bytes : Bytes × Bytes → ℕ
key_bytes entry = 1 + length entry.0 + length entry.1

abbrev pub record_bytes : Bytes → ℕ × Value → ℕ
record_bytes name entry = 27 + length name + size entry.1

-- of a collection itself
abbrev pub own_bytes : Bytes → Collection → ℕ
own_bytes name c = 34 + length name + size c.schema

-- of a collection with its records
abbrev pub collection_entries : Collection → ℕ
collection_entries c = 1 + map.len c.records

abbrev pub collection_bytes : Bytes × Collection → ℕ
collection_bytes entry = own_bytes entry.0 entry.1 + sum_by (record_bytes entry.0) (map.entries entry.1.records)

abbrev pub sums_of_keys : Keys → Sums
sums_of_keys keys = record { entries = map.len keys; bytes = sum_by key_bytes (map.entries keys) }

abbrev pub sums_of_collections : Collections → Sums
sums_of_collections cs = record {
  entries = sum_by (λ (entry : Bytes × Collection). collection_entries entry.1) (map.entries cs);
  bytes = sum_by collection_bytes (map.entries cs);
}

abbrev pub both : Sums → Sums → Sums
both a b = record { entries = a.entries + b.entries; bytes = a.bytes + b.bytes }

abbrev pub sums : Store → Sums
sums store = both (sums_of_keys store.keys) (sums_of_collections store.collections)

-- greater than before, and greater than the limit
abbrev pub is_over : ℕ → ℕ → ℕ → Bool
is_over limit before after = nat_lt before after && nat_lt limit after

-- whether a write that goes from these sums to those is full
abbrev pub is_full : Limits → Sums → Sums → Bool
is_full limits before after =
    is_over limits.entries before.entries after.entries || is_over limits.bytes before.bytes after.bytes
