-- What stays a store: each entry of a map that changes, each collection that changes, and the whole.
use Rattle.std.proofs.Common.{◌≡◌, ℕ, ◌+◌, ◌-◌, ◌≤◌, ◌^◌, Bool, true, false, cond, ◌||◌, ◌==◌, pos, List, [], ◌∷◌, ◌++◌, length, Some, None, refl, sym, ap, subst, ◌∙◌, arith, sum_by}
use Rattle.std.specs.List.{AllByRecursion}
use Rattle.std.specs.declared.cmp.Ordering.{Ordering}
use Rattle.std.specs.declared.cmp.Ordering.TheVariants.{Less, Equal, Greater}
use Rattle.std.specs.Ordering.{nat_cmp, is_eq, eq_by_cmp}
use Rattle.std.specs.Cmp.{IsTotalOrder, nat_cmp_total}
use Rattle.std.specs.Cmp.Lexicographic.{slice_cmp, nat_list_cmp_total}
use Rattle.std.specs.FinMap as map
use Rattle.std.specs.FinMap.{IsAntisymmetric, nat_cmp-IsAntisymmetric, get-empty, get-insert, get-remove, len-empty}
use Rattle.uq_value.specs.Data.{Bytes, Pairs, int}
use Rattle.uq_value.specs.declared.value.Value.{Value}
use Rattle.uq_model.specs.declared.collection.Collection.{Collection}
use Rattle.uq_model.specs.declared.limits.Limits.{Limits}
use Rattle.uq_model.specs.declared.limits.TheConstants.{MOST_ENTRIES, MOST_BYTES}
use Rattle.uq_model.specs.Store.{Store, store_of}
use Rattle.uq_model.specs.Full.{Sums, sums, is_full, is_over, key_bytes, collection_entries, collection_bytes}
use Rattle.uq_model.specs.Collections.{is_name, id_name, without_id, record_of, numbered, Records, with_records, with_collection, without_collection, new_collection, appended, with_record, without_record, with_schema}
use Rattle.uq_model.specs.IsStore.{EachEntry, AreLimits, is_record, is_schema, IsWithin, IsKey, IsRecord, IsCollection, IsStore}
use Rattle.uq_model.proofs.Entries.{entries-empty}
use Rattle.uq_model.proofs.StoreSums.{names_same}

-- ---- each entry

pub each-empty : {K X : Type 0} (R : K → K → Ordering) (P : K → X → Type 0) → EachEntry P (map.empty {X = X} {R = R})
each-empty {X = X} R P k x is = absurd (let none = get-empty {X = X} R k in let h : ⊥ = cc in h)

module _ {K X : Type 0} {R : K → K → Ordering} (o : IsTotalOrder R) (same : IsAntisymmetric R)
    (P : K → X → Type 0) where
  pub each-insert : (m : map.FinMap R X) (k : K) (x : X) → EachEntry P m → P k x → EachEntry P (map.insert m k x)
  each-insert m k x each here q y is = by (R q k) refl (sym (get-insert o m k x q) ∙ is)
    where
      other : cond false (Some x) (map.get m q) ≡ Some y → P q y
      other h = each q y h

      by : (r : Ordering) → R q k ≡ r → cond (is_eq r) (Some x) (map.get m q) ≡ Some y → P q y
      by Equal e h =
          let x_is : x ≡ y = cc in
          let k_is : k ≡ q = sym (same q k e) in
          subst (λ z. P q z) x_is (subst (λ z. P z x) k_is here)
      by Less e h = other h
      by Greater e h = other h

  pub each-remove : (m : map.FinMap R X) (k : K) → EachEntry P m → EachEntry P (map.remove m k)
  each-remove m k each q y is = by (eq_by_cmp R q k) (sym (get-remove o m k q) ∙ is)
    where
      by : (b : Bool) → cond b None (map.get m q) ≡ Some y → P q y
      by true h = absurd (let f : ⊥ = cc in f)
      by false h = each q y h

-- ---- records

number_is : (id : ℕ) → (id == id) ≡ true
number_is id = grind arith

pub is_record-of : (id : ℕ) (ms : Pairs) → is_record id (record_of id ms) ≡ true
is_record-of id ms = by (without_id ms)
  where
    by : (ks : Pairs) → is_record id (Value.Object (ks ++ (id_name, int (pos id)) ∷ [])) ≡ true
    by [] = number_is id
    by (k ∷ []) = number_is id
    by (k ∷ (l ∷ ks)) = by (l ∷ ks)

record_later : (next later id : ℕ) (v : Value) → next ≤ later → IsRecord next id v → IsRecord later id v
record_later next later id v h is = record { below = omega (arith, is.below); named = is.named; within = is.within }

with_numbered : (next end : ℕ) (all : List Pairs) (records : Records) → next + length all ≤ end
    → AllByRecursion (λ (r : ℕ × Value). IsWithin r.1) (numbered next all) → EachEntry (IsRecord end) records
    → EachEntry (IsRecord end) (with_records (numbered next all) records)
with_numbered next end [] records fits small each = each
with_numbered next end (ms ∷ all) records fits small each =
    with_numbered (next + 1) end all (map.insert records next (record_of next ms)) (omega (arith, fits)) small.1
    (each-insert nat_cmp_total nat_cmp-IsAntisymmetric (IsRecord end) records next (record_of next ms) each
    (record { below = omega (arith, fits); named = is_record-of next ms; within = small.0 }))

-- ---- collections

pub collection-new : (name : Bytes) → is_name name ≡ true → IsCollection name new_collection
collection-new name named = record {
  named = named;
  next = omega arith;
  schema = refl;
  within = record { small = omega arith; shallow = omega arith };
  records = each-empty nat_cmp (IsRecord 0);
}

pub length-numbered : (next : ℕ) (all : List Pairs) → length (numbered next all) ≡ length all
length-numbered next [] = refl
length-numbered next (ms ∷ all) = omega (arith, length-numbered (next + 1) all)

pub collection-appended : (name : Bytes) (c : Collection) (all : List Pairs) → IsCollection name c
    → c.next + length all ≤ 2 ^ 63 - 1
    → AllByRecursion (λ (r : ℕ × Value). IsWithin r.1) (numbered c.next all)
    → IsCollection name (appended (numbered c.next all) c)
collection-appended name c all is fits small =
    let count = length-numbered c.next all in
    record {
      named = is.named;
      next = omega (arith, fits, count);
      schema = is.schema;
      within = is.within;
      records = with_numbered c.next (c.next + length (numbered c.next all)) all c.records (omega (arith, count)) small
          (λ id v there. record_later c.next (c.next + length (numbered c.next all)) id v (omega arith)
          (is.records id v there));
    }

pub collection-replaced : (name : Bytes) (c : Collection) (id : ℕ) (old : Value) (ms : Pairs) → IsCollection name c
    → map.get c.records id ≡ Some old
    → IsWithin (record_of id ms) → IsCollection name (with_record id (record_of id ms) c)
collection-replaced name c id old ms is there small = record {
  named = is.named;
  next = is.next;
  schema = is.schema;
  within = is.within;
  records = each-insert nat_cmp_total nat_cmp-IsAntisymmetric (IsRecord c.next) c.records id
      (record_of id ms) is.records
      (record { below = (is.records id old there).below; named = is_record-of id ms; within = small });
}

pub collection-removed : (name : Bytes) (c : Collection) (id : ℕ) → IsCollection name c
    → IsCollection name (without_record id c)
collection-removed name c id is = record {
  named = is.named;
  next = is.next;
  schema = is.schema;
  within = is.within;
  records = each-remove nat_cmp_total nat_cmp-IsAntisymmetric (IsRecord c.next) c.records id is.records;
}

pub collection-schema : (name : Bytes) (c : Collection) (v : Value) → IsCollection name c → is_schema v ≡ true
    → IsWithin v → IsCollection name (with_schema v c)
collection-schema name c v is schema small = record {
  named = is.named;
  next = is.next;
  schema = schema;
  within =
      small;
  records = is.records;
}

-- ---- stores

pub store-with : (name : Bytes) (c : Collection) (store : Store) → IsStore store → IsCollection name c
    → (sums (with_collection name c store)).entries ≤ MOST_ENTRIES
    → (sums (with_collection name c store)).bytes ≤ MOST_BYTES → IsStore (with_collection name c store)
store-with name c store is new entries bytes = record {
  keys = is.keys;
  collections = each-insert nat_list_cmp_total names_same IsCollection store.collections name c is.collections new;
  entries = entries;
  bytes = bytes;
}

pub store-without : (name : Bytes) (store : Store) → IsStore store
    → (sums (without_collection name store)).entries ≤ MOST_ENTRIES
    → (sums (without_collection name store)).bytes ≤ MOST_BYTES → IsStore (without_collection name store)
store-without name store is entries bytes = record {
  keys = is.keys;
  collections = each-remove nat_list_cmp_total names_same IsCollection store.collections name is.collections;
  entries = entries;
  bytes = bytes;
}

-- ---- what is not full is within the limits of a store

pub record Bounded (s : Sums) : Type 0 where
  pub entries : s.entries ≤ MOST_ENTRIES
  pub bytes : s.bytes ≤ MOST_BYTES

not_over : (limit most before after : ℕ) → limit ≤ most → before ≤ most → is_over limit before after ≡ false
    → after ≤ most
not_over limit most before after l b free = grind arith

neither : (a b : Bool) → (a || b) ≡ false → (a ≡ false) × (b ≡ false)
neither true b h = absurd (let f : ⊥ = cc in f)
neither false b h = (refl, h)

pub not_full : (limits : Limits) (store : Store) (after : Sums) → AreLimits limits → IsStore store
    → is_full limits (sums store) after ≡ false → Bounded after
not_full limits store after within is free =
    let parts = neither (is_over limits.entries (sums store).entries after.entries)
    (is_over limits.bytes (sums store).bytes after.bytes) free in
    record {
      entries = not_over limits.entries MOST_ENTRIES
          (sums store).entries after.entries within.entries is.entries parts.0;
      bytes = not_over limits.bytes MOST_BYTES (sums store).bytes after.bytes within.bytes is.bytes parts.1;
    }

-- ---- the empty store

pub empty-entries : (sums (store_of map.empty)).entries ≡ 0
empty-entries = let keys = len-empty (slice_cmp nat_cmp) Bytes in
    let none = ap (λ es. sum_by (λ (e : Bytes × Collection). collection_entries e.1) es)
    (entries-empty nat_list_cmp_total) in omega arith

pub empty-bytes : (sums (store_of map.empty)).bytes ≡ 0
empty-bytes = let keys = ap (λ es. sum_by key_bytes es) (entries-empty nat_list_cmp_total) in
    let none = ap (λ es. sum_by collection_bytes es) (entries-empty nat_list_cmp_total) in omega arith

pub store-empty : IsStore (store_of map.empty)
store-empty = record {
  keys = each-empty (slice_cmp nat_cmp) IsKey;
  collections = each-empty (slice_cmp nat_cmp) IsCollection;
  entries = omega (arith, empty-entries);
  bytes = omega (arith, empty-bytes);
}
