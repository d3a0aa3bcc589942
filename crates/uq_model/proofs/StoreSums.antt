-- The sums of a store when a collection is set or taken away, and what a collection adds to them when a record is.
use Rattle.std.proofs.Common.{◌≡◌, ℕ, ◌+◌, ◌-◌, ◌<◌, ◌≤◌, cond, List, [], ◌∷◌, length, Option, Some, None, is_some, refl, sym, ap, ◌∙◌, arith, sum_by}
use Rattle.std.specs.Cmp.{nat_cmp_total}
use Rattle.std.specs.Cmp.Lexicographic.{slice_cmp, nat_list_cmp_total}
use Rattle.std.specs.declared.cmp.Ordering.{Ordering}
use Rattle.std.specs.declared.cmp.Ordering.TheVariants.{Less, Equal, Greater}
use Rattle.std.specs.Ordering.{nat_cmp, is_eq}
use Rattle.std.specs.FinMap as map
use Rattle.std.specs.FinMap.{IsAntisymmetric, nat_cmp-IsAntisymmetric, slice_cmp-IsAntisymmetric, len-entries, get-entries, len-insert, len-remove, get-insert}
use Rattle.std.specs.FinMap.Entries.{find}
use Rattle.std.proofs.lemmas.List.Sums.{sum_by-cons}
use Rattle.uq_value.specs.Data.{Bytes, Pairs}
use Rattle.uq_value.specs.Plain.{size}
use Rattle.uq_value.specs.declared.value.Value.{Value}
use Rattle.uq_model.specs.declared.collection.Collection.{Collection}
use Rattle.uq_model.specs.Store.{Store}
use Rattle.uq_model.specs.Full.{sums, record_bytes, collection_entries, collection_bytes}
use Rattle.uq_model.specs.Collections.{Records, collection_at, with_collection, without_collection, record_of, numbered, with_records, with_record, without_record}
use Rattle.uq_model.proofs.SumLemmas.{share, sum-insert, sum-remove}

pub names_same : IsAntisymmetric (slice_cmp nat_cmp)
names_same = slice_cmp-IsAntisymmetric nat_cmp-IsAntisymmetric

-- ---- the sums of a store

abbrev entries_of : Bytes × Collection → ℕ
entries_of entry = collection_entries entry.1

-- what the collection that is there takes of each sum
abbrev pub entries_there : Bytes → Option Collection → ℕ
entries_there name o = share entries_of name o

abbrev pub bytes_there : Bytes → Option Collection → ℕ
bytes_there name o = share collection_bytes name o

pub set-entries : (name : Bytes) (c : Collection) (store : Store) (o : Option Collection) → collection_at name store ≡ o
    → (sums (with_collection name c store)).entries + entries_there name o ≡ (sums store).entries + collection_entries c
set-entries name c store o is =
    let more = sum-insert nat_list_cmp_total names_same entries_of store.collections name c in
    let there = ap (share entries_of name) is in
    omega arith

pub set-bytes : (name : Bytes) (c : Collection) (store : Store) (o : Option Collection) → collection_at name store ≡ o
    → (sums (with_collection name c store)).bytes + bytes_there name o ≡ (sums store).bytes + collection_bytes (name, c)
set-bytes name c store o is =
    let more = sum-insert nat_list_cmp_total names_same collection_bytes store.collections name c in
    let there = ap (share collection_bytes name) is in
    omega arith

pub unset-entries : (name : Bytes) (c : Collection) (store : Store) → collection_at name store ≡ Some c
    → (sums (without_collection name store)).entries + collection_entries c ≡ (sums store).entries
unset-entries name c store is =
    let less = sum-remove nat_list_cmp_total names_same entries_of store.collections name c in
    let there = ap (share entries_of name) is in
    omega arith

pub unset-bytes : (name : Bytes) (c : Collection) (store : Store) → collection_at name store ≡ Some c
    → (sums (without_collection name store)).bytes + collection_bytes (name, c) ≡ (sums store).bytes
unset-bytes name c store is =
    let less = sum-remove nat_list_cmp_total names_same collection_bytes store.collections name c in
    let there = ap (share collection_bytes name) is in
    omega arith

-- ---- what a collection takes

pub record-set-bytes : (name : Bytes) (c : Collection) (id : ℕ) (old v : Value) → map.get c.records id ≡ Some old
    → collection_bytes (name, with_record id v c) + size old ≡ collection_bytes (name, c) + size v
record-set-bytes name c id old v is =
    let more = sum-insert nat_cmp_total nat_cmp-IsAntisymmetric (record_bytes name) c.records id v in
    let there = ap (share (record_bytes name) id) is in
    omega arith

pub record-set-entries : (c : Collection) (id : ℕ) (old v : Value) → map.get c.records id ≡ Some old
    → collection_entries (with_record id v c) ≡ collection_entries c
record-set-entries c id old v is =
    ap (λ n. 1 + n) (len-insert nat_cmp_total c.records id v
    ∙ ap (λ (o : Option Value). cond (is_some o) (map.len c.records) (map.len c.records + 1)) is)

pub record-unset-bytes : (name : Bytes) (c : Collection) (id : ℕ) (old : Value) → map.get c.records id ≡ Some old
    → collection_bytes (name, without_record id c) + record_bytes name (id, old) ≡ collection_bytes (name, c)
record-unset-bytes name c id old is =
    let less = sum-remove nat_cmp_total nat_cmp-IsAntisymmetric (record_bytes name) c.records id old in
    let there = ap (share (record_bytes name) id) is in
    omega arith

some_entry : (id : ℕ) (v : Value) (es : List (ℕ × Value)) → find nat_cmp id es ≡ Some v → 1 ≤ length es
some_entry id v [] is = absurd (let h : ⊥ = cc in h)
some_entry id v (e ∷ es) is = omega arith

pub record-unset-entries : (c : Collection) (id : ℕ) (old : Value) → map.get c.records id ≡ Some old
    → collection_entries (without_record id c) + 1 ≡ collection_entries c
record-unset-entries c id old is =
    let less = len-remove nat_cmp_total c.records id ∙ ap (λ (o : Option Value). cond (is_some o)
    (map.len c.records - 1) (map.len c.records)) is in
    let some = some_entry id old (map.entries c.records) (sym (get-entries c.records id) ∙ is) in
    let all = len-entries c.records in
    omega arith

-- ---- records that come with the next ids

-- each id is below this
abbrev pub Below : ℕ → Records → Type 0
Below next records = (id : ℕ) (v : Value) → map.get records id ≡ Some v → id < next

pub not_there : (next : ℕ) (records : Records) → Below next records → map.get records next ≡ None
not_there next records below = by (map.get records next) refl
  where
    by : (o : Option Value) → map.get records next ≡ o → map.get records next ≡ None
    by None is = is
    by (Some v) is = absurd (let less = below next v is in omega arith)

pub below-more : (next : ℕ) (records : Records) (r : Value) → Below next records
    → Below (next + 1) (map.insert records next r)
below-more next records r below id v is =
    by (nat_cmp id next) refl (sym (get-insert nat_cmp_total records next r id) ∙ is)
  where
    by : (o : Ordering) → nat_cmp id next ≡ o → cond (is_eq o) (Some r) (map.get records id) ≡ Some v → id < next + 1
    by Equal e h = let same = nat_cmp-IsAntisymmetric id next e in omega arith
    by Less e h = let less = below id v h in omega arith
    by Greater e h = let less = below id v h in omega arith

pub appended-bytes : (name : Bytes) (next : ℕ) (all : List Pairs) (records : Records) → Below next records
    → sum_by (record_bytes name) (map.entries (with_records (numbered next all) records))
    ≡ sum_by (record_bytes name) (map.entries records) + sum_by (record_bytes name) (numbered next all)
appended-bytes name next [] records below = omega arith
appended-bytes name next (ms ∷ all) records below =
    let here : ℕ × Value = (next, record_of next ms) in
    let rest = appended-bytes name (next + 1) all (map.insert records next (record_of next ms))
    (below-more next records (record_of next ms) below) in
    let one = sum-insert nat_cmp_total nat_cmp-IsAntisymmetric (record_bytes name) records next (record_of next ms) in
    let none = ap (share (record_bytes name) next) (not_there next records below) in
    let first = sum_by-cons (record_bytes name) here (numbered (next + 1) all) in
    omega arith

pub appended-len : (next : ℕ) (all : List Pairs) (records : Records) → Below next records
    → map.len (with_records (numbered next all) records) ≡ map.len records + length all
appended-len next [] records below = omega arith
appended-len next (ms ∷ all) records below =
    let rest = appended-len (next + 1) all (map.insert records next (record_of next ms))
    (below-more next records (record_of next ms) below) in
    let one = len-insert nat_cmp_total records next (record_of next ms)
    ∙ ap (λ (o : Option Value). cond (is_some o) (map.len records) (map.len records + 1))
    (not_there next records below) in
    omega arith
