-- What planned writes come to.
use Rattle.std.proofs.Common.{◌≡◌, ℕ, ◌+◌, ◌-◌, ◌<◌, ◌≤◌, ◌^◌, Bool, true, false, cond, not, ◌||◌, nat_lt, min, List, length, Option, Some, None, is_some, Ok, Err, refl, sym, ap, subst, ◌∙◌, arith, sum_by}
use Rattle.std.specs.Option.{ok_or}
use Rattle.std.specs.List.{AllByRecursion, list_all}
use Rattle.std.specs.Cmp.{nat_cmp_total}
use Rattle.std.specs.Ordering.{nat_cmp}
use Rattle.std.specs.FinMap as map
use Rattle.std.specs.FinMap.{len-empty}
use Rattle.uq_value.specs.Data.{Bytes, Pairs}
use Rattle.uq_value.specs.Plain.{size}
use Rattle.uq_value.specs.declared.value.Value.{Value}
use Rattle.uq_model.specs.declared.change.Alteration.{Alteration}
use Rattle.uq_model.specs.declared.change.Alteration.TheVariants.{Replace, Remove, SetSchema}
use Rattle.uq_model.specs.declared.change.Change.TheVariants.{Alter}
use Rattle.uq_model.specs.declared.collection.Collection.{Collection}
use Rattle.uq_model.specs.declared.done.Refusal.{Refusal}
use Rattle.uq_model.specs.declared.done.Refusal.TheVariants.{BadName, NoCollection, Exists, NoRecord, NotObject, RecordTooLarge, IdsUsedUp, Full}
use Rattle.uq_model.specs.declared.limits.Limits.{Limits}
use Rattle.uq_model.specs.declared.limits.TheConstants.{MOST_BYTES}
use Rattle.uq_model.specs.Batch.{is_object, members_or_none}
use Rattle.uq_model.specs.Change.{altered, altered_at, changed, room}
use Rattle.uq_model.specs.Collections.{Checked, and_then, is_name, found, collection_at, with_collection, without_collection, new_collection, numbered, is_small, appended, batch, batch_of, members_in_all, has_ids, record_made, members_in, with_record, without_record, with_schema}
use Rattle.uq_model.specs.Collections.{within, bounded, created, collection_dropped, records_stored, record_replaced, record_dropped, schema_set}
use Rattle.uq_model.specs.Full.{Sums, sums, is_full, is_over, record_bytes, collection_entries, collection_bytes}
use Rattle.uq_model.specs.IsStore.{AreLimits, IsWithin, IsCollection, IsStore, is_schema}
use Rattle.uq_model.specs.Store.{Store}
use Rattle.uq_model.proofs.Entries.{entries-empty}
use Rattle.uq_model.proofs.Batches.{was_made}
use Rattle.uq_model.proofs.StoreSums.{Below, set-entries, set-bytes, unset-entries, unset-bytes, record-set-bytes, record-set-entries, record-unset-bytes, record-unset-entries, appended-bytes, appended-len}
use Rattle.uq_model.proofs.Stores.{Bounded, not_full, store-with, store-without, collection-new, collection-replaced, collection-removed, collection-schema, collection-appended, length-numbered}

-- ---- a check after another

pub passed : {A B : Type 0} {r : Checked A} {x : A} (f : A → Checked B) → r ≡ Ok x → and_then r f ≡ f x
passed f e = ap (λ c. and_then c f) e

pub refused : {A B : Type 0} {r : Checked A} {refusal : Refusal} (f : A → Checked B) → r ≡ Err refusal
    → and_then r f ≡ Err refusal
refused f e = ap (λ c. and_then c f) e

-- ---- room

same_sums : (s : Sums) (e b : ℕ) → e ≡ s.entries → b ≡ s.bytes
    → (let t : Sums = record { entries = e; bytes = b } in t) ≡ s
same_sums s e b p q = λ i. record { entries = p i; bytes = q i }

abbrev sums_of : ℕ → ℕ → Sums
sums_of e b = record { entries = e; bytes = b }

abbrev unless_full : Bool → Checked (Unit {0})
unless_full b = cond b (Err Full) (Ok tt)

pub has_room : (limits : Limits) (before after : Sums) (e b : ℕ) → e ≡ after.entries → b ≡ after.bytes
    → room limits before (sums_of e b) ≡ Ok tt → is_full limits before after ≡ false
has_room limits before after e b p q h =
    by (is_full limits before after) refl (sym (ap (λ s. room limits before s) (same_sums after e b p q)) ∙ h)
  where
    by : (full : Bool) → is_full limits before after ≡ full → unless_full full ≡ Ok tt
        → is_full limits before after ≡ false
    by false is g = is
    by true is g = absurd (let f : ⊥ = cc in f)

pub no_room : (limits : Limits) (store new : Store) (e b : ℕ) (refusal : Refusal) → e ≡ (sums new).entries
    → b ≡ (sums new).bytes
    → room limits (sums store) (sums_of e b) ≡ Err refusal → within limits store new ≡ Err refusal
no_room limits store new e b refusal p q h =
    by (is_full limits (sums store) (sums new)) (sym (ap (λ s. room limits (sums store) s)
    (same_sums (sums new) e b p q)) ∙ h)
  where
    by : (full : Bool) → unless_full full ≡ Err refusal → cond full (Err Full) (Ok new) ≡ Err refusal
    by true g = let same : Full ≡ refusal = cc in ap (λ (r : Refusal). let w : Checked Store = Err r in w) same
    by false g = absurd (let f : ⊥ = cc in f)

-- ---- what a plan ends in

-- how much the store holds that a write makes
pub record Holds (new : Store) (e b : ℕ) : Type 0 where
  pub entries : e ≡ (sums new).entries
  pub bytes : b ≡ (sums new).bytes

-- the store that a write makes, and its sums
pub record Ends (checked : Checked Store) (new : Store) (e b : ℕ) : Type 0 where
  pub chosen : checked ≡ Ok new
  pub entries : e ≡ (sums new).entries
  pub bytes : b ≡ (sums new).bytes
  pub is_store : IsStore new

-- within the limits
ends : (limits : Limits) (written : Checked Store) (store new : Store) (e b : ℕ) → AreLimits limits → IsStore store
    → written ≡ Ok new
    → e ≡ (sums new).entries → b ≡ (sums new).bytes → room limits (sums store) (sums_of e b) ≡ Ok tt
    → (Bounded (sums new) → IsStore new)
    → Ends (and_then written (within limits store)) new e b
ends limits written store new e b are is made p q h kept =
    let free = has_room limits (sums store) (sums new) e b p q h in
    record {
      chosen = passed (within limits store) made ∙ ap (λ full. cond full (Err Full) (Ok new)) free;
      entries = p;
      bytes = q;
      is_store = kept (not_full limits store (sums new) are is free);
    }

-- with nothing greater
ends_lower : (written : Checked Store) (store new : Store) (e b : ℕ) → IsStore store → written ≡ Ok new
    → e ≡ (sums new).entries → b ≡ (sums new).bytes → e ≤ (sums store).entries → b ≤ (sums store).bytes
    → (Bounded (sums new) → IsStore new)
    → Ends written new e b
ends_lower written store new e b is made p q fewer less kept = record {
  chosen = made;
  entries = p;
  bytes = q;
  is_store = kept (record { entries = omega (arith, p, fewer, is.entries); bytes = omega (arith, q, less, is.bytes) });
}

-- ---- names and collections

pub record Found (name : Bytes) (store : Store) (c : Collection) : Type 0 where
  pub named : is_name name ≡ true
  pub there : collection_at name store ≡ Some c

abbrev found_by : Bool → Option Collection → Checked Collection
found_by named there = cond named (ok_or there NoCollection) (Err BadName)

pub is_found : (name : Bytes) (store : Store) (c : Collection) → found name store ≡ Ok c → Found name store c
is_found name store c e = by (is_name name) (collection_at name store) refl refl e
  where
    by : (b : Bool) (o : Option Collection) → is_name name ≡ b → collection_at name store ≡ o → found_by b o ≡ Ok c
        → Found name store c
    by true (Some d) p q g = record { named = p; there = q ∙ ap Some (let same : d ≡ c = cc in same) }
    by true None p q g = absurd (let f : ⊥ = cc in f)
    by false o p q g = absurd (let f : ⊥ = cc in f)

pub found_named : (name : Bytes) (store : Store) (o : Option Collection) → is_name name ≡ true
    → collection_at name store ≡ o → found name store ≡ ok_or o NoCollection
found_named name store o p q = (λ i. found_by (p i) (q i))

pub collection_is : (name : Bytes) (store : Store) (c : Collection) → IsStore store → found name store ≡ Ok c
    → IsCollection name c
collection_is name store c is e = is.collections name c (is_found name store c e).there

-- ---- create

abbrev created_by : Bytes → Store → Bool → Option Collection → Checked Store
created_by name store named there =
    cond (not named) (Err BadName) (cond (is_some there) (Err Exists) (Ok (with_collection name new_collection store)))

no_records : (name : Bytes) → sum_by (record_bytes name) (map.entries new_collection.records) ≡ 0
no_records name = ap (λ es. sum_by (record_bytes name) es) (entries-empty nat_cmp_total)

pub none_of : (o : Option Collection) → is_some o ≡ false → o ≡ None
none_of None h = refl
none_of (Some c) h = absurd (let f : ⊥ = cc in f)

pub create_made : (name : Bytes) (store : Store) → is_name name ≡ true → collection_at name store ≡ None
    → created name store ≡ Ok (with_collection name new_collection store)
create_made name store named none = λ i. created_by name store (named i) (none i)

pub create_holds : (name : Bytes) (store : Store) (e b : ℕ) → collection_at name store ≡ None
    → e ≡ (sums store).entries + 1 → b ≡ (sums store).bytes + (35 + length name)
    → Holds (with_collection name new_collection store) e b
create_holds name store e b none p q =
    let entries = set-entries name new_collection store None none in
    let bytes = set-bytes name new_collection store None none in
    let zero = len-empty nat_cmp Value in
    let nothing = no_records name in
    record { entries = omega arith; bytes = omega arith }

pub create_ends : (limits : Limits) (name own : Bytes) (store : Store) (e b : ℕ) → AreLimits limits → IsStore store
    → is_name name ≡ true → collection_at name store ≡ None → own ≡ name → e ≡ (sums store).entries + 1
    → b ≡ (sums store).bytes + (35 + length name)
    → room limits (sums store) (sums_of e b) ≡ Ok tt
    → Ends (bounded limits (created name) store) (with_collection own new_collection store) e b
create_ends limits name own store e b are is named none same p q h =
    let holds = create_holds name store e b none p q in
    subst (λ n. Ends (bounded limits (created name) store) (with_collection n new_collection store) e b) (sym same)
    (ends limits (created name store) store (with_collection name new_collection store) e b are is
    (create_made name store named none) holds.entries holds.bytes h
    (λ bounds. store-with name new_collection store is (collection-new name named) bounds.entries bounds.bytes))

-- ---- an alteration

altered_is : (name : Bytes) (a : Alteration) (c : Collection) (store : Store) → collection_at name store ≡ Some c
    → changed name (Alter a) store ≡ with_collection name (altered a c) store
altered_is name a c store there = ap (λ o. let s : Store =
    record store { collections = altered_at name a store.collections o } in s) there

pub full_refused : (limits : Limits) (store new : Store) (written : Checked Store) (e b : ℕ) (refusal : Refusal)
    → written ≡ Ok new → Holds new e b
    → room limits (sums store) (sums_of e b) ≡ Err refusal → and_then written (within limits store) ≡ Err refusal
full_refused limits store new written e b refusal made holds h =
    passed (within limits store) made ∙ no_room limits store new e b refusal holds.entries holds.bytes h

pub alter_ends : (limits : Limits) (name : Bytes) (a : Alteration) (c : Collection) (store : Store)
    (written : Checked Store) (e b : ℕ) → AreLimits limits → IsStore store
    → found name store ≡ Ok c → written ≡ Ok (with_collection name (altered a c) store)
    → IsCollection name (altered a c)
    → Holds (with_collection name (altered a c) store) e b → room limits (sums store) (sums_of e b) ≡ Ok tt
    → Ends (and_then written (within limits store)) (changed name (Alter a) store) e b
alter_ends limits name a c store written e b are is f made new holds h =
    subst (λ s. Ends (and_then written (within limits store)) s e b)
    (sym (altered_is name a c store (is_found name store c f).there))
    (ends limits written store (with_collection name (altered a c) store) e b are is made holds.entries holds.bytes h
    (λ bounds. store-with name (altered a c) store is new bounds.entries bounds.bytes))

pub lower_ends : (name : Bytes) (a : Alteration) (c : Collection) (store : Store) (written : Checked Store) (e b : ℕ)
    → IsStore store
    → found name store ≡ Ok c → written ≡ Ok (with_collection name (altered a c) store)
    → IsCollection name (altered a c)
    → Holds (with_collection name (altered a c) store) e b → e ≤ (sums store).entries → b ≤ (sums store).bytes
    → Ends written (changed name (Alter a) store) e b
lower_ends name a c store written e b is f made new holds fewer less =
    subst (λ s. Ends written s e b) (sym (altered_is name a c store (is_found name store c f).there))
    (ends_lower written store (with_collection name (altered a c) store) e b is made holds.entries holds.bytes fewer
    less
    (λ bounds. store-with name (altered a c) store is new bounds.entries bounds.bytes))

-- ---- a record in the place of another

abbrev replaces : Bytes → ℕ → Value → Store → Collection → Checked Store
replaces name id v store c = cond (not (map.contains_key c.records id)) (Err NoRecord)
    (and_then (record_made id v) (λ new. Ok (with_collection name (with_record id new c) store)))

pub replaced : (name : Bytes) (id : ℕ) (v made old : Value) (c : Collection) (store : Store) → found name store ≡ Ok c
    → map.get c.records id ≡ Some old
    → record_made id v ≡ Ok made → record_replaced name id v store ≡ Ok
    (with_collection name (with_record id made c) store)
replaced name id v made old c store f there is =
    passed (replaces name id v store) f
    ∙ ap (λ (o : Option Value). cond (not (is_some o)) (Err NoRecord)
    (and_then (record_made id v) (λ new. Ok (with_collection name (with_record id new c) store)))) there
    ∙ passed (λ new. Ok (with_collection name (with_record id new c) store)) is

pub not_replaced : (name : Bytes) (id : ℕ) (v old : Value) (c : Collection) (store : Store) (refusal : Refusal)
    → found name store ≡ Ok c → map.get c.records id ≡ Some old
    → record_made id v ≡ Err refusal → record_replaced name id v store ≡ Err refusal
not_replaced name id v old c store refusal f there is =
    passed (replaces name id v store) f
    ∙ ap (λ (o : Option Value). cond (not (is_some o)) (Err NoRecord)
    (and_then (record_made id v) (λ new. Ok (with_collection name (with_record id new c) store)))) there
    ∙ refused (λ new. Ok (with_collection name (with_record id new c) store)) is

pub not_there_to_replace : (name : Bytes) (id : ℕ) (v : Value) (c : Collection) (store : Store)
    → found name store ≡ Ok c → map.get c.records id ≡ None
    → record_replaced name id v store ≡ Err NoRecord
not_there_to_replace name id v c store f none =
    passed (replaces name id v store) f
    ∙ ap (λ (o : Option Value). cond (not (is_some o)) (Err NoRecord)
    (and_then (record_made id v) (λ new. Ok (with_collection name (with_record id new c) store)))) none

-- what is left where the old record's bytes are taken from the sum
pub replaced_bytes : (name : Bytes) (id : ℕ) (made old : Value) (c : Collection) (store : Store)
    → found name store ≡ Ok c → map.get c.records id ≡ Some old
    → (sums (with_collection name (with_record id made c) store)).bytes + size old ≡ (sums store).bytes + size made
replaced_bytes name id made old c store f there =
    let set = set-bytes name (with_record id made c) store (Some c) (is_found name store c f).there in
    let one = record-set-bytes name c id old made there in
    omega arith

pub replaced_holds : (name : Bytes) (id : ℕ) (made old : Value) (c : Collection) (store : Store) (e b : ℕ)
    → found name store ≡ Ok c → map.get c.records id ≡ Some old
    → e ≡ (sums store).entries → b ≡ (sums store).bytes + size made - size old
    → Holds (with_collection name (with_record id made c) store) e b
replaced_holds name id made old c store e b f there p q =
    let set = set-entries name (with_record id made c) store (Some c) (is_found name store c f).there in
    let one = record-set-entries c id old made there in
    let all = replaced_bytes name id made old c store f there in
    record { entries = omega arith; bytes = omega arith }

pub replaced_is : (name : Bytes) (id : ℕ) (v made old : Value) (c : Collection) (store : Store) → IsStore store
    → found name store ≡ Ok c → map.get c.records id ≡ Some old
    → record_made id v ≡ Ok made → IsWithin made → IsCollection name (with_record id made c)
replaced_is name id v made old c store is f there e small =
    let made_is = (was_made id v made e).is in
    subst (λ w. IsCollection name (with_record id w c)) (sym made_is)
    (collection-replaced name c id old (members_or_none v) (collection_is name store c is f) there
    (subst IsWithin made_is small))

pub replace_ends : (limits : Limits) (name : Bytes) (id : ℕ) (v made old : Value) (c : Collection) (store : Store)
    (e b : ℕ) → AreLimits limits → IsStore store → found name store ≡ Ok c
    → map.get c.records id ≡ Some old → record_made id v ≡ Ok made → IsWithin made → e ≡ (sums store).entries
    → b ≡ (sums store).bytes + size made - size old
    → room limits (sums store) (sums_of e b) ≡ Ok tt
    → Ends (bounded limits (record_replaced name id v) store) (changed name (Alter (Replace id made)) store) e b
replace_ends limits name id v made old c store e b are is f there is_made small p q h =
    alter_ends limits name (Replace id made) c store (record_replaced name id v store) e b are is f
    (replaced name id v made old c store f there is_made)
    (replaced_is name id v made old c store is f there is_made small)
    (replaced_holds name id made old c store e b f there p q) h

pub id_small : (name : Bytes) (id : ℕ) (old : Value) (c : Collection) (store : Store) → IsStore store
    → found name store ≡ Ok c → map.get c.records id ≡ Some old → id < 2 ^ 63
id_small name id old c store is f there =
    let of = collection_is name store c is f in
    let below = (of.records id old there).below in
    omega (arith, below, of.next)

-- ---- a record goes

abbrev removes : Bytes → ℕ → Store → Collection → Checked Store
removes name id store c = cond (map.contains_key c.records id) (Ok (with_collection name (without_record id c) store))
    (Err NoRecord)

pub removed : (name : Bytes) (id : ℕ) (old : Value) (c : Collection) (store : Store) → found name store ≡ Ok c
    → map.get c.records id ≡ Some old
    → record_dropped name id store ≡ Ok (with_collection name (without_record id c) store)
removed name id old c store f there =
    passed (removes name id store) f
    ∙ ap (λ (o : Option Value). cond (is_some o) (Ok (with_collection name (without_record id c) store))
    (Err NoRecord)) there

pub not_there_to_remove : (name : Bytes) (id : ℕ) (c : Collection) (store : Store) → found name store ≡ Ok c
    → map.get c.records id ≡ None
    → record_dropped name id store ≡ Err NoRecord
not_there_to_remove name id c store f none =
    passed (removes name id store) f
    ∙ ap (λ (o : Option Value). cond (is_some o) (Ok (with_collection name (without_record id c) store))
    (Err NoRecord)) none

pub record Lowers (new store : Store) (entries bytes : ℕ) : Type 0 where
  pub fewer : (sums new).entries + entries ≡ (sums store).entries
  pub less : (sums new).bytes + bytes ≡ (sums store).bytes

pub removed_lowers : (name : Bytes) (id : ℕ) (old : Value) (c : Collection) (store : Store) → found name store ≡ Ok c
    → map.get c.records id ≡ Some old
    → Lowers (with_collection name (without_record id c) store) store 1 (record_bytes name (id, old))
removed_lowers name id old c store f there =
    let at = (is_found name store c f).there in
    let entries = set-entries name (without_record id c) store (Some c) at in
    let bytes = set-bytes name (without_record id c) store (Some c) at in
    let one = record-unset-entries c id old there in
    let some = record-unset-bytes name c id old there in
    record { fewer = omega arith; less = omega arith }

pub remove_ends : (name : Bytes) (id : ℕ) (old : Value) (c : Collection) (store : Store) (e b : ℕ) → IsStore store
    → found name store ≡ Ok c → map.get c.records id ≡ Some old
    → e + 1 ≡ (sums store).entries → b + record_bytes name (id, old) ≡ (sums store).bytes
    → Ends (record_dropped name id store) (changed name (Alter (Remove id)) store) e b
remove_ends name id old c store e b is f there p q =
    let lowers = removed_lowers name id old c store f there in
    lower_ends name (Remove id) c store (record_dropped name id store) e b is f (removed name id old c store f there)
    (collection-removed name c id (collection_is name store c is f))
    (record { entries = omega (arith, p, lowers.fewer); bytes = omega (arith, q, lowers.less) }) (omega (arith, p))
    (omega (arith, q))

-- ---- a schema comes

pub described : (name : Bytes) (v : Value) (c : Collection) (store : Store) → found name store ≡ Ok c
    → is_object v ≡ true
    → schema_set name v store ≡ Ok (with_collection name (with_schema v c) store)
described name v c store f is = passed (λ d. and_then (members_in v)
    (λ _. Ok (with_collection name (with_schema v d) store))) f ∙ by v is
  where
    by : (w : Value) → is_object w ≡ true
        → and_then (members_in w) (λ _. Ok (with_collection name (with_schema v c) store)) ≡ Ok
        (with_collection name (with_schema v c) store)
    by (Value.Object ms) h = refl
    by Value.Null h = absurd (let g : ⊥ = cc in g)
    by (Value.Bool b) h = absurd (let g : ⊥ = cc in g)
    by (Value.Int z) h = absurd (let g : ⊥ = cc in g)
    by (Value.Text bs) h = absurd (let g : ⊥ = cc in g)
    by (Value.List ds) h = absurd (let g : ⊥ = cc in g)

pub not_described : (name : Bytes) (v : Value) (c : Collection) (store : Store) → found name store ≡ Ok c
    → is_object v ≡ false → schema_set name v store ≡ Err NotObject
not_described name v c store f is = passed (λ d. and_then (members_in v)
    (λ _. Ok (with_collection name (with_schema v d) store))) f ∙ by v is
  where
    by : (w : Value) → is_object w ≡ false
        → and_then (members_in w) (λ _. Ok (with_collection name (with_schema v c) store)) ≡ Err NotObject
    by (Value.Object ms) h = absurd (let g : ⊥ = cc in g)
    by Value.Null h = refl
    by (Value.Bool b) h = refl
    by (Value.Int z) h = refl
    by (Value.Text bs) h = refl
    by (Value.List ds) h = refl

pub described_bytes : (name : Bytes) (v : Value) (c : Collection) (store : Store) → found name store ≡ Ok c
    → (sums (with_collection name (with_schema v c) store)).bytes + size c.schema ≡ (sums store).bytes + size v
described_bytes name v c store f = let set =
    set-bytes name (with_schema v c) store (Some c) (is_found name store c f).there in omega arith

pub described_holds : (name : Bytes) (v : Value) (c : Collection) (store : Store) (e b : ℕ) → found name store ≡ Ok c
    → e ≡ (sums store).entries → b ≡ (sums store).bytes + size v - size c.schema
    → Holds (with_collection name (with_schema v c) store) e b
described_holds name v c store e b f p q =
    let set = set-entries name (with_schema v c) store (Some c) (is_found name store c f).there in
    let all = described_bytes name v c store f in
    record { entries = omega arith; bytes = omega arith }

pub described_is : (name : Bytes) (v : Value) (c : Collection) (store : Store) → IsStore store
    → found name store ≡ Ok c → is_object v ≡ true → IsWithin v
    → IsCollection name (with_schema v c)
described_is name v c store is f object small =
    collection-schema name c v (collection_is name store c is f) (by v object) small
  where
    by : (w : Value) → is_object w ≡ true → is_schema w ≡ true
    by (Value.Object ms) h = refl
    by Value.Null h = absurd (let g : ⊥ = cc in g)
    by (Value.Bool b) h = h
    by (Value.Int z) h = h
    by (Value.Text bs) h = h
    by (Value.List ds) h = h

pub describe_ends : (limits : Limits) (name : Bytes) (v own : Value) (c : Collection) (store : Store) (e b : ℕ)
    → AreLimits limits → IsStore store → found name store ≡ Ok c
    → is_object v ≡ true → IsWithin v → own ≡ v → e ≡ (sums store).entries
    → b ≡ (sums store).bytes + size v - size c.schema → room limits (sums store) (sums_of e b) ≡ Ok tt
    → Ends (bounded limits (schema_set name v) store) (changed name (Alter (SetSchema own)) store) e b
describe_ends limits name v own c store e b are is f object small same p q h =
    subst (λ w. Ends (bounded limits (schema_set name v) store) (changed name (Alter (SetSchema w)) store) e b)
    (sym same)
    (alter_ends limits name (SetSchema v) c store (schema_set name v store) e b are is f
    (described name v c store f object) (described_is name v c store is f object small)
    (described_holds name v c store e b f p q) h)

-- ---- records come

-- what a list of objects came to
pub record Batch (next : ℕ) (more : List (ℕ × Value)) : Type 0 where
  pub all : List Pairs
  pub is : more ≡ numbered next all
  pub fits : next + length all ≤ 2 ^ 63 - 1

pub batch_is : (next : ℕ) (vs : List Value) (more : List (ℕ × Value)) → batch next vs ≡ Ok more → Batch next more
batch_is next vs more e = by (members_in_all vs) e
  where
    with_ids : (all : List Pairs) (b : Bool) → has_ids next (length all) ≡ b
        → cond b (Ok (numbered next all)) (Err IdsUsedUp) ≡ Ok more → Batch next more
    with_ids all true at h = record { all = all; is = cc; fits = grind arith }
    with_ids all false at h = absurd (let g : ⊥ = cc in g)

    small : (all : List Pairs) (b : Bool)
        → cond (not b) (Err RecordTooLarge) (cond (has_ids next (length all)) (Ok (numbered next all))
        (Err IdsUsedUp)) ≡ Ok more → Batch next more
    small all true h = with_ids all (has_ids next (length all)) refl h
    small all false h = absurd (let g : ⊥ = cc in g)

    by : (r : Checked (List Pairs)) → and_then r (batch_of next) ≡ Ok more → Batch next more
    by (Ok all) h = small all (list_all (λ (r : ℕ × Value). is_small r.1) (numbered next all)) h
    by (Err refusal) h = absurd (let g : ⊥ = cc in g)

abbrev stores : Bytes → List Value → Store → Collection → Checked Store
stores name vs store c = and_then (batch c.next vs) (λ more. Ok (with_collection name (appended more c) store))

pub stored : (name : Bytes) (vs : List Value) (more : List (ℕ × Value)) (c : Collection) (store : Store)
    → found name store ≡ Ok c → batch c.next vs ≡ Ok more
    → records_stored name vs store ≡ Ok (with_collection name (appended more c) store)
stored name vs more c store f e = passed (stores name vs store) f
    ∙ passed (λ m. Ok (with_collection name (appended m c) store)) e

pub not_stored : (name : Bytes) (vs : List Value) (c : Collection) (store : Store) (refusal : Refusal)
    → found name store ≡ Ok c → batch c.next vs ≡ Err refusal
    → records_stored name vs store ≡ Err refusal
not_stored name vs c store refusal f e = passed (stores name vs store) f
    ∙ refused (λ m. Ok (with_collection name (appended m c) store)) e

pub stored_adds : (name : Bytes) (vs : List Value) (more : List (ℕ × Value)) (c : Collection) (store : Store)
    → IsStore store → found name store ≡ Ok c → batch c.next vs ≡ Ok more
    → Holds (with_collection name (appended more c) store) ((sums store).entries + length more)
    ((sums store).bytes + sum_by (record_bytes name) more)
stored_adds name vs more c store is f e =
    let of = batch_is c.next vs more e in
    subst (λ m. Holds (with_collection name (appended m c) store) ((sums store).entries + length m)
    ((sums store).bytes + sum_by (record_bytes name) m)) (sym of.is)
    (by of.all)
  where
    by : (all : List Pairs) → Holds (with_collection name (appended (numbered c.next all) c) store)
        ((sums store).entries + length (numbered c.next all))
        ((sums store).bytes + sum_by (record_bytes name) (numbered c.next all))
    by all =
        let at = (is_found name store c f).there in
        let new = appended (numbered c.next all) c in
        let below : Below c.next c.records = λ id v there. ((collection_is name store c is f).records id v
        there).below in
        let entries = set-entries name new store (Some c) at in
        let bytes = set-bytes name new store (Some c) at in
        let more_len = appended-len c.next all c.records below in
        let more_bytes = appended-bytes name c.next all c.records below in
        let count = length-numbered c.next all in
        record { entries = omega arith; bytes = omega arith }

pub stored_is : (name : Bytes) (vs : List Value) (more : List (ℕ × Value)) (c : Collection) (store : Store)
    → IsStore store → found name store ≡ Ok c → batch c.next vs ≡ Ok more
    → AllByRecursion (λ (r : ℕ × Value). IsWithin r.1) more → IsCollection name (appended more c)
stored_is name vs more c store is f e small =
    let of = batch_is c.next vs more e in
    subst (λ m. IsCollection name (appended m c)) (sym of.is)
    (collection-appended name c of.all (collection_is name store c is f) of.fits
    (subst (AllByRecursion (λ (r : ℕ × Value). IsWithin r.1)) of.is small))

-- a sum that is cut at 2^64 - 1 is over a limit where the whole is
abbrev pub most : ℕ
most = 2 ^ 64 - 1

over_cut : (limit before after : ℕ) → limit ≤ MOST_BYTES → before ≤ MOST_BYTES
    → is_over limit before (min after most) ≡ is_over limit before after
over_cut limit before after l b = by (nat_lt most after) refl
  where
    by : (large : Bool) → nat_lt most after ≡ large → is_over limit before (min after most) ≡ is_over limit before after
    by false at = let same : min after most ≡ after = grind arith in ap (is_over limit before) same
    by true at =
        let cut : is_over limit before (min after most) ≡ true = grind arith in
        let whole : is_over limit before after ≡ true = grind arith in
        cut ∙ sym whole

pub room_cut : (limits : Limits) (store : Store) (e b : ℕ) → AreLimits limits → IsStore store
    → room limits (sums store) (sums_of e (min b most)) ≡ room limits (sums store) (sums_of e b)
room_cut limits store e b are is = ap (λ over. unless_full (is_over limits.entries (sums store).entries e || over))
    (over_cut limits.bytes (sums store).bytes b are.bytes is.bytes)

pub cut_is : (limits : Limits) (store : Store) (e b : ℕ) → AreLimits limits → IsStore store
    → room limits (sums store) (sums_of e b) ≡ Ok tt → min b most ≡ b
cut_is limits store e b are is h =
    let bounds = not_full limits store (sums_of e b) are is (has_room limits (sums store)
    (sums_of e b) e b refl refl h) in
    omega (arith, bounds.bytes)

-- ---- a collection goes

pub drop_ends : (name : Bytes) (c : Collection) (store : Store) (e b : ℕ) → IsStore store → found name store ≡ Ok c
    → e + collection_entries c ≡ (sums store).entries → b + collection_bytes (name, c) ≡ (sums store).bytes
    → Ends (collection_dropped name store) (without_collection name store) e b
drop_ends name c store e b is f p q =
    let there = (is_found name store c f).there in
    let fewer = unset-entries name c store there in
    let less = unset-bytes name c store there in
    ends_lower (collection_dropped name store) store (without_collection name store) e b is
    (passed (λ d. Ok (without_collection name store)) f)
    (omega arith) (omega arith) (omega arith) (omega arith)
    (λ bounds. store-without name store is bounds.entries bounds.bytes)

pub drops_lower : (name : Bytes) (c : Collection) (store : Store) → found name store ≡ Ok c
    → Lowers (without_collection name store) store (collection_entries c) (collection_bytes (name, c))
drops_lower name c store f = let there = (is_found name store c f).there in
    record { fewer = unset-entries name c store there; less = unset-bytes name c store there }

-- ---- what a list of records ends in

-- what it holds is known where there is room
stored_room : (limits : Limits) (name : Bytes) (vs : List Value) (more : List (ℕ × Value)) (c : Collection)
    (store : Store) (e b : ℕ) (answer : Checked (Unit {0})) → AreLimits limits → IsStore store
    → e ≡ (sums store).entries + length more → b ≡ min ((sums store).bytes + min
    (sum_by (record_bytes name) more) most) most → room limits (sums store) (sums_of e b) ≡ answer
    → room limits (sums store) (sums_of ((sums store).entries + length more)
    ((sums store).bytes + sum_by (record_bytes name) more)) ≡ answer
stored_room limits name vs more c store e b answer are is p q h =
    let exact = (sums store).bytes + sum_by (record_bytes name) more in
    let cut : b ≡ min exact most = omega (arith, q) in
    sym (room_cut limits store ((sums store).entries + length more) exact are is)
    ∙ sym (λ i. room limits (sums store) (sums_of (p i) (cut i))) ∙ h

pub stored_full : (limits : Limits) (name : Bytes) (vs : List Value) (more : List (ℕ × Value)) (c : Collection)
    (store : Store) (e b : ℕ) (refusal : Refusal) → AreLimits limits → IsStore store
    → found name store ≡ Ok c → batch c.next vs ≡ Ok more
    → e ≡ (sums store).entries + length more → b ≡ min ((sums store).bytes + min
    (sum_by (record_bytes name) more) most) most → room limits (sums store) (sums_of e b) ≡ Err refusal
    → bounded limits (records_stored name vs) store ≡ Err refusal
stored_full limits name vs more c store e b refusal are is f made p q h =
    full_refused limits store (with_collection name (appended more c) store)
    (records_stored name vs store) _ _ refusal (stored name vs more c store f made)
    (stored_adds name vs more c store is f made)
    (stored_room limits name vs more c store e b (Err refusal) are is p q h)

pub store_ends : (limits : Limits) (name : Bytes) (vs : List Value) (more : List (ℕ × Value)) (a : Alteration)
    (c : Collection) (store : Store) (e b : ℕ) → AreLimits limits → IsStore store
    → found name store ≡ Ok c → batch c.next vs ≡ Ok more → AllByRecursion (λ (r : ℕ × Value). IsWithin r.1) more
    → altered a c ≡ appended more c
    → e ≡ (sums store).entries + length more → b ≡ min ((sums store).bytes + min
    (sum_by (record_bytes name) more) most) most → room limits (sums store) (sums_of e b) ≡ Ok tt
    → Ends (bounded limits (records_stored name vs) store) (changed name (Alter a) store) e b
store_ends limits name vs more a c store e b are is f made small same p q h =
    let exact = (sums store).bytes + sum_by (record_bytes name) more in
    let fits = stored_room limits name vs more c store e b (Ok tt) are is p q h in
    let whole = cut_is limits store ((sums store).entries + length more) exact are is fits in
    let adds = stored_adds name vs more c store is f made in
    alter_ends limits name a c store (records_stored name vs store) e b are is f
    (stored name vs more c store f made ∙ ap (λ d. Ok (with_collection name d store)) (sym same))
    (subst (IsCollection name) (sym same) (stored_is name vs more c store is f made small))
    (subst (λ d. Holds (with_collection name d store) e b) (sym same)
    (record { entries = p ∙ adds.entries; bytes = omega (arith, q, whole, adds.bytes) }))
    h
