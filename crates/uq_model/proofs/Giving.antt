-- Each call that writes gives only the refusals of its row.
use Rattle.std.proofs.Common.{◌≡◌, ℕ, Bool, true, false, cond, not, List, Option, Some, None, Ok, Err, refl, [], ◌∷◌, length}
use Rattle.std.specs.Option.{ok_or}
use Rattle.std.specs.List.{list_all}
use Rattle.std.specs.FinMap as map
use Rattle.uq_value.specs.Data.{Bytes}
use Rattle.uq_value.specs.declared.value.Value.{Value}
use Rattle.uq_model.specs.declared.collection.Collection.{Collection}
use Rattle.uq_model.specs.declared.done.Refusal.{Refusal}
use Rattle.uq_model.specs.declared.done.Refusal.TheVariants.{BadName, NoCollection, NotObject, RecordTooLarge, Full}
use Rattle.uq_model.specs.declared.limits.Limits.{Limits}
use Rattle.uq_model.specs.Store.{Store}
use Rattle.uq_model.specs.Session.{Session}
use Rattle.uq_model.specs.Full.{sums, is_full}
use Rattle.uq_model.specs.Collections.{Checked, and_then, is_name, collection_at, found, numbered, is_small, has_ids, batch_of, batch, members_in, members_in_all, record_of, record_within, record_made}
use Rattle.uq_model.specs.Collections.{within, bounded, created, collection_dropped, records_stored, record_replaced, record_dropped, schema_set, writes, is_among, Gives}
use Rattle.uq_model.specs.Collections.{of_create, of_drop_collection, of_store, of_replace, of_drop_record, of_set_schema}

-- the refusal, if there is one, is of this row
abbrev OfRow : {A : Type 0} → List Refusal → Checked A → Type 0
OfRow row (Ok x) = Unit {0}
OfRow row (Err refusal) = is_among row refusal ≡ true

then_of : {A B : Type 0} (row : List Refusal) (r : Checked A) (f : A → Checked B) → OfRow row r
    → ((x : A) → OfRow row (f x)) → OfRow row (and_then r f)
then_of row (Ok x) f h more = more x
then_of row (Err refusal) f h more = h

either : {A : Type 0} (row : List Refusal) (b : Bool) (x y : Checked A) → OfRow row x → OfRow row y
    → OfRow row (cond b x y)
either row true x y h k = h
either row false x y h k = k

turned : {A : Type 0} (row : List Refusal) (b : Bool) (x y : Checked A) → OfRow row x → OfRow row y
    → OfRow row (cond (not b) x y)
turned row true x y h k = k
turned row false x y h k = h

found_of : (row : List Refusal) (name : Bytes) (store : Store) → is_among row BadName ≡ true
    → is_among row NoCollection ≡ true → OfRow row (found name store)
found_of row name store bad none = either row (is_name name) (ok_or (collection_at name store) NoCollection)
    (Err BadName) (by (collection_at name store)) bad
  where
    by : (o : Option Collection) → OfRow row (ok_or o NoCollection)
    by (Some c) = tt
    by None = none

bounded_of : (row : List Refusal) (limits : Limits) (write : Store → Checked Store) (store : Store)
    → is_among row Full ≡ true → OfRow row (write store) → OfRow row (bounded limits write store)
bounded_of row limits write store full h =
    then_of row (write store) (within limits store) h (λ new. either row (is_full limits (sums store) (sums new))
    (Err Full) (Ok new) full tt)

members_of : (row : List Refusal) (v : Value) → is_among row NotObject ≡ true → OfRow row (members_in v)
members_of row (Value.Object ms) h = tt
members_of row Value.Null h = h
members_of row (Value.Bool b) h = h
members_of row (Value.Int z) h = h
members_of row (Value.Text bs) h = h
members_of row (Value.List ds) h = h

all_members_of : (row : List Refusal) (vs : List Value) → is_among row NotObject ≡ true → OfRow row (members_in_all vs)
all_members_of row [] h = tt
all_members_of row (v ∷ vs) h = then_of row (members_in v) _ (members_of row v h)
    (λ ms. then_of row (members_in_all vs) _ (all_members_of row vs h) (λ more. tt))

made_of : (row : List Refusal) (id : ℕ) (v : Value) → is_among row NotObject ≡ true
    → is_among row RecordTooLarge ≡ true → OfRow row (record_made id v)
made_of row id v bad large = then_of row (members_in v) (record_within id) (members_of row v bad)
    (λ ms. either row (is_small (record_of id ms)) (Ok (record_of id ms)) (Err RecordTooLarge) tt large)

batch_row : (next : ℕ) (vs : List Value) → OfRow of_store (batch next vs)
batch_row next vs = then_of of_store (members_in_all vs) (batch_of next) (all_members_of of_store vs refl) (λ all.
    turned of_store (list_all (λ (r : ℕ × Value). is_small r.1) (numbered next all)) _ _ refl
    (either of_store (has_ids next (length all)) _ _ tt refl))

gives : (row : List Refusal) (checked : Checked Store) (s : Session Store) → OfRow row checked
    → Gives row (writes checked s).0
gives row (Ok new) s h = tt
gives row (Err refusal) s h = h

created_row : (name : Bytes) (store : Store) → OfRow of_create (created name store)
created_row name store = turned of_create (is_name name) _ _ refl
    (either of_create (map.contains_key store.collections name) _ _ refl tt)

pub create_gives : (limits : Limits) (name : Bytes) (s : Session Store)
    → Gives of_create (writes (bounded limits (created name) s.present) s).0
create_gives limits name s = gives of_create (bounded limits (created name) s.present) s
    (bounded_of of_create limits (created name) s.present refl (created_row name s.present))

pub drop_collection_gives : (name : Bytes) (s : Session Store)
    → Gives of_drop_collection (writes (collection_dropped name s.present) s).0
drop_collection_gives name s = gives of_drop_collection (collection_dropped name s.present) s
    (then_of of_drop_collection (found name s.present) _ (found_of of_drop_collection name s.present refl refl)
    (λ c. tt))

pub store_gives : (limits : Limits) (name : Bytes) (vs : List Value) (s : Session Store)
    → Gives of_store (writes (bounded limits (records_stored name vs) s.present) s).0
store_gives limits name vs s = gives of_store (bounded limits (records_stored name vs) s.present) s
    (bounded_of of_store limits (records_stored name vs) s.present refl
    (then_of of_store (found name s.present) _ (found_of of_store name s.present refl refl)
    (λ c. then_of of_store (batch c.next vs) _ (batch_row c.next vs) (λ more. tt))))

pub replace_gives : (limits : Limits) (name : Bytes) (id : ℕ) (v : Value) (s : Session Store)
    → Gives of_replace (writes (bounded limits (record_replaced name id v) s.present) s).0
replace_gives limits name id v s = gives of_replace (bounded limits (record_replaced name id v) s.present) s
    (bounded_of of_replace limits (record_replaced name id v) s.present refl
    (then_of of_replace (found name s.present) _ (found_of of_replace name s.present refl refl) (λ c.
    turned of_replace (map.contains_key c.records id) _ _ refl
    (then_of of_replace (record_made id v) _ (made_of of_replace id v refl refl) (λ new. tt)))))

pub drop_record_gives : (name : Bytes) (id : ℕ) (s : Session Store)
    → Gives of_drop_record (writes (record_dropped name id s.present) s).0
drop_record_gives name id s = gives of_drop_record (record_dropped name id s.present) s
    (then_of of_drop_record (found name s.present) _ (found_of of_drop_record name s.present refl refl)
    (λ c. either of_drop_record (map.contains_key c.records id) _ _ tt refl))

pub set_schema_gives : (limits : Limits) (name : Bytes) (v : Value) (s : Session Store)
    → Gives of_set_schema (writes (bounded limits (schema_set name v) s.present) s).0
set_schema_gives limits name v s = gives of_set_schema (bounded limits (schema_set name v) s.present) s
    (bounded_of of_set_schema limits (schema_set name v) s.present refl
    (then_of of_set_schema (found name s.present) _ (found_of of_set_schema name s.present refl refl)
    (λ c. then_of of_set_schema (members_in v) _ (members_of of_set_schema v refl) (λ ms. tt))))
