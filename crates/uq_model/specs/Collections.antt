-- The calls on collections: what each answers, and the session after it.
use Rattle.std.specs.Prelude.{◌≡◌, ℕ, ◌+◌, ◌-◌, ◌^◌, Bool, true, not, ◌&&◌, ◌||◌, if◌then◌else◌, ◌==◌, nat_lt, pos, List, [], ◌∷◌, ◌++◌, length, Option, Result, Ok, Err}
use Rattle.std.specs.Option.{ok_or, option_map, option_and_then}
use Rattle.std.specs.List.{list_all, list_any, filter, find}
use Rattle.std.specs.Char.{is_ascii_alphanumeric}
use Rattle.std.specs.Str.{bytes_eq}
use Rattle.std.specs.Ordering.{nat_cmp}
use Rattle.std.specs.FinMap as map
use Rattle.uq_value.specs.Data.{Bytes, Pairs, int}
use Rattle.uq_value.specs.Size.{most_size}
use Rattle.uq_value.specs.Plain.{size}
use Rattle.uq_value.specs.declared.value.Value.{Value}
use Rattle.uq_model.specs.declared.collection.Collection.{Collection}
use Rattle.uq_model.specs.declared.collection.CollectionInfo.{CollectionInfo}
use Rattle.uq_model.specs.declared.done.Done.{Done}
use Rattle.uq_model.specs.declared.done.Done.TheVariants.{Yes, No}
use Rattle.uq_model.specs.declared.done.Refusal.{Refusal}
use Rattle.uq_model.specs.declared.done.Refusal.TheVariants.{BadName, NoCollection, Exists, NoRecord, NotObject, RecordTooLarge, IdsUsedUp, Full}
use Rattle.uq_model.specs.declared.limits.Limits.{Limits}
use Rattle.uq_model.specs.Store.{Store}
use Rattle.uq_model.specs.Session.{Call, with_present}
use Rattle.uq_model.specs.Full.{sums, is_full}

-- what comes of some checks: the first refusal, or what they let through
abbrev pub Checked : Type 0 → Type 0
Checked A = Result A Refusal

-- the next checks, where these let something through
abbrev pub and_then : {A B : Type 0} → Checked A → (A → Checked B) → Checked B
and_then (Ok x) more = more x
and_then (Err refusal) more = Err refusal

-- ---- names, and what is there

-- a letter, a digit or `_`
abbrev pub is_name_byte : ℕ → Bool
is_name_byte c = is_ascii_alphanumeric c || c == 95

-- 1 to 64 of them
abbrev pub is_name : Bytes → Bool
is_name name = nat_lt 0 (length name) && nat_lt (length name) 65 && list_all is_name_byte name

abbrev pub collection_at : Bytes → Store → Option Collection
collection_at name store = map.get store.collections name

abbrev pub found : Bytes → Store → Checked Collection
found name store = if is_name name then ok_or (collection_at name store) NoCollection else Err BadName

abbrev pub with_collection : Bytes → Collection → Store → Store
with_collection name c store = record store { collections = map.insert store.collections name c }

abbrev pub without_collection : Bytes → Store → Store
without_collection name store = record store { collections = map.remove store.collections name }

abbrev pub new_collection : Collection
new_collection = record { next = 0; schema = Value.Null; records = map.empty }

-- ---- records

-- `__id`
abbrev pub id_name : Bytes
id_name = 95 ∷ 95 ∷ 105 ∷ 100 ∷ []

-- members without `__id`
abbrev pub without_id : Pairs → Pairs
without_id members = filter (λ m. not (bytes_eq m.0 id_name)) members

-- a record: the members of an object without its `__id`, and then that with the id
abbrev pub record_of : ℕ → Pairs → Value
record_of id members = Value.Object (without_id members ++ (id_name, int (pos id)) ∷ [])

abbrev pub is_small : Value → Bool
is_small v = not (nat_lt most_size (size v))

abbrev pub members_in : Value → Checked Pairs
members_in (Value.Object members) = Ok members
members_in _ = Err NotObject

-- the record of this id with these members, or made of a value
abbrev pub record_within : ℕ → Pairs → Checked Value
record_within id members = if is_small (record_of id members) then Ok (record_of id members) else Err RecordTooLarge

abbrev pub record_made : ℕ → Value → Checked Value
record_made id v = and_then (members_in v) (record_within id)

-- those of each
abbrev pub members_in_all : List Value → Checked (List Pairs)
members_in_all [] = Ok []
members_in_all (v ∷ vs) = and_then (members_in v) (λ members. and_then (members_in_all vs)
    (λ more. Ok (members ∷ more)))

-- records of these members, with ids from that one on
abbrev pub numbered : ℕ → List Pairs → List (ℕ × Value)
numbered next [] = []
numbered next (members ∷ more) = (next, record_of next members) ∷ numbered (next + 1) more

-- no id is greater than 2^63 - 2
abbrev pub has_ids : ℕ → ℕ → Bool
has_ids next count = not (nat_lt (2 ^ 63 - 1) (next + count))

-- the records that are made of these members, or of these values, in a collection whose next id is that one
abbrev pub batch_of : ℕ → List Pairs → Checked (List (ℕ × Value))
batch_of next all =
    if not (list_all (λ (r : ℕ × Value). is_small r.1) (numbered next all)) then Err RecordTooLarge
    else (if has_ids next (length all) then Ok (numbered next all) else Err IdsUsedUp)

abbrev pub batch : ℕ → List Value → Checked (List (ℕ × Value))
batch next vs = and_then (members_in_all vs) (batch_of next)

abbrev pub Records : Type 0
Records = map.FinMap nat_cmp Value

abbrev pub with_records : List (ℕ × Value) → Records → Records
with_records [] records = records
with_records (r ∷ more) records = with_records more (map.insert records r.0 r.1)

-- a collection with these records more: their ids are never given again
abbrev pub appended : List (ℕ × Value) → Collection → Collection
appended more c = record { next = c.next + length more; schema = c.schema; records = with_records more c.records }

abbrev pub with_record : ℕ → Value → Collection → Collection
with_record id v c = record { next = c.next; schema = c.schema; records = map.insert c.records id v }

abbrev pub without_record : ℕ → Collection → Collection
without_record id c = record { next = c.next; schema = c.schema; records = map.remove c.records id }

abbrev pub with_schema : Value → Collection → Collection
with_schema v c = record { next = c.next; schema = v; records = c.records }

-- ---- the store after each write, or the first refusal; `Full` comes last

abbrev pub created : Bytes → Store → Checked Store
created name store =
    if not (is_name name) then Err BadName
    else (if map.contains_key store.collections name then Err Exists else Ok
    (with_collection name new_collection store))

abbrev pub collection_dropped : Bytes → Store → Checked Store
collection_dropped name store = and_then (found name store) (λ c. Ok (without_collection name store))

abbrev pub records_stored : Bytes → List Value → Store → Checked Store
records_stored name vs store = and_then (found name store) (λ c.
    and_then (batch c.next vs) (λ more. Ok (with_collection name (appended more c) store)))

abbrev pub record_replaced : Bytes → ℕ → Value → Store → Checked Store
record_replaced name id v store = and_then (found name store) (λ c.
    if not (map.contains_key c.records id) then Err NoRecord
    else and_then (record_made id v) (λ new. Ok (with_collection name (with_record id new c) store)))

abbrev pub record_dropped : Bytes → ℕ → Store → Checked Store
record_dropped name id store = and_then (found name store) (λ c.
    if map.contains_key c.records id then Ok (with_collection name (without_record id c) store) else Err NoRecord)

abbrev pub schema_set : Bytes → Value → Store → Checked Store
schema_set name v store = and_then (found name store) (λ c.
    and_then (members_in v) (λ _. Ok (with_collection name (with_schema v c) store)))

-- the new store, where the write to it is not full
abbrev pub within : Limits → Store → Store → Checked Store
within limits old new = if is_full limits (sums old) (sums new) then Err Full else Ok new

-- a write within the limits
abbrev pub bounded : Limits → (Store → Checked Store) → Store → Checked Store
bounded limits write store = and_then (write store) (within limits store)

-- ---- the calls that write

abbrev pub writes : Checked Store → Call Store Done
writes (Ok store) s = (Yes, with_present store s)
writes (Err refusal) s = (No refusal, s)

abbrev pub creates : Bytes → Limits → Call Store Done
creates name limits s = writes (bounded limits (created name) s.present) s

abbrev pub drops_collection : Bytes → Call Store Done
drops_collection name s = writes (collection_dropped name s.present) s

abbrev pub stores_records : Bytes → List Value → Limits → Call Store Done
stores_records name vs limits s = writes (bounded limits (records_stored name vs) s.present) s

abbrev pub replaces_record : Bytes → ℕ → Value → Limits → Call Store Done
replaces_record name id v limits s = writes (bounded limits (record_replaced name id v) s.present) s

abbrev pub drops_record : Bytes → ℕ → Call Store Done
drops_record name id s = writes (record_dropped name id s.present) s

abbrev pub sets_schema : Bytes → Value → Limits → Call Store Done
sets_schema name v limits s = writes (bounded limits (schema_set name v) s.present) s

-- ---- what the calls that read look at

abbrev pub info_of : Collection → CollectionInfo
info_of c = record { count = map.len c.records; next_id = c.next }

abbrev pub collection_info : Bytes → Store → Option CollectionInfo
collection_info name store = option_map info_of (collection_at name store)

-- the least id that is there and at least this one
abbrev pub least_from : ℕ → Collection → Option ℕ
least_from id c = option_map (λ (r : ℕ × Value). r.0) (find (λ r. not (nat_lt r.0 id)) (map.entries c.records))

abbrev pub id_at_or_after : Bytes → ℕ → Store → Option ℕ
id_at_or_after name id store = option_and_then (least_from id) (collection_at name store)

abbrev pub record_in : ℕ → Collection → Option Value
record_in id c = map.get c.records id

abbrev pub record_at : Bytes → ℕ → Store → Option Value
record_at name id store = option_and_then (record_in id) (collection_at name store)

abbrev pub schema_at : Bytes → Store → Option Value
schema_at name store = option_map (λ (c : Collection). c.schema) (collection_at name store)

-- ---- the refusals of each call, in their order

abbrev pub place_in_table : Refusal → ℕ
place_in_table BadName = 0
place_in_table NoCollection = 1
place_in_table Exists = 2
place_in_table NoRecord = 3
place_in_table NotObject = 4
place_in_table RecordTooLarge = 5
place_in_table IdsUsedUp = 6
place_in_table Full = 7

abbrev pub is_among : List Refusal → Refusal → Bool
is_among row refusal = list_any (λ other. place_in_table other == place_in_table refusal) row

-- the answer is one of a call that has these refusals
abbrev pub Gives : List Refusal → Done → Type 0
Gives row Yes = Unit {0}
Gives row (No refusal) = is_among row refusal ≡ true

abbrev pub of_create : List Refusal
of_create = BadName ∷ Exists ∷ Full ∷ []

abbrev pub of_drop_collection : List Refusal
of_drop_collection = BadName ∷ NoCollection ∷ []

abbrev pub of_store : List Refusal
of_store = BadName ∷ NoCollection ∷ NotObject ∷ RecordTooLarge ∷ IdsUsedUp ∷ Full ∷ []

abbrev pub of_replace : List Refusal
of_replace = BadName ∷ NoCollection ∷ NoRecord ∷ NotObject ∷ RecordTooLarge ∷ Full ∷ []

abbrev pub of_drop_record : List Refusal
of_drop_record = BadName ∷ NoCollection ∷ NoRecord ∷ []

abbrev pub of_set_schema : List Refusal
of_set_schema = BadName ∷ NoCollection ∷ NotObject ∷ Full ∷ []
