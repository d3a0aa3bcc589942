-- Which stores there are: those within the limits of names, sizes, ids, entries and bytes.
use Rattle.std.specs.Prelude.{◌≡◌, ℕ, ◌<◌, ◌≤◌, ◌-◌, ◌^◌, Bool, true, false, ◌&&◌, ◌==◌, pos, [], ◌∷◌, length, Some}
use Rattle.std.specs.Coded.{le_prop}
use Rattle.std.proofs.Math.Bool.{Bool-set}
use Rattle.std.specs.Str.{bytes_eq}
use Rattle.std.specs.declared.cmp.Ordering.{Ordering}
use Rattle.std.specs.FinMap as map
use Rattle.uq_value.specs.Data.{Bytes, Data, Pairs, int}
use Rattle.uq_value.specs.Size.{most_size}
use Rattle.uq_value.specs.Depth.{most_depth}
use Rattle.uq_value.specs.Plain.{size, depth}
use Rattle.uq_value.specs.declared.value.Value.{Value}
use Rattle.uq_model.specs.declared.collection.Collection.{Collection}
use Rattle.uq_model.specs.declared.limits.Limits.{Limits}
use Rattle.uq_model.specs.declared.limits.TheConstants.{MOST_ENTRIES, MOST_BYTES}
use Rattle.uq_model.specs.Store.{Store}
use Rattle.uq_model.specs.Session.{Session}
use Rattle.uq_model.specs.Full.{sums}
use Rattle.uq_model.specs.Collections.{is_name, id_name}

-- P of each key of a map with its value
abbrev pub EachEntry : {K X : Type 0} {R : K → K → Ordering} → (K → X → Type 0) → map.FinMap R X → Type 0
EachEntry {K} {X} P m = (k : K) (x : X) → map.get m k ≡ Some x → P k x

-- the limits that a store may have
pub record AreLimits (limits : Limits) : Type 0 where
  pub entries : limits.entries ≤ MOST_ENTRIES
  pub bytes : limits.bytes ≤ MOST_BYTES

-- a key has 1 to 1,024 bytes, and its data up to 2^24
pub record IsKey (key bytes : Bytes) : Type 0 where
  pub some : 0 < length key
  pub short : length key ≤ 1024
  pub small : length bytes ≤ 2 ^ 24

-- ---- records

abbrev is_number : ℕ → Data → Bool
is_number id (int (pos n)) = n == id
is_number id _ = false

abbrev ends_in_id : ℕ → Pairs → Bool
ends_in_id id [] = false
ends_in_id id (m ∷ []) = bytes_eq m.0 id_name && is_number id m.1
ends_in_id id (m ∷ (n ∷ ms)) = ends_in_id id (n ∷ ms)

-- an object whose last member is `__id` with this id
abbrev pub is_record : ℕ → Value → Bool
is_record id (Value.Object members) = ends_in_id id members
is_record id _ = false

-- null or an object
abbrev pub is_schema : Value → Bool
is_schema Value.Null = true
is_schema (Value.Object members) = true
is_schema _ = false

-- within the limits of a value
pub record IsWithin (v : Value) : Type 0 where
  pub small : size v ≤ most_size
  pub shallow : depth v ≤ most_depth

-- a record of a collection whose next id is that one
pub record IsRecord (next id : ℕ) (v : Value) : Type 0 where
  pub below : id < next
  pub named : is_record id v ≡ true
  pub within : IsWithin v

-- ---- collections, stores and sessions

pub record IsCollection (name : Bytes) (c : Collection) : Type 0 where
  pub named : is_name name ≡ true
  pub next : c.next ≤ 2 ^ 63 - 1
  pub schema : is_schema c.schema ≡ true
  pub within : IsWithin c.schema
  pub records : EachEntry (IsRecord c.next) c.records

pub record IsStore (store : Store) : Type 0 where
  pub keys : EachEntry IsKey store.keys
  pub collections : EachEntry IsCollection store.collections
  pub entries : (sums store).entries ≤ MOST_ENTRIES
  pub bytes : (sums store).bytes ≤ MOST_BYTES

-- that this is so can be shown in one way only
pub IsStore-prop : (store : Store) → IsProp (IsStore store)
IsStore-prop store = hlevel (le_prop, Bool-set)

-- with no transaction begun, what is there is what was saved
pub record IsSession (s : Session Store) : Type 0 where
  pub saved : IsStore s.saved
  pub present : IsStore s.present
  pub settled : s.begun ≡ false → s.saved ≡ s.present
