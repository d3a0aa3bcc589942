-- What an accepted write makes of a store, and which write is planned.
use Rattle.std.specs.Prelude.{◌≡◌, Option, Some, None, Result, Ok, Err, if◌then◌else◌}
use Rattle.std.specs.FinMap as map
use Rattle.uq_value.specs.Data.{Bytes}
use Rattle.uq_model.specs.declared.collection.Collection.{Collection}
use Rattle.uq_model.specs.declared.change.Alteration.{Alteration}
use Rattle.uq_model.specs.declared.change.Alteration.TheVariants.{Append, Replace, Remove, SetSchema}
use Rattle.uq_model.specs.declared.change.Change.{Change}
use Rattle.uq_model.specs.declared.change.Change.TheVariants.{Create, DropCollection, Alter}
use Rattle.uq_model.specs.declared.change.Plan.{Plan}
use Rattle.uq_model.specs.declared.change.WriteStop.{WriteStop}
use Rattle.uq_model.specs.declared.change.WriteStop.TheVariants.{Refused, Memory}
use Rattle.uq_model.specs.declared.done.Refusal.TheVariants.{Full}
use Rattle.uq_model.specs.declared.limits.Limits.{Limits}
use Rattle.uq_model.specs.Store.{Store, Collections}
use Rattle.uq_model.specs.Full.{Sums, sums, is_full}
use Rattle.uq_model.specs.Collections.{Checked, new_collection, with_records, with_record, without_record, with_schema}
use Rattle.uq_model.specs.IsStore.{IsStore}

-- the collection that comes of one
abbrev pub altered : Alteration → Collection → Collection
altered (Append more next) c = record { next = next; schema = c.schema; records = with_records more.items c.records }
altered (Replace id v) c = with_record id v c
altered (Remove id) c = without_record id c
altered (SetSchema v) c = with_schema v c

abbrev pub altered_at : Bytes → Alteration → Collections → Option Collection → Collections
altered_at name alteration cs None = cs
altered_at name alteration cs (Some c) = map.insert cs name (altered alteration c)

abbrev pub altered_collections : Bytes → Alteration → Collections → Collections
altered_collections name alteration cs = altered_at name alteration cs (map.get cs name)

-- the collections that come of some
abbrev pub changed_collections : Bytes → Change → Collections → Collections
changed_collections name (Create own) cs = map.insert cs own.items new_collection
changed_collections name DropCollection cs = map.remove cs name
changed_collections name (Alter alteration) cs = altered_collections name alteration cs

-- the store that comes of one
abbrev pub changed : Bytes → Change → Store → Store
changed name change store = record store { collections = changed_collections name change store.collections }

-- what comes of some checks, as a view of it shows, or their refusal; want of memory may always be the answer
abbrev pub Decides : {A B : Type 0} → Checked A → Result B WriteStop → (B → A) → Type 0
Decides checked (Ok x) view = checked ≡ Ok (view x)
Decides checked (Err (Refused refusal)) view = checked ≡ Err refusal
Decides checked (Err Memory) view = Unit {0}

-- whether there is room for what a write makes greater
abbrev pub room : Limits → Sums → Sums → Checked (Unit {0})
room limits before after = if is_full limits before after then Err Full else Ok tt

-- the write that comes of some checks
abbrev pub Chooses : Bytes → Store → Checked Store → Result Plan WriteStop → Type 0
Chooses name store checked result = Decides checked result (λ (plan : Plan). changed name plan.change store)

-- what it leaves is a store, whose sums are known
pub record IsPlanned (name : Bytes) (store : Store) (plan : Plan) : Type 0 where
  pub entries : plan.entries ≡ (sums (changed name plan.change store)).entries
  pub bytes : plan.bytes ≡ (sums (changed name plan.change store)).bytes
  pub is_store : IsStore (changed name plan.change store)
