-- What a database keeps: data by key, and collections of records by name.
use Rattle.std.specs.Ordering.{nat_cmp}
use Rattle.std.specs.FinMap as map
use Rattle.std.specs.Cmp.Lexicographic.{slice_cmp}
use Rattle.uq_value.specs.Data.{Bytes}
use Rattle.uq_model.specs.declared.collection.Collection.{Collection}

-- data by key
abbrev pub Keys : Type 0
Keys = map.FinMap (slice_cmp nat_cmp) Bytes

-- collections by name
abbrev pub Collections : Type 0
Collections = map.FinMap (slice_cmp nat_cmp) Collection

pub record Store : Type 0 where
  pub keys : Keys
  pub collections : Collections

-- a store without anything
abbrev pub empty : Store
empty = record { keys = map.empty; collections = map.empty }

-- one without keys
abbrev pub store_of : Collections → Store
store_of cs = record { keys = map.empty; collections = cs }
