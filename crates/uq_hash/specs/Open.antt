-- The place of a key in its bucket.
use Rattle.std.specs.Prelude.{ℕ, List, Option}
use Rattle.std.specs.Borrow.{Bor}
use Rattle.std.specs.Option.{ForSome}
use Rattle.uq_page.specs.declared.header.Header.{Header}
use Rattle.uq_hash.specs.declared.opening.Open.{Open}
use Rattle.uq_hash.specs.declared.seeking.Bound.TheVariants.{Before}
use Rattle.uq_hash.specs.Found.{IsHere, IsNear}
use Rattle.uq_hash.specs.Lying.{Gathers}
use Rattle.uq_hash.specs.Map.{Bucket, HoldsMap, IsBucketFor, Map}
use Rattle.uq_hash.specs.WalkOrder.{hash_start}

-- the key's place in its bucket, and the cells behind it
pub record OpensAt (pages : List (List ℕ)) (header : Header) (buckets : List Bucket) (key : Bor (List ℕ)) (it : Open) : Type 0 where
  pub bucket : Bucket
  pub for : IsBucketFor (hash_start header) buckets key.now bucket
  pub here : IsHere (hash_start header) pages bucket.row bucket.cells (Before key) it.place
  pub near : IsNear (hash_start header) pages bucket.row bucket.cells (Before key) it.near
  pub rest : Gathers (hash_start header) pages bucket.row bucket.cells (Before key) it.near it.rest near

-- the same where the pages are told and hold a map
abbrev pub Opens : Option (List (List ℕ)) → Header → Bor (List ℕ) → Open → Type 0
Opens told header key it = ForSome told (λ pages. (m : Map) (held : HoldsMap pages header m) → OpensAt pages header held.buckets key it)
