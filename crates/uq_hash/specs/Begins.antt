-- Where the bucket of a key begins.
use Rattle.std.specs.Prelude.{◌≡◌, ℕ, List, Option}
use Rattle.std.specs.Option.{ForSome}
use Rattle.uq_page.specs.declared.header.Header.{Header}
use Rattle.uq_hash.specs.Map.{Bucket, HoldsMap, IsBucketFor, Map, first_of}
use Rattle.uq_hash.specs.WalkOrder.{hash_start}

-- the bucket of the key begins at this page
pub record BeginsAt (start : ℕ) (buckets : List Bucket) (key : List ℕ) (first : ℕ) : Type 0 where
  pub bucket : Bucket
  pub is : IsBucketFor start buckets key bucket
  pub first_is : first ≡ first_of bucket.row

-- the same where the pages are told and hold a map
abbrev pub Begins : Option (List (List ℕ)) → Header → List ℕ → ℕ → Type 0
Begins told header key first = ForSome told (λ pages. (m : Map) (held : HoldsMap pages header m) → BeginsAt (hash_start header) held.buckets key first)

-- one bucket, which begins at this page, has all keys
pub record BeginsAll (start : ℕ) (buckets : List Bucket) (first : ℕ) : Type 0 where
  pub bucket : Bucket
  pub is : (key : List ℕ) → IsBucketFor start buckets key bucket
  pub first_is : first ≡ first_of bucket.row

-- the same where the pages are told and hold a map
abbrev pub BeginsOnly : Option (List (List ℕ)) → Header → ℕ → Type 0
BeginsOnly told header first = ForSome told (λ pages. (m : Map) (held : HoldsMap pages header m) → BeginsAll (hash_start header) held.buckets first)
