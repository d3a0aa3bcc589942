-- Where a key was looked for.
use Rattle.std.specs.Prelude.{◌≡◌, ℕ, ◌<◌, List, [], Option, None, Some}
use Rattle.std.specs.Option.{ForSome}
use Rattle.uq_page.specs.declared.cell.Cell.{Cell}
use Rattle.uq_page.specs.declared.header.Header.{Header}
use Rattle.uq_hash.specs.declared.looking.Look.{Look}
use Rattle.uq_hash.specs.declared.searching.Standing.{Standing}
use Rattle.uq_hash.specs.declared.searching.Standing.TheVariants.{Cell as AtCell}
use Rattle.uq_hash.specs.declared.seeking.Bound.TheVariants.{Before}
use Rattle.uq_hash.specs.Found.{IsHere, IsWithin}
use Rattle.uq_hash.specs.Map.{Bucket, HoldsMap, IsBucketFor, Map}
use Rattle.uq_hash.specs.Standing.{IsKeyed, rest_of, standing_len}
use Rattle.uq_hash.specs.WalkOrder.{hash_start}

-- the place is that of the key in its bucket, and the value of what stands there is as long as was found
pub record LooksAt (pages : List (List ℕ)) (header : Header) (buckets : List Bucket) (it : Look) : Type 0 where
  pub bucket : Bucket
  pub for : IsBucketFor (hash_start header) buckets it.key.now bucket
  pub here : IsHere (hash_start header) pages bucket.row bucket.cells (Before it.key) it.place
  pub standing : Standing
  pub keyed : IsKeyed (rest_of here.found.stands) it.key.now standing
  pub long : it.len ≡ standing_len standing

-- The place lies in one of the pages, and where these are told and hold a map, it is that of the key.
pub record IsLook (told : Option (List (List ℕ))) (size : ℕ) (header : Header) (it : Look) : Type 0 where
  pub within : IsWithin it.place
  pub there : it.place.no < size
  pub looks : ForSome told (λ pages. (m : Map) (held : HoldsMap pages header m) → LooksAt pages header held.buckets it)

-- how long the value is, with none as long as no byte
abbrev pub len_or_none : Option ℕ → ℕ
len_or_none None = 0
len_or_none (Some len) = len

-- the value, with none as the one without a byte
abbrev pub value_or_none : Option (List ℕ) → List ℕ
value_or_none None = []
value_or_none (Some value) = value

-- where the pages are told and hold a map, this is the cell of the key that was looked for
abbrev pub IsOf : Option (List (List ℕ)) → Header → Look → Cell → Type 0
IsOf told header it seen = ForSome told (λ pages. (m : Map) (held : HoldsMap pages header m) → (at : LooksAt pages header held.buckets it) × IsKeyed (rest_of at.here.found.stands) it.key.now (AtCell seen))
