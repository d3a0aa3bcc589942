-- How long the value of a key is, by what stands behind its place.
use Rattle.std.proofs.Common.{◌≡◌, ◌⊎◌, inl, inr, ℕ, ◌+◌, ◌<◌, ◌≤◌, Bor, List, [], ◌∷◌, ◌++◌, length, get_or, Option, None, Some, refl, sym, ap, subst, ◌∙◌, arith}
use Rattle.std.specs.Prelude.{IsSomeAnd}
use Rattle.std.specs.Option.{option_map}
use Rattle.std.specs.FinMap.{get}
use Rattle.uq_page.specs.declared.header.Header.{Header}
use Rattle.std.proofs.lemmas.Bool.{cases_lt}
use Rattle.std.proofs.lemmas.List.{drop_all}
use Rattle.uq_page.specs.Cell.{IsCellAt, kept_bytes}
use Rattle.uq_page.specs.declared.cell.Cell.{Cell}
use Rattle.uq_page.specs.Page.{bytes_of}
use Rattle.uq_hash.specs.declared.looking.Look.{Look}
use Rattle.uq_hash.specs.declared.searching.Place.{Place}
use Rattle.uq_hash.specs.declared.searching.Standing.{Standing}
use Rattle.uq_hash.specs.declared.searching.Standing.TheVariants.{Cell as AtCell, Nothing}
use Rattle.uq_hash.specs.declared.seeking.Bound.{Bound}
use Rattle.uq_hash.specs.declared.seeking.Bound.TheVariants.{Before}
use Rattle.uq_hash.specs.Found.{IsHere}
use Rattle.uq_hash.specs.Looked.{IsEntry}
use Rattle.uq_hash.specs.Looks.{LooksAt}
use Rattle.uq_hash.specs.Map.{Bucket, HoldsMap, IsBucketFor, Map, Stored, kept}
use Rattle.uq_hash.specs.Place.{at, flat, nothing}
use Rattle.uq_hash.specs.Standing.{IsKeyed, rest_of, standing_len}
use Rattle.uq_hash.specs.WalkOrder.{hash_start}
use Rattle.uq_hash.proofs.FindLemmas.{key_entry, key_missed}
use Rattle.uq_hash.proofs.HeldLemmas.{in_bucket}
use Rattle.uq_hash.proofs.StandingLemmas.{cell_there, rest_here}

pub standing_long : (pages : List (List ℕ)) (header : Header) (m : Map) (held : HoldsMap pages header m) (key : Bor (List ℕ)) (bucket : Bucket) (for : IsBucketFor (hash_start header) held.buckets key.now bucket) (place : Place)
    (here : IsHere (hash_start header) pages bucket.row bucket.cells (Before key) place) (standing : Standing) → IsKeyed (rest_of here.found.stands) key.now standing → standing_len standing ≡ option_map length (get m key.now)
standing_long pages header m held key bucket for place here (AtCell seen) keyed =
    let within = in_bucket pages header m key.now held bucket for in
    let entry = key_entry (hash_start header) pages bucket.row bucket.cells key place here.found.stands seen within.chained keyed in
    ap (λ (n : ℕ). Some n) entry.is.long ∙ ap (option_map length) (sym entry.found ∙ within.found)
standing_long pages header m held key bucket for place here Nothing keyed =
    let within = in_bucket pages header m key.now held bucket for in
    let missed = key_missed (hash_start header) pages bucket.row bucket.cells key place here.found.stands within.chained keyed in
    ap (option_map length) (sym missed ∙ within.found)

-- what was found there has the key
pub keyed_as : (found : Option Standing) (standing : Standing) (P : Standing → Type 0) → found ≡ Some standing → IsSomeAnd found P → P standing
keyed_as found standing P is all = subst (λ (o : Option Standing). IsSomeAnd o P) is all

-- the place of an entry that is there lies before the end of its page
pub index_within : (start : ℕ) (pages : List (List ℕ)) (row : List ℕ) (cells : List Stored) (bound : Bound) (place : Place) (here : IsHere start pages row cells bound place) (it : Stored) (others : List Stored)
    → rest_of here.found.stands ≡ it ∷ others → place.spot.index < length here.found.stands.group
index_within start pages row cells bound place here it others is = by_here here.here (cases_lt place.spot.index (length here.found.stands.group))
  where
    by_here : (place.spot.index < length here.found.stands.group) ⊎ (here.found.stands.more ≡ []) → (place.spot.index < length here.found.stands.group) ⊎ (length here.found.stands.group ≤ place.spot.index)
        → place.spot.index < length here.found.stands.group
    by_here (inl less) cases = less
    by_here (inr none) (inl less) = less
    by_here (inr none) (inr all) =
        let nothing_there : rest_of here.found.stands ≡ [] = ap (λ (xs : List Stored). xs ++ flat here.found.stands.more) (drop_all place.spot.index here.found.stands.group all) ∙ ap flat none in
        let long = ap length (sym is ∙ nothing_there) in
        absurd (omega arith)

-- and it is that entry
pub entry_here : (start : ℕ) (pages : List (List ℕ)) (row : List ℕ) (cells : List Stored) (bound : Bound) (place : Place) (here : IsHere start pages row cells bound place) (it : Stored) (others : List Stored)
    → rest_of here.found.stands ≡ it ∷ others → at here.found.stands.group place.spot.index ≡ it
entry_here start pages row cells bound place here it others is =
    ap (λ (xs : List Stored). get_or xs 0 nothing) (sym (rest_here start pages row cells bound place here.found (index_within start pages row cells bound place here it others is)) ∙ is)

-- whose cell lies there
pub cell_here : (start : ℕ) (pages : List (List ℕ)) (row : List ℕ) (cells : List Stored) (bound : Bound) (place : Place) (here : IsHere start pages row cells bound place) (it : Stored) (others : List Stored)
    → rest_of here.found.stands ≡ it ∷ others → IsCellAt (bytes_of place.it.page) place.spot.at it.key (length it.value) (kept it)
cell_here start pages row cells bound place here it others is =
    subst (λ (x : Stored). IsCellAt (bytes_of place.it.page) place.spot.at x.key (length x.value) (kept x)) (entry_here start pages row cells bound place here it others is)
    (cell_there start pages row cells bound place here.found (index_within start pages row cells bound place here it others is))

-- the entry of the key that was looked for, where the key is there
pub record There (rest : List Stored) (key : List ℕ) (len : ℕ) : Type 0 where
  pub it : Stored
  pub others : List Stored
  pub is : rest ≡ it ∷ others
  pub same : it.key ≡ key
  pub long : len ≡ length it.value

there_by : (rest : List Stored) (key : List ℕ) (len : ℕ) (standing : Standing) → IsKeyed rest key standing → Some len ≡ standing_len standing → There rest key len
there_by [] key len (AtCell seen) keyed is = absurd keyed
there_by rest key len Nothing keyed is = absurd (cc)
there_by (it ∷ others) key len (AtCell seen) keyed is = record { it = it; others = others; is = refl; same = keyed.1; long = same_number len seen.len is ∙ keyed.0.long }
  where
    same_number : (m n : ℕ) → ◌≡◌ {A = Option ℕ} (Some m) (Some n) → m ≡ n
    same_number m n is = cc

module _ (pages : List (List ℕ)) (header : Header) (m : Map) (held : HoldsMap pages header m) (look : Look) (looks : LooksAt pages header held.buckets look) where
  pub looked_there : (len : ℕ) → look.len ≡ Some len → There (rest_of looks.here.found.stands) look.key.now len
  looked_there len is = there_by (rest_of looks.here.found.stands) look.key.now len looks.standing looks.keyed (sym is ∙ looks.long)

  looked_len : look.len ≡ option_map length (get m look.key.now)
  looked_len = looks.long ∙ standing_long pages header m held look.key looks.bucket looks.for look.place looks.here looks.standing looks.keyed

  pub looked_none : ((len : ℕ) → look.len ≡ Some len → ⊥) → get m look.key.now ≡ None
  looked_none unlike = by_old (get m look.key.now) refl
    where
      by_old : (old : Option (List ℕ)) → get m look.key.now ≡ old → get m look.key.now ≡ None
      by_old None is = is
      by_old (Some value) is = absurd (unlike (length value) (looked_len ∙ ap (option_map length) is))

  -- the value of the key is that of the cell that was found
  pub looked_value : (seen : Cell) → IsKeyed (rest_of looks.here.found.stands) look.key.now (AtCell seen) → (it : Stored) × (get m look.key.now ≡ Some it.value) × IsEntry pages it seen.len (kept_bytes seen.value)
  looked_value seen keyed =
      let within = in_bucket pages header m look.key.now held looks.bucket looks.for in
      let entry = key_entry (hash_start header) pages looks.bucket.row looks.bucket.cells look.key look.place looks.here.found.stands seen within.chained keyed in
      (entry.it, sym within.found ∙ entry.found, entry.is)
