-- What pages that hold a map say of its buckets.
use Rattle.std.proofs.Common.{◌≡◌, ℕ, zero, suc, ◌%◌, cond, List, [], ◌∷◌, length, map, Some, refl, sym, ap, subst, ◌∙◌, arith, lit≤, lit<, append-nil}
use Rattle.std.specs.Prelude.{nat_le, slice_get}
use Rattle.std.specs.List.{flat_map}
use Rattle.std.specs.Ordering.{nat_cmp}
use Rattle.std.specs.Cmp.Lexicographic.{slice_cmp, nat_list_cmp_total}
use Rattle.std.specs.FinMap.{get, from_entries, get-from_entries}
use Rattle.std.specs.FinMap.Entries.{find}
use Rattle.std.proofs.lemmas.Bool.{le-leb}
use Rattle.std.proofs.lemmas.Option.{same_Some, none-some}
use Rattle.uq_page.specs.declared.header.Header.{Header}
use Rattle.uq_hash.specs.Begins.{BeginsAll, BeginsAt}
use Rattle.uq_hash.specs.Fnv.{fnv1a}
use Rattle.uq_hash.specs.Map.{Map, Bucket, HoldsMap, IsBucketFor, IsBucketOf, Chained, entries_of, entry, first_of}
use Rattle.uq_hash.specs.WalkOrder.{hash_start, walk_cmp}
use Rattle.uq_hash.proofs.WalkLemmas.{find_walk}

-- all hashes have the one bucket
pub one_bucket : (hash : ℕ) → IsBucketOf 1 hash 0
one_bucket hash = record { level = 0; low = lit≤ tt; high = lit< tt; is = number hash }
  where
    number : (hash : ℕ) → 0 ≡ cond (nat_le 0 (hash % 1)) (hash % 1) (hash % 2)
    number hash =
        let first : hash % 1 ≡ 0 = omega arith in
        sym (ap (λ b. cond b (hash % 1) (hash % 2)) (le-leb 0 (hash % 1) (omega arith)) ∙ first)

-- there is one bucket
pub record IsOne (header : Header) (buckets : List Bucket) : Type 0 where
  pub bucket : Bucket
  pub is : buckets ≡ bucket ∷ []
  pub first : header.root ≡ first_of bucket.row

pub is_one : (header : Header) (buckets : List Bucket) → map (λ (bucket : Bucket). first_of bucket.row) buckets ≡ header.root ∷ [] → IsOne header buckets
is_one header [] firsts = let other = ap length firsts in absurd (omega arith)
is_one header (b ∷ []) firsts = record { bucket = b; is = refl; first = sym (ap first_of firsts) }
is_one header (b ∷ d ∷ more) firsts = let long = ap length firsts in absurd (omega arith)

pub one_begins : (pages : List (List ℕ)) (header : Header) (m : Map) (key : List ℕ) (held : HoldsMap pages header m) → BeginsAt (hash_start header) held.buckets key header.root
one_begins pages header m key held =
    let one = is_one header held.buckets held.form.directory.one in
    record {
      bucket = one.bucket;
      is = record {
        number = 0;
        there = ap (λ bs. slice_get bs 0) one.is;
        is = subst (λ (bs : List Bucket). IsBucketOf (length bs) (fnv1a (hash_start header) key) 0) (sym one.is) (one_bucket (fnv1a (hash_start header) key));
      };
      first_is = one.first;
    }

pub only : (i : ℕ) (b c : Bucket) → slice_get (b ∷ []) i ≡ Some c → c ≡ b
only zero b c is = sym (same_Some b c is)
only (suc i) b c is = absurd (none-some c is)

-- the bucket of a key has its cells, and the key is found there as in the map
pub record InBucket (start : ℕ) (pages : List (List ℕ)) (m : Map) (key : List ℕ) (bucket : Bucket) : Type 0 where
  pub chained : Chained start pages bucket.row bucket.cells
  pub found : find (walk_cmp start) key (map entry bucket.cells) ≡ get m key

pub in_bucket : (pages : List (List ℕ)) (header : Header) (m : Map) (key : List ℕ) (held : HoldsMap pages header m) (bucket : Bucket) → IsBucketFor (hash_start header) held.buckets key bucket
    → InBucket (hash_start header) pages m key bucket
in_bucket pages header m key held bucket for =
    let one = is_one header held.buckets held.form.directory.one in
    let here : bucket ≡ one.bucket = only for.number one.bucket bucket (sym (ap (λ bs. slice_get bs for.number) one.is) ∙ for.there) in
    let is = held.each for.number bucket for.there in
    record {
      chained = is.chained;
      found = ap (λ (b : Bucket). find (walk_cmp (hash_start header)) key (map entry b.cells)) here ∙ find_walk (hash_start header) key (map entry one.bucket.cells)
          ∙ sym (get-from_entries nat_list_cmp_total (map entry one.bucket.cells) key)
          ∙ ap (λ xs. get (from_entries {R = slice_cmp nat_cmp} xs) key) (sym (append-nil (map entry one.bucket.cells)))
          ∙ ap (λ (bs : List Bucket). get (from_entries {R = slice_cmp nat_cmp} (flat_map entries_of bs)) key) (sym one.is) ∙ ap (λ (n : Map). get n key) (sym held.same);
    }

-- a key has one bucket
pub same_bucket : (pages : List (List ℕ)) (header : Header) (m : Map) (key : List ℕ) (held : HoldsMap pages header m) (a b : Bucket)
    → IsBucketFor (hash_start header) held.buckets key a → IsBucketFor (hash_start header) held.buckets key b → a ≡ b
same_bucket pages header m key held a b for for' =
    let one = is_one header held.buckets held.form.directory.one in
    only for.number one.bucket a (sym (ap (λ bs. slice_get bs for.number) one.is) ∙ for.there) ∙ sym (only for'.number one.bucket b (sym (ap (λ bs. slice_get bs for'.number) one.is) ∙ for'.there))

pub one_begins_all : (pages : List (List ℕ)) (header : Header) (m : Map) (held : HoldsMap pages header m) → BeginsAll (hash_start header) held.buckets header.root
unfolding is_one one_begins
one_begins_all pages header m held =
    let one = is_one header held.buckets held.form.directory.one in
    record { bucket = one.bucket; is = λ key. (one_begins pages header m key held).is; first_is = one.first }

pub only_chained : (pages : List (List ℕ)) (header : Header) (m : Map) (held : HoldsMap pages header m) (first : ℕ) (only : BeginsAll (hash_start header) held.buckets first) → Chained (hash_start header) pages only.bucket.row only.bucket.cells
only_chained pages header m held first only = (in_bucket pages header m [] held only.bucket (only.is [])).chained

pub all_gets : (pages : List (List ℕ)) (header : Header) (m : Map) (held : HoldsMap pages header m) (first : ℕ) (only : BeginsAll (hash_start header) held.buckets first) (key : List ℕ)
    → find (walk_cmp (hash_start header)) key (map entry only.bucket.cells) ≡ get m key
all_gets pages header m held first only key = (in_bucket pages header m key held only.bucket (only.is key)).found

-- a key's bucket is the one bucket
pub only_bucket : (pages : List (List ℕ)) (header : Header) (m : Map) (held : HoldsMap pages header m) (bucket : Bucket) (key : List ℕ) → IsBucketFor (hash_start header) held.buckets key bucket
    → (held.buckets ≡ bucket ∷ []) × (header.root ≡ first_of bucket.row)
only_bucket pages header m held bucket key for =
    let one = is_one header held.buckets held.form.directory.one in
    let here : bucket ≡ one.bucket = only for.number one.bucket bucket (sym (ap (λ bs. slice_get bs for.number) one.is) ∙ for.there) in
    (one.is ∙ ap (λ (b : Bucket). b ∷ []) (sym here), one.first ∙ ap (λ (b : Bucket). first_of b.row) (sym here))

-- and that of every key
pub for_all : (pages : List (List ℕ)) (header : Header) (m : Map) (held : HoldsMap pages header m) (bucket : Bucket) (key : List ℕ) → IsBucketFor (hash_start header) held.buckets key bucket
    → (other : List ℕ) → IsBucketFor (hash_start header) held.buckets other bucket
for_all pages header m held bucket key for other =
    let begins = one_begins pages header m other held in
    let one = is_one header held.buckets held.form.directory.one in
    let here : begins.bucket ≡ bucket = same_first begins.bucket bucket begins.is.number for.number one.bucket one.is begins.is.there for.there in
    subst (λ (b : Bucket). IsBucketFor (hash_start header) held.buckets other b) here begins.is
  where
    same_first : (a b : Bucket) (i j : ℕ) (first : Bucket) → held.buckets ≡ first ∷ [] → slice_get held.buckets i ≡ Some a → slice_get held.buckets j ≡ Some b → a ≡ b
    same_first a b i j first is there there' = only i first a (sym (ap (λ bs. slice_get bs i) is) ∙ there) ∙ sym (only j first b (sym (ap (λ bs. slice_get bs j) is) ∙ there'))
