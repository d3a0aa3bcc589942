-- The pages after a change hold the changed map.
use Rattle.std.proofs.Common.{◌≡◌, ℕ, zero, suc, ◌+◌, ◌≤◌, List, [], ◌∷◌, ◌++◌, length, map, get_or, Some, sym, ap, subst, ◌∙◌, arith, append-nil}
use Rattle.std.specs.Prelude.{slice_get}
use Rattle.std.specs.List.{flat_map, range_with_len}
use Rattle.std.specs.FinMap.{from_entries}
use Rattle.std.proofs.lemmas.Option.{none-some, same_Some}
use Rattle.uq_page.specs.declared.header.Header.{Header}
use Rattle.uq_page.specs.Numbers.{times}
use Rattle.uq_page.specs.NumberLaws.{times-append, times-cons}
use Rattle.uq_page.specs.Row.{IsRow}
use Rattle.uq_chain.specs.FreeList.{IsFreeList}
use Rattle.uq_hash.specs.declared.seeking.Bound.{Bound}
use Rattle.uq_hash.specs.declared.searching.Place.{Place}
use Rattle.uq_hash.specs.Cells.{bucket_page, filled}
use Rattle.uq_hash.specs.Fnv.{fnv1a}
use Rattle.uq_hash.specs.Found.{IsNear}
use Rattle.uq_hash.specs.Map.{Bucket, Chained, HasSums, HoldsMap, IsBucket, Map, Stored, cell, entry, first_of, pages_of, value_pages}
use Rattle.uq_hash.specs.Standing.{front_of, rest_of}
use Rattle.uq_hash.specs.WalkOrder.{hash_start}
use Rattle.uq_hash.proofs.AfterLemmas.{Turn, chained_after, stay_of, tail_of, value_pages-append}
use Rattle.uq_hash.proofs.ChangeLemmas.{Changes, used_after}
use Rattle.uq_hash.proofs.FillLemmas.{filled_some}
use Rattle.uq_hash.proofs.HeldLemmas.{one_bucket}
use Rattle.uq_hash.proofs.SplitLemmas.{split_at}

-- the pages of the one bucket
pub bucket_pages : (n : ℕ) (index free : List ℕ) (bucket : Bucket) → times n (0 ∷ (index ++ (free ++ flat_map pages_of (bucket ∷ [])))) ≡ times n (0 ∷ index) + times n free + times n bucket.row + times n (value_pages bucket.cells)
bucket_pages n index free bucket =
    let a = times-cons n 0 (index ++ (free ++ flat_map pages_of (bucket ∷ []))) in
    let b = times-append n index (free ++ flat_map pages_of (bucket ∷ [])) in
    let c = times-append n free (flat_map pages_of (bucket ∷ [])) in
    let d = times-append n (pages_of bucket) [] in
    let e = times-append n bucket.row (value_pages bucket.cells) in
    let f = times-cons n 0 index in
    omega arith

-- the pages of a bucket by what a change does to them
pub used_parts : (start : ℕ) (before : List (List ℕ)) (index free : List ℕ) (bucket : Bucket) (bound : Bound) (place : Place) (near : IsNear start before bucket.row bucket.cells bound place) (olds others : List Stored)
    → rest_of near.found.stands ≡ olds ++ others → ((n : ℕ) → times n (0 ∷ (index ++ (free ++ flat_map pages_of (bucket ∷ [])))) ≡ times n (range_with_len 0 (length before)))
    → (n : ℕ) → times n (0 ∷ index) + times n free + times n near.found.stands.passed + times n (place.no ∷ near.found.stands.behind)
    + times n (stay_of start before bucket.row bucket.cells bound place near others) + times n (value_pages olds) ≡ times n (range_with_len 0 (length before))
used_parts start before index free bucket bound place near olds others rest_is used n =
    let stands = near.found.stands in
    let front = front_of stands in
    let split = split_at start before bucket.row bucket.cells bound place.no place.spot stands in
    let all = used n in
    let parts = bucket_pages n index free bucket in
    let row = ap (times n) stands.row_is in
    let row_sum = times-append n stands.passed (place.no ∷ stands.behind) in
    let cells : times n (value_pages bucket.cells) ≡ times n (value_pages (front ++ (olds ++ others))) = ap (λ (xs : List Stored). times n (value_pages xs)) (split.is ∙ ap (λ (xs : List Stored). front ++ xs) rest_is) in
    let v1 = ap (times n) (value_pages-append front (olds ++ others)) in
    let v2 = times-append n (value_pages front) (value_pages (olds ++ others)) in
    let v3 = ap (times n) (value_pages-append olds others) in
    let v4 = times-append n (value_pages olds) (value_pages others) in
    let w1 = ap (times n) (value_pages-append front others) in
    let w2 = times-append n (value_pages front) (value_pages others) in
    omega arith

-- a bucket's first page stays
pub first_kept : (pages : List (List ℕ)) (row passed behind made : List ℕ) (n : ℕ) (cells : List (List ℕ)) → row ≡ passed ++ n ∷ behind → IsRow bucket_page pages n made (filled [] cells) → first_of (passed ++ made) ≡ first_of row
first_kept pages row [] behind made n cells row_is laid = first_laid made (filled [] cells) (filled_some [] cells) laid ∙ ap first_of (sym row_is)
  where
    first_laid : (made : List ℕ) (groups : List (List (List ℕ))) → 1 ≤ length groups → IsRow bucket_page pages n made groups → first_of made ≡ n
    first_laid [] [] some is = absurd (omega arith)
    first_laid [] (g ∷ gs) some is = absurd is
    first_laid (k ∷ made) [] some is = absurd is
    first_laid (k ∷ made) (g ∷ gs) some is = sym is.is
first_kept pages row (k ∷ passed) behind made n cells row_is laid = ap first_of (sym row_is)

-- of the header the sums, the free list and the number of pages are others
pub record Moved (header new : Header) (pages : List (List ℕ)) (free : ℕ) : Type 0 where
  pub version : new.version ≡ header.version
  pub count : new.pages ≡ length pages
  pub buckets : new.buckets ≡ header.buckets
  pub root : new.root ≡ header.root
  pub free_is : new.free ≡ free

pub held_after : (before b1 b2 b3 : List (List ℕ)) (f1 f2 f3 : ℕ) (header new : Header) (m now : Map) (held : HoldsMap before header m) (bucket : Bucket) (made : List ℕ) (bound : Bound) (place : Place)
    (near : IsNear (hash_start header) before bucket.row bucket.cells bound place) (olds news others : List Stored) → held.buckets ≡ bucket ∷ [] → header.root ≡ first_of bucket.row → Chained (hash_start header) before bucket.row bucket.cells
    → (turn : Turn (hash_start header) before b1 bucket.row bucket.cells bound place near olds news others)
    → (so : Changes before b1 b2 b3 f1 f2 f3 held.free (0 ∷ held.index) near.found.stands.passed (place.no ∷ near.found.stands.behind) (stay_of (hash_start header) before bucket.row bucket.cells bound place near others) (value_pages olds) (value_pages news) made)
    → IsRow bucket_page b2 place.no made (filled [] (map cell (tail_of (hash_start header) before bucket.row bucket.cells bound place near (news ++ others)))) → Moved header new b3 f3 → HasSums new now
    → now ≡ from_entries (map entry (front_of near.found.stands ++ (news ++ others))) → HoldsMap b3 new now
held_after before b1 b2 b3 f1 f2 f3 header new m now held bucket made bound place near olds news others buckets_are root_is chained turn so laid moved sums same =
    let stands = near.found.stands in
    let front = front_of stands in
    let first_is = first_kept b2 bucket.row stands.passed stands.behind made place.no (map cell (tail_of (hash_start header) before bucket.row bucket.cells bound place near (news ++ others))) stands.row_is laid in
    let after : Bucket = record { row = stands.passed ++ made; cells = front ++ (news ++ others) } in
    let whole = chained_after (hash_start header) before b1 b2 b3 f1 f2 f3 held.free (0 ∷ held.index) made bucket.row bucket.cells bound place near olds news others turn so chained laid first_is in
    let count = ap length buckets_are in
    let number = held.counts.number in
    let new_number = moved.buckets in
    record {
      free = so.third.left;
      index = held.index;
      buckets = after ∷ [];
      form = record {
        version = moved.version ∙ held.form.version;
        listed = subst (λ (head : ℕ). IsFreeList b3 head so.third.left) (sym moved.free_is) so.third.free;
        directory = record { none = held.form.directory.none; one = ap (λ n. n ∷ []) (first_is ∙ sym root_is ∙ sym moved.root) };
      };
      counts = record { count = moved.count; number = omega arith };
      sums = sums;
      each = each_one after whole;
      used = λ n.
          let parts = bucket_pages n held.index so.third.left after in
          let all = used_after before b1 b2 b3 f1 f2 f3 held.free (0 ∷ held.index) stands.passed (place.no ∷ stands.behind) (stay_of (hash_start header) before bucket.row bucket.cells bound place near others) (value_pages olds) (value_pages news) made so n in
          let row = times-append n stands.passed made in
          let v1 = ap (times n) (value_pages-append front (news ++ others)) in
          let v2 = times-append n (value_pages front) (value_pages (news ++ others)) in
          let v3 = ap (times n) (value_pages-append news others) in
          let v4 = times-append n (value_pages news) (value_pages others) in
          let w1 = ap (times n) (value_pages-append front others) in
          let w2 = times-append n (value_pages front) (value_pages others) in
          omega arith;
      same = same ∙ ap (λ xs. from_entries xs) (sym (append-nil (map entry (front ++ (news ++ others)))));
    }
  where
    each_one : (after : Bucket) → Chained (hash_start header) b3 after.row after.cells → (i : ℕ) (other : Bucket) → slice_get (after ∷ []) i ≡ Some other → IsBucket (hash_start new) b3 1 i other
    each_one after whole zero other there = subst (λ (b : Bucket). IsBucket (hash_start new) b3 1 0 b) (same_Some after other there) (record { chained = whole; placed = λ k d below. one_bucket (fnv1a (hash_start new) (get_or after.cells k d).key) })
    each_one after whole (suc i) other there = absurd (none-some other there)
