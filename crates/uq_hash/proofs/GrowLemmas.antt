-- A value in a chain made longer, and its cell written anew, in the pages.
use Rattle.std.proofs.Common.{◌≡◌, ℕ, zero, suc, ◌+◌, ◌-◌, ◌<◌, ◌≤◌, ◌^◌, Bool, true, false, cond, Bor, List, [], ◌∷◌, ◌++◌, length, map, take, drop, get_or, Some, refl, sym, ap, subst, ◌∙◌, arith, append_assoc, append-nil, length-append}
use Rattle.std.specs.Prelude.{All, nat_le, slice_get, slice_set}
use Rattle.std.specs.List.{concat, flat_map, range_with_len}
use Rattle.std.specs.FinMap.{from_entries, get, insert, is_sorted}
use Rattle.std.specs.Int.{w32, to_be_bytes}
use Rattle.std.proofs.lemmas.List.{drop_at, drop_more, length-map, length-set, map-append, take-append-drop, take_at}
use Rattle.std.proofs.lemmas.List.Elements.{All-append, All-cons, All-head, All-tail}
use Rattle.std.proofs.lemmas.Option.{none-some, same_Some, slice_get_within}
use Rattle.uq_facts.specs.Written.{written}
use Rattle.uq_page.specs.declared.header.Header.{Header}
use Rattle.uq_page.specs.declared.layout.TheConstants.{CELLS_AT, CELLS_ROOM, MOST_INLINE}
use Rattle.uq_page.specs.Bucket.{bucket_fields}
use Rattle.uq_page.specs.Cell.{cell_bytes, kept_bytes, kept_len}
use Rattle.uq_page.specs.declared.cell.Cell.{Cell}
use Rattle.uq_page.specs.declared.cell.CellValue.{CellValue}
use Rattle.uq_page.specs.declared.cell.CellValue.TheVariants.{Chain}
use Rattle.uq_page.specs.Numbers.{times}
use Rattle.uq_page.specs.NumberLaws.{times-append, times-cons, times_self}
use Rattle.uq_page.specs.Page.{bytes_of, zeros}
use Rattle.uq_page.specs.Row.{IsRow}
use Rattle.uq_page.specs.RowLaws.{get_set_other, get_set_same, keeps_row}
use Rattle.uq_chain.specs.Chain.{IsAppended, IsChain, pages_for}
use Rattle.uq_chain.specs.ChainLaws.{keeps_chain}
use Rattle.uq_chain.specs.FreeList.{IsFreeList, Turned, free_at}
use Rattle.uq_chain.specs.Grown.{grown}
use Rattle.uq_chain.specs.GrownLaws.{grown_all}
use Rattle.uq_hash.specs.declared.looking.Look.{Look}
use Rattle.uq_hash.specs.declared.searching.Place.{Place}
use Rattle.uq_hash.specs.declared.searching.Standing.TheVariants.{Cell as AtCell}
use Rattle.uq_hash.specs.declared.seeking.Bound.TheVariants.{Before}
use Rattle.uq_hash.specs.Cells.{bucket_page, filled}
use Rattle.uq_hash.specs.Fnv.{fnv1a}
use Rattle.uq_hash.specs.Found.{IsHere}
use Rattle.uq_hash.specs.Map.{Bucket, Chained, HasSums, HasValue, HoldsMap, IsBucket, IsBucketFor, IsStored, Map, Stored, cell, entry, first_of, kept, pages_of, value_pages}
use Rattle.uq_hash.specs.Looked.{IsEntry}
use Rattle.uq_hash.specs.Looks.{LooksAt}
use Rattle.uq_hash.specs.Lying.{sizes_of}
use Rattle.uq_hash.specs.Place.{at, entries_page, flat, nothing}
use Rattle.uq_hash.specs.Standing.{IsKeyed, rest_of}
use Rattle.uq_hash.specs.WalkOrder.{hash_start, walk_cmp}
use Rattle.uq_hash.proofs.AfterLemmas.{flat_cells, value_pages-append, values_stay}
use Rattle.uq_hash.proofs.CellLemmas.{concat-append, length-cell, length-concat-append}
use Rattle.uq_hash.proofs.ChangeLemmas.{range_once, within_before}
use Rattle.uq_hash.proofs.FillLemmas.{filled_flat}
use Rattle.uq_hash.proofs.FillLemmas as fill
use Rattle.uq_hash.proofs.HeldLemmas.{for_all, in_bucket, one_bucket, only_bucket}
use Rattle.uq_hash.proofs.HoldLemmas.{Moved, bucket_pages}
use Rattle.uq_hash.proofs.FindLemmas.{key_entry}
use Rattle.uq_hash.proofs.InsertLemmas.{fresh, pages_few}
use Rattle.uq_hash.proofs.LookLemmas.{entry_here, index_within}
use Rattle.uq_hash.proofs.LyingLemmas.{sizes_of-append}
use Rattle.uq_hash.proofs.OpenLemmas.{all_left, all_right, flat-append, row_cells}
use Rattle.uq_hash.proofs.PutLemmas.{insert_is, order_after, puts_old}
use Rattle.uq_hash.proofs.RoomLemmas.{room}
use Rattle.uq_hash.proofs.SplitLemmas.{split_at}
use Rattle.uq_hash.proofs.StandingLemmas.{rest_here}
use Rattle.uq_hash.proofs.StoreLemmas.{chain_first}
use Rattle.uq_hash.proofs.ValueLemmas.{kept_long, long_value}

-- ---- a page of a bucket with another cell of the same size

written_mid : (front mid back new : List ℕ) (at : ℕ) → at ≡ length front → length mid ≡ length new → written at new (front ++ (mid ++ back)) ≡ front ++ (new ++ back)
written_mid front mid back new at is long =
    let both = length-append front mid in
    let tail : drop (at + length new) (front ++ (mid ++ back)) ≡ back = ap (drop (at + length new)) (sym (append_assoc front mid back)) ∙ drop_at (front ++ mid) back (at + length new) (omega arith) in
    ap (λ xs. xs ++ new ++ drop (at + length new) (front ++ (mid ++ back))) (take_at front (mid ++ back) at (sym is)) ∙ ap (λ xs. front ++ new ++ xs) tail ∙ append_assoc front new back

-- the head of the page with these cells
head_bytes : ℕ → ℕ → ℕ → List ℕ
head_bytes count size next = bucket_fields (record { cells = count; next = next; end = CELLS_AT + size })

length-head : (count size next : ℕ) → length (head_bytes count size next) ≡ CELLS_AT
unfolding head_bytes
length-head count size next = refl

page_parts : (before behind : List (List ℕ)) (x : List ℕ) (next count size : ℕ) → count ≡ length (before ++ x ∷ behind) → size ≡ length (concat (before ++ x ∷ behind))
    → bucket_page (before ++ x ∷ behind) next ≡ (head_bytes count size next ++ concat before) ++ (x ++ (concat behind ++ zeros (CELLS_ROOM - size)))
unfolding bucket_page head_bytes
page_parts before behind x next count size count_is size_is =
    let head = head_bytes count size next in
    let rest = zeros (CELLS_ROOM - size) in
    let cells : concat (before ++ x ∷ behind) ≡ concat before ++ (x ++ concat behind) = concat-append before (x ∷ behind) in
    let same : bucket_page (before ++ x ∷ behind) next ≡ head ++ (concat (before ++ x ∷ behind) ++ rest) =
    λ i. bucket_fields (record { cells = sym count_is i; next = next; end = CELLS_AT + sym size_is i }) ++ (concat (before ++ x ∷ behind) ++ zeros (CELLS_ROOM - sym size_is i)) in
    same ∙ ap (λ xs. head ++ (xs ++ rest)) cells ∙ ap (λ xs. head ++ xs) (append_assoc (concat before) (x ++ concat behind) rest ∙ ap (λ xs. concat before ++ xs) (append_assoc x (concat behind) rest))
    ∙ sym (append_assoc head (concat before) (x ++ (concat behind ++ rest)))

pub other_cell : (before behind : List (List ℕ)) (old new : List ℕ) (next at : ℕ) → length old ≡ length new → at ≡ CELLS_AT + length (concat before)
    → written at new (bucket_page (before ++ old ∷ behind) next) ≡ bucket_page (before ++ new ∷ behind) next
other_cell before behind old new next at long at_is =
    let count = length (before ++ new ∷ behind) in
    let size = length (concat (before ++ new ∷ behind)) in
    let c0 = length-append before (old ∷ behind) in
    let c1 = length-append before (new ∷ behind) in
    let s0 = length-concat-append before (old ∷ behind) in
    let s1 = length-concat-append before (new ∷ behind) in
    let o = length-append old (concat behind) in
    let n = length-append new (concat behind) in
    let head = length-head count size next in
    let front = length-append (head_bytes count size next) (concat before) in
    ap (written at new) (page_parts before behind old next count size (omega arith) (omega arith))
    ∙ written_mid (head_bytes count size next ++ concat before) old (concat behind ++ zeros (CELLS_ROOM - size)) new at (omega arith) long
    ∙ sym (page_parts before behind new next count size refl refl)

-- ---- a row with another item at one page

pub row_with : {A : Type 0} (page_of : A → ℕ → List ℕ) (before after : List (List ℕ)) (head n : ℕ) (passed behind : List ℕ) (firsts : List A) (item new : A) (items : List A) → length passed ≡ length firsts
    → ((k : ℕ) → 1 ≤ times k (passed ++ behind) → slice_get after k ≡ slice_get before k) → ((next : ℕ) → slice_get before n ≡ Some (page_of item next) → slice_get after n ≡ Some (page_of new next))
    → IsRow page_of before head (passed ++ n ∷ behind) (firsts ++ item ∷ items) → IsRow page_of after head (passed ++ n ∷ behind) (firsts ++ new ∷ items)
row_with page_of before after head n [] behind [] item new items long same change is = record {
  is = is.is;
  some = is.some;
  next = is.next;
  fits = is.fits;
  page = change is.next is.page;
  rest = keeps_row page_of before after is.next behind items same is.rest;
}
row_with page_of before after head n [] behind (f ∷ firsts) item new items long same change is = absurd (omega arith)
row_with page_of before after head n (k ∷ passed) behind [] item new items long same change is = absurd (omega arith)
row_with page_of before after head n (k ∷ passed) behind (f ∷ firsts) item new items long same change is = record {
  is = is.is;
  some = is.some;
  next = is.next;
  fits = is.fits;
  page = same k (let split = times-cons k k (passed ++ behind) in let self = times_self k in omega arith) ∙ is.page;
  rest = row_with page_of before after is.next n passed behind firsts item new items (omega arith) (λ j some. same j (let split = times-cons j k (passed ++ behind) in omega arith)) change is.rest;
}

-- ---- which pages stay

-- The pages `fixed` are not touched. A bucket has the pages `row`, and its values the pages `stay` and `old`. The pages `old` become
-- `made`, with pages that were free or are new. Then one page of the row is written anew.
pub record Grows (before b1 : List (List ℕ)) (f1 : ℕ) (free fixed row stay old made : List ℕ) : Type 0 where
  pub turned : Turned before b1 f1 free old made
  pub used : (n : ℕ) → times n fixed + times n free + times n row + times n stay + times n old ≡ times n (range_with_len 0 (length before))

-- how often a page number stands in each list
record Count (before b1 : List (List ℕ)) (f1 : ℕ) (free fixed row stay old made : List ℕ) (so : Grows before b1 f1 free fixed row stay old made) (n : ℕ) : Type 0 where
  pub all : times n fixed + times n so.turned.left + times n row + times n stay + times n made ≡ times n (range_with_len 0 (length b1))
  pub once : times n (range_with_len 0 (length b1)) ≤ 1
  pub first : times n (range_with_len 0 (length before)) ≤ 1
  pub gone : times n (free ++ old) ≡ times n free + times n old

count : (before b1 : List (List ℕ)) (f1 : ℕ) (free fixed row stay old made : List ℕ) (so : Grows before b1 f1 free fixed row stay old made) (n : ℕ) → Count before b1 f1 free fixed row stay old made so n
count before b1 f1 free fixed row stay old made so n =
    let used = so.used n in
    let up = grown_all n (length before) (length b1) so.turned.longer in
    let o = so.turned.once n in
    let a = times-append n so.turned.left made in
    let b = times-append n (free ++ old) (grown (length before) (length b1)) in
    let c = times-append n free old in
    record { all = omega arith; once = range_once n (length b1); first = range_once n (length before); gone = c }

-- the pages of the bucket and those of other values stay while the chain is made longer
pub first_stays : (before b1 : List (List ℕ)) (f1 : ℕ) (free fixed row stay old made : List ℕ) (so : Grows before b1 f1 free fixed row stay old made) (n : ℕ) → 1 ≤ times n row + times n stay → slice_get b1 n ≡ slice_get before n
first_stays before b1 f1 free fixed row stay old made so n some =
    let c = count before b1 f1 free fixed row stay old made so n in
    let first = c.first in
    let gone = c.gone in
    let used = so.used n in
    so.turned.others n (within_before n (length before) (omega arith)) (omega arith)

-- no other page than those of the row is the one that is written anew
pub apart_row : (before b1 : List (List ℕ)) (f1 : ℕ) (free fixed row stay old made : List ℕ) (so : Grows before b1 f1 free fixed row stay old made) (written_at n : ℕ) → 1 ≤ times written_at row
    → 1 ≤ times n so.turned.left + times n stay + times n made → n ≡ written_at → ⊥
apart_row before b1 f1 free fixed row stay old made so written_at n there some same =
    let c = count before b1 f1 free fixed row stay old made so n in
    let all = c.all in
    let once = c.once in
    let here : times n row ≡ times written_at row = ap (λ k. times k row) same in
    omega arith

-- each page is used once
pub all_used : (before b1 : List (List ℕ)) (f1 : ℕ) (free fixed row stay old made : List ℕ) (so : Grows before b1 f1 free fixed row stay old made) (n : ℕ)
    → times n fixed + times n so.turned.left + times n row + times n stay + times n made ≡ times n (range_with_len 0 (length b1))
all_used before b1 f1 free fixed row stay old made so n = (count before b1 f1 free fixed row stay old made so n).all

pub row_once_here : (before b1 : List (List ℕ)) (f1 : ℕ) (free fixed row stay old made : List ℕ) (so : Grows before b1 f1 free fixed row stay old made) (n : ℕ) → times n row ≤ 1
row_once_here before b1 f1 free fixed row stay old made so n =
    let c = count before b1 f1 free fixed row stay old made so n in
    let all = c.all in
    let once = c.once in
    omega arith

-- ---- cells of the same sizes fill the pages alike

filled_counts : (page page' cells cells' : List (List ℕ)) → length page ≡ length page' → length (concat page) ≡ length (concat page') → map length cells ≡ map length cells'
    → map length (filled page cells) ≡ map length (filled page' cells')
filled_counts page page' [] [] count size same = ap (λ (n : ℕ). n ∷ []) count
filled_counts page page' [] (d ∷ ds) count size same = let long = ap length same in absurd (omega arith)
filled_counts page page' (c ∷ cs) [] count size same = let long = ap length same in absurd (omega arith)
filled_counts page page' (c ∷ cs) (d ∷ ds) count size same =
    let one : length c ≡ length d = ap (λ (ns : List ℕ). get_or ns 0 0) same in
    let rest : map length cs ≡ map length ds = ap (λ (ns : List ℕ). drop 1 ns) same in
    let pushed = length-append page (c ∷ []) in
    let pushed' = length-append page' (d ∷ []) in
    let more = length-concat-append page (c ∷ []) in
    let more' = length-concat-append page' (d ∷ []) in
    let c_size : length (concat (c ∷ [])) ≡ length c = ap length (append-nil c) in
    let d_size : length (concat (d ∷ [])) ≡ length d = ap length (append-nil d) in
    let test : nat_le (length (concat page) + length c) CELLS_ROOM ≡ nat_le (length (concat page') + length d) CELLS_ROOM = ap (λ n. nat_le n CELLS_ROOM) (omega arith) in
    by_test (nat_le (length (concat page) + length c) CELLS_ROOM) (filled_counts (page ++ c ∷ []) (page' ++ d ∷ []) cs ds (omega arith) (omega arith) rest) (filled_counts (c ∷ []) (d ∷ []) cs ds refl (omega arith) rest)
    ∙ ap (λ b. map length (cond b (filled (page' ++ d ∷ []) ds) (page' ∷ filled (d ∷ []) ds))) test
  where
    by_test : (b : Bool) → map length (filled (page ++ c ∷ []) cs) ≡ map length (filled (page' ++ d ∷ []) ds) → map length (filled (c ∷ []) cs) ≡ map length (filled (d ∷ []) ds)
        → map length (cond b (filled (page ++ c ∷ []) cs) (page ∷ filled (c ∷ []) cs)) ≡ map length (cond b (filled (page' ++ d ∷ []) ds) (page' ∷ filled (d ∷ []) ds))
    by_test true here there = here
    by_test false here there = ap (λ (n : ℕ). n ∷ map length (filled (c ∷ []) cs)) count ∙ ap (λ (ns : List ℕ). length page' ∷ ns) there

-- pages with as many cells each, and the same cells, are the same
same_groups : (gs hs : List (List (List ℕ))) → map length gs ≡ map length hs → fill.flat gs ≡ fill.flat hs → gs ≡ hs
same_groups [] [] counts is = refl
same_groups [] (h ∷ hs) counts is = let long = ap length counts in absurd (omega arith)
same_groups (g ∷ gs) [] counts is = let long = ap length counts in absurd (omega arith)
same_groups (g ∷ gs) (h ∷ hs) counts is =
    let long : length g ≡ length h = ap (λ (ns : List ℕ). get_or ns 0 0) counts in
    let first : g ≡ h = sym (take_at g (fill.flat gs) (length g) refl) ∙ ap (take (length g)) is ∙ take_at h (fill.flat hs) (length g) (sym long) in
    let behind : fill.flat gs ≡ fill.flat hs = sym (drop_at g (fill.flat gs) (length g) refl) ∙ ap (drop (length g)) is ∙ drop_at h (fill.flat hs) (length g) (sym long) in
    ap (λ x. x ∷ gs) first ∙ ap (λ xs. h ∷ xs) (same_groups gs hs (ap (λ (ns : List ℕ). drop 1 ns) counts) behind)

-- ---- the map after it

-- the entries of the bucket with another one at the place
abbrev with_entry : (done : List (List Stored)) (group : List Stored) (index : ℕ) (more : List (List Stored)) (it : Stored) → List (List Stored)
with_entry done group index more it = done ++ (take index group ++ it ∷ drop (index + 1) group) ∷ more

flat_with : (done : List (List Stored)) (group : List Stored) (index : ℕ) (more : List (List Stored)) (it : Stored)
    → flat (with_entry done group index more it) ≡ (flat done ++ take index group) ++ it ∷ (drop (index + 1) group ++ flat more)
flat_with done group index more it =
    flat-append done ((take index group ++ it ∷ drop (index + 1) group) ∷ more)
    ∙ ap (λ xs. flat done ++ xs) (append_assoc (take index group) (it ∷ drop (index + 1) group) (flat more))
    ∙ sym (append_assoc (flat done) (take index group) (it ∷ (drop (index + 1) group ++ flat more)))

-- the pages are filled as before, but for the one cell
pub filled_with : (cells : List Stored) (done : List (List Stored)) (group : List Stored) (index : ℕ) (more : List (List Stored)) (it : Stored) → filled [] (map cell cells) ≡ map (map cell) (done ++ group ∷ more)
    → cells ≡ (flat done ++ take index group) ++ at group index ∷ (drop (index + 1) group ++ flat more) → index < length group → length (cell it) ≡ length (cell (at group index))
    → filled [] (map cell ((flat done ++ take index group) ++ it ∷ (drop (index + 1) group ++ flat more))) ≡ map (map cell) (with_entry done group index more it)
filled_with cells done group index more it is cells_are within long =
    let front = flat done ++ take index group in
    let others = drop (index + 1) group ++ flat more in
    let news = front ++ it ∷ others in
    let sizes : map length (map cell news) ≡ map length (map cell cells) =
    sizes_of-append front (it ∷ others) ∙ ap (λ n. sizes_of front ++ n ∷ sizes_of others) long ∙ sym (sizes_of-append front (at group index ∷ others)) ∙ ap sizes_of (sym cells_are) in
    let split : group ≡ take index group ++ at group index ∷ drop (index + 1) group = sym (take-append-drop index group) ∙ ap (λ ys. take index group ++ ys) (drop_more group index nothing within) in
    let l0 = ap length split in
    let l1 = length-append (take index group) (at group index ∷ drop (index + 1) group) in
    let l2 = length-append (take index group) (it ∷ drop (index + 1) group) in
    let m0 = length-map group cell in
    let m1 = length-map (take index group ++ it ∷ drop (index + 1) group) cell in
    let one : length (map cell group) ≡ length (map cell (take index group ++ it ∷ drop (index + 1) group)) = omega arith in
    let counts : map length (map (map cell) (done ++ group ∷ more)) ≡ map length (map (map cell) (with_entry done group index more it)) =
    ap (map length) (map-append (map cell) done (group ∷ more)) ∙ map-append length (map (map cell) done) (map cell group ∷ map (map cell) more)
    ∙ ap (λ n. map length (map (map cell) done) ++ n ∷ map length (map (map cell) more)) one
    ∙ sym (ap (map length) (map-append (map cell) done ((take index group ++ it ∷ drop (index + 1) group) ∷ more)) ∙ map-append length (map (map cell) done) (map cell (take index group ++ it ∷ drop (index + 1) group) ∷ map (map cell) more)) in
    same_groups (filled [] (map cell news)) (map (map cell) (with_entry done group index more it))
    (filled_counts [] [] (map cell news) (map cell cells) refl refl sizes ∙ ap (map length) is ∙ counts)
    (filled_flat [] (map cell news) ∙ ap (map cell) (sym (flat_with done group index more it)) ∙ flat_cells (with_entry done group index more it))

pub grown_map : (b0 b1 : List (List ℕ)) (f1 : ℕ) (header new : Header) (m : Map) (held : HoldsMap b0 header m) (key : Bor (List ℕ)) (place : Place) (bucket : Bucket) (for : IsBucketFor (hash_start header) held.buckets key.now bucket)
    (here : IsHere (hash_start header) b0 bucket.row bucket.cells (Before key) place) (within : place.spot.index < length here.found.stands.group) (value : List ℕ) (first : ℕ)
    → (at here.found.stands.group place.spot.index).key ≡ key.now → length value ≤ 2 ^ 24 → MOST_INLINE < length value → MOST_INLINE < length (at here.found.stands.group place.spot.index).value
    → (step : IsAppended b0 b1 f1 held.free (at here.found.stands.group place.spot.index).row first value) → first ≡ first_of (at here.found.stands.group place.spot.index).row
    → Moved header new (slice_set b1 place.no (written place.spot.at (cell (fresh key.now value step.made)) (bytes_of place.it.page))) f1 → HasSums new (insert m key.now value)
    → HoldsMap (slice_set b1 place.no (written place.spot.at (cell (fresh key.now value step.made)) (bytes_of place.it.page))) new (insert m key.now value)
grown_map b0 b1 f1 header new m held key place bucket for here within value first same few long was step first_is moved sums =
    let start = hash_start header in
    let found = here.found in
    let stands = found.stands in
    let group = stands.group in
    let index = place.spot.index in
    let old = at group index in
    let others = drop (index + 1) group ++ flat stands.more in
    let front = flat stands.done ++ take index group in
    let it_is = fresh key.now value step.made in
    let page = written place.spot.at (cell it_is) (bytes_of place.it.page) in
    let b2 = slice_set b1 place.no page in
    let chained = (in_bucket b0 header m key.now held bucket for).chained in
    let one = only_bucket b0 header m held bucket key.now for in
    let split = split_at start b0 bucket.row bucket.cells (Before key) place.no place.spot stands in
    let cells_are : bucket.cells ≡ front ++ old ∷ others = split.is ∙ ap (λ xs. front ++ xs) (rest_here start b0 bucket.row bucket.cells (Before key) place found within) in
    let old_values : value_pages bucket.cells ≡ value_pages front ++ (old.row ++ value_pages others) = ap value_pages cells_are ∙ value_pages-append front (old ∷ others) in
    let new_values : value_pages (front ++ it_is ∷ others) ≡ value_pages front ++ (step.made ++ value_pages others) = value_pages-append front (it_is ∷ others) in
    let stay = value_pages front ++ value_pages others in
    let so : Grows b0 b1 f1 held.free (0 ∷ held.index) bucket.row stay old.row step.made =
    record {
      turned = step.turned;
      used = λ n.
          let all = ap (λ (bs : List Bucket). times n (0 ∷ (held.index ++ (held.free ++ flat_map pages_of bs)))) (sym one.0) ∙ held.used n in
          let parts = bucket_pages n held.index held.free bucket in
          let v = ap (times n) old_values in
          let v1 = times-append n (value_pages front) (old.row ++ value_pages others) in
          let v2 = times-append n old.row (value_pages others) in
          let w = times-append n (value_pages front) (value_pages others) in
          omega arith;
    } in
    let row_sum : (n : ℕ) → times n bucket.row ≡ times n stands.passed + times n (place.no ∷ stands.behind) = λ n. ap (times n) stands.row_is ∙ times-append n stands.passed (place.no ∷ stands.behind) in
    let there : 1 ≤ times place.no bucket.row = let sum = row_sum place.no in let cons = times-cons place.no place.no stands.behind in let self = times_self place.no in omega arith in
    let below : place.no < length b0 = slice_get_within b0 place.no (bytes_of place.it.page) found.there in
    let up = step.turned.longer in
    let apart : (n : ℕ) → 1 ≤ times n step.turned.left + times n stay + times n step.made → n ≡ place.no → ⊥ = λ n some. apart_row b0 b1 f1 held.free (0 ∷ held.index) bucket.row stay old.row step.made so place.no n there some in
    let stays : (n : ℕ) → 1 ≤ times n stay → slice_get b2 n ≡ slice_get b0 n =
    λ n some. get_set_other b1 place.no n page (apart n (omega arith)) ∙ first_stays b0 b1 f1 held.free (0 ∷ held.index) bucket.row stay old.row step.made so n (omega arith) in
    let row_stays : (n : ℕ) → 1 ≤ times n (stands.passed ++ stands.behind) → slice_get b2 n ≡ slice_get b0 n =
    λ n some.
    let sum = row_sum n in
    let both = times-append n stands.passed stands.behind in
    let cons = times-cons n place.no stands.behind in
    let once = row_once_here b0 b1 f1 held.free (0 ∷ held.index) bucket.row stay old.row step.made so n in
    get_set_other b1 place.no n page (λ is. let self : times n (place.no ∷ []) ≡ 1 = ap (λ k. times n (k ∷ [])) (sym is) ∙ times_self n in absurd (omega arith))
    ∙ first_stays b0 b1 f1 held.free (0 ∷ held.index) bucket.row stay old.row step.made so n (omega arith) in
    let group_split : map cell group ≡ map cell (take index group) ++ cell old ∷ map cell (drop (index + 1) group) =
    ap (map cell) (sym (take-append-drop index group) ∙ ap (λ ys. take index group ++ ys) (drop_more group index nothing within)) ∙ map-append cell (take index group) (old ∷ drop (index + 1) group) in
    let old_size = length-cell old in
    let new_size = length-cell it_is in
    let key_size : length old.key ≡ length key.now = ap length same in
    let old_kept : kept_len (length old.value) ≡ 4 = ap (λ b. cond b (length old.value) 4) (long_value (length old.value) was) in
    let new_kept : kept_len (length value) ≡ 4 = ap (λ b. cond b (length value) 4) (long_value (length value) long) in
    let cell_size : length (cell it_is) ≡ length (cell old) = omega arith in
    let change : (next : ℕ) → slice_get b0 place.no ≡ Some (entries_page group next) → slice_get b2 place.no ≡ Some (entries_page (take index group ++ it_is ∷ drop (index + 1) group) next) =
    λ next is.
    let page_is : bytes_of place.it.page ≡ entries_page group next = same_Some (bytes_of place.it.page) (entries_page group next) (sym found.there ∙ is) in
    get_set_same b1 place.no page (omega arith)
    ∙ ap (λ xs. Some xs) (ap (written place.spot.at (cell it_is)) (page_is ∙ ap (λ xs. bucket_page xs next) group_split)
    ∙ other_cell (map cell (take index group)) (map cell (drop (index + 1) group)) (cell old) (cell it_is) next place.spot.at (sym cell_size) stands.spot_is.begins
    ∙ ap (λ xs. bucket_page xs next) (sym (map-append cell (take index group) (it_is ∷ drop (index + 1) group)))) in
    let linked : IsRow bucket_page b2 (first_of bucket.row) bucket.row (filled [] (map cell (front ++ it_is ∷ others))) =
    subst (λ (gs : List (List (List ℕ))). IsRow bucket_page b2 (first_of bucket.row) bucket.row gs) (sym (filled_with bucket.cells stands.done group index stands.more it_is (stands.opened.filled_are ∙ ap (map (map cell)) stands.groups_are) cells_are within cell_size))
    (subst (λ (xs : List ℕ). IsRow bucket_page b2 (first_of bucket.row) xs (map (map cell) (with_entry stands.done group index stands.more it_is))) (sym stands.row_is)
    (row_cells b2 (first_of bucket.row) (stands.passed ++ place.no ∷ stands.behind) (with_entry stands.done group index stands.more it_is)
    (row_with entries_page b0 b2 (first_of bucket.row) place.no stands.passed stands.behind stands.done group (take index group ++ it_is ∷ drop (index + 1) group) stands.more stands.as_many row_stays change
    (subst (λ (gs : List (List Stored)). IsRow entries_page b0 (first_of bucket.row) (stands.passed ++ place.no ∷ stands.behind) gs) stands.groups_are
    (subst (λ (xs : List ℕ). IsRow entries_page b0 (first_of bucket.row) xs stands.opened.groups) stands.row_is stands.opened.linked))))) in
    let puts = puts_old start bucket.cells key value front old others cells_are split.before same in
    let all_stored : All IsStored (front ++ old ∷ others) = subst (All IsStored) cells_are chained.sizes in
    let old_stored : IsStored old = All-head IsStored old others (all_right IsStored front (old ∷ others) all_stored) in
    let all_has : All (HasValue b0) (front ++ old ∷ others) = subst (All (HasValue b0)) cells_are chained.values in
    let made_first : first ≡ first_of step.made = chain_first b1 first step.made value step.chain in
    let it_stored : IsStored it_is = record {
      key = subst (λ (n : ℕ). 1 ≤ n) key_size old_stored.key;
      key_end = subst (λ (n : ℕ). n ≤ 3001) key_size old_stored.key_end;
      value = few;
      first = subst (λ (n : ℕ). n < 2 ^ 32) (sym first_is ∙ made_first) old_stored.first;
    } in
    let it_has : HasValue b2 it_is = record {
      inline = λ less. absurd (omega arith);
      chained = λ _. keeps_chain b1 b2 (first_of step.made) step.made value (λ n some. get_set_other b1 place.no n page (apart n (omega arith))) (subst (λ (n : ℕ). IsChain b1 n step.made value) made_first step.chain);
    } in
    let after : Bucket = record { row = bucket.row; cells = front ++ it_is ∷ others } in
    let whole : Chained start b2 bucket.row (front ++ it_is ∷ others) = record {
      order = ap (is_sorted (walk_cmp start)) (puts.is step.made) ∙ order_after start key.now value (map entry bucket.cells) chained.order;
      sizes = All-append IsStored front (it_is ∷ others) (all_left IsStored front (old ∷ others) all_stored) (All-cons IsStored it_is others it_stored (All-tail IsStored old others (all_right IsStored front (old ∷ others) all_stored)));
      linked = linked;
      values = All-append (HasValue b2) front (it_is ∷ others)
          (values_stay b0 b2 front (λ n some. stays n (let w = times-append n (value_pages front) (value_pages others) in omega arith)) (all_left (HasValue b0) front (old ∷ others) all_has))
          (All-cons (HasValue b2) it_is others it_has (values_stay b0 b2 others (λ n some. stays n (let w = times-append n (value_pages front) (value_pages others) in omega arith)) (All-tail (HasValue b0) old others (all_right (HasValue b0) front (old ∷ others) all_has))));
    } in
    let count = ap length one.0 in
    let number = held.counts.number in
    let new_number = moved.buckets in
    record {
      free = step.turned.left;
      index = held.index;
      buckets = after ∷ [];
      form = record {
        version = moved.version ∙ held.form.version;
        listed = subst (λ (head : ℕ). IsFreeList b2 head step.turned.left) (sym moved.free_is)
            (keeps_row free_at b1 b2 f1 step.turned.left step.turned.left (λ n some. get_set_other b1 place.no n page (apart n (omega arith))) step.turned.free);
        directory = record { none = held.form.directory.none; one = ap (λ n. n ∷ []) (sym one.1 ∙ sym moved.root) };
      };
      counts = record { count = moved.count; number = omega arith };
      sums = sums;
      each = each_one after b2 (hash_start header) whole;
      used = λ n.
          let parts = bucket_pages n held.index step.turned.left after in
          let all = all_used b0 b1 f1 held.free (0 ∷ held.index) bucket.row stay old.row step.made so n in
          let v = ap (times n) new_values in
          let v1 = times-append n (value_pages front) (step.made ++ value_pages others) in
          let v2 = times-append n step.made (value_pages others) in
          let w = times-append n (value_pages front) (value_pages others) in
          let size : times n (range_with_len 0 (length b1)) ≡ times n (range_with_len 0 (length b2)) = ap (λ k. times n (range_with_len 0 k)) (sym (length-set b1 place.no page)) in
          omega arith;
      same = insert_is start m key.now value (map entry bucket.cells) (λ q. (in_bucket b0 header m q held bucket (for_all b0 header m held bucket key.now for q)).found) ∙ ap (λ xs. from_entries xs) (sym (puts.is step.made))
          ∙ ap (λ xs. from_entries xs) (sym (append-nil (map entry (front ++ it_is ∷ others))));
    }
  where
    each_one : (after : Bucket) (b2 : List (List ℕ)) (start : ℕ) → Chained start b2 after.row after.cells → (i : ℕ) (other : Bucket) → slice_get (after ∷ []) i ≡ Some other → IsBucket start b2 1 i other
    each_one after b2 start whole zero other there = subst (λ (b : Bucket). IsBucket start b2 1 0 b) (same_Some after other there) (record { chained = whole; placed = λ k d below. one_bucket (fnv1a start (get_or after.cells k d).key) })
    each_one after b2 start whole (suc i) other there = absurd (none-some other there)

-- ---- the value in a chain whose cell was found

pub record LongAt (pages : List (List ℕ)) (header : Header) (m : Map) (held : HoldsMap pages header m) (look : Look) (looks : LooksAt pages header held.buckets look) (seen : Cell) (first : ℕ) : Type 0 where
  pub within : look.place.spot.index < length looks.here.found.stands.group
  pub same : (at looks.here.found.stands.group look.place.spot.index).key ≡ look.key.now
  pub is : IsEntry pages (at looks.here.found.stands.group look.place.spot.index) seen.len (to_be_bytes w32 first)
  pub got : get m look.key.now ≡ Some (at looks.here.found.stands.group look.place.spot.index).value
  pub key : seen.key.now ≡ look.key.now

keyed_key : (rest : List Stored) (key : List ℕ) (seen : Cell) → IsKeyed rest key (AtCell seen) → seen.key.now ≡ key
keyed_key [] key seen keyed = absurd keyed
keyed_key (it ∷ rest) key seen keyed = keyed.0.key ∙ keyed.1

pub long_at : (pages : List (List ℕ)) (header : Header) (m : Map) (held : HoldsMap pages header m) (look : Look) (looks : LooksAt pages header held.buckets look) (seen : Cell) (first : ℕ)
    → seen.value ≡ Chain first → IsKeyed (rest_of looks.here.found.stands) look.key.now (AtCell seen) → LongAt pages header m held look looks seen first
long_at pages header m held look looks seen first names keyed =
    let start = hash_start header in
    let bucket = looks.bucket in
    let in_it = in_bucket pages header m look.key.now held bucket looks.for in
    let entry = key_entry start pages bucket.row bucket.cells look.key look.place looks.here.found.stands seen in_it.chained keyed in
    let it_is = sym (entry_here start pages bucket.row bucket.cells (Before look.key) look.place looks.here entry.it entry.others entry.rest_is) in
    let entry_is : IsEntry pages entry.it seen.len (to_be_bytes w32 first) = subst (λ (v : CellValue). IsEntry pages entry.it seen.len (kept_bytes v)) names entry.is in
    record {
      within = index_within start pages bucket.row bucket.cells (Before look.key) look.place looks.here entry.it entry.others entry.rest_is;
      same = subst (λ (x : Stored). x.key ≡ look.key.now) it_is entry.same;
      is = subst (λ (x : Stored). IsEntry pages x seen.len (to_be_bytes w32 first)) it_is entry_is;
      got = subst (λ (x : Stored). get m look.key.now ≡ Some x.value) it_is (sym in_it.found ∙ entry.found);
      key = keyed_key (rest_of looks.here.found.stands) look.key.now seen keyed;
    }

-- the bytes of the cell with the new length
pub longer_cell : (b1 : List (List ℕ)) (seen_key key value made : List ℕ) (len first : ℕ) → seen_key ≡ key → len ≡ length value → MOST_INLINE < length value → IsChain b1 first made value
    → cell_bytes seen_key len (to_be_bytes w32 first) ≡ cell (fresh key value made)
unfolding cell
longer_cell b1 seen_key key value made len first key_is len_is long chain =
    let names : to_be_bytes w32 first ≡ kept (fresh key value made) = ap (to_be_bytes w32) (chain_first b1 first made value chain) ∙ sym (kept_long (fresh key value made) long) in
    λ i. cell_bytes (key_is i) (len_is i) (names i)

-- pages that hold a map have a place for more of a value
pub grows_room : (pages : List (List ℕ)) (header : Header) (m : Map) (held : HoldsMap pages header m) (look : Look) (looks : LooksAt pages header held.buckets look) (len more size : ℕ)
    → header.entries ≤ 2 ^ 25 → header.bytes ≤ 2 ^ 31 → len + more ≤ 2 ^ 24 → size ≤ length pages + (pages_for (len + more) - pages_for len) → size ≡ 2 ^ 32 - 1
    → length held.free < pages_for (len + more) - pages_for len → ⊥
grows_room pages header m held look looks len more size entries bytes few grown full short =
    let one = only_bucket pages header m held looks.bucket look.key.now looks.for in
    let in_it = in_bucket pages header m look.key.now held looks.bucket looks.for in
    let has = room pages header m held looks.bucket one.0 in_it.chained in
    let free = has.free in
    let need = pages_few (len + more) few in
    omega arith
