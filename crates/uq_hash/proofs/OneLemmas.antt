-- Pages and a header hold one map at most.
use Rattle.std.proofs.Common.{◌≡◌, ◌⊎◌, inl, inr, ℕ, zero, suc, ◌+◌, ◌*◌, ◌<◌, ◌≤◌, ◌^◌, List, [], ◌∷◌, ◌++◌, length, map, take, drop, refl, sym, ap, subst, ◌∙◌, arith}
use Rattle.std.specs.Prelude.{All, slice_get, slice_set}
use Rattle.std.specs.List.{range_with_len}
use Rattle.std.specs.Cmp.Lexicographic.{nat_list_cmp_total}
use Rattle.std.specs.FinMap.{same_map}
use Rattle.std.specs.FinMap.Entries.{find}
use Rattle.std.proofs.lemmas.Bool.{cases_lt}
use Rattle.std.proofs.lemmas.List.{length-take, length-drop, length-map, length-set, map-append, take_all, take_more, take-append-drop}
use Rattle.std.proofs.lemmas.List.Elements.{All-head, All-tail, recursion_from_All}
use Rattle.std.proofs.lemmas.Option.{same_Some}
use Rattle.uq_page.specs.declared.bucket.BucketHead.{BucketHead}
use Rattle.uq_page.specs.declared.header.Header.{Header}
use Rattle.uq_page.specs.declared.layout.TheConstants.{CELLS_AT, MOST_INLINE, VALUE_ROOM}
use Rattle.uq_page.specs.Cell.{kept_len}
use Rattle.uq_page.specs.Laws.{OneBucketHead, OneCell}
use Rattle.uq_page.specs.Numbers.{times}
use Rattle.uq_page.specs.Row.{IsRow}
use Rattle.uq_page.specs.RowLaws.{get_set_other, keeps_row, row_within}
use Rattle.uq_page.specs.ValuePage.{value_page}
use Rattle.uq_chain.specs.Chain.{pieces}
use Rattle.uq_chain.specs.ChainLaws.{held-value_page, value_tells}
use Rattle.uq_chain.specs.FreeList.{free_at}
use Rattle.uq_hash.specs.Bucket.{head_of}
use Rattle.uq_hash.specs.Cells.{bucket_page, filled}
use Rattle.uq_hash.specs.Map.{Bucket, Chained, HasValue, HoldsMap, IsStored, Map, Stored, cell, entry, first_of, kept}
use Rattle.uq_hash.specs.Place.{IsSmall, at, cells_bytes, entries_page, flat, nothing}
use Rattle.uq_hash.specs.WalkOrder.{hash_start, walk_cmp}
use Rattle.uq_hash.proofs.AfterLemmas.{values_stay, values_within}
use Rattle.uq_hash.proofs.CellLemmas.{bucket_tells, bytes_more, cell_behind, length-cell}
use Rattle.uq_hash.proofs.FillLemmas.{few_cells, page_head}
use Rattle.uq_hash.proofs.HeldLemmas.{all_gets, one_begins_all, only_chained}
use Rattle.uq_hash.proofs.OpenLemmas.{all_left, all_right, opened}
use Rattle.uq_hash.proofs.ValueLemmas.{kept_long, kept_short, same_four}
use Rattle.uq_hash.proofs.WalkLemmas.{bytes_same}

-- from one page on there is one chain of so many bytes
same_piece : (a b : List ℕ) (m n : ℕ) → length a ≡ length b → value_page a m ≡ value_page b n → a ≡ b
same_piece a b m n long same =
    sym (held-value_page a m) ∙ ap (λ k. take k (drop 16 (value_page a m))) long ∙ ap (λ page. take (length b) (drop 16 page)) same ∙ held-value_page b n

one_pieces : (pages : List (List ℕ)) (head : ℕ) (row row' bytes bytes' : List ℕ) → length bytes ≡ length bytes' → length bytes ≤ VALUE_ROOM * length row → length bytes' ≤ VALUE_ROOM * length row'
    → IsRow value_page pages head row (pieces row bytes) → IsRow value_page pages head row' (pieces row' bytes') → bytes ≡ bytes'
one_pieces pages head [] row' [] [] long few few' is is' = refl
one_pieces pages head [] row' [] (b ∷ bytes') long few few' is is' = absurd (omega arith)
one_pieces pages head [] row' (b ∷ bytes) bytes' long few few' is is' = absurd (omega arith)
one_pieces pages head (n ∷ row) [] bytes bytes' long few few' is is' = let some = is.some in let here = is.is in absurd (omega arith)
one_pieces pages head (n ∷ row) (k ∷ row') bytes bytes' long few few' is is' =
    let a = length-take VALUE_ROOM bytes in
    let b = length-take VALUE_ROOM bytes' in
    let c = length-drop VALUE_ROOM bytes in
    let d = length-drop VALUE_ROOM bytes' in
    let there : value_page (take VALUE_ROOM bytes) is.next ≡ value_page (take VALUE_ROOM bytes') is'.next =
    same_Some (value_page (take VALUE_ROOM bytes) is.next) (value_page (take VALUE_ROOM bytes') is'.next) (sym is.page ∙ ap (slice_get pages) (sym is.is ∙ is'.is) ∙ is'.page) in
    let next : is.next ≡ is'.next = value_tells (take VALUE_ROOM bytes) (take VALUE_ROOM bytes') is.next is'.next is.fits is'.fits there in
    let front = same_piece (take VALUE_ROOM bytes) (take VALUE_ROOM bytes') is.next is'.next (omega arith) there in
    let behind = one_pieces pages is.next row row' (drop VALUE_ROOM bytes) (drop VALUE_ROOM bytes') (omega arith) (omega arith) (omega arith) is.rest
    (subst (λ (h : ℕ). IsRow value_page pages h row' (pieces row' (drop VALUE_ROOM bytes'))) (sym next) is'.rest) in
    sym (take-append-drop VALUE_ROOM bytes) ∙ ap (λ xs. xs ++ drop VALUE_ROOM bytes) front ∙ ap (λ xs. take VALUE_ROOM bytes' ++ xs) behind ∙ take-append-drop VALUE_ROOM bytes'

-- a cell tells its entry, and the pages the value
same_entry : (pages : List (List ℕ)) (a b : Stored) → IsStored a → IsStored b → HasValue pages a → HasValue pages b → a.key ≡ b.key → length a.value ≡ length b.value → kept a ≡ kept b → entry a ≡ entry b
same_entry pages a b sa sb ha hb key long kept_is = by_size (cases_lt MOST_INLINE (length a.value))
  where
    pair : a.value ≡ b.value → entry a ≡ entry b
    pair value = ap (λ (k : List ℕ). (k, a.value)) key ∙ ap (λ (v : List ℕ). (b.key, v)) value

    by_size : (MOST_INLINE < length a.value) ⊎ (length a.value ≤ MOST_INLINE) → entry a ≡ entry b
    by_size (inr few) = pair (sym (kept_short a few) ∙ kept_is ∙ kept_short b (omega arith))
    by_size (inl more) =
        let first = same_four (first_of a.row) (first_of b.row) sa.first sb.first (sym (kept_long a more) ∙ kept_is ∙ kept_long b (omega arith)) in
        let one = ha.chained more in
        let other = hb.chained (omega arith) in
        pair (one_pieces pages (first_of a.row) a.row b.row a.value b.value long one.enough other.enough one.linked (subst (λ (h : ℕ). IsRow value_page pages h b.row (pieces b.row b.value)) (sym first) other.linked))

-- as many cells from the front of a page are the same
record Same (i : ℕ) (g g' : List Stored) : Type 0 where
  pub long : length (cells_bytes (take i g)) ≡ length (cells_bytes (take i g'))
  pub are : map entry (take i g) ≡ map entry (take i g')

same_front : OneCell → (pages : List (List ℕ)) (page : List ℕ) (g g' : List Stored) (next next' : ℕ) → page ≡ entries_page g next → page ≡ entries_page g' next' → IsSmall g → IsSmall g' → All IsStored g → All IsStored g'
    → All (HasValue pages) g → All (HasValue pages) g' → (i : ℕ) → i ≤ length g → i ≤ length g' → Same i g g'
same_front one pages page g g' next next' is is' small small' sizes sizes' values values' zero less less' = record { long = refl; are = refl }
same_front one pages page g g' next next' is is' small small' sizes sizes' values values' (suc i) less less' =
    let within : i < length g = omega arith in
    let within' : i < length g' = omega arith in
    let before = same_front one pages page g g' next next' is is' small small' sizes sizes' values values' i (omega arith) (omega arith) in
    let stored = sizes i nothing within in
    let stored' = sizes' i nothing within' in
    let here = cell_behind page g next i (CELLS_AT + length (cells_bytes (take i g))) is small within stored refl in
    let there = cell_behind page g' next' i (CELLS_AT + length (cells_bytes (take i g))) is' small' within' stored' (ap (λ n. CELLS_AT + n) before.long) in
    let same = one page (CELLS_AT + length (cells_bytes (take i g))) (at g i).key (length (at g i).value) (kept (at g i)) (at g' i).key (length (at g' i).value) (kept (at g' i)) here there in
    let entries = same_entry pages (at g i) (at g' i) stored stored' (values i nothing within) (values' i nothing within') same.0 same.1 same.2 in
    let up : suc i ≡ i + 1 = omega arith in
    let a = bytes_more g i within in
    let b = bytes_more g' i within' in
    let size = length-cell (at g i) in
    let size' = length-cell (at g' i) in
    let key = ap length same.0 in
    let kept_size = ap kept_len same.1 in
    let whole : length (cells_bytes (take (i + 1) g)) ≡ length (cells_bytes (take (i + 1) g')) = let long = before.long in omega arith in
    let all : map entry (take (i + 1) g) ≡ map entry (take (i + 1) g') =
    ap (map entry) (take_more g i nothing within) ∙ map-append entry (take i g) (at g i ∷ []) ∙ ap (λ xs. xs ++ entry (at g i) ∷ []) before.are ∙ ap (λ e. map entry (take i g') ++ e ∷ []) entries
    ∙ sym (map-append entry (take i g') (at g' i ∷ [])) ∙ sym (ap (map entry) (take_more g' i nothing within')) in
    record { long = ap (λ n. length (cells_bytes (take n g))) up ∙ whole ∙ ap (λ n. length (cells_bytes (take n g'))) (sym up); are = ap (λ n. map entry (take n g)) up ∙ all ∙ ap (λ n. map entry (take n g')) (sym up) }

same_page : OneBucketHead → OneCell → (pages : List (List ℕ)) (page : List ℕ) (g g' : List Stored) (next next' : ℕ) → next < 2 ^ 32 → next' < 2 ^ 32 → page ≡ entries_page g next → page ≡ entries_page g' next' → IsSmall g → IsSmall g'
    → All IsStored g → All IsStored g' → All (HasValue pages) g → All (HasValue pages) g' → map entry g ≡ map entry g'
same_page head one pages page g g' next next' fits fits' is is' small small' sizes sizes' values values' =
    let few = few_cells g in
    let few' = few_cells g' in
    let long = length-map g cell in
    let long' = length-map g' cell in
    let heads = head page (head_of (map cell g) next) (head_of (map cell g') next') (page_head (map cell g) next page fits small (omega arith) is) (page_head (map cell g') next' page fits' small' (omega arith) is') in
    let count : length (map cell g) ≡ length (map cell g') = ap (λ (h : BucketHead). h.cells) heads in
    let same = same_front one pages page g g' next next' is is' small small' sizes sizes' values values' (length g) (omega arith) (omega arith) in
    ap (map entry) (sym (take_all (length g) g (omega arith))) ∙ same.are ∙ ap (map entry) (take_all (length g) g' (omega arith))

pub same_groups : OneBucketHead → OneCell → (pages : List (List ℕ)) (head : ℕ) (row row' : List ℕ) (gs gs' : List (List Stored)) → IsRow entries_page pages head row gs → IsRow entries_page pages head row' gs' → All IsSmall gs → All IsSmall gs'
    → All IsStored (flat gs) → All IsStored (flat gs') → All (HasValue pages) (flat gs) → All (HasValue pages) (flat gs') → map entry (flat gs) ≡ map entry (flat gs')
same_groups oh oc pages head [] [] [] [] is is' small small' sizes sizes' values values' = refl
same_groups oh oc pages head [] row' (g ∷ gs) gs' is is' small small' sizes sizes' values values' = absurd is
same_groups oh oc pages head row [] gs (g ∷ gs') is is' small small' sizes sizes' values values' = absurd is'
same_groups oh oc pages head (n ∷ row) row' [] gs' is is' small small' sizes sizes' values values' = absurd is
same_groups oh oc pages head row (n ∷ row') gs [] is is' small small' sizes sizes' values values' = absurd is'
same_groups oh oc pages head [] (n ∷ row') [] (g ∷ gs') is is' small small' sizes sizes' values values' = let here = is'.is in let some = is'.some in absurd (omega arith)
same_groups oh oc pages head (n ∷ row) [] (g ∷ gs) [] is is' small small' sizes sizes' values values' = let here = is.is in let some = is.some in absurd (omega arith)
same_groups oh oc pages head (n ∷ row) (k ∷ row') (g ∷ gs) (g' ∷ gs') is is' small small' sizes sizes' values values' =
    let there : entries_page g is.next ≡ entries_page g' is'.next = same_Some (entries_page g is.next) (entries_page g' is'.next) (sym is.page ∙ ap (slice_get pages) (sym is.is ∙ is'.is) ∙ is'.page) in
    let next : is.next ≡ is'.next = bucket_tells (map cell g) (map cell g') is.next is'.next is.fits is'.fits there in
    let here = same_page oh oc pages (entries_page g is.next) g g' is.next is'.next is.fits is'.fits refl there (All-head IsSmall g gs small) (All-head IsSmall g' gs' small')
    (all_left IsStored g (flat gs) sizes) (all_left IsStored g' (flat gs') sizes') (all_left (HasValue pages) g (flat gs) values) (all_left (HasValue pages) g' (flat gs') values') in
    let behind = same_groups oh oc pages is.next row row' gs gs' is.rest (subst (λ (h : ℕ). IsRow entries_page pages h row' gs') (sym next) is'.rest) (All-tail IsSmall g gs small) (All-tail IsSmall g' gs' small')
    (all_right IsStored g (flat gs) sizes) (all_right IsStored g' (flat gs') sizes') (all_right (HasValue pages) g (flat gs) values) (all_right (HasValue pages) g' (flat gs') values') in
    map-append entry g (flat gs) ∙ ap (λ xs. xs ++ map entry (flat gs)) here ∙ ap (λ xs. map entry g' ++ xs) behind ∙ sym (map-append entry g' (flat gs'))

pub one_chained : OneBucketHead → OneCell → (start : ℕ) (pages : List (List ℕ)) (row row' : List ℕ) (cells cells' : List Stored) → first_of row ≡ first_of row' → Chained start pages row cells → Chained start pages row' cells' → map entry cells ≡ map entry cells'
one_chained oh oc start pages row row' cells cells' first is is' =
    let it = opened start pages row cells is in
    let it' = opened start pages row' cells' is' in
    ap (map entry) (sym it.all)
    ∙ same_groups oh oc pages (first_of row) row row' it.groups it'.groups it.linked (subst (λ (h : ℕ). IsRow entries_page pages h row' it'.groups) (sym first) it'.linked) it.small it'.small
    (subst (All IsStored) (sym it.all) is.sizes) (subst (All IsStored) (sym it'.all) is'.sizes) (subst (All (HasValue pages)) (sym it.all) is.values) (subst (All (HasValue pages)) (sym it'.all) is'.values)
    ∙ ap (map entry) it'.all

pub one_held : OneBucketHead → OneCell → (pages : List (List ℕ)) (header : Header) (m n : Map) → HoldsMap pages header m → HoldsMap pages header n → m ≡ n
one_held oh oc pages header m n first second =
    let one = one_begins_all pages header m first in
    let other = one_begins_all pages header n second in
    same_map nat_list_cmp_total bytes_same m n (λ q.
    sym (all_gets pages header m first header.root one q)
    ∙ ap (find (walk_cmp (hash_start header)) q) (one_chained oh oc (hash_start header) pages one.bucket.row other.bucket.row one.bucket.cells other.bucket.cells (sym one.first_is ∙ other.first_is)
    (only_chained pages header m first header.root one) (only_chained pages header n second header.root other))
    ∙ all_gets pages header n second header.root other q)

-- the header's page may hold anything
pub apart : (pages : List (List ℕ)) (header : Header) (m : Map) (page : List ℕ) → HoldsMap pages header m → HoldsMap (slice_set pages 0 page) header m
apart pages header m page held =
    let after = slice_set pages 0 page in
    let long = length-set pages 0 page in
    record {
      free = held.free;
      index = held.index;
      buckets = held.buckets;
      form = record {
        version = held.form.version;
        listed = keeps_row free_at pages after header.free held.free held.free (λ n some. other n (let low = (row_within free_at pages header.free held.free held.free n held.form.listed some).0 in low)) held.form.listed;
        directory = record { none = held.form.directory.none; one = held.form.directory.one };
      };
      counts = record { count = held.counts.count ∙ sym long; number = held.counts.number };
      sums = held.sums;
      each = λ i bucket there. record { chained = chained_apart bucket (held.each i bucket there).chained; placed = (held.each i bucket there).placed };
      used = λ n. held.used n ∙ ap (λ count. times n (range_with_len 0 count)) (sym long);
      same = held.same;
    }
  where
    other : (n : ℕ) → 1 ≤ n → slice_get (slice_set pages 0 page) n ≡ slice_get pages n
    other n some = get_set_other pages 0 n page (λ zero_is. absurd (omega arith))

    chained_apart : (bucket : Bucket) → Chained (hash_start header) pages bucket.row bucket.cells → Chained (hash_start header) (slice_set pages 0 page) bucket.row bucket.cells
    chained_apart bucket is = record {
      order = is.order;
      sizes = is.sizes;
      linked = keeps_row bucket_page pages (slice_set pages 0 page) (first_of bucket.row) bucket.row (filled [] (map cell bucket.cells))
          (λ n some. other n ((row_within bucket_page pages (first_of bucket.row) bucket.row (filled [] (map cell bucket.cells)) n is.linked some).0)) is.linked;
      values = values_stay pages (slice_set pages 0 page) bucket.cells (λ n some. other n ((values_within pages bucket.cells n (recursion_from_All (HasValue pages) bucket.cells is.values) some).0)) is.values;
    }
