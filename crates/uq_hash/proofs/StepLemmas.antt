-- A change behind the place of a key, in its three steps: a value is stored, cells are laid anew, and an old value is dropped.
use Rattle.std.proofs.Common.{◌≡◌, ℕ, ◌+◌, ◌≤◌, true, Bor, List, [], ◌∷◌, ◌++◌, length, map, take, Option, refl, sym, ap, subst, ◌∙◌, arith, length-append}
use Rattle.std.specs.Prelude.{All, slice_get, slice_index}
use Rattle.std.specs.List.{flat_map, range_with_len}
use Rattle.std.specs.FinMap.{from_entries, is_sorted}
use Rattle.std.proofs.lemmas.List.{length-map}
use Rattle.std.proofs.lemmas.List.Elements.{All-cons, All-head, All-nil, All-tail}
use Rattle.uq_page.specs.declared.header.Header.{Header}
use Rattle.uq_page.specs.Numbers.{times}
use Rattle.uq_page.specs.NumberLaws.{times-cons, times_self}
use Rattle.uq_page.specs.Page.{bytes_of}
use Rattle.uq_page.specs.Row.{IsRow}
use Rattle.uq_page.specs.RowLaws.{row_length}
use Rattle.uq_chain.specs.FreeList.{IsFreeList, Turned}
use Rattle.uq_hash.specs.declared.opening.Open.{Open}
use Rattle.uq_hash.specs.declared.seeking.Bound.TheVariants.{Before}
use Rattle.uq_hash.specs.declared.searching.Standing.{Standing}
use Rattle.uq_hash.specs.Cells.{bucket_page, filled}
use Rattle.uq_hash.specs.Changed.{AreOld}
use Rattle.uq_hash.specs.Laid.{IsNew, IsTail}
use Rattle.uq_hash.specs.Lying.{sizes_of}
use Rattle.uq_hash.specs.Map.{Bucket, HasSums, HasValue, HoldsMap, IsStored, Map, Stored, cell, entry, first_of, pages_of, value_pages}
use Rattle.uq_hash.specs.Place.{IsSmall, cells_bytes, entries_page}
use Rattle.uq_hash.specs.Refill.{IsBucketAt, IsLaid, Owned}
use Rattle.uq_hash.specs.Standing.{front_of, has_cell, rest_of}
use Rattle.uq_hash.specs.WalkOrder.{hash_start, walk_cmp}
use Rattle.uq_hash.proofs.AfterLemmas.{front_len, refilled_bucket, stay_of, values_stay}
use Rattle.uq_hash.proofs.ChangeLemmas.{gone_owned, gone_stays, old_stays}
use Rattle.uq_hash.proofs.FillLemmas.{few_cells}
use Rattle.uq_hash.proofs.HeldLemmas.{in_bucket, only_bucket}
use Rattle.uq_hash.proofs.HoldLemmas.{Moved, held_after, used_parts}
use Rattle.uq_hash.proofs.KeyLemmas.{AtKey, near_olds, old_there}
use Rattle.uq_hash.proofs.LyingLemmas.{lies_front}
use Rattle.uq_hash.proofs.OpenLemmas.{all_right}
use Rattle.uq_hash.proofs.SplitLemmas.{split_at}
use Rattle.uq_hash.proofs.StandingLemmas.{group_small, group_stored}

-- the pages of a row are those of a bucket
row_buckets : (pages : List (List ℕ)) (head : ℕ) (row : List ℕ) (groups : List (List Stored)) → IsRow entries_page pages head row groups → All IsSmall groups → All (IsBucketAt pages) row
row_buckets pages head [] groups is small = All-nil (IsBucketAt pages)
row_buckets pages head (n ∷ row) [] is small = absurd is
row_buckets pages head (n ∷ row) (g ∷ gs) is small =
    let bytes = All-head IsSmall g gs small in
    let few = few_cells g in
    let long = length-map g cell in
    All-cons (IsBucketAt pages) n row
    (record { page = entries_page g is.next; cells = map cell g; next = is.next; some = is.some; there = is.page; is = record { fits = is.fits; few = bytes; count = omega arith; is = refl } })
    (row_buckets pages is.next row gs is.rest (All-tail IsSmall g gs small))

-- and stay so where they stay
buckets_stay : (before after : List (List ℕ)) (row : List ℕ) → ((n : ℕ) → 1 ≤ times n row → slice_get after n ≡ slice_get before n) → All (IsBucketAt before) row → All (IsBucketAt after) row
buckets_stay before after [] same all = All-nil (IsBucketAt after)
buckets_stay before after (n ∷ row) same all =
    let it = All-head (IsBucketAt before) n row all in
    All-cons (IsBucketAt after) n row
    (record { page = it.page; cells = it.cells; next = it.next; some = it.some; there = same n (let split = times-cons n n row in let self = times_self n in omega arith) ∙ it.there; is = it.is })
    (buckets_stay before after row (λ k some. same k (let split = times-cons k n row in omega arith)) (All-tail (IsBucketAt before) n row all))

-- the entries before the place on its page
abbrev pub front_at : {before : List (List ℕ)} {header : Header} {m : Map} {held : HoldsMap before header m} {key : Bor (List ℕ)} {it : Open} {standing : Standing} → AtKey before header m held key it standing → List Stored
front_at {it = it} so = take it.near.spot.index so.at.near.found.stands.group

-- the pages that are laid anew
abbrev pub row_at : {before : List (List ℕ)} {header : Header} {m : Map} {held : HoldsMap before header m} {key : Bor (List ℕ)} {it : Open} {standing : Standing} → AtKey before header m held key it standing → List ℕ
row_at {it = it} so = it.near.no ∷ so.at.near.found.stands.behind

-- the pages of the values that stay
abbrev pub stay_at : (before : List (List ℕ)) (header : Header) (m : Map) (held : HoldsMap before header m) (key : Bor (List ℕ)) (it : Open) (standing : Standing) → AtKey before header m held key it standing → List ℕ
stay_at before header m held key it standing so = stay_of (hash_start header) before so.at.bucket.row so.at.bucket.cells (Before key) it.near so.at.near (near_olds before header m held key it standing so).others

-- each page is used once
parts_at : (before : List (List ℕ)) (header : Header) (m : Map) (held : HoldsMap before header m) (key : Bor (List ℕ)) (it : Open) (standing : Standing) (so : AtKey before header m held key it standing) (n : ℕ)
    → times n (0 ∷ held.index) + times n held.free + times n so.at.near.found.stands.passed + times n (row_at so) + times n (stay_at before header m held key it standing so)
    + times n (value_pages (near_olds before header m held key it standing so).olds) ≡ times n (range_with_len 0 (length before))
parts_at before header m held key it standing so =
    let bucket = so.at.bucket in
    let one = only_bucket before header m held bucket key.now so.at.for in
    let o = near_olds before header m held key it standing so in
    used_parts (hash_start header) before held.index held.free bucket (Before key) it.near so.at.near o.olds o.others o.is
    (λ n. ap (λ (bs : List Bucket). times n (0 ∷ (held.index ++ (held.free ++ flat_map pages_of bs)))) (sym one.0) ∙ held.used n)

-- the entries that are laid anew, with new ones
pub tail_at : (before : List (List ℕ)) (header : Header) (m : Map) (held : HoldsMap before header m) (key : Bor (List ℕ)) (it : Open) (standing : Standing) (so : AtKey before header m held key it standing)
    (news : List Stored) (new : Option (List ℕ)) → IsNew news new → IsTail it (has_cell standing) new (front_at so) (near_olds before header m held key it standing so).olds news (near_olds before header m held key it standing so).others
tail_at before header m held key it standing so news new new_is =
    let at = so.at in
    let stands = at.near.found.stands in
    let o = near_olds before header m held key it standing so in
    record {
      lies = lies_front (bytes_of it.near.it.page) stands.group it.near.it.head.next it.near.spot.index at.near.found.page.is (group_small (hash_start header) before at.bucket.row at.bucket.cells (Before key) it.near at.near.found)
          (group_stored (hash_start header) before at.bucket.row at.bucket.cells (Before key) it.near at.near.found);
      index = front_len it.near.spot.index stands.group stands.spot_is.within;
      sizes_are = at.rest.sizes_are ∙ ap sizes_of o.is;
      bytes_are = at.rest.bytes_are ∙ ap cells_bytes o.is;
      gone = o.gone;
      new_is = new_is;
    }

-- the row that is laid anew is in use after the first step
pub owned_at : (before b1 : List (List ℕ)) (f1 : ℕ) (header : Header) (m : Map) (held : HoldsMap before header m) (key : Bor (List ℕ)) (it : Open) (standing : Standing) (so : AtKey before header m held key it standing) (stored : List ℕ)
    (first : Turned before b1 f1 held.free [] stored) → Owned b1 it.rest.row.items first.left
owned_at before b1 f1 header m held key it standing so stored first =
    let o = near_olds before header m held key it standing so in
    let parts = parts_at before header m held key it standing so in
    let all = gone_owned before b1 f1 held.free (0 ∷ held.index) so.at.near.found.stands.passed (row_at so) (stay_at before header m held key it standing so) (value_pages o.olds) stored first parts in
    let mine : Owned b1 (row_at so) first.left = record { within = λ n among. (all n).0 among; once = λ n. (all n).1 } in
    subst (λ (xs : List ℕ). Owned b1 xs first.left) (sym so.at.rest.row_is) mine

-- and its pages are those of the bucket
pub buckets_at : (before b1 : List (List ℕ)) (f1 : ℕ) (header : Header) (m : Map) (held : HoldsMap before header m) (key : Bor (List ℕ)) (it : Open) (standing : Standing) (so : AtKey before header m held key it standing) (stored : List ℕ)
    (first : Turned before b1 f1 held.free [] stored) → All (IsBucketAt b1) it.rest.row.items
buckets_at before b1 f1 header m held key it standing so stored first =
    let stands = so.at.near.found.stands in
    let o = near_olds before header m held key it standing so in
    let parts = parts_at before header m held key it standing so in
    let whole = row_buckets before (first_of so.at.bucket.row) so.at.bucket.row stands.opened.groups stands.opened.linked stands.opened.small in
    let mine : All (IsBucketAt before) (row_at so) = all_right (IsBucketAt before) stands.passed (row_at so) (subst (All (IsBucketAt before)) stands.row_is whole) in
    let stays : (n : ℕ) → 1 ≤ times n (row_at so) → slice_get b1 n ≡ slice_get before n =
    λ n some. gone_stays before b1 f1 held.free (0 ∷ held.index) stands.passed (row_at so) (stay_at before header m held key it standing so) (value_pages o.olds) stored first parts n some in
    subst (All (IsBucketAt b1)) (sym so.at.rest.row_is) (buckets_stay before b1 (row_at so) stays mine)

-- the row is laid anew, by its own name
laid_at : (before b1 b2 : List (List ℕ)) (f2 : ℕ) (header : Header) (m : Map) (held : HoldsMap before header m) (key : Bor (List ℕ)) (it : Open) (standing : Standing) (so : AtKey before header m held key it standing) (left : List ℕ) (cells : List (List ℕ))
    → IsLaid b1 b2 f2 left it.rest.row.items (slice_index it.rest.row.items 0) cells → IsLaid b1 b2 f2 left (row_at so) it.near.no cells
laid_at before b1 b2 f2 header m held key it standing so left cells laid = subst (λ (xs : List ℕ). IsLaid b1 b2 f2 left xs (slice_index xs 0) cells) so.at.rest.row_is laid

-- what stood behind the place stands there after the second step
pub old_at : (before b1 b2 : List (List ℕ)) (f1 f2 : ℕ) (header : Header) (m : Map) (held : HoldsMap before header m) (key : Bor (List ℕ)) (it : Open) (standing : Standing) (so : AtKey before header m held key it standing) (stored : List ℕ)
    (first : Turned before b1 f1 held.free [] stored) (cells : List (List ℕ)) → IsLaid b1 b2 f2 first.left it.rest.row.items (slice_index it.rest.row.items 0) cells → AreOld b2 (near_olds before header m held key it standing so).olds standing
old_at before b1 b2 f1 f2 header m held key it standing so stored first cells laid_there =
    let o = near_olds before header m held key it standing so in
    let laid = laid_at before b1 b2 f2 header m held key it standing so first.left cells laid_there in
    old_there before b2 o.olds standing o.old
    (values_stay before b2 o.olds (λ n among. old_stays before b1 b2 f1 f2 held.free (0 ∷ held.index) so.at.near.found.stands.passed (row_at so) (stay_at before header m held key it standing so) (value_pages o.olds) stored laid.made first laid.turned
    (parts_at before header m held key it standing so) n among) o.has)

-- the row has as many pages as the entries from the place on have filled
pub row_filled : (before : List (List ℕ)) (header : Header) (m : Map) (held : HoldsMap before header m) (key : Bor (List ℕ)) (it : Open) (standing : Standing) (so : AtKey before header m held key it standing)
    → length it.rest.row.items ≡ length (filled [] (map cell (front_at so ++ rest_of so.at.near.found.stands)))
row_filled before header m held key it standing so =
    let at = so.at in
    let stands = at.near.found.stands in
    let chained = (in_bucket before header m key.now held at.bucket at.for).chained in
    let split = split_at (hash_start header) before at.bucket.row at.bucket.cells (Before key) it.near.no it.near.spot stands in
    let pages = row_length bucket_page before (first_of at.bucket.row) at.bucket.row (filled [] (map cell at.bucket.cells)) chained.linked in
    let again = ap length (ap (λ (xs : List Stored). filled [] (map cell xs)) split.is ∙ refilled_bucket (hash_start header) before at.bucket.row at.bucket.cells (Before key) it.near at.near (rest_of stands)) in
    let parts = length-append (map (map cell) stands.done) (filled [] (map cell (front_at so ++ rest_of stands))) in
    let done = length-map stands.done (map cell) in
    let row = ap length stands.row_is in
    let row_parts = length-append stands.passed (row_at so) in
    let as_many = stands.as_many in
    let mine = ap length at.rest.row_is in
    omega arith

-- the entries from the place on are some of the bucket's, and the new ones
pub tail_few : (before : List (List ℕ)) (header : Header) (m : Map) (held : HoldsMap before header m) (key : Bor (List ℕ)) (it : Open) (standing : Standing) (so : AtKey before header m held key it standing) (news : List Stored)
    → length (front_at so ++ (news ++ (near_olds before header m held key it standing so).others)) ≤ length so.at.bucket.cells + length news
tail_few before header m held key it standing so news =
    let at = so.at in
    let stands = at.near.found.stands in
    let o = near_olds before header m held key it standing so in
    let split = split_at (hash_start header) before at.bucket.row at.bucket.cells (Before key) it.near.no it.near.spot stands in
    let all = ap length (split.is ∙ ap (λ xs. front_of stands ++ xs) o.is) in
    let a = length-append (front_of stands) (o.olds ++ o.others) in
    let b = length-append o.olds o.others in
    let c = length-append (flat_done stands.done) (front_at so) in
    let d = length-append (front_at so) (news ++ o.others) in
    let e = length-append news o.others in
    omega arith
  where
    flat_done : List (List Stored) → List Stored
    flat_done groups = flat_map (λ group. group) groups

-- the pages after the three steps hold the changed map
pub changed : (before b1 b2 b3 : List (List ℕ)) (f1 f2 f3 : ℕ) (header new : Header) (m now : Map) (key : Bor (List ℕ)) (it : Open) (standing : Standing) (held : HoldsMap before header m) (so : AtKey before header m held key it standing) (news : List Stored)
    (first : Turned before b1 f1 held.free [] (value_pages news)) → All IsStored news → All (HasValue b1) news
    → is_sorted (walk_cmp (hash_start header)) (map entry (front_of so.at.near.found.stands ++ (news ++ (near_olds before header m held key it standing so).others))) ≡ true
    → now ≡ from_entries (map entry (front_of so.at.near.found.stands ++ (news ++ (near_olds before header m held key it standing so).others)))
    → IsLaid b1 b2 f2 first.left it.rest.row.items (slice_index it.rest.row.items 0) (map cell (front_at so ++ (news ++ (near_olds before header m held key it standing so).others)))
    → ((olds : List Stored) → AreOld b2 olds standing → (free : List ℕ) → IsFreeList b2 f2 free → Turned b2 b3 f3 free (value_pages olds) [])
    → Moved header new b3 f3 → HasSums new now → HoldsMap b3 new now
changed before b1 b2 b3 f1 f2 f3 header new m now key it standing held so news first stored values sorted same laid_there drops moved sums =
    let at = so.at in
    let bucket = at.bucket in
    let o = near_olds before header m held key it standing so in
    let within = in_bucket before header m key.now held bucket at.for in
    let one = only_bucket before header m held bucket key.now at.for in
    let cells = map cell (front_at so ++ (news ++ o.others)) in
    let laid = laid_at before b1 b2 f2 header m held key it standing so first.left cells laid_there in
    let old = old_at before b1 b2 f1 f2 header m held key it standing so (value_pages news) first cells laid_there in
    held_after before b1 b2 b3 f1 f2 f3 header new m now held bucket laid.made (Before key) it.near at.near o.olds news o.others one.0 one.1 within.chained
    (record { rest_is = o.is; order = sorted; stored = stored; values = values })
    (record { first = first; second = laid.turned; third = drops o.olds old laid.turned.left laid.turned.free; used = parts_at before header m held key it standing so })
    laid.linked moved sums same
