-- When pages and a header hold a map of keys.
use Rattle.std.specs.Prelude.{◌≡◌, ℕ, ◌+◌, ◌-◌, ◌%◌, ◌^◌, ◌<◌, ◌≤◌, List, [], ◌∷◌, ◌++◌, length, map, sum_by, All, Option, Some, None, IsTrue, slice_get, nat_le, if◌then◌else◌}
use Rattle.std.specs.Option.{ForSome, option_map}
use Rattle.std.specs.List.{flat_map, range_with_len}
use Rattle.std.specs.Int.{w32, to_be_bytes}
use Rattle.std.specs.Ordering.{nat_cmp}
use Rattle.std.specs.Cmp.Lexicographic.{slice_cmp}
use Rattle.std.specs.FinMap.{FinMap, empty, from_entries, entries, get, len, is_sorted}
use Rattle.uq_page.specs.declared.header.Header.{Header}
use Rattle.uq_page.specs.declared.layout.TheConstants.{CELL_HEAD, MOST_INLINE}
use Rattle.uq_page.specs.Cell.{cell_bytes}
use Rattle.uq_page.specs.Header.{header_page, IsHeader, IsInUse}
use Rattle.uq_page.specs.Numbers.{SameNumbers}
use Rattle.uq_page.specs.Row.{IsRow}
use Rattle.uq_chain.specs.Chain.{IsChain, pages_for}
use Rattle.uq_chain.specs.FreeList.{IsFreeList}
use Rattle.uq_hash.specs.Cells.{bucket_page, filled}
use Rattle.uq_hash.specs.Fnv.{fnv1a}
use Rattle.uq_hash.specs.WalkOrder.{hash_start, walk_cmp}

-- keys and their values
abbrev pub Map : Type 0
Map = FinMap (slice_cmp nat_cmp) (List ℕ)

-- a key and its value
abbrev pub Entry : Type 0
Entry = List ℕ × List ℕ

-- An entry as it is stored: with the pages of its value's chain, of which there is none where the value stands in its cell.
pub record Stored : Type 0 where
  pub key : List ℕ
  pub value : List ℕ
  pub row : List ℕ

abbrev pub entry : Stored → Entry
entry it = (it.key, it.value)

-- the first page of a row, 0 where it has none
abbrev pub first_of : List ℕ → ℕ
first_of [] = 0
first_of (n ∷ row) = n

-- what a cell has in place of its value: the value, or the number of the chain's first page
abbrev pub kept : Stored → List ℕ
kept it = if nat_le (length it.value) MOST_INLINE then it.value else to_be_bytes w32 (first_of it.row)

-- the bytes of its cell
unfoldable pub cell : Stored → List ℕ
cell it = cell_bytes it.key (length it.value) (kept it)

-- keys have 1 to 3,001 bytes, and values at most 2^24
pub record IsStored (it : Stored) : Type 0 where
  pub key : 1 ≤ length it.key
  pub key_end : length it.key ≤ 3001
  pub value : length it.value ≤ 2 ^ 24
  pub first : first_of it.row < 2 ^ 32

-- a value of more than 255 bytes stands in its chain, and a shorter one in its cell
pub record HasValue (pages : List (List ℕ)) (it : Stored) : Type 0 where
  pub inline : length it.value ≤ MOST_INLINE → it.row ≡ []
  pub chained : MOST_INLINE < length it.value → IsChain pages (first_of it.row) it.row it.value

-- a bucket: the numbers of its pages, of which each names the next, and its entries
pub record Bucket : Type 0 where
  pub row : List ℕ
  pub cells : List Stored

-- The cells of these entries, in the walk order with this start, fill the pages of this row, and their values stand where they should.
pub record Chained (start : ℕ) (pages : List (List ℕ)) (row : List ℕ) (cells : List Stored) : Type 0 where
  pub order : IsTrue (is_sorted (walk_cmp start) (map entry cells))
  pub sizes : All IsStored cells
  pub linked : IsRow bucket_page pages (first_of row) row (filled [] (map cell cells))
  pub values : All (HasValue pages) cells

-- of n buckets, the one of a hash is number i
pub record IsBucketOf (n hash i : ℕ) : Type 0 where
  pub level : ℕ
  pub low : 2 ^ level ≤ n
  pub high : n < 2 ^ (level + 1)
  pub is : i ≡ (if nat_le (n - 2 ^ level) (hash % 2 ^ level) then hash % 2 ^ level else hash % 2 ^ (level + 1))

-- bucket i of n holds the keys whose hash has that bucket
pub record IsBucket (start : ℕ) (pages : List (List ℕ)) (n i : ℕ) (bucket : Bucket) : Type 0 where
  pub chained : Chained start pages bucket.row bucket.cells
  pub placed : All (λ stored. IsBucketOf n (fnv1a start stored.key) i) bucket.cells

-- Where the buckets begin: the header's root is the first page of the one bucket, and no page is used to say so.
pub record IsDirectory (pages : List (List ℕ)) (header : Header) (index firsts : List ℕ) : Type 0 where
  pub none : index ≡ []
  pub one : firsts ≡ header.root ∷ []

-- the pages of the values of these entries
abbrev pub value_pages : List Stored → List ℕ
value_pages cells = flat_map (λ stored. stored.row) cells

-- the pages that a bucket uses: its own, and those of its values
abbrev pub pages_of : Bucket → List ℕ
pages_of bucket = bucket.row ++ value_pages bucket.cells

abbrev pub entries_of : Bucket → List Entry
entries_of bucket = map entry bucket.cells

-- The lists that are right in the version in use, which has one bucket: those of the free pages, of the pages that say where the buckets
-- begin, and of the buckets.
pub record HasForm (pages : List (List ℕ)) (header : Header) (free index : List ℕ) (buckets : List Bucket) : Type 0 where
  pub version : IsInUse header
  pub listed : IsFreeList pages header.free free
  pub directory : IsDirectory pages header index (map (λ bucket. first_of bucket.row) buckets)

-- the bytes of a key and its value, and those of their cell with the value in it
abbrev pub entry_len : Entry → ℕ
entry_len entry = length entry.0 + length entry.1

abbrev pub cell_len : Entry → ℕ
cell_len entry = CELL_HEAD + length entry.0 + length entry.1

-- the bytes of all keys and values
abbrev pub bytes_in : Map → ℕ
bytes_in m = sum_by entry_len (entries m)

-- the bytes of all cells, were each value in its cell
abbrev pub cells_len : Map → ℕ
cells_len m = sum_by cell_len (entries m)

-- the header counts the pages and the buckets
pub record HasCounts (pages : List (List ℕ)) (header : Header) (buckets : List Bucket) : Type 0 where
  pub count : header.pages ≡ length pages
  pub number : header.buckets ≡ length buckets

-- the header has the map's sums
pub record HasSums (header : Header) (m : Map) : Type 0 where
  pub keys : header.entries ≡ len m
  pub bytes : header.bytes ≡ bytes_in m

-- Pages and a header hold a map. The header stands for page 0, which is not looked at.
pub record HoldsMap (pages : List (List ℕ)) (header : Header) (m : Map) : Type 0 where
  -- the free pages, those that say where the buckets begin, and the buckets
  pub free : List ℕ
  pub index : List ℕ
  pub buckets : List Bucket
  pub form : HasForm pages header free index buckets
  pub counts : HasCounts pages header buckets
  pub sums : HasSums header m
  pub each : (i : ℕ) (bucket : Bucket) → slice_get buckets i ≡ Some bucket → IsBucket (hash_start header) pages (length buckets) i bucket
  -- each page is used exactly once
  pub used : SameNumbers (0 ∷ (index ++ (free ++ flat_map pages_of buckets))) (range_with_len 0 (length pages))
  pub same : m ≡ from_entries (flat_map entries_of buckets)

-- P of the map, where the pages are told and hold one
abbrev pub WhereHeld : Option (List (List ℕ)) → Header → (Map → Type 0) → Type 0
WhereHeld told header P = ForSome told (λ pages. (m : Map) → HoldsMap pages header m → P m)

-- the bucket of a key
pub record IsBucketFor (start : ℕ) (buckets : List Bucket) (key : List ℕ) (bucket : Bucket) : Type 0 where
  pub number : ℕ
  pub there : slice_get buckets number ≡ Some bucket
  pub is : IsBucketOf (length buckets) (fnv1a start key) number

-- the pages that the chain of a value has, where there is a value and it has a chain
abbrev pub chain_pages : Option (List ℕ) → ℕ
chain_pages None = 0
chain_pages (Some value) = if nat_le (length value) MOST_INLINE then 0 else pages_for (length value)

-- where a map is held, at most three pages were asked for besides those of the key's bucket and of its value's chain
abbrev pub AsksFew : Option (List (List ℕ)) → Header → List ℕ → ℕ → ℕ → Type 0
AsksFew told header key before now = ForSome told (λ pages. (m : Map) (held : HoldsMap pages header m) (bucket : Bucket)
    → IsBucketFor (hash_start header) held.buckets key bucket → now ≤ before + 3 + length bucket.row + chain_pages (get m key))

-- Where there were no pages, they are now those of this header and of the map with no key.
pub record IsCreated (old new : Option (List (List ℕ))) (header : Header) : Type 0 where
  pub fields : IsHeader (header_page header) header
  pub pages : new ≡ option_map (λ _. header_page header ∷ bucket_page [] 0 ∷ []) old
  pub holds : ForSome new (λ pages. HoldsMap pages header empty)
