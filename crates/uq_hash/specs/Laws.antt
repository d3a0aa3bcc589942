-- What follows from the layout alone.
use Rattle.std.specs.Prelude.{◌≡◌, ℕ, ◌+◌, ◌*◌, List, [], ◌∷◌, length, sum_by, slice_set, Option, None, Some}
use Rattle.std.specs.FinMap.{get, insert, len, remove}
use Rattle.uq_page.specs.declared.header.Header.{Header}
use Rattle.uq_page.specs.declared.layout.TheConstants.{CELL_HEAD}
use Rattle.uq_hash.specs.Map.{Entry, Map, HoldsMap, bytes_in, cells_len, entry_len}

-- the entry of a key, where it has a value
abbrev pub entry_of : List ℕ → Option (List ℕ) → List Entry
entry_of key None = []
entry_of key (Some value) = (key, value) ∷ []

-- pages and a header hold one map at most
abbrev pub OneMap : Type 0
OneMap = (pages : List (List ℕ)) (header : Header) (m n : Map) → HoldsMap pages header m → HoldsMap pages header n → m ≡ n

-- the header's own page may hold anything
abbrev pub ApartFromHeader : Type 0
ApartFromHeader = (pages : List (List ℕ)) (header : Header) (m : Map) (page : List ℕ) → HoldsMap pages header m → HoldsMap (slice_set pages 0 page) header m

-- what a map's cells take, by the sums that a header keeps
abbrev pub CellsBySums : Type 0
CellsBySums = (m : Map) → cells_len m ≡ CELL_HEAD * len m + bytes_in m

-- the sums after an insertion: the old entry of the key, where there was one, is no longer counted
abbrev pub SumsOfInsert : Type 0
SumsOfInsert =
    (m : Map) (key value : List ℕ)
    → (len (insert m key value) + length (entry_of key (get m key)) ≡ len m + 1)
    × (bytes_in (insert m key value) + sum_by entry_len (entry_of key (get m key)) ≡ bytes_in m + (length key + length value))

-- and after a removal: the entry of the key, which was there, is no longer counted
abbrev pub SumsOfRemove : Type 0
SumsOfRemove =
    (m : Map) (key value : List ℕ) → get m key ≡ Some value
    → (len (remove m key) + 1 ≡ len m)
    × (bytes_in (remove m key) + (length key + length value) ≡ bytes_in m)
