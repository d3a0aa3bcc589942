-- What a value is, as plain data.
use Rattle.std.specs.Prelude.{ℕ, Bool, false, ◌≡◌, ◌||◌, ℤ, List, [], ◌∷◌}
use Rattle.std.specs.Str.{bytes_eq}

-- a text, and the name of a member
abbrev pub Bytes : Type 0
Bytes = List ℕ

mutual
  pub data Data : Type 0 where
    null : Data
    bool : Bool → Data
    int : ℤ → Data
    text : Bytes → Data
    sequence : Items → Data
    mapping : Members → Data

  pub data Items : Type 0 where
    no_items : Items
    item : Data → Items → Items

  pub data Members : Type 0 where
    no_members : Members
    member : Bytes → Data → Members → Members

-- what is in a list, and in an object in order of first insertion
abbrev pub Datas : Type 0
Datas = List Data

abbrev pub Pairs : Type 0
Pairs = List (Bytes × Data)

abbrev pub items_of : Datas → Items
items_of [] = no_items
items_of (d ∷ ds) = item d (items_of ds)

abbrev pub list_of : Items → Datas
list_of no_items = []
list_of (item d ds) = d ∷ list_of ds

abbrev pub members_of : Pairs → Members
members_of [] = no_members
members_of (m ∷ ms) = member m.0 m.1 (members_of ms)

abbrev pub pairs_of : Members → Pairs
pairs_of no_members = []
pairs_of (member name d ms) = (name, d) ∷ pairs_of ms

-- a list, and an object
abbrev pub list : Datas → Data
list ds = sequence (items_of ds)

abbrev pub object : Pairs → Data
object ms = mapping (members_of ms)

-- no name of an object stands twice
abbrev pub is_among : Bytes → List Bytes → Bool
is_among name [] = false
is_among name (n ∷ ns) = bytes_eq n name || is_among name ns

abbrev pub IsDistinct : List Bytes → Type 0
IsDistinct [] = Unit {0}
IsDistinct (n ∷ ns) = (is_among n ns ≡ false) × IsDistinct ns

abbrev pub names_of : {D : Type 0} → List (Bytes × D) → List Bytes
names_of [] = []
names_of (m ∷ ms) = m.0 ∷ names_of ms
