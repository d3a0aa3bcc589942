-- Places of members in the order of their names' keys, cut into blocks.
use Rattle.std.specs.Prelude.{◌≡◌, ◌<◌, ◌≤◌, ◌-◌, ℕ, zero, suc, Bool, true, false, MatchBool, List, [], ◌∷◌, ◌++◌, length, take, drop, slice_index_or, Vec, ◌⊎◌}
use Rattle.std.specs.List.{flat_map, AllByRecursion}
use Rattle.std.specs.declared.alloc.Global.{Global}
use Rattle.uq_value.specs.Data.{Bytes}
use Rattle.uq_value.specs.Internal.NameOrder.{key, is_before}
use Rattle.uq_value.specs.declared.blocks.Entry.{Entry}

abbrev pub Blocks : Type 0
Blocks = List (Vec Entry Global)

-- the entries of all blocks
abbrev pub entries : Blocks → List Entry
entries bs = flat_map (λ b. b.items) bs

-- the key of the name that an entry is for
abbrev pub label : List Bytes → Entry → List ℕ
label ns e = e.digest ∷ slice_index_or ns e.at []

-- all these entries come before a key, and all come behind it
abbrev pub AllBefore : List Bytes → List ℕ → List Entry → Type 0
AllBefore ns k es = AllByRecursion (λ e. is_before (label ns e) k ≡ true) es

abbrev pub AllBehind : List Bytes → List ℕ → List Entry → Type 0
AllBehind ns k es = AllByRecursion (λ e. is_before k (label ns e) ≡ true) es

-- each entry comes before those that stand behind it
abbrev pub Ascending : List Bytes → List Entry → Type 0
Ascending ns [] = Unit {0}
Ascending ns (e ∷ es) = AllBehind ns (label ns e) es × Ascending ns es

-- one of the entries is for this key
abbrev pub HasKey : List Bytes → List ℕ → List Entry → Type 0
HasKey ns k [] = ⊥
HasKey ns k (e ∷ es) = (label ns e ≡ k) ⊎ HasKey ns k es

abbrev pub AllWithin : List Bytes → List Entry → Type 0
AllWithin ns es = AllByRecursion (λ e. e.at < length ns) es

-- whether an entry is for a key
abbrev pub IsFor : Bool → List Bytes → Entry → List ℕ → Type 0
IsFor is ns e k = MatchBool is (label ns e ≡ k) (label ns e ≡ k → ⊥)

-- the last of these entries
abbrev pub last_of : List Entry → Entry → Entry
last_of es e = slice_index_or es (length es - 1) e

-- no block is empty
abbrev pub IsFilled : Blocks → Type 0
IsFilled bs = AllByRecursion (λ b. 0 < length b.items) bs

-- the entries are for names of these, in the order of their keys
pub record IsSorted (ns : List Bytes) (bs : Blocks) : Type 0 where
  pub within : AllWithin ns (entries bs)
  pub ascending : Ascending ns (entries bs)
  pub filled : IsFilled bs

-- the entries in front of a place in a block, and those from it on
abbrev pub front : Blocks → ℕ → ℕ → List Entry
front [] block at = []
front (b ∷ bs) zero at = take at b.items
front (b ∷ bs) (suc block) at = b.items ++ front bs block at

abbrev pub rest : Blocks → ℕ → ℕ → List Entry
rest [] block at = []
rest (b ∷ bs) zero at = drop at b.items ++ entries bs
rest (b ∷ bs) (suc block) at = rest bs block at

-- the entries with one more in that place
abbrev pub with_entry : Blocks → ℕ → ℕ → Entry → List Entry
with_entry bs block at e = front bs block at ++ e ∷ rest bs block at

-- an entry stands there, where it is not the end
abbrev pub IsEntry : Blocks → ℕ → ℕ → Type 0
IsEntry bs block at = (b : Vec Entry Global) → block < length bs → at < length (slice_index_or bs block b).items

-- the place is within a block, or it is the end
pub record IsPlace (bs : Blocks) (block at : ℕ) : Type 0 where
  pub block_within : block ≤ length bs
  pub at_within : (b : Vec Entry Global) → block < length bs → at ≤ length (slice_index_or bs block b).items

-- where the entry of a name belongs that has none
pub record Belongs (ns : List Bytes) (name : Bytes) (bs : Blocks) (block at : ℕ) : Type 0 where
  pub place : IsPlace bs block at
  pub front_before : AllBefore ns (key name) (front bs block at)
  pub rest_behind : AllBehind ns (key name) (rest bs block at)

-- none of these entries comes before a key
abbrev pub NoneBefore : List Bytes → List ℕ → List Entry → Type 0
NoneBefore ns k es = AllByRecursion (λ e. is_before (label ns e) k ≡ false) es

-- so many blocks come before a key as a whole, and the next one does not
pub record SplitsBlocks (ns : List Bytes) (k : List ℕ) (bs : Blocks) (block : ℕ) : Type 0 where
  pub within : block ≤ length bs
  pub front_before : AllBefore ns k (entries (take block bs))
  pub next_not : (b : Vec Entry Global) (e : Entry) → block < length bs → is_before (label ns (last_of (slice_index_or bs block b).items e)) k ≡ false

-- the entries in front of a place come before a key, and no others
pub record Splits (ns : List Bytes) (k : List ℕ) (bs : Blocks) (block at : ℕ) : Type 0 where
  pub place : IsPlace bs block at
  pub inner : IsEntry bs block at
  pub front_before : AllBefore ns k (front bs block at)
  pub rest_not : NoneBefore ns k (rest bs block at)

-- a name has no entry, and its own would stand there
pub record IsMissing (ns : List Bytes) (name : Bytes) (bs : Blocks) (block at : ℕ) : Type 0 where
  pub lacks : HasKey ns (key name) (entries bs) → ⊥
  pub belongs : Belongs ns name bs block at

-- the name that comes behind these has its entry, and so has each that had one
pub record Enters (ns : List Bytes) (name : Bytes) (old new : Blocks) : Type 0 where
  pub sorted : IsSorted (ns ++ name ∷ []) new
  pub keeps : (k : List ℕ) → HasKey ns k (entries old) → HasKey (ns ++ name ∷ []) k (entries new)
  pub has : HasKey (ns ++ name ∷ []) (key name) (entries new)

-- the entries are the same, however they are cut
pub record SameEntries (old new : Blocks) : Type 0 where
  pub same : entries new ≡ entries old
  pub filled : IsFilled new
