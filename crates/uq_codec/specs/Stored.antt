-- The stored form of a value: a byte for its kind, and what that kind keeps.
use Rattle.std.specs.Prelude.{◌≡◌, ◌-◌, ◌^◌, ◌<◌, ◌≤◌, ℤ, pos, negsuc, if◌then◌else◌, [], ◌∷◌, ◌++◌, length}
use Rattle.std.specs.Int.{w64, to_be_bytes}
use Rattle.uq_value.specs.Data.{Bytes, Data, null, bool, int, text, sequence, mapping, Items, no_items, item, Members, no_members, member, list_of, pairs_of, names_of, IsDistinct}
use Rattle.uq_value.specs.Size.{most_size}
use Rattle.uq_value.specs.Depth.{most_depth}
use Rattle.uq_value.specs.Plain.{plain, size, depth}
use Rattle.uq_value.specs.declared.value.Value.{Value}
use Rattle.uq_codec.specs.Varint.{IsVarint}

-- a whole number of 64 bits in eight bytes, the highest first, a negative one as its two's complement
abbrev pub IsWhole : Bytes → ℤ → Type 0
IsWhole word (pos n) = (n < 2 ^ 63) × (word ≡ to_be_bytes w64 n)
IsWhole word (negsuc n) = (n < 2 ^ 63) × (word ≡ to_be_bytes w64 (2 ^ 64 - 1 - n))

-- a length, and as many bytes
pub record IsName (word bytes : Bytes) : Type 0 where
  pub count : Bytes
  pub parts : word ≡ count ++ bytes
  pub is_count : IsVarint count (length bytes)

-- the bytes spell this value, its limits aside
abbrev mutual
  pub Encodes : Bytes → Data → Type 0
  Encodes word null = word ≡ 0 ∷ []
  Encodes word (bool b) = word ≡ (if b then 2 else 1) ∷ []
  Encodes word (int z) = (number : Bytes) × (word ≡ 3 ∷ number) × IsWhole number z
  Encodes word (text bytes) = (name : Bytes) × (word ≡ 4 ∷ name) × IsName name bytes
  Encodes word (sequence ds) =
      (count : Bytes) × (body : Bytes) × (word ≡ 5 ∷ (count ++ body)) × IsVarint count (length (list_of ds)) × EncodesItems body ds
  Encodes word (mapping ms) =
      (count : Bytes) × (body : Bytes) × (word ≡ 6 ∷ (count ++ body)) × IsVarint count (length (pairs_of ms)) × EncodesMembers body ms × IsDistinct (names_of (pairs_of ms))

  -- items stand one behind the other
  pub EncodesItems : Bytes → Items → Type 0
  EncodesItems word no_items = word ≡ []
  EncodesItems word (item d ds) = (front : Bytes) × (back : Bytes) × (word ≡ front ++ back) × Encodes front d × EncodesItems back ds

  -- so do members, each a name and a value
  pub EncodesMembers : Bytes → Members → Type 0
  EncodesMembers word no_members = word ≡ []
  EncodesMembers word (member name d ms) =
      (label : Bytes) × (front : Bytes) × (back : Bytes) × (word ≡ label ++ (front ++ back)) × IsName label name × Encodes front d × EncodesMembers back ms

-- one member: a name and a value
pub record IsMember (word name : Bytes) (d : Data) : Type 0 where
  pub label : Bytes
  pub front : Bytes
  pub parts : word ≡ label ++ front
  pub is_name : IsName label name
  pub is_value : Encodes front d

-- the bytes are the stored form of this value, which is within the limits
pub record IsStored (word : Bytes) (v : Value) : Type 0 where
  pub spells : Encodes word (plain v)
  pub small : size v ≤ most_size
  pub shallow : depth v ≤ most_depth
