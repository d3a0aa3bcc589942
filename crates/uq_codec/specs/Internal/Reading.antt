-- What the private functions of the reader answer: what they read from the front of the bytes, and the bytes behind
-- it. Nothing is read only where no front of the bytes spells what is asked for within the limits.
use Rattle.std.specs.Prelude.{◌≡◌, ℕ, ◌≤◌, ◌<◌, ◌∷◌, [], ◌++◌, length, Option, Some, None, Result, Ok, Err, Vec}
use Rattle.std.specs.declared.alloc.Global.{Global}
use Rattle.std.specs.Borrow.{Bor}
use Rattle.uq_value.specs.Data.{Bytes, Data, Datas, Pairs, Items, Members, list, object, sequence, mapping, items_of, members_of, list_of, pairs_of, names_of, IsDistinct}
use Rattle.uq_value.specs.Size.{data_size, most_size}
use Rattle.uq_value.specs.Depth.{data_depth}
use Rattle.uq_value.specs.Plain.{plain}
use Rattle.uq_value.specs.declared.value.Value.{Value}
use Rattle.uq_value.specs.declared.error.ValueFault.{ValueFault}
use Rattle.uq_value.specs.declared.error.ValueFault.TheVariants as value
use Rattle.uq_codec.specs.Varint.{IsVarint}
use Rattle.uq_codec.specs.Stored.{IsName, IsMember, Encodes, EncodesItems, EncodesMembers}
use Rattle.uq_codec.specs.declared.error.CodecFault.{CodecFault}
use Rattle.uq_codec.specs.declared.error.CodecFault.TheVariants.{NotCanonical, Memory}

-- a front of the bytes that spells something, and the bytes behind it
pub record Front (Word : Bytes → Type 0) (bytes rest : Bytes) : Type 0 where
  pub word : Bytes
  pub parts : bytes ≡ word ++ rest
  pub is_word : Word word

-- no front does
abbrev pub NoFront : (Bytes → Type 0) → Bytes → Type 0
NoFront Word bytes = (rest : Bytes) → Front Word bytes rest → ⊥

-- a number up to the greatest size
abbrev pub ReadsLength : Bytes → Option (ℕ × Bor Bytes) → Type 0
ReadsLength bytes (Some x) = Front (λ word. IsVarint word x.0) bytes x.1.now × (x.0 ≤ most_size)
ReadsLength bytes None = (n : ℕ) → n ≤ most_size → NoFront (λ word. IsVarint word n) bytes

-- a length and as many bytes
abbrev pub ReadsName : Bytes → Option (Bor Bytes × Bor Bytes) → Type 0
ReadsName bytes (Some x) = Front (λ word. IsName word x.0.now) bytes x.1.now × (length x.0.now ≤ most_size)
ReadsName bytes None = (name : Bytes) → length name ≤ most_size → NoFront (λ word. IsName word name) bytes

-- within a depth and the limit of size
pub record Fits (room : ℕ) (d : Data) : Type 0 where
  pub shallow : data_depth d ≤ room
  pub small : data_size d ≤ most_size

-- what a function answered is this, unless memory ran out
abbrev pub Reads : {X : Type 0} → (X → Type 0) → Type 0 → Result X CodecFault → Type 0
Reads Found NotFound (Ok x) = Found x
Reads Found NotFound (Err NotCanonical) = NotFound
Reads Found NotFound (Err Memory) = Unit {0}

-- a value of at most this depth
abbrev pub ReadsValue : ℕ → Bytes → Result (Value × Bor Bytes) CodecFault → Type 0
ReadsValue room bytes = Reads
    (λ x. Front (λ word. Encodes word (plain x.0)) bytes x.1.now × (data_depth (plain x.0) ≤ room))
    ((d : Data) → Fits room d → NoFront (λ word. Encodes word d) bytes)

-- so many items of a list of at most this depth
abbrev pub ReadsItems : ℕ → ℕ → Bytes → Result (Datas × Bor Bytes) CodecFault → Type 0
ReadsItems room count bytes = Reads
    (λ x. Front (λ word. EncodesItems word (items_of x.0)) bytes x.1.now × (length x.0 ≡ count) × (data_depth (list x.0) ≤ room))
    ((ds : Items) → length (list_of ds) ≡ count → Fits room (sequence ds) → NoFront (λ word. EncodesItems word ds) bytes)

-- the limits of a value are those of its stored form
abbrev pub Passes : ValueFault → CodecFault → Type 0
Passes value.Memory fault = fault ≡ Memory
Passes value.TooDeep fault = fault ≡ NotCanonical
Passes value.TooLarge fault = fault ≡ NotCanonical
Passes value.NotContainer fault = fault ≡ NotCanonical
Passes value.IndexRange fault = fault ≡ NotCanonical

-- an item comes to a list, unless that were too large
abbrev pub AddsItem : Datas → Datas → Data → Result (Unit {0}) CodecFault → Type 0
AddsItem before after d = Reads (λ done. after ≡ before ++ d ∷ []) (most_size < data_size (list (before ++ d ∷ [])))

-- a name and a value
abbrev pub ReadsMember : ℕ → Bytes → Result (Vec ℕ Global × Value × Bor Bytes) CodecFault → Type 0
ReadsMember room bytes = Reads
    (λ x. Front (λ word. IsMember word x.0.items (plain x.1)) bytes x.2.now × (data_depth (plain x.1) ≤ room))
    ((name : Bytes) (d : Data) → length name ≤ most_size → Fits room d → NoFront (λ word. IsMember word name d) bytes)

-- so many members of an object of at most this depth
abbrev pub ReadsMembers : ℕ → ℕ → Bytes → Result (Pairs × Bor Bytes) CodecFault → Type 0
ReadsMembers room count bytes = Reads
    (λ x. Front (λ word. EncodesMembers word (members_of x.0)) bytes x.1.now × (length x.0 ≡ count) × IsDistinct (names_of x.0) × (data_depth (object x.0) ≤ room))
    ((ms : Members) → length (pairs_of ms) ≡ count → IsDistinct (names_of (pairs_of ms)) → Fits room (mapping ms) → NoFront (λ word. EncodesMembers word ms) bytes)
