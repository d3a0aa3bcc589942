-- The string at the front of a text.
use Rattle.std.specs.Prelude.{◌≡◌, ◌↔◌, ◌++◌, Option, Some, None, Result, Ok, Err}
use Rattle.uq_value.specs.Data.{Bytes}
use Rattle.uq_json.specs.Strings.{IsString}
use Rattle.uq_json.specs.Internal.Reading.{Read, string_at}
use Rattle.uq_json.specs.declared.error.JsonFault.{JsonFault}
use Rattle.uq_json.specs.declared.error.JsonFault.TheVariants.{NotJson, TooDeep, TooLarge, Memory}

-- what was read and the text behind it, where something was
abbrev pub part_read : {A : Type 0} → Read A → Option (A × Bytes)
part_read (Ok x) = Some x
part_read (Err why) = None

-- the bytes that the string at the front of a text spells, and the text behind it
unfoldable pub string_front : Bytes → Option (Bytes × Bytes)
string_front text = part_read (string_at text)

-- these are the bytes of a front of the text that is a string, and the rest of the text; there is no other such front
abbrev pub FrontIsString : Type 0
FrontIsString = (text bs rest : Bytes) → (string_front text ≡ Some (bs, rest)) ↔ ((front : Bytes) × (text ≡ front ++ rest) × IsString front bs)

-- want of memory may always be the answer
abbrev pub SplitsString : {A : Type 0} → (A → Bytes × Bytes) → Bytes → Result A JsonFault → Type 0
SplitsString view text (Ok a) = string_front text ≡ Some (view a)
SplitsString view text (Err NotJson) = string_front text ≡ None
SplitsString view text (Err TooDeep) = ⊥
SplitsString view text (Err TooLarge) = ⊥
SplitsString view text (Err Memory) = Unit {0}
