-- The grammar of JSON (RFC 8259), and what a text spells. Numbers are whole and have 64 bits with a sign.
use Rattle.std.specs.Prelude.{◌≡◌, ℕ, zero, suc, ℤ, Bool, true, false, not, ◌||◌, ◌==◌, ◌⊎◌, List, [], ◌∷◌, ◌++◌, Some, codes}
use Rattle.std.specs.List.{list_all}
use Rattle.std.specs.Char.{is_ascii_digit}
use Rattle.uq_value.specs.Data.{Bytes, Data, Pairs, null, bool, int, text, list, object}
use Rattle.uq_value.specs.Number.{digits_value, positive, negative}
use Rattle.uq_value.specs.Put.{with_member}
use Rattle.uq_json.specs.Strings.{IsString}

-- which texts are in a part of the grammar, and what each spells
abbrev pub Language : Type 0 → Type 1
Language A = Bytes → A → Type 0

-- space, tab, line feed, carriage return
abbrev pub is_blank : ℕ → Bool
is_blank c = c == 0x20 || c == 0x09 || c == 0x0a || c == 0x0d

abbrev pub AreBlanks : Bytes → Type 0
AreBlanks word = list_all is_blank word ≡ true

-- `0`, or digits that begin with another one
abbrev pub has_no_leading_zero : Bytes → Bool
has_no_leading_zero [] = false
has_no_leading_zero (c ∷ []) = true
has_no_leading_zero (c ∷ d ∷ cs) = not (c == 0x30)

pub record IsNatural (word : Bytes) : Type 0 where
  pub digits : list_all is_ascii_digit word ≡ true
  pub leads : has_no_leading_zero word ≡ true

-- digits, perhaps behind a minus
pub data IsNumber (word : Bytes) (z : ℤ) : Type 0 where
  plain : IsNatural word → positive (Some (digits_value 0 word)) ≡ Some z → IsNumber word z
  minus : (digits : Bytes) → word ≡ 0x2d ∷ digits → IsNatural digits → negative (Some (digits_value 0 digits)) ≡ Some z → IsNumber word z

-- a value that has no parts
pub data IsScalar (word : Bytes) (d : Data) : Type 0 where
  of_null : word ≡ codes "null" → d ≡ null → IsScalar word d
  of_true : word ≡ codes "true" → d ≡ bool true → IsScalar word d
  of_false : word ≡ codes "false" → d ≡ bool false → IsScalar word d
  of_number : (z : ℤ) → IsNumber word z → d ≡ int z → IsScalar word d
  of_string : (bs : Bytes) → IsString word bs → d ≡ text bs → IsScalar word d

-- blanks may stand on both sides
pub record Padded {A : Type 0} (L : Language A) (word : Bytes) (a : A) : Type 0 where
  pub before : Bytes
  pub middle : Bytes
  pub after : Bytes
  pub parts : word ≡ before ++ (middle ++ after)
  pub blanks_before : AreBlanks before
  pub blanks_after : AreBlanks after
  pub inside : L middle a

-- one or more with a comma between them, and the closing bracket
abbrev pub Listed : {A : Type 0} → Language A → ℕ → Bytes → List A → Type 0
Listed L close word [] = ⊥
Listed L close word (a ∷ others) =
    (front : Bytes) × (back : Bytes) × (word ≡ front ++ back) × L front a
    × (((back ≡ close ∷ []) × (others ≡ [])) ⊎ ((tail : Bytes) × (back ≡ 0x2c ∷ tail) × Listed L close tail others))

-- none or more in brackets
pub data Bracketed {A : Type 0} (L : Language A) (opening close : ℕ) (word : Bytes) (xs : List A) : Type 0 where
  none : (blanks : Bytes) → word ≡ opening ∷ (blanks ++ close ∷ []) → AreBlanks blanks → xs ≡ [] → Bracketed L opening close word xs
  some : (body : Bytes) → word ≡ opening ∷ body → Listed L close body xs → Bracketed L opening close word xs

-- a name, a colon and a value
pub record IsJsonMember (value : Language Data) (word : Bytes) (m : Bytes × Data) : Type 0 where
  pub name : Bytes
  pub rest : Bytes
  pub parts : word ≡ name ++ 0x3a ∷ rest
  pub is_name : Padded IsString name m.0
  pub is_value : value rest m.1

-- a repeated member keeps its place and takes the last value
abbrev pub merged_behind : Pairs → Pairs → Pairs
merged_behind before [] = before
merged_behind before (m ∷ ms) = merged_behind (with_member m.0 m.1 before) ms

abbrev pub merged : Pairs → Pairs
merged ms = merged_behind [] ms

-- a value, of whose parts each is in the language within
pub data IsJsonValue (within : Language Data) (word : Bytes) (d : Data) : Type 0 where
  of_scalar : IsScalar word d → IsJsonValue within word d
  of_list : (ds : List Data) → Bracketed within 0x5b 0x5d word ds → d ≡ list ds → IsJsonValue within word d
  of_object : (ms : Pairs) → Bracketed (IsJsonMember within) 0x7b 0x7d word ms → d ≡ object (merged ms) → IsJsonValue within word d

-- the text spells this value, and opens at most so many levels of lists and objects
unfoldable pub JsonSpells : ℕ → Bytes → Data → Type 0
JsonSpells zero word d = Padded IsScalar word d
JsonSpells (suc k) word d = Padded (IsJsonValue (JsonSpells k)) word d
