-- The words of the program: options, the name of a database, and the words of a command.
use Rattle.std.specs.Prelude.{ℕ, ◌^◌, Bool, false, ◌==◌, ◌&&◌, nat_le, bytes_eq, codes, if◌then◌else◌, List, [], ◌∷◌, ◌++◌, length, Option, Some, None}
use Rattle.std.specs.List.{after_first, before_first, list_any}
use Rattle.uq_value.specs.Data.{Bytes}
use Rattle.uq_value.specs.Number.{unsigned}
use Rattle.uq_model.specs.declared.limits.TheConstants.{MOST_BYTES, MOST_ENTRIES}

-- what the words ask for
pub record Asked : Type 0 where
  -- units for each script
  pub budget : ℕ
  -- entries and bytes that the store may hold
  pub max_entries : ℕ
  pub max_bytes : ℕ
  -- the name of the database
  pub name : Bytes
  -- the words of a command; none where the input is to be read
  pub words : List Bytes

-- ---- the options, a row of each table for each

pub data Setting : Type 0 where
  Budget : Setting
  MaxEntries : Setting
  MaxBytes : Setting

-- the option that a word is
abbrev pub setting : Bytes → Option Setting
setting word =
    if bytes_eq word (codes "--budget") then Some Budget
    else if bytes_eq word (codes "--max-entries") then Some MaxEntries
    else if bytes_eq word (codes "--max-bytes") then Some MaxBytes
    else None

abbrev pub most_budget : ℕ
most_budget = 10 ^ 12

-- the greatest number that may be given
abbrev pub greatest : Setting → ℕ
greatest Budget = most_budget
greatest MaxEntries = MOST_ENTRIES
greatest MaxBytes = MOST_BYTES

-- the number that holds where none is given
abbrev pub usual : Setting → ℕ
usual Budget = 10 ^ 7
usual MaxEntries = MOST_ENTRIES
usual MaxBytes = MOST_BYTES

-- the numbers that were given
pub record Numbers : Type 0 where
  pub budget : Option ℕ
  pub max_entries : Option ℕ
  pub max_bytes : Option ℕ

abbrev pub no_numbers : Numbers
no_numbers = record { budget = None; max_entries = None; max_bytes = None }

abbrev pub given : Setting → Numbers → Option ℕ
given Budget numbers = numbers.budget
given MaxEntries numbers = numbers.max_entries
given MaxBytes numbers = numbers.max_bytes

abbrev pub give : Setting → ℕ → Numbers → Numbers
give Budget n numbers = record { budget = Some n; max_entries = numbers.max_entries; max_bytes = numbers.max_bytes }
give MaxEntries n numbers = record { budget = numbers.budget; max_entries = Some n; max_bytes = numbers.max_bytes }
give MaxBytes n numbers = record { budget = numbers.budget; max_entries = numbers.max_entries; max_bytes = Some n }

abbrev pub or_else : Option ℕ → ℕ → ℕ
or_else None other = other
or_else (Some n) other = n

abbrev pub value_of : Setting → Numbers → ℕ
value_of setting numbers = or_else (given setting numbers) (usual setting)

-- ---- numbers of options

-- decimal digits alone, for a number from 1 to the most
abbrev pub within : ℕ → Option ℕ → Option ℕ
within most None = None
within most (Some n) = if nat_le 1 n && nat_le n most then Some n else None

abbrev pub number : ℕ → Bytes → Option ℕ
number most text = within most (unsigned text)

-- a number that was not given before
abbrev pub once : Option ℕ → Option ℕ → Option ℕ
once (Some before) given = None
once None given = given

-- the number that an option gives behind these
abbrev pub gives : Numbers → Setting → Bytes → Option ℕ
gives numbers it text = once (given it numbers) (number (greatest it) text)

-- ---- the name and the words of a command

abbrev pub begins_with_dash : Bytes → Bool
begins_with_dash [] = false
begins_with_dash (c ∷ cs) = c == 0x2d

abbrev pub is_dashes : Bytes → Bool
is_dashes word = bytes_eq word (codes "--")

-- the words without the first `--`; before it none begins with a dash
abbrev pub plain : List Bytes → Option (List Bytes)
plain words =
    let before = before_first is_dashes words in
    if list_any begins_with_dash before then None else Some (before ++ after_first is_dashes words)

-- the name of the database is not empty
abbrev pub named : Numbers → Option (List Bytes) → Option Asked
named numbers None = None
named numbers (Some []) = None
named numbers (Some (name ∷ words)) =
    if length name == 0 then None
    else Some (record {
      budget = value_of Budget numbers;
      max_entries = value_of MaxEntries numbers;
      max_bytes = value_of MaxBytes numbers;
      name = name;
      words = words;
    })

-- ---- options

abbrev pub with_number : Option ℕ → (ℕ → Option Asked) → Option Asked
with_number None next = None
with_number (Some n) next = next n

-- what an option and its number ask for, or words that begin with no option
abbrev pub with_setting : Option Setting → (Setting → Option Asked) → Option Asked → Option Asked
with_setting None next others = others
with_setting (Some setting) next others = next setting

-- words behind options that gave these numbers: further options, and then the others
abbrev pub order_behind : Numbers → List Bytes → Option Asked
order_behind numbers [] = None
order_behind numbers (word ∷ []) = named numbers (plain (word ∷ []))
order_behind numbers (word ∷ text ∷ words) =
    with_setting (setting word)
    (λ it. with_number (gives numbers it text) (λ n. order_behind (give it n numbers) words))
    (named numbers (plain (word ∷ text ∷ words)))

-- the words, where they are in form
unfoldable pub order_of_words : List Bytes → Option Asked
order_of_words words = order_behind no_numbers words
