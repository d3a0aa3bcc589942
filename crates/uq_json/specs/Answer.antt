-- What reading a JSON text answers.
use Rattle.std.specs.Prelude.{◌≡◌, ℕ, ◌≤◌, ◌<◌, ◌⊎◌, [], ◌∷◌, ◌++◌, Result, Ok, Err}
use Rattle.uq_value.specs.Data.{Bytes, Data}
use Rattle.uq_value.specs.Size.{data_size, most_size}
use Rattle.uq_value.specs.Depth.{most_depth}
use Rattle.uq_value.specs.Plain.{plain}
use Rattle.uq_value.specs.declared.value.Value.{Value}
use Rattle.uq_json.specs.Grammar.{JsonSpells}
use Rattle.uq_json.specs.Strings.{IsString}
use Rattle.uq_json.specs.declared.error.JsonFault.{JsonFault}
use Rattle.uq_json.specs.declared.error.JsonFault.TheVariants.{NotJson, TooDeep, TooLarge, Memory}

-- a text of at most so many levels begins so
abbrev pub Begins : ℕ → Bytes → Type 0
Begins levels front = (rest : Bytes) × (d : Data) × JsonSpells levels (front ++ rest) d

-- read from the left, a bracket opens the 129th level: up to it the text begins one of 128 levels; with it none
-- of 128 levels, but one of more
pub record OpensTooDeep (word : Bytes) : Type 0 where
  pub front : Bytes
  pub opening : ℕ
  pub after : Bytes
  pub parts : word ≡ front ++ opening ∷ after
  pub is_opening : (opening ≡ 0x5b) ⊎ (opening ≡ 0x7b)
  pub shallow_before : Begins most_depth front
  pub more : ℕ
  pub deeper : Begins more (front ++ opening ∷ [])
  pub too_deep : Begins most_depth (front ++ opening ∷ []) → ⊥

-- the text spells no value, and no 129th level comes
pub record IsNoJson (word : Bytes) : Type 0 where
  pub spells_none : (levels : ℕ) (d : Data) → JsonSpells levels word d → ⊥
  pub not_too_deep : OpensTooDeep word → ⊥

-- the text spells this value, within 128 levels
pub record SpellsValue (word : Bytes) (d : Data) : Type 0 where
  pub spells : JsonSpells most_depth word d
  pub small : data_size d ≤ most_size

pub record SpellsTooLarge (word : Bytes) : Type 0 where
  pub spelled : Data
  pub spells : JsonSpells most_depth word spelled
  pub large : most_size < data_size spelled

-- want of memory may always be the answer
abbrev pub JsonAnswers : Bytes → Result Value JsonFault → Type 0
JsonAnswers word (Ok v) = SpellsValue word (plain v)
JsonAnswers word (Err NotJson) = IsNoJson word
JsonAnswers word (Err TooDeep) = OpensTooDeep word
JsonAnswers word (Err TooLarge) = SpellsTooLarge word
JsonAnswers word (Err Memory) = Unit {0}

-- the same for a text that is to be a JSON string
abbrev pub AnswersString : {A : Type 0} → (A → Bytes) → Bytes → Result A JsonFault → Type 0
AnswersString view word (Ok a) = IsString word (view a)
AnswersString view word (Err NotJson) = (bs : Bytes) → IsString word bs → ⊥
AnswersString view word (Err TooDeep) = ⊥
AnswersString view word (Err TooLarge) = ⊥
AnswersString view word (Err Memory) = Unit {0}
