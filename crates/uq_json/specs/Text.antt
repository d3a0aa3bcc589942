-- The JSON text of a value, without blanks, and its text.
use Rattle.std.specs.Prelude.{ℕ, if◌then◌else◌, List, [], ◌∷◌, ◌++◌, codes}
use Rattle.std.specs.Fmt.{signed_decimal}
use Rattle.uq_value.specs.Data.{Bytes, Data, null, bool, int, text, sequence, mapping, Items, no_items, item, Members, no_members, member}
use Rattle.uq_value.specs.Plain.{plain}
use Rattle.uq_value.specs.declared.value.Value.{Value}
use Rattle.uq_json.specs.Quote.{quoted}

-- a comma before each
abbrev pub behind_others : List Bytes → Bytes
behind_others [] = []
behind_others (p ∷ ps) = 0x2c ∷ (p ++ behind_others ps)

-- a comma between them
abbrev pub comma_separated : List Bytes → Bytes
comma_separated [] = []
comma_separated (p ∷ ps) = p ++ behind_others ps

abbrev pub bracketed : ℕ → List Bytes → ℕ → Bytes
bracketed opening ps close = opening ∷ (comma_separated ps ++ close ∷ [])

abbrev mutual
  pub json : Data → Bytes
  json null = codes "null"
  json (bool b) = if b then codes "true" else codes "false"
  json (int z) = signed_decimal z
  json (text bs) = quoted bs
  json (sequence ds) = bracketed 0x5b (item_texts ds) 0x5d
  json (mapping ms) = bracketed 0x7b (member_texts ms) 0x7d

  pub item_texts : Items → List Bytes
  item_texts no_items = []
  item_texts (item d ds) = json d ∷ item_texts ds

  pub member_texts : Members → List Bytes
  member_texts no_members = []
  member_texts (member name d ms) = (quoted name ++ 0x3a ∷ json d) ∷ member_texts ms

-- null is empty, a text is itself, all else is its JSON text
abbrev pub text_of : Value → Bytes
text_of Value.Null = []
text_of (Value.Text bs) = bs
text_of v = json (plain v)
