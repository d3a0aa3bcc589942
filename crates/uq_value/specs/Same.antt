-- The two equalities.
use Rattle.std.specs.Prelude.{Bool, true, false, not, ◌&&◌, ◌||◌, if◌then◌else◌, ℤ, Option, Some, None}
use Rattle.std.specs.Ordering.{int_eq}
use Rattle.std.specs.Str.{bytes_eq}
use Rattle.uq_value.specs.Data.{Data, null, bool, int, text, sequence, mapping, Items, no_items, item, Members, no_members, member}
use Rattle.uq_value.specs.Plain.{plain}
use Rattle.uq_value.specs.Truth.{truth}
use Rattle.uq_value.specs.Number.{text_number}
use Rattle.uq_value.specs.declared.value.Value.{Value}

abbrev pub alike : Bool → Bool → Bool
alike a b = if a then b else not b

-- the same kind and content, members in the same order
abbrev mutual
  pub data_same : Data → Data → Bool
  data_same null null = true
  data_same (bool a) (bool b) = alike a b
  data_same (int a) (int b) = int_eq a b
  data_same (text a) (text b) = bytes_eq a b
  data_same (sequence ds) (sequence es) = items_same ds es
  data_same (mapping ms) (mapping ns) = members_same ms ns
  data_same _ _ = false

  pub items_same : Items → Items → Bool
  items_same no_items no_items = true
  items_same (item d ds) (item e es) = data_same d e && items_same ds es
  items_same _ _ = false

  pub members_same : Members → Members → Bool
  members_same no_members no_members = true
  members_same (member n d ms) (member o e ns) = bytes_eq n o && data_same d e && members_same ms ns
  members_same _ _ = false

-- `===`
abbrev pub same : Value → Value → Bool
same a b = data_same (plain a) (plain b)

abbrev pub same_kind : Value → Value → Bool
same_kind Value.Null Value.Null = true
same_kind (Value.Bool a) (Value.Bool b) = true
same_kind (Value.Int a) (Value.Int b) = true
same_kind (Value.Text a) (Value.Text b) = true
same_kind (Value.List a) (Value.List b) = true
same_kind (Value.Object a) (Value.Object b) = true
same_kind _ _ = false

abbrev pub is_null_or_boolean : Value → Bool
is_null_or_boolean Value.Null = true
is_null_or_boolean (Value.Bool b) = true
is_null_or_boolean _ = false

abbrev pub has_number : Option ℤ → ℤ → Bool
has_number None b = false
has_number (Some a) b = int_eq a b

-- a number and a text, where the text's number is that number
abbrev pub same_number : Value → Value → Bool
same_number (Value.Int x) (Value.Text t) = has_number (text_number t) x
same_number (Value.Text t) (Value.Int y) = has_number (text_number t) y
same_number _ _ = false

-- `==`: the first case that fits decides
abbrev pub loose_same : Value → Value → Bool
loose_same a b =
    if same_kind a b then same a b
    else (if is_null_or_boolean a || is_null_or_boolean b then alike (truth a) (truth b) else same_number a b)
