-- Printing the parts of a list or an object, one after the other.
use Rattle.std.specs.Prelude.{ℕ, zero, suc, [], ◌∷◌, slice_index_or}
use Rattle.uq_value.specs.Data.{Bytes, Datas, Pairs, items_of, members_of}
use Rattle.uq_json.specs.Text.{item_texts, member_texts}

-- all but the first stand behind a comma
abbrev pub comma_before : ℕ → Bytes
comma_before zero = []
comma_before (suc n) = 0x2c ∷ []

abbrev pub item_text : Datas → ℕ → Bytes
item_text ds at = slice_index_or (item_texts (items_of ds)) at []

abbrev pub member_text : Pairs → ℕ → Bytes
member_text ms at = slice_index_or (member_texts (members_of ms)) at []
