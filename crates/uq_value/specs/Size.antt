-- The size of a value: the length of its stored form, in which a length or count is unsigned LEB128.
use Rattle.std.specs.Prelude.{ℕ, zero, suc, ◌+◌, ◌/◌, if◌then◌else◌, nat_lt, length}
use Rattle.uq_value.specs.Data.{Bytes, Data, null, bool, int, text, sequence, mapping, Items, no_items, item, Members, no_members, member, list_of, pairs_of}

-- no value has a greater size: 2^24 - 64
abbrev pub most_size : ℕ
most_size = 16777152

-- how many groups of seven bits n has, at most k beside the first
abbrev pub leb_within : ℕ → ℕ → ℕ
leb_within zero n = 1
leb_within (suc k) n = if nat_lt n 128 then 1 else 1 + leb_within k (n / 128)

-- the bytes of a length or count below 2^70
unfoldable pub leb_size : ℕ → ℕ
leb_size n = leb_within 9 n

-- a length and the bytes
abbrev pub name_size : Bytes → ℕ
name_size bs = leb_size (length bs) + length bs

-- each kind begins with a byte of its own
abbrev pub text_size : Bytes → ℕ
text_size bs = 1 + name_size bs

abbrev mutual
  pub data_size : Data → ℕ
  data_size null = 1
  data_size (bool b) = 1
  data_size (int z) = 9
  data_size (text bs) = text_size bs
  data_size (sequence ds) = 1 + leb_size (length (list_of ds)) + items_size ds
  data_size (mapping ms) = 1 + leb_size (length (pairs_of ms)) + members_size ms

  pub items_size : Items → ℕ
  items_size no_items = 0
  items_size (item d ds) = data_size d + items_size ds

  pub members_size : Members → ℕ
  members_size no_members = 0
  members_size (member name d ms) = name_size name + data_size d + members_size ms
