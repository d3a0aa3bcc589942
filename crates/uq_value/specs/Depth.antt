-- The depth of a value: how deep lists and objects nest in it.
use Rattle.std.specs.Prelude.{ℕ, ◌+◌, max}
use Rattle.uq_value.specs.Data.{Data, null, bool, int, text, sequence, mapping, Items, no_items, item, Members, no_members, member}

-- no value is deeper
abbrev pub most_depth : ℕ
most_depth = 128

abbrev mutual
  pub data_depth : Data → ℕ
  data_depth null = 0
  data_depth (bool b) = 0
  data_depth (int z) = 0
  data_depth (text bs) = 0
  data_depth (sequence ds) = 1 + items_depth ds
  data_depth (mapping ms) = 1 + members_depth ms

  pub items_depth : Items → ℕ
  items_depth no_items = 0
  items_depth (item d ds) = max (data_depth d) (items_depth ds)

  pub members_depth : Members → ℕ
  members_depth no_members = 0
  members_depth (member name d ms) = max (data_depth d) (members_depth ms)
