-- The worked rows, computed.
use Rattle.std.proofs.Common.{refl}
use Rattle.uq_value.specs.Size.{leb_size}
use Rattle.uq_model.specs.Rows.{NameRows, RecordRows, BatchRows, FullRows}

pub name_rows : NameRows
name_rows = record { letter = refl; underscore = refl; empty = refl; hyphen = refl }

pub record_rows : RecordRows
record_rows = record { plain = refl; moved = refl }

pub batch_rows : BatchRows
unfolding leb_size
batch_rows = record { none = refl; two = refl; one_bad = refl; last_id = refl; used_up = refl }

pub full_rows : FullRows
full_rows = record {
  reached = refl;
  one_entry_more = refl;
  one_byte_more = refl;
  nothing_grows = refl;
  entries_fall =
      refl;
}
