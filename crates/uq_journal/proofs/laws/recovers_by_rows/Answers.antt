use Rattle.std.proofs.Common.{refl}
use Rattle.uq_journal.proofs.laws.recovers_by_rows.Goals as goal

pub returns : goal.returns
returns c = record {
  empty = refl;
  one_byte = refl;
  closed = refl;
  other_byte = refl;
  reopened = refl;
  one = refl;
  two = refl;
  twice = refl;
  torn = refl;
  torn_second = refl;
  open_behind = refl;
  past = refl;
  counts = refl;
  short = refl;
}
