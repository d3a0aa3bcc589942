use Rattle.uq_page.proofs.BucketLemmas.{one_bucket_head}
use Rattle.uq_page.proofs.CellLemmas.{one_cell}
use Rattle.uq_page.proofs.HeaderLemmas.{one_header}
use Rattle.uq_page.proofs.laws.bytes_tell_fields.Goals as goal

pub returns : goal.returns
returns c = record { header = one_header; bucket = one_bucket_head; cell = one_cell }
