use Rattle.std.proofs.Common.{List, ℕ, take, ap, ◌∙◌, arith}
use Rattle.uq_facts.specs.Written.{written}
use Rattle.uq_facts.specs.WrittenLaws.{read_written}
use Rattle.uq_page.specs.declared.layout.TheConstants.{VALUE_AT}
use Rattle.uq_page.specs.Page.{bytes_of}
use Rattle.uq_page.specs.ValuePage.{value_fields}
use Rattle.uq_page.proofs.value_page.write_value_page.Goals as goal

pub returns-clause-reads : goal.returns-clause-reads
returns-clause-reads c = record {
  next = c.head_bytes.ensures.fits;
  low = c.requires.low;
  high = c.requires.high;
  bytes = ap (take VALUE_AT) (c.put.ensures.bytes ∙ ap (λ (fields : List ℕ). written 0 fields (bytes_of c.args.page.now)) c.head_bytes.ensures.bytes)
      ∙ read_written 0 (value_fields c.args.head.now) (bytes_of c.args.page.now) (omega arith);
}
