use Rattle.std.proofs.Common.{sym, ◌∙◌}
use Rattle.std.proofs.lemmas.Bool.{eqb-false}
use Rattle.uq_json.proofs.Verbatim.{bytes_pushed}
use Rattle.uq_json.proofs.decoder.Decoder.push_bytes.Goals as goal

pub returns : goal.returns
returns c =
    bytes_pushed c.args.self.now.bytes.items c.flush.new.self.bytes.items c.extend_from_slice.new.self.items c.args.bytes.now c.args.self.now.waiting c.flush.new.self.waiting
    (eqb-false _ 0 (sym c.is_empty.ensures ∙ c.if-is_empty.false)) c.in_ok-flush.ensures c.in_ok-extend_from_slice.ensures.items
