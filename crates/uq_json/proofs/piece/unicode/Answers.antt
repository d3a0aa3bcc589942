use Rattle.std.proofs.Common.{sym, ◌∙◌}
use Rattle.uq_json.proofs.Decoding.{unicode_reads}
use Rattle.uq_json.proofs.piece.unicode.Goals as goal

pub returns-in-Some : goal.returns-in-Some
returns-in-Some c = unicode_reads c.args.text.now c.in-Some.n c.in-len4-up.len_at_least (sym c.hex_number.ensures ∙ c.in-Some.is)
