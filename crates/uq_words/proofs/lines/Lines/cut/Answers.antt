use Rattle.std.proofs.Common.{leb, length, refl, ap, ◌∙◌}
use Rattle.std.specs.Prelude.{slice_range}
use Rattle.uq_value.specs.Data.{Bytes}
use Rattle.uq_words.specs.Lines.{without_return}
use Rattle.uq_words.proofs.Cutting.{cut_text}
use Rattle.uq_words.proofs.lines.Lines.cut.Goals as goal

pub returns : goal.returns
returns c = record {
  bytes = c.give.ensures.bytes;
  begins = c.give.ensures.begins;
  room = c.give.ensures.room;
  text =
      c.give.ensures.text
      ∙ cut_text c.args.self.now.bytes.items c.args.limit c.args.self.now.next c.args.end (length c.without_return-count.result.now)
      (ap length c.without_return-count.ensures.line ∙ ap (λ (w : Bytes). length (without_return (slice_range w c.args.self.now.next c.args.end))) c.deref.ensures.value)
      (leb (length c.without_return-count.result.now) c.args.limit) refl;
}
