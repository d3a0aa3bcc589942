use Rattle.std.proofs.Common.{◌≡◌, Bool, true, false, cond, drop, length, sym, ap, ◌∙◌}
use Rattle.uq_words.specs.Blocks.{closes}
use Rattle.uq_words.specs.Taking.{pending}
use Rattle.uq_words.specs.declared.blocks.BlockStep.TheVariants.{ClosedLast, Unfinished}
use Rattle.uq_words.proofs.BlockFronts.{last_line}
use Rattle.uq_words.proofs.lines.Lines.end_block.Goals as goal

pub returns-else-closes : goal.returns-else-closes
returns-else-closes c =
    let open' : closes (drop c.args.line (pending c.args.self.now)) ≡ false
    = ap closes (sym (last_line c.args.self.now c.args.line c.len-end.result c.deref.result.now c.deref.ensures.value
    (c.len-end.ensures ∙ sym c.deref.ensures.len ∙ ap length c.deref.ensures.value))) ∙ sym c.if-closes.ensures in
    record {
      none_left = c.clear.ensures.pending;
      room = c.clear.ensures.room;
      way = sym (ap (λ (b : Bool). cond b ClosedLast Unfinished) open');
      text = λ closed. absurd (let both : true ≡ false = sym closed ∙ open' in cc);
    }
