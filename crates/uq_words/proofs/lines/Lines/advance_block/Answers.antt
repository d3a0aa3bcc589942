use Rattle.std.proofs.Common.{◌≡◌, ◌-◌, ◌+◌, ◌<◌, false, Result, Err, Ok, length, length-drop, sym, ap, subst, ◌∙◌, arith}
use Rattle.std.proofs.lemmas.Result.{err_from_is_err_and}
use Rattle.std.specs.Prelude.{slice_range}
use Rattle.uq_value.specs.Data.{Bytes}
use Rattle.uq_words.specs.Blocks.{closes, longest_script}
use Rattle.uq_words.specs.Taking.{left_of, most_of}
use Rattle.uq_words.specs.TakingBlocks.{FindsBlock}
use Rattle.uq_words.specs.declared.blocks.BlockStep.{BlockStep}
use Rattle.uq_words.specs.declared.blocks.BlockStep.TheVariants.{Closed, TooMuch}
use Rattle.uq_words.specs.declared.error.InputFault.{InputFault}
use Rattle.uq_words.proofs.Advancing.{most_on}
use Rattle.uq_words.proofs.BlockFronts.{ends_block, fault_block, found_since, full_block, gives_block, inside_on, none_on, passes_inner, passes_text, searched_on, skips_block, text_on, under, under_none}
use Rattle.uq_words.proofs.Pieces.{going_on}
use Rattle.uq_words.proofs.lines.Lines.advance_block.Goals as goal

pub returns-then-closes-clause-finds : goal.returns-then-closes-clause-finds
returns-then-closes-clause-finds g c =
    let at = c.lines.invariant in
    found_since g.I.Source (Ok Closed) _ _ _ _ c.give.new.self c.lines.input at.left at.most
    (gives_block c.lines.self c.lines.line at.inner at.all_inner at.text at.inside c.line_end-end.result c.line_end-end.ensures.place
    (let less = c.if-end-len.true in let all = c.len.ensures in omega arith) c.give.new.self c.give.ensures
    (sym (c.if-closes.ensures ∙ ap (λ (w : Bytes). closes (slice_range w (c.lines.self.next + c.lines.line) c.line_end-end.result)) c.deref.ensures.value)) _)

pub lines-preserved-then-end-len : goal.lines-preserved-then-end-len
lines-preserved-then-end-len g c =
    let at = c.lines.invariant in
    let place = c.line_end-end.ensures.place in
    let less = c.if-end-len.true in
    let all = c.len.ensures in
    let within : c.line_end-end.result < length c.lines.self.bytes.items = omega arith in
    let open' : closes (slice_range c.lines.self.bytes.items (c.lines.self.next + c.lines.line) c.line_end-end.result) ≡ false
    = sym (c.if-closes.ensures ∙ ap (λ (w : Bytes). closes (slice_range w (c.lines.self.next + c.lines.line) c.line_end-end.result)) c.deref.ensures.value) in
    record {
      inner = _;
      all_inner = passes_inner c.lines.self c.lines.line at.inner at.all_inner at.text at.inside c.line_end-end.result place within open';
      text = passes_text c.lines.self c.lines.line at.inner at.all_inner at.text at.inside c.line_end-end.result place within;
      inside = omega arith;
      within = omega arith;
      none = λ k d few. absurd (omega (arith, few));
      left = at.left;
      most = at.most;
      going = at.going;
    }

pub returns-then-line-searched-clause-finds : goal.returns-then-line-searched-clause-finds
returns-then-line-searched-clause-finds g c =
    let at = c.lines.invariant in
    let past = c.if-end-len.false in
    let all = c.len.ensures in
    let every = c.len-in-lines.ensures in
    let more = c.if-line-searched.true in
    let count : length (under c.lines.self c.lines.line) ≡ length c.lines.self.bytes.items - (c.lines.self.next + c.lines.line)
    = length-drop (c.lines.self.next + c.lines.line) c.lines.self.bytes.items in
    found_since g.I.Source c.skip_block.result _ _ _ _ c.skip_block.new.self c.skip_block.new.input at.left at.most
    (skips_block c.lines.self c.lines.line at.inner at.all_inner at.text at.inside
    (under_none c.lines.self c.lines.line c.line_end-end.result at.inside c.line_end-end.ensures.place (omega arith)) g.I.Source
    (let long : longest_script + 2 < c.lines.line + length (under c.lines.self c.lines.line) = omega arith in long) c.skip_block.result _ c.skip_block.new.self c.skip_block.new.input
    c.skip_block.ensures.finds)

pub returns-then-self-eq0-clause-finds : goal.returns-then-self-eq0-clause-finds
returns-then-self-eq0-clause-finds g c =
    let at = c.lines.invariant in
    let past = c.if-end-len.false in
    let all = c.len.ensures in
    found_since g.I.Source (Ok TooMuch) _ _ _ _ c.lines.self c.lines.input at.left at.most
    (full_block c.lines.self c.lines.line at.inner at.all_inner at.text at.inside
    (under_none c.lines.self c.lines.line c.line_end-end.result at.inside c.line_end-end.ensures.place (omega arith)) c.if-self-eq0.true _)

pub returns-in_err-fill-clause-finds : goal.returns-in_err-fill-clause-finds
returns-in_err-fill-clause-finds g c =
    let at = c.lines.invariant in
    let p = err_from_is_err_and c.from_residual.result c.from_residual.ensures.1 in
    let past = c.if-end-len.false in
    let all = c.len.ensures in
    subst (λ (r : Result BlockStep InputFault). FindsBlock g.I.Source r (left_of g.I.Source c.args.self.now c.args.input.now) (most_of c.args.self.now) c.fill.new.self c.fill.new.input)
    (sym (p.1 ∙ ap (λ (e : InputFault). Err e) p.2)) (found_since g.I.Source (Err c.in_err-fill.field-0.0) _ _ _ _ c.fill.new.self c.fill.new.input at.left at.most
    (fault_block c.lines.self c.lines.line at.inner at.all_inner at.text at.inside
    (under_none c.lines.self c.lines.line c.line_end-end.result at.inside c.line_end-end.ensures.place (omega arith)) g.I.Source c.fill.new.self c.lines.input c.fill.new.input c.in_err-fill.field-0.0
    c.in_err-fill.ensures))

pub returns-then-branch-eq0-clause-finds : goal.returns-then-branch-eq0-clause-finds
returns-then-branch-eq0-clause-finds g c =
    let at = c.lines.invariant in
    let past = c.if-end-len.false in
    let all = c.len.ensures in
    found_since g.I.Source (Ok c.end_block.result) _ _ _ _ c.end_block.new.self c.fill.new.input at.left at.most
    (ends_block c.lines.self c.lines.line at.inner at.all_inner at.text at.inside
    (under_none c.lines.self c.lines.line c.line_end-end.result at.inside c.line_end-end.ensures.place (omega arith)) g.I.Source c.fill.new.self c.end_block.new.self c.lines.input c.fill.new.input
    c.in_ok-fill.field-0 c.end_block.result (let some = c.if-self-eq0.false in omega arith) c.if-branch-eq0.true c.in_ok-fill.ensures c.end_block.ensures)

pub lines-preserved : goal.lines-preserved
lines-preserved g c =
    let at = c.lines.invariant in
    let past = c.if-end-len.false in
    let all = c.len.ensures in
    let every = c.len-in-lines.ensures in
    let none = under_none c.lines.self c.lines.line c.line_end-end.result at.inside c.line_end-end.ensures.place (omega arith) in
    record {
      inner = at.inner;
      all_inner = at.all_inner;
      text = text_on c.lines.self c.lines.line at.inner at.all_inner at.text at.inside none g.I.Source c.fill.new.self c.lines.input c.fill.new.input c.in_ok-fill.field-0 c.in_ok-fill.ensures;
      inside = inside_on c.lines.self c.lines.line at.inner at.all_inner at.text at.inside none g.I.Source c.fill.new.self c.lines.input c.fill.new.input c.in_ok-fill.field-0 c.in_ok-fill.ensures;
      within = searched_on c.lines.self c.lines.line at.inner at.all_inner at.text at.inside none g.I.Source c.fill.new.self c.lines.input c.fill.new.input c.in_ok-fill.field-0 c.in_ok-fill.ensures _
          (omega arith);
      none = none_on c.lines.self c.lines.line at.inner at.all_inner at.text at.inside none g.I.Source c.fill.new.self c.lines.input c.fill.new.input c.in_ok-fill.field-0 c.in_ok-fill.ensures _
          (omega arith);
      left = c.in_ok-fill.ensures.left ∙ at.left;
      most = most_on g.I.Source longest_script c.lines.self c.fill.new.self c.lines.input c.fill.new.input c.in_ok-fill.field-0 c.in_ok-fill.ensures ∙ at.most;
      going = going_on g.I.Source c.args.self.now c.args.input.now c.lines.self c.lines.input at.going c.fill.new.self c.fill.new.input c.in_ok-fill.field-0 c.in_ok-fill.ensures
          (let some = c.if-branch-eq0.false in omega arith);
    }
