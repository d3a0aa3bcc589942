use Rattle.std.proofs.Common.{◌≡◌, ◌-◌, Result, Err, Ok, length, length-drop, refl, sym, ap, subst, ◌∙◌, arith}
use Rattle.std.proofs.lemmas.Result.{err_from_is_err_and}
use Rattle.uq_words.specs.Taking.{FindsWithin, left_of, most_of, pending}
use Rattle.uq_words.specs.declared.error.InputFault.{InputFault}
use Rattle.uq_words.specs.declared.lines.Step.{Step}
use Rattle.uq_words.specs.declared.lines.Step.TheVariants.{Line, Last, TooMuch}
use Rattle.uq_words.proofs.Advancing.{cuts_last, cuts_line, found_since, most_on, no_feed_left, none_on, room_on, stops_at, stops_full, within_on}
use Rattle.uq_words.proofs.Pieces.{going_here, going_on, takes_fault, takes_full, takes_last, takes_line, takes_on}
use Rattle.uq_words.proofs.Shorter.{cuts_shorter}
use Rattle.uq_words.proofs.lines.Lines.take_line.Goals as goal

pub pieces-init : goal.pieces-init
pieces-init g c = record {
  within = omega arith;
  none = λ k d less. absurd (omega (arith, less));
  left = refl;
  most = refl;
  going = going_here g.I.Source c.args.self.now c.args.input.now;
}

pub returns-then-end-len-clause-finds : goal.returns-then-end-len-clause-finds
returns-then-end-len-clause-finds g c =
    found_since g.I.Source c.args.limit (Ok Line) _ _ _ _ c.cut.new.self c.pieces.input c.pieces.invariant.left c.pieces.invariant.most
    (cuts_line g.I.Source c.args.limit c.pieces.self c.cut.new.self c.pieces.input c.line_end-end.result c.line_end-end.ensures.place
    (let less = c.if-end-len.true in let all = c.len.ensures in omega arith) c.cut.ensures)

pub returns-then-end-len-clause-takes : goal.returns-then-end-len-clause-takes
returns-then-end-len-clause-takes g c =
    takes_on g.I.Source c.args.self.now c.args.input.now c.pieces.self c.pieces.input c.pieces.invariant.going (Ok Line) c.cut.new.self c.pieces.input
    (takes_line g.I.Source c.pieces.self c.cut.new.self c.pieces.input c.cut.ensures.room)

pub returns-then-searched-limit-clause-finds : goal.returns-then-searched-limit-clause-finds
returns-then-searched-limit-clause-finds g c =
    let past = c.if-end-len.false in
    let all = c.len.ensures in
    let more = c.if-searched-limit.true in
    let count : length (pending c.pieces.self) ≡ length c.pieces.self.bytes.items - c.pieces.self.next = length-drop c.pieces.self.next c.pieces.self.bytes.items in
    found_since g.I.Source c.args.limit c.skip.result _ _ _ _ c.skip.new.self c.skip.new.input c.pieces.invariant.left c.pieces.invariant.most
    (c.skip.ensures.passes (no_feed_left c.pieces.self c.line_end-end.result c.line_end-end.ensures.place (omega arith)) (omega arith))

pub returns-then-searched-limit-clause-takes : goal.returns-then-searched-limit-clause-takes
returns-then-searched-limit-clause-takes g c =
    takes_on g.I.Source c.args.self.now c.args.input.now c.pieces.self c.pieces.input c.pieces.invariant.going c.skip.result c.skip.new.self c.skip.new.input c.skip.ensures.takes

pub returns-then-self-eq0-clause-finds : goal.returns-then-self-eq0-clause-finds
returns-then-self-eq0-clause-finds g c =
    let past = c.if-end-len.false in
    let all = c.len.ensures in
    found_since g.I.Source c.args.limit (Ok TooMuch) _ _ _ _ c.pieces.self c.pieces.input c.pieces.invariant.left c.pieces.invariant.most
    (stops_full g.I.Source c.args.limit c.pieces.self c.pieces.input (no_feed_left c.pieces.self c.line_end-end.result c.line_end-end.ensures.place (omega arith)) c.if-self-eq0.true)

pub returns-then-self-eq0-clause-takes : goal.returns-then-self-eq0-clause-takes
returns-then-self-eq0-clause-takes g c =
    takes_on g.I.Source c.args.self.now c.args.input.now c.pieces.self c.pieces.input c.pieces.invariant.going (Ok TooMuch) c.pieces.self c.pieces.input
    (takes_full g.I.Source c.pieces.self c.pieces.self c.pieces.input refl c.if-self-eq0.true)

pub returns-in_err-fill-clause-finds : goal.returns-in_err-fill-clause-finds
returns-in_err-fill-clause-finds g c =
    let p = err_from_is_err_and c.from_residual.result c.from_residual.ensures.1 in
    let past = c.if-end-len.false in
    let all = c.len.ensures in
    subst (λ (r : Result Step InputFault). FindsWithin g.I.Source c.args.limit r (left_of g.I.Source c.args.self.now c.args.input.now) (most_of c.args.self.now) c.fill.new.self c.fill.new.input)
    (sym (p.1 ∙ ap (λ (e : InputFault). Err e) p.2)) (found_since g.I.Source c.args.limit (Err c.in_err-fill.field-0.0) _ _ _ _ c.fill.new.self c.fill.new.input c.pieces.invariant.left c.pieces.invariant.most
    (stops_at g.I.Source c.args.limit c.pieces.self c.fill.new.self c.pieces.input c.fill.new.input c.in_err-fill.field-0.0
    (no_feed_left c.pieces.self c.line_end-end.result c.line_end-end.ensures.place (omega arith)) c.in_err-fill.ensures))

pub returns-in_err-fill-clause-takes : goal.returns-in_err-fill-clause-takes
returns-in_err-fill-clause-takes g c =
    let p = err_from_is_err_and c.from_residual.result c.from_residual.ensures.1 in
    rw (p.1, p.2) (takes_on g.I.Source c.args.self.now c.args.input.now c.pieces.self c.pieces.input c.pieces.invariant.going (Err c.in_err-fill.field-0.0) c.fill.new.self c.fill.new.input
    (takes_fault g.I.Source c.pieces.self c.fill.new.self c.pieces.input c.fill.new.input c.in_err-fill.field-0.0 c.in_err-fill.ensures))

pub returns-then-branch-eq0-clause-finds : goal.returns-then-branch-eq0-clause-finds
returns-then-branch-eq0-clause-finds g c =
    let past = c.if-end-len.false in
    let all = c.len.ensures in
    found_since g.I.Source c.args.limit (Ok Last) _ _ _ _ c.cut-then-branch-eq0.new.self c.fill.new.input c.pieces.invariant.left c.pieces.invariant.most
    (cuts_last g.I.Source c.args.limit c.pieces.self c.fill.new.self c.cut-then-branch-eq0.new.self c.pieces.input c.fill.new.input c.in_ok-fill.field-0 c.len-end.result
    (no_feed_left c.pieces.self c.line_end-end.result c.line_end-end.ensures.place (omega arith)) (let some = c.if-self-eq0.false in omega arith) c.if-branch-eq0.true c.in_ok-fill.ensures
    (let whole = c.len-end.ensures in omega arith) c.cut-then-branch-eq0.ensures)

pub returns-then-branch-eq0-clause-takes : goal.returns-then-branch-eq0-clause-takes
returns-then-branch-eq0-clause-takes g c =
    takes_on g.I.Source c.args.self.now c.args.input.now c.pieces.self c.pieces.input c.pieces.invariant.going (Ok Last) c.cut-then-branch-eq0.new.self c.fill.new.input
    (takes_last g.I.Source c.pieces.self c.fill.new.self c.cut-then-branch-eq0.new.self c.pieces.input c.fill.new.input c.in_ok-fill.field-0 c.in_ok-fill.ensures c.if-branch-eq0.true
    c.cut-then-branch-eq0.ensures.room)

pub returns-then-end-len-clause-shorter : goal.returns-then-end-len-clause-shorter
returns-then-end-len-clause-shorter g c = λ _.
    let place = c.line_end-end.ensures.place in
    let less = c.if-end-len.true in
    let all = c.len.ensures in
    let most = c.pieces.invariant.most in
    let here = cuts_shorter c.args.limit c.pieces.self c.cut.new.self c.line_end-end.result (omega arith) (omega arith) c.cut.ensures in
    omega arith

pub returns-then-searched-limit-clause-shorter : goal.returns-then-searched-limit-clause-shorter
returns-then-searched-limit-clause-shorter g c = λ is.
    let most = c.pieces.invariant.most in
    let here = c.skip.ensures.shorter is in
    omega arith

pub returns-then-self-eq0-clause-shorter : goal.returns-then-self-eq0-clause-shorter
returns-then-self-eq0-clause-shorter g c = λ is. absurd (cc)

pub returns-in_err-fill-clause-shorter : goal.returns-in_err-fill-clause-shorter
returns-in_err-fill-clause-shorter g c =
    let p = err_from_is_err_and c.from_residual.result c.from_residual.ensures.1 in
    λ is. absurd (cc)

pub returns-then-branch-eq0-clause-shorter : goal.returns-then-branch-eq0-clause-shorter
returns-then-branch-eq0-clause-shorter g c = λ is. absurd (cc)

pub pieces-smaller : goal.pieces-smaller
pieces-smaller g c =
    room_on g.I.Source c.args.limit c.pieces.self c.fill.new.self c.pieces.input c.fill.new.input c.in_ok-fill.field-0 c.in_ok-fill.ensures (let some = c.if-branch-eq0.false in omega arith)

pub pieces-preserved : goal.pieces-preserved
pieces-preserved g c =
    let past = c.if-end-len.false in
    let all = c.len.ensures in
    let every = c.len-in-pieces.ensures in
    record {
      within = within_on g.I.Source c.args.limit c.pieces.self c.fill.new.self c.pieces.input c.fill.new.input c.in_ok-fill.field-0 c.in_ok-fill.ensures _ (omega arith);
      none = none_on g.I.Source c.args.limit c.pieces.self c.fill.new.self c.pieces.input c.fill.new.input c.in_ok-fill.field-0 c.in_ok-fill.ensures _ (omega arith)
          (no_feed_left c.pieces.self c.line_end-end.result c.line_end-end.ensures.place (omega arith));
      left = c.in_ok-fill.ensures.left ∙ c.pieces.invariant.left;
      most = most_on g.I.Source c.args.limit c.pieces.self c.fill.new.self c.pieces.input c.fill.new.input c.in_ok-fill.field-0 c.in_ok-fill.ensures ∙ c.pieces.invariant.most;
      going = going_on g.I.Source c.args.self.now c.args.input.now c.pieces.self c.pieces.input c.pieces.invariant.going c.fill.new.self c.fill.new.input c.in_ok-fill.field-0
          c.in_ok-fill.ensures (let some = c.if-branch-eq0.false in omega arith);
    }
