use Rattle.std.proofs.Common.{Result, Err, Ok, refl, sym, ap, subst, ◌∙◌, arith}
use Rattle.std.proofs.lemmas.Result.{err_from_is_err_and}
use Rattle.uq_words.specs.Taking.{Passes, text_of}
use Rattle.uq_words.specs.declared.error.InputFault.{InputFault}
use Rattle.uq_words.specs.declared.lines.Step.{Step}
use Rattle.uq_words.specs.declared.lines.Step.TheVariants.{Line, Last, TooMuch}
use Rattle.uq_words.proofs.Advancing.{most_on, no_feed_left, passes_fault, passes_full, passes_last, passes_line, passing_here, passing_on, passing_still, room_on, unkept}
use Rattle.uq_words.proofs.Pieces.{going_here, going_on, going_still, takes_fault, takes_full, takes_last, takes_line, takes_on}
use Rattle.uq_words.proofs.Shorter.{clears, goes_behind}
use Rattle.uq_words.proofs.lines.Lines.skip.Goals as goal

pub pieces-init : goal.pieces-init
pieces-init g c = record {
  passing = λ none long. passing_here g.I.Source c.args.limit c.args.self.now c.args.input.now none long;
  most = omega arith;
  going = going_here g.I.Source c.args.self.now c.args.input.now;
}

pub returns-then-self-eq0-clause-passes : goal.returns-then-self-eq0-clause-passes
returns-then-self-eq0-clause-passes g c = λ none long.
    passes_full g.I.Source c.args.limit c.args.self.now c.clear.new.self c.args.input.now c.pieces.input
    (passing_still g.I.Source c.args.limit c.args.self.now c.pieces.self c.args.input.now c.pieces.input (c.pieces.invariant.passing none long) c.clear.new.self c.clear.ensures.room)
    c.clear.new.self c.if-self-eq0.true

pub returns-then-self-eq0-clause-takes : goal.returns-then-self-eq0-clause-takes
returns-then-self-eq0-clause-takes g c =
    takes_on g.I.Source c.args.self.now c.args.input.now c.clear.new.self c.pieces.input
    (going_still g.I.Source c.args.self.now c.args.input.now c.pieces.self c.pieces.input c.pieces.invariant.going c.clear.new.self c.clear.ensures.room)
    (Ok TooMuch) c.clear.new.self c.pieces.input (takes_full g.I.Source c.clear.new.self c.clear.new.self c.pieces.input refl c.if-self-eq0.true)

pub returns-in_err-fill-clause-passes : goal.returns-in_err-fill-clause-passes
returns-in_err-fill-clause-passes g c =
    let p = err_from_is_err_and c.from_residual.result c.from_residual.ensures.1 in
    subst (λ (r : Result Step InputFault). Passes g.I.Source c.args.limit r c.args.self.now c.args.input.now c.fill.new.self c.fill.new.input)
    (sym (p.1 ∙ ap (λ (e : InputFault). Err e) p.2)) (λ none long.
    passes_fault g.I.Source c.args.limit c.args.self.now c.clear.new.self c.args.input.now c.pieces.input
    (passing_still g.I.Source c.args.limit c.args.self.now c.pieces.self c.args.input.now c.pieces.input (c.pieces.invariant.passing none long) c.clear.new.self c.clear.ensures.room)
    c.clear.ensures.pending c.fill.new.self c.fill.new.input c.in_err-fill.field-0.0 c.in_err-fill.ensures)

pub returns-in_err-fill-clause-takes : goal.returns-in_err-fill-clause-takes
returns-in_err-fill-clause-takes g c =
    let p = err_from_is_err_and c.from_residual.result c.from_residual.ensures.1 in
    rw (p.1, p.2) (takes_on g.I.Source c.args.self.now c.args.input.now c.clear.new.self c.pieces.input
    (going_still g.I.Source c.args.self.now c.args.input.now c.pieces.self c.pieces.input c.pieces.invariant.going c.clear.new.self c.clear.ensures.room)
    (Err c.in_err-fill.field-0.0) c.fill.new.self c.fill.new.input
    (takes_fault g.I.Source c.clear.new.self c.fill.new.self c.pieces.input c.fill.new.input c.in_err-fill.field-0.0 c.in_err-fill.ensures))

pub returns-then-branch-eq0-clause-passes : goal.returns-then-branch-eq0-clause-passes
returns-then-branch-eq0-clause-passes g c = λ none long.
    passes_last g.I.Source c.args.limit c.args.self.now c.clear.new.self c.args.input.now c.pieces.input
    (passing_still g.I.Source c.args.limit c.args.self.now c.pieces.self c.args.input.now c.pieces.input (c.pieces.invariant.passing none long) c.clear.new.self c.clear.ensures.room)
    c.clear.ensures.pending c.fill.new.self c.fill.new.input c.in_ok-fill.field-0 c.in_ok-fill.ensures c.if-branch-eq0.true (let some = c.if-self-eq0.false in omega arith) c.clear.ensures.text

pub returns-then-branch-eq0-clause-takes : goal.returns-then-branch-eq0-clause-takes
returns-then-branch-eq0-clause-takes g c =
    takes_on g.I.Source c.args.self.now c.args.input.now c.clear.new.self c.pieces.input
    (going_still g.I.Source c.args.self.now c.args.input.now c.pieces.self c.pieces.input c.pieces.invariant.going c.clear.new.self c.clear.ensures.room)
    (Ok Last) c.fill.new.self c.fill.new.input
    (takes_last g.I.Source c.clear.new.self c.fill.new.self c.fill.new.self c.pieces.input c.fill.new.input c.in_ok-fill.field-0 c.in_ok-fill.ensures c.if-branch-eq0.true refl)

pub returns-then-end-len-clause-passes : goal.returns-then-end-len-clause-passes
returns-then-end-len-clause-passes g c = λ none long.
    passes_line g.I.Source c.args.limit c.args.self.now c.clear.new.self c.args.input.now c.pieces.input
    (passing_still g.I.Source c.args.limit c.args.self.now c.pieces.self c.args.input.now c.pieces.input (c.pieces.invariant.passing none long) c.clear.new.self c.clear.ensures.room)
    c.clear.ensures.pending c.fill.new.self c.fill.new.input c.in_ok-fill.field-0 c.in_ok-fill.ensures c.line_end-end.result (text_of c.fill.new.self) c.line_end-end.ensures.place
    (let less = c.if-end-len.true in let all = c.len.ensures in omega arith) (unkept c.fill.new.self (c.in_ok-fill.ensures.kept ∙ c.clear.ensures.text))

pub returns-then-end-len-clause-takes : goal.returns-then-end-len-clause-takes
returns-then-end-len-clause-takes g c =
    takes_on g.I.Source c.args.self.now c.args.input.now c.fill.new.self c.fill.new.input
    (going_on g.I.Source c.args.self.now c.args.input.now c.clear.new.self c.pieces.input
    (going_still g.I.Source c.args.self.now c.args.input.now c.pieces.self c.pieces.input c.pieces.invariant.going c.clear.new.self c.clear.ensures.room)
    c.fill.new.self c.fill.new.input c.in_ok-fill.field-0 c.in_ok-fill.ensures (let some = c.if-branch-eq0.false in omega arith))
    (Ok Line) _ c.fill.new.input (takes_line g.I.Source c.fill.new.self _ c.fill.new.input refl)

pub returns-then-self-eq0-clause-shorter : goal.returns-then-self-eq0-clause-shorter
returns-then-self-eq0-clause-shorter g c = λ is. absurd (cc)

pub returns-in_err-fill-clause-shorter : goal.returns-in_err-fill-clause-shorter
returns-in_err-fill-clause-shorter g c =
    let p = err_from_is_err_and c.from_residual.result c.from_residual.ensures.1 in
    λ is. absurd (cc)

pub returns-then-branch-eq0-clause-shorter : goal.returns-then-branch-eq0-clause-shorter
returns-then-branch-eq0-clause-shorter g c = λ is. absurd (cc)

pub returns-then-end-len-clause-shorter : goal.returns-then-end-len-clause-shorter
returns-then-end-len-clause-shorter g c = λ _.
    let place = c.line_end-end.ensures.place in
    let less = c.if-end-len.true in
    let all = c.len.ensures in
    let none = clears c.pieces.self c.clear.new.self c.clear.ensures in
    let more = most_on g.I.Source c.args.limit c.clear.new.self c.fill.new.self c.pieces.input c.fill.new.input c.in_ok-fill.field-0 c.in_ok-fill.ensures in
    let most = c.pieces.invariant.most in
    let here = goes_behind c.fill.new.self.bytes.items c.fill.new.self.next c.line_end-end.result c.fill.new.self.room (omega arith) (omega arith) in
    omega arith

pub pieces-smaller : goal.pieces-smaller
pieces-smaller g c =
    let room = c.clear.ensures.room in
    let less = room_on g.I.Source c.args.limit c.clear.new.self c.fill.new.self c.pieces.input c.fill.new.input c.in_ok-fill.field-0 c.in_ok-fill.ensures (let some = c.if-branch-eq0.false in omega arith) in
    omega arith

pub pieces-preserved : goal.pieces-preserved
pieces-preserved g c =
    let past = c.if-end-len.false in
    let all = c.len.ensures in
    record {
      passing = λ none long.
          passing_on g.I.Source c.args.limit c.args.self.now c.clear.new.self c.args.input.now c.pieces.input
          (passing_still g.I.Source c.args.limit c.args.self.now c.pieces.self c.args.input.now c.pieces.input (c.pieces.invariant.passing none long) c.clear.new.self c.clear.ensures.room)
          c.clear.ensures.pending c.fill.new.self c.fill.new.input c.in_ok-fill.field-0 c.in_ok-fill.ensures
          (no_feed_left c.fill.new.self c.line_end-end.result c.line_end-end.ensures.place (omega arith));
      most =
          let none = clears c.pieces.self c.clear.new.self c.clear.ensures in
          let more = most_on g.I.Source c.args.limit c.clear.new.self c.fill.new.self c.pieces.input c.fill.new.input c.in_ok-fill.field-0 c.in_ok-fill.ensures in
          let most = c.pieces.invariant.most in
          omega arith;
      going = going_on g.I.Source c.args.self.now c.args.input.now c.clear.new.self c.pieces.input
          (going_still g.I.Source c.args.self.now c.args.input.now c.pieces.self c.pieces.input c.pieces.invariant.going c.clear.new.self c.clear.ensures.room)
          c.fill.new.self c.fill.new.input c.in_ok-fill.field-0 c.in_ok-fill.ensures (let some = c.if-branch-eq0.false in omega arith);
    }
