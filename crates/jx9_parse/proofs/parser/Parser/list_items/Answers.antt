use Rattle.std.proofs.Common.{◌<◌, length, sym, ◌∙◌, arith}
use Rattle.jx9_syntax.specs.Grammar.{is_sign}
use Rattle.jx9_syntax.specs.declared.sign.Sign.TheVariants as sign
use Rattle.jx9_parse.specs.Answers.{state}
use Rattle.jx9_parse.specs.Levels as levels
use Rattle.jx9_parse.specs.Reading.{guarded}
use Rattle.jx9_parse.specs.Rooms.{expr_within}
use Rattle.jx9_parse.specs.Spots.{spot_of}
use Rattle.jx9_parse.proofs.Loops.{one_shrinks, listed_goes_on}
use Rattle.jx9_parse.proofs.RoomSteps.{expr_shrinks}
use Rattle.jx9_parse.proofs.parser.Parser.list_items.Goals as goal

pub loop-self-smaller : goal.loop-self-smaller
loop-self-smaller g c =
    let d : length c.inner_expr.new.self.tokens.now < length c.loop-self.self.tokens.now = expr_shrinks c.args.within (state c.loop-self.self) (c.in_ok-item.item, state c.inner_expr.new.self) c.in_ok-item.ensures in
    let f : length c.sign-in-loop-self.new.self.tokens.now < length c.inner_expr.new.self.tokens.now = one_shrinks (is_sign sign.Comma) (state c.inner_expr.new.self) (spot_of c.in_ok-sign-2.field-0, state c.sign-in-loop-self.new.self) c.in_ok-sign-2.ensures in
    omega (arith, d, f)

pub loop-self-preserved : goal.loop-self-preserved
loop-self-preserved g c = rw c.in_ok-push.ensures.ok
    (listed_goes_on sign.CloseBracket (guarded (levels.inside c.args.within) (expr_within c.args.within)) (expr_shrinks c.args.within) c.loop-self.found (state c.loop-self.self) (c.in_ok-item.item, state c.inner_expr.new.self)
    (spot_of c.in_ok-sign-2.field-0, state c.sign-in-loop-self.new.self) (levels.list_items c.args.within (state c.args.self.now)) (sym c.next_is_sign.ensures ∙ c.loop-self-test.true) c.in_ok-item.ensures
    (sym c.next_is_sign-in-loop-self.ensures ∙ c.if-not-next_is_sign.false) c.in_ok-sign-2.ensures c.loop-self.invariant)
