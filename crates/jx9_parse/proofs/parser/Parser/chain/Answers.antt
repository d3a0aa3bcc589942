use Rattle.std.proofs.Common.{◌+◌, Result, refl, sym, ◌∙◌}
use Rattle.jx9_syntax.specs.declared.expression.Expr.{Expr}
use Rattle.jx9_parse.specs.Answers.{Gives, state, it}
use Rattle.jx9_parse.specs.Chains.{open_chains, operator_of}
use Rattle.jx9_parse.specs.Levels as levels
use Rattle.jx9_parse.specs.declared.stop.Stop.{Stop}
use Rattle.jx9_parse.proofs.ChainLoops.{unary_shrinks, link_shrinks, loop_starts, loop_closes, loop_opens, loop_stops, loop_stops_within, loop_ends, turn_shrinks}
use Rattle.jx9_parse.proofs.Descents.{as_err}
use Rattle.jx9_parse.proofs.parser.Parser.chain.Goals as goal

pub loop-level-init : goal.loop-level-init
loop-level-init g c = loop_starts (levels.unary c.args.within) (open_chains c.new-open.result.chains) c.args.first (state c.args.self.now) c.new-open.ensures

pub loop-level-preserved-then-not-next_is_operator : goal.loop-level-preserved-then-not-next_is_operator
loop-level-preserved-then-not-next_is_operator g c = loop_closes (levels.unary c.args.within) (link_shrinks c.args.within) (levels.chain c.args.within c.args.first (state c.args.self.now))
    c.loop-level.level (c.loop-level.level + 1) (open_chains c.loop-level.open.chains) (open_chains c.close.new.self.chains) c.loop-level.operand c.in_ok-operand.operand (state c.loop-level.self)
    refl c.loop-level-test.true (sym c.next_is_operator.ensures ∙ c.if-not-next_is_operator.true) c.close.ensures.rest c.in_ok-operand.ensures.ok c.loop-level.invariant

pub returns-in_err-operator : goal.returns-in_err-operator
returns-in_err-operator g c = as_err (λ (r : Result Expr Stop). Gives it r c.operator.new.self (levels.chain c.args.within c.args.first (state c.args.self.now))) c.from_residual-in_err-operator.result c.in_err-operator.field-0.0 c.from_residual-in_err-operator.ensures.1
    (loop_stops (levels.unary c.args.within) (link_shrinks c.args.within) (levels.chain c.args.within c.args.first (state c.args.self.now))
    c.loop-level.level (c.loop-level.level + 1) (open_chains c.loop-level.open.chains) c.loop-level.operand (state c.loop-level.self) c.in_err-operator.field-0.0 c.operator.new.self
    refl c.loop-level-test.true (sym c.next_is_operator.ensures ∙ c.if-not-next_is_operator.false) c.in_err-operator.ensures c.loop-level.invariant)

pub returns-in_err-operand-2 : goal.returns-in_err-operand-2
returns-in_err-operand-2 g c = as_err (λ (r : Result Expr Stop). Gives it r c.unary.new.self (levels.chain c.args.within c.args.first (state c.args.self.now))) c.from_residual-in_err-operand-2.result c.in_err-operand-2.field-0.0 c.from_residual-in_err-operand-2.ensures.1
    (loop_stops_within (levels.unary c.args.within) (link_shrinks c.args.within) (levels.chain c.args.within c.args.first (state c.args.self.now))
    c.loop-level.level (c.loop-level.level + 1) (open_chains c.loop-level.open.chains) c.loop-level.operand (state c.loop-level.self) (operator_of c.in_ok-operator.operator, state c.operator.new.self) c.in_err-operand-2.field-0.0 c.unary.new.self
    refl c.loop-level-test.true (sym c.next_is_operator.ensures ∙ c.if-not-next_is_operator.false) c.in_ok-operator.ensures c.in_err-operand-2.ensures c.loop-level.invariant)

pub loop-level-smaller : goal.loop-level-smaller
loop-level-smaller g c = turn_shrinks (levels.unary c.args.within) (unary_shrinks c.args.within) c.loop-level.level (c.loop-level.level + 1) (state c.loop-level.self) (operator_of c.in_ok-operator.operator, state c.operator.new.self)
    (c.in_ok-operand-2.operand, state c.unary.new.self) c.in_ok-operator.ensures c.in_ok-operand-2.ensures

pub loop-level-preserved : goal.loop-level-preserved
loop-level-preserved g c = loop_opens (levels.unary c.args.within) (link_shrinks c.args.within) (levels.chain c.args.within c.args.first (state c.args.self.now))
    c.loop-level.level (c.loop-level.level + 1) (open_chains c.loop-level.open.chains) (open_chains c.go_on.new.self.chains) c.loop-level.operand (state c.loop-level.self) (operator_of c.in_ok-operator.operator, state c.operator.new.self)
    (c.in_ok-operand-2.operand, state c.unary.new.self)
    refl c.loop-level-test.true (sym c.next_is_operator.ensures ∙ c.if-not-next_is_operator.false) c.in_ok-operator.ensures c.in_ok-operand-2.ensures c.in_ok-go_on.ensures.ok c.loop-level.invariant

pub returns : goal.returns
returns g c = loop_ends (levels.unary c.args.within) (levels.chain c.args.within c.args.first (state c.args.self.now))
    c.loop-level.level (open_chains c.loop-level.open.chains) c.loop-level.operand (state c.loop-level.self) c.loop-level-test.false c.loop-level.invariant
