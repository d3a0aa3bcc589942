use Rattle.std.proofs.Common.{sym, subst}
use Rattle.jx9_parse.specs.Answers.{Gives, state, it}
use Rattle.jx9_parse.specs.Reading.{Read}
use Rattle.jx9_parse.proofs.RoomSteps.{guarded_expr}
use Rattle.jx9_parse.proofs.parser.Parser.inner_expr.Goals as goal

pub returns : goal.returns
returns g c = subst (λ (q : Read _). Gives it c.expr_within.result c.expr_within.new.self q) (sym (guarded_expr c.args.within (state c.args.self.now))) c.expr_within.ensures
