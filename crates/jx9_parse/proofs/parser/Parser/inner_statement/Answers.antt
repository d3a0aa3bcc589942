use Rattle.std.proofs.Common.{sym, subst}
use Rattle.jx9_parse.specs.Answers.{Gives, state, it}
use Rattle.jx9_parse.specs.Reading.{Read}
use Rattle.jx9_parse.proofs.RoomSteps.{guarded_statement}
use Rattle.jx9_parse.proofs.parser.Parser.inner_statement.Goals as goal

pub returns : goal.returns
returns g c = subst (λ (q : Read _). Gives it c.statement_within.result c.statement_within.new.self q) (sym (guarded_statement c.args.within (state c.args.self.now))) c.statement_within.ensures
