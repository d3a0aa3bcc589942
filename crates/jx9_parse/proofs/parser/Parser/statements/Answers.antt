use Rattle.std.proofs.Common.{sym, ◌∙◌}
use Rattle.jx9_parse.specs.Answers.{state}
use Rattle.jx9_parse.specs.Levels as levels
use Rattle.jx9_parse.specs.Reading.{guarded}
use Rattle.jx9_parse.specs.Rooms.{statement_within}
use Rattle.jx9_parse.specs.Statements.{statement_begins}
use Rattle.jx9_parse.proofs.RoomSteps.{statement_shrinks}
use Rattle.jx9_parse.proofs.Loops.{many_goes_on}
use Rattle.jx9_parse.proofs.parser.Parser.statements.Goals as goal

pub loop-self-smaller : goal.loop-self-smaller
loop-self-smaller g c = (statement_shrinks c.args.within) (state c.loop-self.self) (c.in_ok-statement.statement, state c.inner_statement.new.self) c.in_ok-statement.ensures

pub loop-self-preserved : goal.loop-self-preserved
loop-self-preserved g c = rw c.in_ok-push.ensures.ok
    (many_goes_on statement_begins (guarded (levels.inside c.args.within) (statement_within c.args.within)) (statement_shrinks c.args.within) c.loop-self.found (state c.loop-self.self) (c.in_ok-statement.statement, state c.inner_statement.new.self) (levels.statements c.args.within (state c.args.self.now)) (sym c.begins_statement.ensures ∙ c.loop-self-test.true) c.in_ok-statement.ensures c.loop-self.invariant)
