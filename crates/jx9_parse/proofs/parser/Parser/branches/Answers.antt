use Rattle.std.proofs.Common.{sym, ◌∙◌}
use Rattle.jx9_parse.specs.Answers.{state}
use Rattle.jx9_parse.specs.Levels as levels
use Rattle.jx9_parse.proofs.BranchLoops.{branch_takes, branches_go_on, branches_begin}
use Rattle.jx9_parse.proofs.parser.Parser.branches.Goals as goal

pub loop-self-init : goal.loop-self-init
loop-self-init g c = rw c.in_ok-push.ensures.ok (rw c.new-found.ensures (branches_begin c.args.within (state c.args.self.now) (c.in_ok-first.first, state c.branch-self.new.self) c.in_ok-first.ensures))

pub loop-self-smaller : goal.loop-self-smaller
loop-self-smaller g c = branch_takes c.args.within (state c.loop-self.self) (c.in_ok-other.other, state c.other_branch.new.self) c.in_ok-other.ensures

pub loop-self-preserved : goal.loop-self-preserved
loop-self-preserved g c = rw c.in_ok-push-2.ensures.ok
    (branches_go_on c.args.within c.loop-self.found (state c.loop-self.self) (c.in_ok-other.other, state c.other_branch.new.self) (levels.branches c.args.within (state c.args.self.now)) (sym c.next_is_keyword.ensures ∙ c.loop-self-test.true) c.in_ok-other.ensures c.loop-self.invariant)
