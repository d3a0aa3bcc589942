use Rattle.std.proofs.Common.{refl, arith}
use Rattle.uq_words.specs.declared.script.Script.TheVariants as script
use Rattle.uq_words.proofs.WholeScripts.{finds_complete, takes_complete}
use Rattle.uq_words.proofs.script.read_script.Goals as goal

pub returns-then-branch-eq0-clause-finds : goal.returns-then-branch-eq0-clause-finds
returns-then-branch-eq0-clause-finds g c =
    finds_complete g.I.Source c.args.most c.args.input.now c.pieces.lines c.pieces.input c.pieces.invariant c.fill.new.self c.fill.new.input c.in_ok-fill.field-0 c.in_ok-fill.ensures
    (let some = c.pieces-test.true in omega arith) c.if-branch-eq0.true

pub returns-then-branch-eq0-clause-takes : goal.returns-then-branch-eq0-clause-takes
returns-then-branch-eq0-clause-takes g c =
    takes_complete g.I.Source c.args.most c.args.input.now c.pieces.lines c.pieces.input c.pieces.invariant c.fill.new.self c.fill.new.input c.in_ok-fill.field-0 c.in_ok-fill.ensures
    (let some = c.pieces-test.true in omega arith) c.if-branch-eq0.true (script.Complete c.fill.new.self.bytes) refl
