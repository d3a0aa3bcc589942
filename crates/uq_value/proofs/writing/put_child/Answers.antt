use Rattle.std.proofs.Common.{arith}
use Rattle.uq_value.specs.Internal.Reaching.{key_of}
use Rattle.uq_value.proofs.Puts.{child_too_deep, child_ok, child_refused}
use Rattle.uq_value.proofs.writing.put_child.Goals as goal

pub returns-then-depth-ge-MOST_DEPTH-clause-refused : goal.returns-then-depth-ge-MOST_DEPTH-clause-refused
returns-then-depth-ge-MOST_DEPTH-clause-refused c =
    child_too_deep (key_of c.args.key) c.args.new c.args.v.now (omega (arith, c.if-depth-ge-MOST_DEPTH.true, c.depth.ensures.depth))

pub returns-clause-ok : goal.returns-clause-ok
returns-clause-ok c =
    child_ok (key_of c.args.key) c.args.new c.args.v.now (omega (arith, c.if-depth-ge-MOST_DEPTH.false, c.depth.ensures.depth)) c.is_value.ensures.shallow c.write_child.result c.write_child.new.v c.write_child.ensures.ok

pub returns-clause-refused : goal.returns-clause-refused
returns-clause-refused c =
    child_refused (key_of c.args.key) c.args.new c.args.v.now (omega (arith, c.if-depth-ge-MOST_DEPTH.false, c.depth.ensures.depth)) c.is_value.ensures.shallow c.write_child.result c.write_child.ensures.refused
