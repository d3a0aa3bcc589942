use Rattle.std.proofs.Common.{arith}
use Rattle.uq_value.proofs.Puts.{too_many, put_ok, put_refused}
use Rattle.uq_value.proofs.writing.put.Goals as goal

pub returns-then-steps-depth-clause-refused : goal.returns-then-steps-depth-clause-refused
returns-then-steps-depth-clause-refused c =
    rw c.unwrap_or.ensures (too_many c.args.steps.now c.args.new c.args.root.now (omega (arith, c.if-steps-depth.true, c.depth.ensures.depth, c.depth.ensures.fits)) c.first_fault.result c.first_fault.ensures)

pub returns-clause-ok : goal.returns-clause-ok
returns-clause-ok c =
    put_ok c.args.steps.now c.args.new c.args.root.now (omega (arith, c.if-steps-depth.false, c.depth.ensures.depth, c.depth.ensures.fits)) c.is_value.ensures.shallow c.write.result c.write.new.v c.write.ensures.ok

pub returns-clause-refused : goal.returns-clause-refused
returns-clause-refused c =
    put_refused c.args.steps.now c.args.new c.args.root.now (omega (arith, c.if-steps-depth.false, c.depth.ensures.depth, c.depth.ensures.fits)) c.is_value.ensures.shallow c.write.result c.write.ensures.refused
