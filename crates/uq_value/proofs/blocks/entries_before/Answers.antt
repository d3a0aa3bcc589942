use Rattle.std.proofs.Common.{arith, sym, ◌∙◌, add-one}
use Rattle.uq_value.specs.Internal.Names.{names}
use Rattle.uq_value.proofs.Searches.{take-before, drop-none}
use Rattle.uq_value.proofs.blocks.entries_before.Goals as goal

pub loop-low-preserved-then-is_before : goal.loop-low-preserved-then-is_before
loop-low-preserved-then-is_before c = record {
  order = omega arith;
  bound = omega arith;
  before = rw add-one (take-before (names c.args.members.now) _ c.args.entries.now _ _ c.requires.ascending (omega arith) (sym c.is_before.ensures ∙ c.if-is_before.true));
  rest = c.loop-low.invariant.rest;
}

pub loop-low-preserved : goal.loop-low-preserved
loop-low-preserved c = record {
  order = omega arith;
  bound = omega arith;
  before = c.loop-low.invariant.before;
  rest = drop-none (names c.args.members.now) _ c.args.entries.now _ _ c.requires.ascending (omega arith) (sym c.is_before.ensures ∙ c.if-is_before.false);
}
