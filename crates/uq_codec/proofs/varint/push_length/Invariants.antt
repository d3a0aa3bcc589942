use Rattle.uq_codec.proofs.Lengths.{HasWritten}
use Rattle.uq_codec.proofs.varint.push_length.Given as goal

abbrev pub invariant-loop-rest : goal.invariant-loop-rest
invariant-loop-rest l = HasWritten l.fn.out.items l.out.items l.rest l.n

abbrev pub decreases-loop-rest : goal.decreases-loop-rest
decreases-loop-rest l = l.rest
