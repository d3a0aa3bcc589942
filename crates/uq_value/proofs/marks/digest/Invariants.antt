use Rattle.std.proofs.Common.{◌≡◌, drop}
use Rattle.uq_value.specs.Internal.NameOrder.{digest_onto}
use Rattle.uq_value.proofs.marks.digest.Given as goal

abbrev pub invariant-loop-byte : goal.invariant-loop-byte
invariant-loop-byte l = digest_onto l.digest (drop l.byte-index l.name) ≡ digest_onto 0 l.name
