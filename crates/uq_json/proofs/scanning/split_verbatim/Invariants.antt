use Rattle.std.proofs.Common.{◌≡◌, ◌≤◌, ◌-◌, ◌++◌, length, take, drop}
use Rattle.uq_json.specs.Internal.Reading.{verbatim_of, behind_verbatim}
use Rattle.uq_json.proofs.scanning.split_verbatim.Given as goal

abbrev pub decreases-loop-count : goal.decreases-loop-count
decreases-loop-count l = length l.text - l.count

abbrev pub invariant-loop-count : goal.invariant-loop-count
invariant-loop-count l = record {
  within : l.count ≤ length l.text;
  verbatim : verbatim_of l.text ≡ take l.count l.text ++ verbatim_of (drop l.count l.text);
  rest : behind_verbatim l.text ≡ behind_verbatim (drop l.count l.text);
}
