use Rattle.std.proofs.Common.{◌≡◌, ◌≤◌, ◌-◌, length, drop}
use Rattle.uq_words.specs.Words.{behind_blanks}
use Rattle.uq_words.proofs.reading.skip_blanks.Given as goal

abbrev pub decreases-loop-count : goal.decreases-loop-count
decreases-loop-count l = length l.text - l.count

abbrev pub invariant-loop-count : goal.invariant-loop-count
invariant-loop-count l = record {
  within : l.count ≤ length l.text;
  skips : behind_blanks (drop l.count l.text) ≡ behind_blanks l.text;
}
