use Rattle.std.proofs.Common.{◌≡◌, ℕ, ◌<◌, false, get_or}
use Rattle.uq_words.specs.Words.{ends_bare}
use Rattle.uq_words.proofs.reading.bare_len.Given as goal

abbrev pub invariant-loop-at : goal.invariant-loop-at
invariant-loop-at l = (k : ℕ) → k < l.at → ends_bare (get_or l.text k 0) ≡ false
