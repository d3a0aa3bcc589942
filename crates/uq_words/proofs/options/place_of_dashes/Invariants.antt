use Rattle.std.proofs.Common.{◌≡◌, ℕ, ◌<◌, false, get_or, String, Global, string_bytes}
use Rattle.uq_words.specs.Options.{is_dashes}
use Rattle.uq_words.proofs.options.place_of_dashes.Given as goal

abbrev pub invariant-loop-at : goal.invariant-loop-at
invariant-loop-at l = (k : ℕ) (d : String Global) → k < l.at → is_dashes (string_bytes (get_or l.words k d)) ≡ false
