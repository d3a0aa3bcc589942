use Rattle.std.proofs.Common.{◌≡◌, ◌<◌, ℕ, length, map}
use Rattle.uq_words.specs.Words.{behind_blanks, words, words_within}
use Rattle.uq_words.proofs.Splitting.{behind}
use Rattle.uq_words.proofs.reading.read_words.Given as goal

abbrev pub decreases-words : goal.decreases-words
decreases-words l = length l.rest

abbrev pub invariant-words : goal.invariant-words
invariant-words l = record {
  trimmed : behind_blanks l.rest ≡ l.rest;
  so_far : (fuel : ℕ) × (length l.rest < fuel) × (behind (map (λ word. word.items) l.list.items) (words_within fuel l.rest) ≡ words l.line);
}
