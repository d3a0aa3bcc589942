use Rattle.std.proofs.Common.{◌≡◌, ◌≤◌, length}
use Rattle.uq_words.specs.Options.{number}
use Rattle.uq_words.proofs.Numbers.{number_behind}
use Rattle.uq_words.proofs.settings.read_number.Given as goal

abbrev pub decreases-digits : goal.decreases-digits
decreases-digits l = length l.rest

abbrev pub invariant-digits : goal.invariant-digits
invariant-digits l = record {
  few : l.value ≤ l.most;
  same : number_behind l.most l.value l.rest ≡ number l.most l.text;
}
