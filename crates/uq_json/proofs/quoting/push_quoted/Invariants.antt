use Rattle.std.proofs.Common.{◌≡◌, ◌∷◌, ◌++◌, length}
use Rattle.std.specs.List.{flat_map}
use Rattle.uq_json.specs.Quote.{escaped}
use Rattle.uq_json.proofs.quoting.push_quoted.Given as goal

abbrev pub decreases-escapes : goal.decreases-escapes
decreases-escapes l = length l.rest

abbrev pub invariant-escapes : goal.invariant-escapes
invariant-escapes l = l.text.items ++ flat_map escaped l.rest ≡ l.fn.text.items ++ 0x22 ∷ flat_map escaped l.bytes
