use Rattle.std.proofs.Common.{◌≡◌, ℕ, ◌≤◌, length}
use Rattle.uq_json.specs.Internal.Decoding.{decoded}
use Rattle.uq_json.specs.Internal.Reading.{pieces_within, inside_at}
use Rattle.uq_json.proofs.unquoting.inside.Given as goal

abbrev pub decreases-pieces : goal.decreases-pieces
decreases-pieces l = length l.rest

abbrev pub invariant-pieces : goal.invariant-pieces
invariant-pieces l =
    (fuel : ℕ) × (length l.rest ≤ fuel) × (decoded l.decoder.bytes.items l.decoder.waiting (pieces_within fuel l.rest) ≡ inside_at l.text)
