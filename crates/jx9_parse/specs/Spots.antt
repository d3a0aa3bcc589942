-- Spots and what stands with one, as the grammar has them.
use Rattle.jx9_syntax.specs.Grammar.{Spot as Where}
use Rattle.jx9_parse.specs.declared.spot.Spot.{Spot}

abbrev pub spot_of : Spot → Where
spot_of s = record { line = s.line; token = s.token }

abbrev pub with_spot : {A : Type 0} → A × Spot → A × Where
with_spot x = (x.0, spot_of x.1)
