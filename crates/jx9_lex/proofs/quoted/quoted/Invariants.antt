use Rattle.std.proofs.Common.{length}
use Rattle.jx9_syntax.specs.Tokens.{PartsFit}
use Rattle.jx9_syntax.specs.Front.{quoted_at}
use Rattle.jx9_lex.specs.Built.{IsOpen}
use Rattle.jx9_lex.proofs.Reading.{Reads}
use Rattle.jx9_lex.proofs.quoted.quoted.Given as goal

abbrev pub decreases-pieces : goal.decreases-pieces
decreases-pieces l = length l.rest

abbrev pub invariant-pieces : goal.invariant-pieces
invariant-pieces l = record {
  reads : Reads l.quote l.builder.parts.items l.builder.pending.items l.rest (quoted_at l.quote l.text);
  fits : PartsFit l.builder.parts.items;
  is_open : IsOpen l.builder.parts.items;
}
