use Rattle.std.proofs.Common.{◌+◌, ◌≤◌, length}
use Rattle.jx9_lex.proofs.LexLemmas.{LeadsOn}
use Rattle.jx9_lex.proofs.lexer.lex.Given as goal

abbrev pub decreases-loop-rest : goal.decreases-loop-rest
decreases-loop-rest l = length l.rest

abbrev pub invariant-loop-rest : goal.invariant-loop-rest
invariant-loop-rest l = record {
  leads : LeadsOn l.text l.tokens.items l.line l.rest;
  lines : l.line + length l.rest ≤ 1 + length l.text;
  within : length l.rest ≤ length l.text;
  counted : length l.tokens.items + length l.rest ≤ length l.text;
}
