use Rattle.std.proofs.Common.{ap, ◌∙◌}
use Rattle.jx9_syntax.specs.Grammar.{word_code}
use Rattle.jx9_parse.proofs.Numbers.{number_is}
use Rattle.jx9_parse.proofs.number.token_number.Goals as goal

pub returns-in-End : goal.returns-in-End
returns-in-End c = number_is c.args.token.now _ c.in-End.is

pub returns-in-Int : goal.returns-in-Int
returns-in-Int c = number_is c.args.token.now _ c.in-Int.is

pub returns-in-Text : goal.returns-in-Text
returns-in-Text c = number_is c.args.token.now _ c.in-Text.is

pub returns-in-Mixed : goal.returns-in-Mixed
returns-in-Mixed c = number_is c.args.token.now _ c.in-Mixed.is

pub returns-in-Name : goal.returns-in-Name
returns-in-Name c = c.word_number.ensures ∙ ap word_code c.bytes.ensures.bytes ∙ number_is c.args.token.now _ c.in-Name.is

pub returns-in-Sign : goal.returns-in-Sign
returns-in-Sign c = c.sign_number.ensures ∙ number_is c.args.token.now _ c.in-Sign.is

pub returns-in-Var : goal.returns-in-Var
returns-in-Var c = number_is c.args.token.now _ c.in-Var.is
