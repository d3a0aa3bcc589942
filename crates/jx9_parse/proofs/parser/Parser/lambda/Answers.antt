use Rattle.std.proofs.Common.{◌≤◌, [], ◌∷◌, length, ap, arith}
use Rattle.std.proofs.lemmas.List.{length-append}
use Rattle.jx9_parse.specs.Answers.{state}
use Rattle.jx9_parse.specs.Reading.{State}
use Rattle.jx9_parse.proofs.LambdaLoops.{function_grows}
use Rattle.jx9_parse.proofs.parser.Parser.lambda.Goals as goal

pub set-requires : goal.set-requires
set-requires g c =
    let before : State = record { tokens = c.keyword.new.self.tokens.now; number = c.keyword.new.self.number; lambdas = c.push.new.self } in
    let grown : length c.push.new.self ≤ length c.function.new.self.lambdas = function_grows c.args.within before (c.in_ok-function.function, state c.function.new.self) c.in_ok-function.ensures in
    let placed = ap length c.in_ok-push.ensures.ok in
    omega (arith, grown, placed, c.len-at.ensures, length-append c.keyword.new.self.lambdas (c.empty_function.result ∷ []))
