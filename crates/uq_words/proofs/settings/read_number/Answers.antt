use Rattle.std.proofs.Common.{rules, ◌≡◌, ◌+◌, ◌-◌, ◌*◌, length, take, drop, sym, ◌∙◌, arith}
use Rattle.std.proofs.lemmas.Grind.{common_steps}
use Rattle.uq_words.specs.Options.{number}
use Rattle.uq_words.proofs.Numbers.{number_behind, number_exceeds}
use Rattle.uq_words.proofs.settings.read_number.Goals as goal

pub returns-then-value-most : goal.returns-then-value-most
returns-then-value-most c =
    let same : number_behind c.args.most (c.digits.value * 10 + c.from.result) (take (length c.digits.rest.now - 1) (drop 1 c.digits.rest.now)) ≡ number c.args.most c.args.text.now
    = first_of (search rules, grind (arith, common_steps)) in
    sym (number_exceeds c.args.most (c.digits.value * 10 + c.from.result) (take (length c.digits.rest.now - 1) (drop 1 c.digits.rest.now)) c.if-value-most.true) ∙ same
