use Rattle.std.proofs.Common.{◌≡◌, sym, subst, rules}
use Rattle.uq_value.specs.Data.{Bytes}
use Rattle.uq_value.specs.Plain.{plain}
use Rattle.uq_json.specs.Answer.{SpellsValue}
use Rattle.uq_json.specs.Text.{json}
use Rattle.uq_json.proofs.Backs.{printed_answer}
use Rattle.uq_json.proofs.printing.print_json.Goals as goal

pub returns-clause-answer : goal.returns-clause-answer
returns-clause-answer c =
    let text : c.push_value.new.text.items ≡ json (plain c.args.v.now) = search rules in
    subst (λ (w : Bytes). SpellsValue w (plain c.args.v.now)) (sym text) (printed_answer c.args.v.now c.is_value.ensures)
