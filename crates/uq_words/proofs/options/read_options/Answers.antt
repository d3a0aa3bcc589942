use Rattle.std.proofs.Common.{Option, None, sym, subst}
use Rattle.uq_words.specs.Options.{Asked}
use Rattle.uq_words.specs.Texts.{AnswersAsked, texts}
use Rattle.uq_words.proofs.Asking.{budget_few, bytes_few, entries_few, order_is}
use Rattle.uq_words.proofs.options.read_options.Goals as goal

pub returns-in-Some-clause-answers : goal.returns-in-Some-clause-answers
returns-in-Some-clause-answers c =
    subst (λ (asked : Option Asked). AnswersAsked asked c.read_order.result) (sym (order_is (texts c.args.words.now) _ c.in-Some.ensures)) c.read_order.ensures

pub returns-in-None-clause-answers : goal.returns-in-None-clause-answers
returns-in-None-clause-answers c = order_is (texts c.args.words.now) None c.in-None.ensures

pub returns-in-Some-clause-entries : goal.returns-in-Some-clause-entries
returns-in-Some-clause-entries c =
    entries_few (texts c.args.words.now) c.read_order.result
    (subst (λ (asked : Option Asked). AnswersAsked asked c.read_order.result) (sym (order_is (texts c.args.words.now) _ c.in-Some.ensures)) c.read_order.ensures)

pub returns-in-Some-clause-bytes : goal.returns-in-Some-clause-bytes
returns-in-Some-clause-bytes c =
    bytes_few (texts c.args.words.now) c.read_order.result
    (subst (λ (asked : Option Asked). AnswersAsked asked c.read_order.result) (sym (order_is (texts c.args.words.now) _ c.in-Some.ensures)) c.read_order.ensures)

pub returns-in-Some-clause-budget : goal.returns-in-Some-clause-budget
returns-in-Some-clause-budget c =
    budget_few (texts c.args.words.now) c.read_order.result
    (subst (λ (asked : Option Asked). AnswersAsked asked c.read_order.result) (sym (order_is (texts c.args.words.now) _ c.in-Some.ensures)) c.read_order.ensures)
