use Rattle.std.proofs.Common.{refl, sym, ◌∙◌}
use Rattle.uq_value.specs.Plain.{plain}
use Rattle.uq_json.proofs.Gathering.{literal_read, literal_refused}
use Rattle.uq_json.proofs.reading.literal.Goals as goal

pub returns-then-starts_with : goal.returns-then-starts_with
returns-then-starts_with c = (plain c.args.value, literal_read c.args.word.now (plain c.args.value) c.args.text.now (sym c.starts_with.ensures.value ∙ c.if-starts_with.true), refl)

pub returns-else-starts_with : goal.returns-else-starts_with
returns-else-starts_with c = literal_refused c.args.word.now (plain c.args.value) c.args.text.now (sym c.starts_with.ensures.value ∙ c.if-starts_with.false)
