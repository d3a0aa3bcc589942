use Rattle.std.proofs.Common.{ap, ◌∙◌}
use Rattle.std.specs.FinMap as map
use Rattle.uq_model.specs.Change.{altered_at}
use Rattle.uq_model.proofs.Changes.{put_back}
use Rattle.uq_model.proofs.changing.alter_collection.Goals as goal

pub returns-in_ok-alter : goal.returns-in_ok-alter
returns-in_ok-alter c =
    put_back c.args.collections.now c.args.name.now c.new.result c.alter.new.self c.replace.new.self
    c.replace-in-Some.result c.replace-in-Some.new.self
    c.in-Some.ensures.replaced c.replace-in-Some.ensures.value c.replace-in-Some.ensures.replaced
    ∙ ap (λ d. map.insert c.args.collections.now c.args.name.now d) c.in_ok-alter.ensures
    ∙ ap (altered_at c.args.name.now c.args.alteration c.args.collections.now) c.in-Some.ensures.value
