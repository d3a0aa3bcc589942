use Rattle.std.proofs.Common.{◌∙◌, ap}
use Rattle.std.proofs.lemmas.Result.{on_ok_weaker}
use Rattle.uq_value.specs.Plain.{plain}
use Rattle.uq_value.specs.Laws.Parts.{member_not_there}
use Rattle.uq_model.proofs.KeptMembers.{keeps_member, next_kept}
use Rattle.uq_model.proofs.records.keep_next.Goals as goal

pub unreachable-requires : goal.unreachable-requires
unreachable-requires c = member_not_there c.args.object.now c.args.at c.requires.there c.in-None.ensures.member

pub returns : goal.returns
returns c =
    on_ok_weaker c.keep_member.result
    (λ kept. kept ∙ ap (λ ms. keeps_member c.in-Some.name.now (plain c.in-Some.value.now) ms) c.requires.so_far
    ∙ next_kept c.args.object.now c.args.at c.in-Some.name.now c.in-Some.value.now c.requires.there
    c.requires.distinct c.in-Some.ensures.member)
    c.keep_member.ensures
