use Rattle.std.proofs.Common.{subst, to_z, w64}
use Rattle.std.proofs.lemmas.Int.{to_z_pos}
use Rattle.uq_value.specs.Faults.{Refuses}
use Rattle.uq_value.specs.Laws.Parts.{names_distinct}
use Rattle.uq_value.specs.Put.{limited}
use Rattle.uq_value.specs.declared.value.Value.{Value}
use Rattle.uq_model.proofs.MadeRecords.{built, never_deep, made_within, made_too_large}
use Rattle.uq_model.proofs.records.record_of_object.Goals as goal

pub kept_members-requires : goal.kept_members-requires
kept_members-requires c = names_distinct c.args.object.now c.is_value.ensures

pub unreachable-requires : goal.unreachable-requires
unreachable-requires c =
    never_deep c.args.id c.args.object.now c.set.new.self c.is_value.ensures
    (built c.args.id c.args.object.now c.in_ok-members.members c.set.new.self c.in_ok-name.name.items
    (to_z w64 c.args.id)
    c.in_ok-members.ensures c.in_ok-name.ensures.items (to_z_pos w64 c.args.id c.requires.id) c.in_ok-set.ensures.ok)
    (subst (λ e. Refuses (limited (Value.Object c.set.new.self)) e) c.in-Err-TooDeep.field-0-is
    c.in-Err-TooDeep.ensures.refused)

pub returns-in-Ok-clause-made : goal.returns-in-Ok-clause-made
returns-in-Ok-clause-made c =
    (made_within c.args.id c.args.object.now c.set.new.self c.in-Ok.made
    (built c.args.id c.args.object.now c.in_ok-members.members c.set.new.self c.in_ok-name.name.items
    (to_z w64 c.args.id)
    c.in_ok-members.ensures c.in_ok-name.ensures.items (to_z_pos w64 c.args.id c.requires.id) c.in_ok-set.ensures.ok)
    c.in-Ok.ensures.ok).0

pub returns-in-Err-TooLarge-clause-made : goal.returns-in-Err-TooLarge-clause-made
returns-in-Err-TooLarge-clause-made c =
    made_too_large c.args.id c.args.object.now c.set.new.self
    (built c.args.id c.args.object.now c.in_ok-members.members c.set.new.self c.in_ok-name.name.items
    (to_z w64 c.args.id)
    c.in_ok-members.ensures c.in_ok-name.ensures.items (to_z_pos w64 c.args.id c.requires.id) c.in_ok-set.ensures.ok)
    (subst (λ e. Refuses (limited (Value.Object c.set.new.self)) e) c.in-Err-TooLarge.field-0-is
    c.in-Err-TooLarge.ensures.refused)
