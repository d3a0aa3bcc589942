use Rattle.std.proofs.Common.{ap, sym, ◌∙◌, subst, option_map, slice_get, ◌≤◌}
use Rattle.uq_value.specs.Size.{text_size, most_size}
use Rattle.uq_value.specs.Internal.Names.{name_of}
use Rattle.uq_value.proofs.Fields.{name-fits}
use Rattle.uq_value.proofs.Levels.{member-at}
use Rattle.uq_value.proofs.object.Object.member.Goals as goal

pub returns-in-Some-clause-member : goal.returns-in-Some-clause-member
returns-in-Some-clause-member c =
    rw (← c.self.view_is, member-at c.self.inside.members.items c.args.at, ← c.as_slice.ensures.value, c.name-name.ensures)
    (ap (λ o. option_map (λ m. (name_of m, m.value)) o) (c.in-Some.ensures))

pub returns-in-Some-clause-fits : goal.returns-in-Some-clause-fits
returns-in-Some-clause-fits c =
    subst (λ bs. text_size bs ≤ most_size) (sym c.name-name.ensures)
    (name-fits c.self.inside c.self.invariant c.args.at c.in-Some.m.now (c.in-Some.ensures ∙ ap (λ ms. slice_get ms c.args.at) c.as_slice.ensures.value))

pub returns-in-None-clause-member : goal.returns-in-None-clause-member
returns-in-None-clause-member c =
    rw (← c.self.view_is, member-at c.self.inside.members.items c.args.at, ← c.as_slice.ensures.value)
    (ap (λ o. option_map (λ m. (name_of m, m.value)) o) (c.in-None.ensures))
