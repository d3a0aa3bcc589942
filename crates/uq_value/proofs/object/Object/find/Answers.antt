use Rattle.std.proofs.Common.{ap, sym, ◌∙◌, subst, length, ◌≡◌}
use Rattle.uq_value.specs.Internal.Names.{names, IsFound}
use Rattle.uq_value.specs.Places.{place_of}
use Rattle.uq_value.specs.Reading.{find_member}
use Rattle.uq_value.proofs.ByName.{member-found, member-missing}
use Rattle.uq_value.proofs.object.Object.find.Goals as goal

pub returns-in-Ok : goal.returns-in-Ok
returns-in-Ok c =
    sym (ap (λ ms. find_member c.args.name.now ms) (sym c.self.view_is)
    ∙ member-found c.self.inside.members.items c.args.name.now c.in-Ok.at c.index.result.now (subst (λ ms. IsFound (names ms) c.args.name.now c.in-Ok.at) c.as_slice.ensures.value c.in-Ok.ensures.found) c.index.ensures)

pub returns-in-Err : goal.returns-in-Err
returns-in-Err c =
    sym (ap (λ ms. find_member c.args.name.now ms) (sym c.self.view_is)
    ∙ member-missing c.self.inside.members.items c.args.name.now (subst (λ ms. place_of c.args.name.now (names ms) ≡ length (names ms)) c.as_slice.ensures.value c.in-Err.ensures.lacks.0))
