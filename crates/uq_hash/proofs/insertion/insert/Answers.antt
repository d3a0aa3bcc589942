use Rattle.std.proofs.Common.{Err, ℕ, List, refl, ap, subst, ◌∙◌}
use Rattle.std.specs.Option.{ForSome}
use Rattle.std.specs.FinMap as map
use Rattle.std.proofs.lemmas.Result.{err_from_is_err_and, IfOk-weaker}
use Rattle.uq_chain.specs.CauseLaws.{handed_on, handed_whole, not_err}
use Rattle.uq_hash.specs.Causes.{NoMap}
use Rattle.uq_hash.specs.Map.{HoldsMap}
use Rattle.uq_hash.proofs.insertion.insert.Goals as goal

pub returns-in_err-at-clause-cause : goal.returns-in_err-at-clause-cause
returns-in_err-at-clause-cause g c =
    let fault = err_from_is_err_and c.from_residual.result c.from_residual.ensures.1 in
    handed_on (NoMap (g.P.Pages.pages c.args.p.now) c.args.h.now) ⊥ (NoMap (g.P.Pages.pages c.args.p.now) c.args.h.now) ⊥
    (g.P.Pages.faults c.args.p.now) (g.P.Pages.faults c.args.p.now) (g.P.Pages.faults c.look_for.new.p) (g.P.Pages.is_sound c.look_for.new.p)
    c.in_err-at.field-0.0 c.from_residual.result (fault.1 ∙ ap Err fault.2) refl c.in_err-at.ensures.cause (λ none. none) (λ short. short)

pub returns-clause-there : goal.returns-clause-there
returns-clause-there g c =
    IfOk-weaker c.insert_at.result _ _ (λ there known pages told m held. known pages (c.in_ok-at.ensures.same (not_err _ _) ∙ told) m held ∙ ap (map.contains_key m) c.in_ok-at.ensures.key)
    c.insert_at.ensures.there

pub returns-clause-inserted : goal.returns-clause-inserted
returns-clause-inserted g c =
    IfOk-weaker c.insert_at.result _ _ (λ there known pages told m held.
    subst (λ (key : List ℕ). ForSome (g.P.Pages.pages c.insert_at.new.p) (λ after. HoldsMap after c.insert_at.new.h (map.insert m key c.args.value.now))) c.in_ok-at.ensures.key (known pages (c.in_ok-at.ensures.same (not_err _ _) ∙ told) m held))
    c.insert_at.ensures.inserted

pub returns-clause-cause : goal.returns-clause-cause
returns-clause-cause g c =
    handed_whole (NoMap (g.P.Pages.pages c.look_for.new.p) c.args.h.now) ⊥ (NoMap (g.P.Pages.pages c.args.p.now) c.args.h.now) ⊥
    (g.P.Pages.faults c.args.p.now) (g.P.Pages.faults c.look_for.new.p) (g.P.Pages.faults c.insert_at.new.p) (g.P.Pages.is_sound c.insert_at.new.p) c.insert_at.result (c.in_ok-at.ensures.cause.pages.quiet (not_err _ _)) c.insert_at.ensures.cause
    (λ none pages told m held. none pages (c.in_ok-at.ensures.same (not_err _ _) ∙ told) m held)
    (λ short. short)
