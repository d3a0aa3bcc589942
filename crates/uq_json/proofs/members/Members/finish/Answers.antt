use Rattle.std.proofs.Common.{◌≡◌, ◌≤◌, None, Option, refl, sym, ap, ◌∙◌, subst, arith}
use Rattle.std.specs.List.{list_any}
use Rattle.uq_value.specs.Data.{Pairs, object}
use Rattle.uq_value.specs.Depth.{data_depth, most_depth}
use Rattle.uq_value.specs.declared.value.Value.{Value}
use Rattle.uq_value.specs.declared.error.ValueFault.TheVariants as value
use Rattle.uq_json.specs.Internal.LeftOut.{Stands}
use Rattle.uq_json.specs.Internal.Found.{StandsFor}
use Rattle.uq_json.proofs.Steps.{if_ok_weaker}
use Rattle.uq_json.proofs.Keeping.{some_left_out, none_left_out, object_kept, object_left_out}
use Rattle.uq_json.proofs.members.Members.finish.Goals as goal

pub returns-then-is_any_left_out-clause-ok : goal.returns-then-is_any_left_out-clause-ok
returns-then-is_any_left_out-clause-ok c = λ ms stands shallow.
    let large = some_left_out (λ mark. mark) refl refl c.args.self.kept c.args.self.left_out.items ms stands (sym (c.is_any_left_out.ensures ∙ ap (λ bs. list_any (λ mark. mark) bs) c.as_slice.ensures.value) ∙ c.if-is_any_left_out.true) in omega (arith, large)

pub returns-in-Ok-clause-ok : goal.returns-in-Ok-clause-ok
returns-in-Ok-clause-ok c = λ ms stands shallow.
    object_kept c.args.self.kept c.in-Ok.object ms (none_left_out (λ mark. mark) refl refl c.args.self.kept c.args.self.left_out.items ms stands (sym (c.is_any_left_out.ensures ∙ ap (λ bs. list_any (λ mark. mark) bs) c.as_slice.ensures.value) ∙ c.if-is_any_left_out.false)) c.in-Ok.ensures.ok

pub returns-clause-ok : goal.returns-clause-ok
returns-clause-ok c =
    if_ok_weaker c.left_out.result (λ kept. (kept ≡ None) × (c.in-Err.fault ≡ value.Memory → ⊥)) (λ found. (ms : Pairs) → Stands c.args.self ms → data_depth (object ms) ≤ most_depth → StandsFor found (object ms))
    (λ found out ms stands shallow. subst (λ (o : Option Value). StandsFor o (object ms)) (sym out.0)
    (object_left_out c.args.self.kept ms c.in-Err.fault (none_left_out (λ mark. mark) refl refl c.args.self.kept c.args.self.left_out.items ms stands (sym (c.is_any_left_out.ensures ∙ ap (λ bs. list_any (λ mark. mark) bs) c.as_slice.ensures.value) ∙ c.if-is_any_left_out.false)) c.in-Err.ensures.refused out.1 shallow))
    c.left_out.ensures.ok
