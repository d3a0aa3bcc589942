use Rattle.std.proofs.Common.{◌≡◌, ◌<◌, Option, None, inl, inr, ◌++◌, ◌∷◌, [], subst, sym}
use Rattle.std.specs.Option.{IfSome}
use Rattle.uq_value.specs.Data.{Data, Datas}
use Rattle.uq_value.specs.Depth.{most_depth}
use Rattle.uq_value.specs.Plain.{depth}
use Rattle.uq_value.specs.declared.error.ValueFault.TheVariants as value
use Rattle.uq_value.specs.declared.value.Value.{Value}
use Rattle.uq_json.specs.Internal.Found.{ListStandsFor, StandsFor}
use Rattle.uq_json.proofs.Steps.{if_ok_weaker}
use Rattle.uq_json.proofs.Gathering.{nothing_kept, item_refused}
use Rattle.uq_json.proofs.reading.with_item.Goals as goal

pub returns-in_default-clause-ok : goal.returns-in_default-clause-ok
returns-in_default-clause-ok c = nothing_kept c.args.items c.args.item (inl c.in_default.is)

pub returns-in_default-item-clause-ok : goal.returns-in_default-item-clause-ok
returns-in_default-item-clause-ok c = nothing_kept c.args.items c.args.item (inr c.in_default-item.is)

pub returns-in-Err-clause-ok : goal.returns-in-Err-clause-ok
returns-in-Err-clause-ok c =
    if_ok_weaker c.left_out.result (λ kept. (kept ≡ None) × (c.in-Err.fault ≡ value.Memory → ⊥)) (λ now. (ds : Datas) (d : Data) → ListStandsFor c.args.items ds → StandsFor c.args.item d → ListStandsFor now (ds ++ d ∷ []))
    (λ now out ds d here there. subst (λ (o : Option Datas). ListStandsFor o (ds ++ d ∷ [])) (sym out.0)
    (item_refused c.in-Some.list c.in-Some-item.item c.in-Err.fault c.in-Err.ensures.refused out.1 (subst (λ (o : Option Value). IfSome o (λ v. depth v < most_depth)) c.in-Some-item.is c.requires) ds d
    (subst (λ (o : Option Datas). ListStandsFor o ds) c.in-Some.is here) (subst (λ (o : Option Value). StandsFor o d) c.in-Some-item.is there)))
    c.left_out.ensures.ok
