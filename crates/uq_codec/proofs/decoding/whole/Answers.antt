use Rattle.std.proofs.Common.{◌≡◌, ◌≤◌, w64, ℤ, ◌++◌, ◌∷◌, drop, sym, subst, ◌∙◌, ap}
use Rattle.std.proofs.lemmas.Int.{to_z-of_z}
use Rattle.std.proofs.lemmas.List.{take-append-drop}
use Rattle.uq_value.specs.Data.{Bytes, int}
use Rattle.uq_codec.specs.Internal.Reading.{Front}
use Rattle.uq_codec.specs.Stored.{Encodes}
use Rattle.uq_codec.proofs.Decoded.{too_short, whole_found}
use Rattle.uq_codec.proofs.decoding.whole.Goals as goal

pub returns-in_default : goal.returns-in_default
returns-in_default c room d fits rest f = too_short c.args.bytes.now d rest f c.in_default.ensures.cases

pub returns : goal.returns
returns c room =
    let parts : c.args.bytes.now ≡ c.in-Some.field.now ++ c.in-Some.rest.now =
    sym (take-append-drop 8 c.args.bytes.now) ∙ ap (λ (w : Bytes). w ++ drop 8 c.args.bytes.now) (sym c.in-Some.ensures.cases.0) ∙ ap (λ (w : Bytes). c.in-Some.field.now ++ w) (sym c.in-Some.ensures.cases.1) in
    subst (λ (z : ℤ). Front (λ word. Encodes word (int z)) (3 ∷ c.args.bytes.now) c.in-Some.rest.now × (0 ≤ room)) (sym (to_z-of_z w64 c.number.result (record { sfits = c.number.type_inv })))
    (whole_found room c.args.bytes.now c.in-Some.field.now c.in-Some.rest.now c.number.result parts c.number.ensures)
