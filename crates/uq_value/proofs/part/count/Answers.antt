use Rattle.std.proofs.Common.{arith, subst, sym, map, take, length, ◌<◌, ◌+◌, ◌^◌, ap, ◌∙◌, ◌++◌, ◌∷◌, []}
use Rattle.std.proofs.lemmas.List.{length-map, length-take-le}
use Rattle.uq_value.specs.Internal.Tally.{IsTally}
use Rattle.uq_value.proofs.Rows.{map-more}
use Rattle.uq_value.proofs.part.count.Goals as goal

pub loop-part-preserved : goal.loop-part-preserved
loop-part-preserved g c =
    let few : length (map g.P.Part.depth_of (take c.loop-part.part-index c.args.parts.now)) + 1 < 2 ^ 32 =
    omega (arith, length-map (take c.loop-part.part-index c.args.parts.now) g.P.Part.depth_of, length-take-le c.loop-part.part-index c.args.parts.now, c.requires.few) in
    subst (λ ds. IsTally c.add.new.self.counts ds)
    (ap (λ d. map g.P.Part.depth_of (take c.loop-part.part-index c.args.parts.now) ++ d ∷ []) c.depth.ensures ∙ sym (map-more g.P.Part.depth_of c.args.parts.now c.loop-part.part-index c.part-item.result c.part-item.is c.loop-part-test.true))
    (c.add.ensures _ few c.loop-part.invariant)
