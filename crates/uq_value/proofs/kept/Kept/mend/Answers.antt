use Rattle.std.proofs.Common.{arith, ap, subst, map, length, length-set, ◌<◌, ◌+◌, ◌^◌}
use Rattle.std.proofs.lemmas.List.{length-map}
use Rattle.uq_value.specs.Internal.Beside.{CountsAre}
use Rattle.uq_value.proofs.Counted.{deepest-below}
use Rattle.uq_value.proofs.kept.Kept.mend.Goals as goal

pub returns-then-not-change-clause-mended : goal.returns-then-not-change-clause-mended
returns-then-not-change-clause-mended g c = λ ds at h e s t.
    let few : length ds + 1 < 2 ^ 32 = omega (arith, ap (λ xs. length xs) s, length-set ds at c.args.after, length-map c.args.parts.now g.P.Part.depth_of, c.requires.few) in
    let now = subst (λ xs. CountsAre c.change.new.self xs) s (c.change.ensures.counts ds at few h e t.1) in (
      c.take_counts.ensures.depth (map g.P.Part.depth_of c.args.parts.now) (deepest-below g.P.Part.depth_of c.args.parts.now 128 (omega arith) c.requires.shallow) c.count.ensures,
      c.take_counts.ensures.counts (map g.P.Part.depth_of c.args.parts.now) c.count.ensures now,
    )
