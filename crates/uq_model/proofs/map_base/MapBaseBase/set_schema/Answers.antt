use Rattle.std.proofs.Common.{refl}
use Rattle.uq_model.specs.Map.{shown_by, session_in}
use Rattle.uq_model.specs.Held.{held_in}
use Rattle.uq_model.specs.Collections.{writes, sets_schema, schema_set, bounded, of_set_schema}
use Rattle.uq_model.proofs.MapLemmas.{map_same, map_gives}
use Rattle.uq_model.proofs.Giving.{set_schema_gives}
use Rattle.uq_model.proofs.map_base.MapBaseBase.set_schema.Goals as goal

pub returns-clause-does : goal.returns-clause-does
returns-clause-does c =
    map_same (writes (bounded c.args.self.now.limits (schema_set c.args.name.now c.args.schema.now)
    (held_in c.args.self.now.present)))
    (sets_schema c.args.name.now c.args.schema.now c.args.self.now.limits) c.args.self.now
    (shown_by c.write.new.self) c.write.result refl
    (c.write.ensures (bounded c.args.self.now.limits (schema_set c.args.name.now c.args.schema.now)
    (held_in c.args.self.now.present)) c.describing-planned.ensures.chooses)

pub returns-clause-refusals : goal.returns-clause-refusals
returns-clause-refusals c =
    map_gives of_set_schema (sets_schema c.args.name.now c.args.schema.now c.args.self.now.limits) c.args.self.now
    (shown_by c.write.new.self) c.write.result
    (map_same (writes (bounded c.args.self.now.limits (schema_set c.args.name.now c.args.schema.now)
    (held_in c.args.self.now.present)))
    (sets_schema c.args.name.now c.args.schema.now c.args.self.now.limits) c.args.self.now
    (shown_by c.write.new.self) c.write.result refl
    (c.write.ensures (bounded c.args.self.now.limits (schema_set c.args.name.now c.args.schema.now)
    (held_in c.args.self.now.present)) c.describing-planned.ensures.chooses))
    (set_schema_gives c.args.self.now.limits c.args.name.now c.args.schema.now (session_in c.args.self.now))
