use Rattle.std.proofs.Common.{refl}
use Rattle.uq_model.specs.Map.{shown_by, session_in}
use Rattle.uq_model.specs.Held.{held_in}
use Rattle.uq_model.specs.Collections.{writes, stores_records, records_stored, bounded, of_store}
use Rattle.uq_model.proofs.MapLemmas.{map_same, map_gives}
use Rattle.uq_model.proofs.Giving.{store_gives}
use Rattle.uq_model.proofs.map_base.MapBaseBase.store_records.Goals as goal

pub returns-clause-does : goal.returns-clause-does
returns-clause-does c =
    map_same (writes (bounded c.args.self.now.limits (records_stored c.args.name.now c.args.objects.now)
    (held_in c.args.self.now.present)))
    (stores_records c.args.name.now c.args.objects.now c.args.self.now.limits) c.args.self.now
    (shown_by c.write.new.self) c.write.result refl
    (c.write.ensures (bounded c.args.self.now.limits (records_stored c.args.name.now c.args.objects.now)
    (held_in c.args.self.now.present)) c.storing-planned.ensures.chooses)

pub returns-clause-refusals : goal.returns-clause-refusals
returns-clause-refusals c =
    map_gives of_store (stores_records c.args.name.now c.args.objects.now c.args.self.now.limits) c.args.self.now
    (shown_by c.write.new.self) c.write.result
    (map_same (writes (bounded c.args.self.now.limits (records_stored c.args.name.now c.args.objects.now)
    (held_in c.args.self.now.present)))
    (stores_records c.args.name.now c.args.objects.now c.args.self.now.limits) c.args.self.now
    (shown_by c.write.new.self) c.write.result refl
    (c.write.ensures (bounded c.args.self.now.limits (records_stored c.args.name.now c.args.objects.now)
    (held_in c.args.self.now.present)) c.storing-planned.ensures.chooses))
    (store_gives c.args.self.now.limits c.args.name.now c.args.objects.now (session_in c.args.self.now))
