use Rattle.std.proofs.Common.{refl}
use Rattle.uq_model.specs.Map.{shown_by, session_in}
use Rattle.uq_model.specs.Held.{held_in}
use Rattle.uq_model.specs.Collections.{writes, drops_record, record_dropped, of_drop_record}
use Rattle.uq_model.proofs.MapLemmas.{map_same, map_gives}
use Rattle.uq_model.proofs.Giving.{drop_record_gives}
use Rattle.uq_model.proofs.map_base.MapBaseBase.drop_record.Goals as goal

pub returns-clause-does : goal.returns-clause-does
returns-clause-does c =
    map_same (writes (record_dropped c.args.name.now c.args.id (held_in c.args.self.now.present)))
    (drops_record c.args.name.now c.args.id) c.args.self.now (shown_by c.write.new.self) c.write.result refl
    (c.write.ensures (record_dropped c.args.name.now c.args.id (held_in c.args.self.now.present))
    c.removing-planned.ensures.chooses)

pub returns-clause-refusals : goal.returns-clause-refusals
returns-clause-refusals c =
    map_gives of_drop_record (drops_record c.args.name.now c.args.id) c.args.self.now
    (shown_by c.write.new.self) c.write.result
    (map_same (writes (record_dropped c.args.name.now c.args.id (held_in c.args.self.now.present)))
    (drops_record c.args.name.now c.args.id) c.args.self.now (shown_by c.write.new.self) c.write.result refl
    (c.write.ensures (record_dropped c.args.name.now c.args.id (held_in c.args.self.now.present))
    c.removing-planned.ensures.chooses))
    (drop_record_gives c.args.name.now c.args.id (session_in c.args.self.now))
