use Rattle.std.proofs.Common.{refl}
use Rattle.uq_model.specs.Map.{shown_by, session_in}
use Rattle.uq_model.specs.Held.{held_in}
use Rattle.uq_model.specs.Collections.{writes, drops_collection, collection_dropped, of_drop_collection}
use Rattle.uq_model.proofs.MapLemmas.{map_same, map_gives}
use Rattle.uq_model.proofs.Giving.{drop_collection_gives}
use Rattle.uq_model.proofs.map_base.MapBaseBase.drop_collection.Goals as goal

pub returns-clause-does : goal.returns-clause-does
returns-clause-does c =
    map_same (writes (collection_dropped c.args.name.now (held_in c.args.self.now.present)))
    (drops_collection c.args.name.now) c.args.self.now (shown_by c.write.new.self) c.write.result refl
    (c.write.ensures (collection_dropped c.args.name.now (held_in c.args.self.now.present))
    c.dropping-planned.ensures.chooses)

pub returns-clause-refusals : goal.returns-clause-refusals
returns-clause-refusals c =
    map_gives of_drop_collection (drops_collection c.args.name.now) c.args.self.now
    (shown_by c.write.new.self) c.write.result
    (map_same (writes (collection_dropped c.args.name.now (held_in c.args.self.now.present)))
    (drops_collection c.args.name.now) c.args.self.now (shown_by c.write.new.self) c.write.result refl
    (c.write.ensures (collection_dropped c.args.name.now (held_in c.args.self.now.present))
    c.dropping-planned.ensures.chooses))
    (drop_collection_gives c.args.name.now (session_in c.args.self.now))
