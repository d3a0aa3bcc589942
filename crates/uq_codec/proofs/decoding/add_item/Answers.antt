use Rattle.uq_codec.proofs.Lists.{item_refused}
use Rattle.uq_codec.proofs.decoding.add_item.Goals as goal

pub returns-in-Err : goal.returns-in-Err
returns-in-Err c = item_refused _ c.push.new.self c.args.item c.in-Err.fault c.refused.result c.requires.shallow_list c.requires.shallow_item c.in-Err.ensures.refused c.refused.ensures
