use Rattle.std.proofs.Common.{ap, ◌∙◌}
use Rattle.std.specs.FinMap.{get}
use Rattle.uq_kv.proofs.Databases.{if_ok}
use Rattle.uq_kv.proofs.writing.look_up.Goals as goal

pub returns-in-Ok-clause-found : goal.returns-in-Ok-clause-found
returns-in-Ok-clause-found g c =
    if_ok c.find_stored.result _ _ (λ found held pages on stored database. held pages on stored database ∙ ap (get stored) (c.deref.ensures.value ∙ c.in-Ok.ensures)) c.find_stored.ensures.found
