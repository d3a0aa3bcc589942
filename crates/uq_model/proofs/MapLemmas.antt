-- What a base in memory does.
use Rattle.std.proofs.Common.{◌≡◌, List, Result, Ok, Err, refl, sym, ◌∙◌, ap, subst}
use Rattle.std.specs.Result.{IfOk}
use Rattle.uq_model.specs.declared.cause.BaseStop.{BaseStop}
use Rattle.uq_model.specs.declared.done.Done.{Done}
use Rattle.uq_model.specs.declared.done.Refusal.{Refusal}
use Rattle.uq_model.specs.declared.map_base.MapBase.{MapBase}
use Rattle.uq_model.specs.Store.{Store}
use Rattle.uq_model.specs.Session.{Call}
use Rattle.uq_model.specs.Base.{Shown, Does, IsSaved}
use Rattle.uq_model.specs.Collections.{Gives}
use Rattle.uq_model.specs.Map.{session_in, shown_by}
use Rattle.uq_model.proofs.BaseLemmas.{does_same}

-- the same call, by another name
pub map_same : (call other : Call Store Done) (it : MapBase) (new : Shown) (result : Result Done BaseStop)
    → call (session_in it) ≡ other (session_in it) → Does call IsSaved (shown_by it) new result
    → Does other IsSaved (shown_by it) new result
map_same call other it new result same does =
    does_same call other IsSaved (shown_by it) new result (λ s told. ap call told ∙ same ∙ sym (ap other told)) does

-- which refusals it gives
pub map_gives : (row : List Refusal) (call : Call Store Done) (it : MapBase) (new : Shown)
    (result : Result Done BaseStop) → Does call IsSaved (shown_by it) new result → Gives row (call (session_in it)).0
    → IfOk result (Gives row)
map_gives row call it new (Ok v) does gives = subst (Gives row) (sym (does.answer v (session_in it) refl refl).0) gives
map_gives row call it new (Err stop) does gives = tt
