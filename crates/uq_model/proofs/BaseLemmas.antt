-- Calls on a base that do the same.
use Rattle.std.proofs.Common.{◌≡◌, Result, ◌∙◌, ap, subst}
use Rattle.uq_model.specs.declared.cause.BaseStop.{BaseStop}
use Rattle.uq_model.specs.Store.{Store}
use Rattle.uq_model.specs.Session.{Session, Call}
use Rattle.uq_model.specs.Base.{Shown, Does}

-- another call that does the same to each session that is told
pub does_same : {T : Type 0} (call other : Call Store T) (Q : Session Store → Store → Type 0) (old new : Shown)
    (result : Result T BaseStop) → ((s : Session Store) → old.tells s → call s ≡ other s) → Does call Q old new result
    → Does other Q old new result
does_same call other Q old new result same does = record {
  stays = does.stays;
  answer = λ v s ok told.
      let answered = does.answer v s ok told in
      (answered.0 ∙ ap (λ x. x.0) (same s told), subst new.tells (ap (λ x. x.1) (same s told)) answered.1);
  disk = does.disk;
  corrupt = does.corrupt;
  closed = does.closed;
  stays_closed = does.stays_closed;
  closes = does.closes;
  unchanged = does.unchanged;
  unmoved = does.unmoved;
  stops = does.stops;
}
