-- What a base in memory shows.
use Rattle.std.specs.Prelude.{◌≡◌, Bool, false, [], Option, Some, None, is_some, Result, Ok, Err}
use Rattle.std.proofs.Common.{refl, sym, ◌∙◌, ap, subst}
use Rattle.uq_model.specs.declared.cause.Cause.{Cause}
use Rattle.uq_model.specs.declared.cause.BaseStop.{BaseStop}
use Rattle.uq_model.specs.declared.cause.BaseStop.TheVariants.{Closed}
use Rattle.uq_model.specs.declared.held.Held.{Held}
use Rattle.uq_model.specs.declared.limits.Limits.{Limits}
use Rattle.uq_model.specs.declared.map_base.MapBase.{MapBase}
use Rattle.uq_model.specs.Store.{Store}
use Rattle.uq_model.specs.Session.{Session}
use Rattle.uq_model.specs.Held.{held_in}
use Rattle.uq_model.specs.IsStore.{IsStore, IsSession}
use Rattle.uq_model.specs.Base.{Shown, LeavesSaved, TellsSession}

-- what a base in memory shows of a session: it tells that one, a stop leaves the saved store, and no moment passes
abbrev pub shown_of : Limits → Session Store → Option Cause → Shown
shown_of limits s closed = record {
  limits = limits;
  tells = λ told. told ≡ s;
  may_leave = λ store. store ≡ s.saved;
  left_since = λ t store. store ≡ s.saved;
  moment = 0;
  closed = closed;
  faults = 0;
  standing = [];
}

-- until something is written, the saved store is the one that is there
abbrev pub saved_by : Option Held → Held → Store
saved_by (Some held) present = held_in held
saved_by None present = held_in present

abbrev pub session_of : Option Held → Held → Bool → Session Store
session_of saved present begun = record { saved = saved_by saved present; present = held_in present; begun = begun }

abbrev pub session_in : MapBase → Session Store
session_in it = session_of it.saved it.present it.begun

abbrev pub shown_by : MapBase → Shown
shown_by it = shown_of it.limits (session_in it) it.closed

-- ---- the laws of `Base`

pub saved_is : (it : MapBase) → LeavesSaved (shown_by it)
saved_is it s store told not_closed left = left ∙ sym (ap (λ (x : Session Store). x.saved) told)

saved_store : (saved : Option Held) (present : Held) → IsStore (saved_by saved present)
saved_store (Some held) present = held.is_store
saved_store None present = present.is_store

pub session_is : (it : MapBase) → TellsSession (shown_by it)
session_is it s told = subst IsSession (sym told) (record {
  saved = saved_store it.saved it.present;
  present = it.present.is_store;
  settled = λ none. by it.saved (it.settled none);
})
  where
    by : (saved : Option Held) → is_some saved ≡ false → saved_by saved it.present ≡ held_in it.present
    by (Some held) h = absurd (let f : ⊥ = cc in f)
    by None h = refl

-- ---- words for its calls

-- a base that is closed refuses
abbrev pub open_or_closed : Option Cause → Result (Unit {0}) BaseStop
open_or_closed None = Ok tt
open_or_closed (Some first) = Err (Closed first)

-- there is what a rollback gives back, and it is this
abbrev pub HasSaved : Option Held → Store → Type 0
HasSaved (Some held) store = held_in held ≡ store
HasSaved None store = ⊥
