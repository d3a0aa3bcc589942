-- From the loop to the answer.
use Rattle.std.proofs.Common.{◌≡◌, inl, inr, ⊎_elim, ℕ, ◌+◌, ◌-◌, ◌≤◌, List, [], ◌++◌, Option, Some, None, Result, Ok, Err, refl, sym, ap, ◌∙◌, subst, arith, reverse}
use Rattle.std.specs.Prelude.{OnOk}
use Rattle.uq_value.specs.Data.{Bytes}
use Rattle.uq_model.specs.declared.cause.Cause.{Cause}
use Rattle.uq_model.specs.declared.cause.BaseStop.{BaseStop}
use Rattle.uq_model.specs.declared.cause.BaseStop.TheVariants.{Disk, Corrupt, Closed}
use Rattle.uq_model.specs.Base.{Shown, Stays, Leaves, Does, IsSaved, IsLatest, CountsNow, LeavesSaved, closed_by}
use Rattle.uq_model.specs.Session.{Session, rolled_back, rolls_back}
use Rattle.uq_model.specs.Store.{Store}
use Rattle.jx9_meaning.specs.Laws.{last_saved}
use Rattle.jx9_meaning.specs.Script.{Ended, ended, start, world_after}
use Rattle.jx9_meaning.specs.World.{World, State, Event}
use Rattle.jx9_meaning.specs.declared.fault.FaultKind.{FaultKind}
use Rattle.jx9_compile.specs.Laws.{EndsAlways}
use Rattle.jx9_compile.specs.Machine.{first}
use Rattle.jx9_compile.specs.Run.{run}
use Rattle.jx9_compile.specs.declared.code.Code.{Code}
use Rattle.jx9_vm.specs.declared.ending.Ending.{Ending}
use Rattle.jx9_vm.specs.declared.ending.Ending.TheVariants.{Done, Fault, Spent}
use Rattle.jx9_vm.specs.declared.stop.Ran.{Ran}
use Rattle.jx9_vm.specs.declared.stop.Stop.{Stop}
use Rattle.jx9_vm.specs.declared.stop.StopCause.{StopCause}
use Rattle.jx9_vm.specs.declared.stop.StopCause.TheVariants.{Base, Sink, Memory}
use Rattle.jx9_vm.specs.declared.work.Flow.TheVariants.{Ends}
use Rattle.jx9_vm.specs.declared.work.Work.{Work}
use Rattle.jx9_vm.specs.Events.{bytes_of, having}
use Rattle.jx9_vm.specs.Exec.{IsCut, IsRaised, LeavesStores, Runs, Settles, SinkCause, Stopped, closed_after, session_after, used_by, world_over}
use Rattle.jx9_vm.specs.Step.{At, Halted, IsFront, meant}
use Rattle.jx9_vm.specs.Work.{IsFirst, around, machine_of}
use Rattle.jx9_vm.proofs.EventLemmas.{grows_no_more, grows_not, nothing_more}
use Rattle.jx9_vm.proofs.Reaching.{same_machine}

-- ---- the base

pub stays_itself : (base : Shown) → Stays base base
stays_itself base = record { limits = refl; standing = refl; faults = omega arith; moment = omega arith }

leaves_itself : (Q : Store → Type 0) (base : Shown) → Leaves Q base base
leaves_itself Q base = record { before = λ t store le left. inl left }

-- where no event of a call saves, and a stop within it leaves what was saved
module _ (base now : Shown) (s : Session Store) (latest : IsLatest base) (saved : LeavesSaved base) (counts : CountsNow now)
    (told : base.tells s) (open_ : base.closed ≡ None) (later : base.moment ≤ now.moment) (leaves : Leaves (IsSaved s) base now) where
  since_start : (store : Store) → now.left_since base.moment store → store ≡ s.saved
  since_start store left = ⊎_elim (λ before. saved s store told open_ (latest store before)) (λ is. is) (leaves.before base.moment store (omega arith) left)

  pub leaves_stores : (events under_way : List Event) → last_saved s.saved events ≡ s.saved → LeavesStores s events under_way base now
  leaves_stores events under_way same = record {
    before = record { before = λ t store le left. ⊎_elim (λ older. inl older) (λ is. inr (inl is)) (leaves.before t store le left) };
    since = λ store left. inl (since_start store left);
    now = λ store may. inl (since_start store (counts base.moment store later may) ∙ sym same);
  }

closed_ok : {T : Type 0} (v : T) (o : Option Cause) → closed_by (Ok v) o ≡ o
closed_ok v None = refl
closed_ok v (Some first) = refl

pub settles_done : (base : Shown) → Settles Done base base (Ok tt)
settles_done base = record {
  stays = stays_itself base;
  told = λ s told. told;
  closes = sym (closed_ok {T = Unit {0}} tt base.closed);
  stops = λ s told not_closed. leaves_itself (IsSaved s) base;
  disk = λ h. absurd (let f : ⊥ = cc in f);
  corrupt = λ h s told. let f : ⊥ = cc in f;
  was_closed = λ first h. absurd (let f : ⊥ = cc in f);
}

module _ (ending : Ending) (back : (s : Session Store) → session_after ending s ≡ rolled_back s) (base now : Shown) where
  told_back : (result : Result (Unit {0}) BaseStop) → Does rolls_back IsSaved base now result → (s : Session Store) → base.tells s
      → OnOk result (now.tells (session_after ending s))
  told_back (Ok v) does s told = subst now.tells (sym (back s)) (does.answer v s refl told).1
  told_back (Err stop) does s told = tt

  settles_back : (result : Result (Unit {0}) BaseStop) → Does rolls_back IsSaved base now result → Settles ending base now result
  settles_back result does = record {
    stays = does.stays;
    told = told_back result does;
    closes = does.closes;
    stops = does.stops;
    disk = does.disk;
    corrupt = does.corrupt;
    was_closed = does.closed;
  }

pub settles_fault : (kind : FaultKind) (line : ℕ) (base now : Shown) (result : Result (Unit {0}) BaseStop) → Does rolls_back IsSaved base now result
    → Settles (Fault kind line) base now result
settles_fault kind line base now result does = settles_back (Fault kind line) (λ s. refl) base now result does

pub settles_spent : (base now : Shown) (result : Result (Unit {0}) BaseStop) → Does rolls_back IsSaved base now result → Settles Spent base now result
settles_spent base now result does = settles_back Spent (λ s. refl) base now result does

-- ---- the meter

within_budget : (e : Ending) (budget left : ℕ) → used_by e budget left ≤ budget
within_budget Done budget left = omega arith
within_budget (Fault kind line) budget left = omega arith
within_budget Spent budget left = omega arith

-- ---- endings

after_ending : (e : Ending) (w : World) → (world_after (meant e) w).session ≡ session_after e w.session
after_ending Done w = refl
after_ending (Fault kind line) w = refl
after_ending Spent w = refl

units_after : (e : Ending) (w : World) → (world_after (meant e) w).units ≡ w.units
units_after Done w = refl
units_after (Fault kind line) w = refl
units_after Spent w = refl

-- ---- the run of a code

module _ (code : Code) (budget : ℕ) (start_work : Work) (is : IsFirst code budget start_work) where
  starts : (base : Shown) (s : Session Store) → machine_of start_work (having [] (start (world_over base s budget))) ≡ first code (world_over base s budget)
  starts base s =
      same_machine (having [] (start (world_over base s budget))) is.function is.place (ap reverse is.stack) is.slots is.calls refl refl is.units

  pub exec_ran : (work : Work) (ending : Ending) (base now : Shown) (w w' : Option Bytes) (old new used : ℕ)
      → At code (Ends ending) start_work work w w' → Settles ending base now (Ok tt) → used ≡ used_by ending budget work.units → IsRaised used old new
      → IsLatest base → LeavesSaved base → CountsNow now
      → Runs code budget base now w w' old new (record { ending = ending; events = work.events; last = work.last })
  exec_ran work ending base now w w' old new used at settles used_is raised latest saved counts = record {
    events = at.made;
    count = at.events;
    last = at.last;
    bytes = at.bytes;
    stays = settles.stays;
    closed = settles.closes ∙ closed_ok {T = Unit {0}} tt base.closed;
    metered = (used_by ending budget work.units, within_budget ending budget work.units, by);
    spent = λ e. subst (λ (x : Ending). IsRaised (used_by x budget work.units) old new) e by;
    told = λ s told. let t = having at.made (start (world_over base s budget)) in let r = at.reaches (start (world_over base s budget)) in record {
      ended = ended (meant ending) (around work t);
      runs = (r.0 + 0, ap (run code (r.0 + 0)) (sym (starts base s)) ∙ r.1 0);
      events_are = refl;
      ending = refl;
      session = subst now.tells (sym (after_ending ending (around work t).world)) (settles.told s told);
      units = subst (λ x. IsRaised (used_by ending budget x) old new) (sym (units_after ending (around work t).world)) by;
    };
    stops = λ s told not_closed. leaves_stores base now s latest saved counts told not_closed settles.stays.moment (settles.stops s told not_closed) at.made [] (at.saves s.saved);
  }
    where
      by : IsRaised (used_by ending budget work.units) old new
      by = subst (λ x. IsRaised x old new) used_is raised

  closed_still : (cause : StopCause) (o : Option Cause) → ((stop : BaseStop) → cause ≡ Base stop → ⊥) → o ≡ closed_after cause o
  closed_still (Base stop) o not_base = absurd (not_base stop refl)
  closed_still Sink o not_base = refl
  closed_still Memory o not_base = refl

  cut : (ends : EndsAlways code) (base : Shown) (s : Session Store) (events under_way : List Event)
      → ((t : State) (e : Ended) (n : ℕ) → run code n (machine_of start_work (having [] t)) ≡ Some e → IsFront (events ++ under_way) e.events)
      → IsCut code budget s base events under_way
  cut ends base s events under_way front = let e = ends (world_over base s budget) in record {
    ended = e.0;
    runs = e.1;
    front = front (start (world_over base s budget)) e.0 e.1.0 (ap (run code e.1.0) (starts base s) ∙ e.1.1);
  }

  pub exec_halted : (work : Work) (base : Shown) (w w' : Option Bytes) (f f' old new : ℕ) (cause : StopCause) → EndsAlways code
      → Halted code start_work work w w' f f' cause → IsRaised (budget - work.units) old new
      → IsLatest base → LeavesSaved base → CountsNow base
      → Stopped code budget base base w w' f f' old new (record { events = work.events; last = work.last; cause = cause })
  exec_halted work base w w' f f' old new cause ends halted raised latest saved counts = record {
    events = halted.made;
    count = halted.events;
    last = halted.last;
    under_way = halted.under_way;
    one = halted.one;
    bytes = halted.bytes;
    at_sink = halted.at_sink;
    at_other = halted.at_other;
    stays = stays_itself base;
    closed = closed_still cause base.closed halted.not_base;
    metered = (budget - work.units, omega arith, raised);
    reason = record {
      disk = λ h. absurd (halted.not_base Disk h);
      corrupt = λ h s told. halted.not_base Corrupt h;
      closed = λ first h. absurd (halted.not_base (Closed first) h);
      sink = halted.sink;
    };
    told = λ s told. cut ends base s halted.made halted.under_way halted.front;
    stops = λ s told not_closed. leaves_stores base base s latest saved counts told not_closed (omega arith) (leaves_itself (IsSaved s) base) halted.made halted.under_way (halted.saves s.saved);
  }

  base_is : (a b : BaseStop) → ◌≡◌ {A = StopCause} (Base a) (Base b) → a ≡ b
  base_is a b h = cc

  pub exec_unsettled : (work : Work) (ending : Ending) (stop : BaseStop) (base now : Shown) (w w' : Option Bytes) (f f' old new : ℕ)
      → At code (Ends ending) start_work work w w' → Settles ending base now (Err stop) → IsRaised (budget - work.units) old new
      → IsLatest base → LeavesSaved base → CountsNow now
      → Stopped code budget base now w w' f f' old new (record { events = work.events; last = work.last; cause = Base stop })
  exec_unsettled work ending stop base now w w' f f' old new at settles raised latest saved counts = record {
    events = at.made;
    count = at.events;
    last = at.last;
    under_way = [];
    one = omega arith;
    bytes = (0, grows_no_more (bytes_of at.made) [] w w' at.bytes);
    at_sink = λ h. absurd (let x : ⊥ = cc in x);
    at_other = λ h. at.bytes;
    stays = settles.stays;
    closed = settles.closes;
    metered = (budget - work.units, omega arith, raised);
    reason = record {
      disk = λ h. settles.disk (ap Err (base_is stop Disk h));
      corrupt = λ h. settles.corrupt (ap Err (base_is stop Corrupt h));
      closed = λ first h. settles.was_closed first (ap Err (base_is stop (Closed first) h));
      sink = λ h. absurd (let x : ⊥ = cc in x);
    };
    told = λ s told. let t = having at.made (start (world_over base s budget)) in let r = at.reaches (start (world_over base s budget)) in record {
      ended = ended (meant ending) (around work t);
      runs = (r.0 + 0, ap (run code (r.0 + 0)) (sym (starts base s)) ∙ r.1 0);
      front = ([], sym (nothing_more (at.made ++ []) ∙ nothing_more at.made));
    };
    stops = λ s told not_closed. leaves_stores base now s latest saved counts told not_closed settles.stays.moment (settles.stops s told not_closed) at.made [] (at.saves s.saved);
  }

-- no memory for the first slots
pub exec_unstarted : (code : Code) (budget : ℕ) (base : Shown) (w : Option Bytes) (f old new : ℕ) → EndsAlways code → IsRaised 0 old new
    → IsLatest base → LeavesSaved base → CountsNow base
    → Stopped code budget base base w w f f old new (record { events = 0; last = None; cause = Memory })
exec_unstarted code budget base w f old new ends raised latest saved counts = record {
  events = [];
  count = refl;
  last = refl;
  under_way = [];
  one = omega arith;
  bytes = (0, grows_not w);
  at_sink = λ h. absurd (let x : ⊥ = cc in x);
  at_other = λ h. grows_not w;
  stays = stays_itself base;
  closed = refl;
  metered = (0, omega arith, raised);
  reason = record {
    disk = λ h. absurd (let x : ⊥ = cc in x);
    corrupt = λ h s told. let x : ⊥ = cc in x;
    closed = λ first h. absurd (let x : ⊥ = cc in x);
    sink = λ h. absurd (let x : ⊥ = cc in x);
  };
  told = λ s told. let e = ends (world_over base s budget) in record { ended = e.0; runs = e.1; front = (e.0.events, refl) };
  stops = λ s told not_closed. leaves_stores base base s latest saved counts told not_closed (omega arith) (leaves_itself (IsSaved s) base) [] [] refl;
}

-- ---- the sink

pub sink_calm : (f f' : ℕ) (result : Result Ran Stop) → f' ≡ f → SinkCause f f' result
sink_calm f f' result calm = record {
  later = omega (arith, calm);
  quiet = λ ran is. calm;
  quiet_stop = λ stop is no. calm;
}

pub sink_halted : (f f' : ℕ) (stop : Stop) → f ≤ f' → ((stop.cause ≡ Sink → ⊥) → f' ≡ f) → SinkCause f f' (Err stop)
sink_halted f f' stop later quiet = record {
  later = later;
  quiet = λ ran is. absurd (let x : ⊥ = cc in x);
  quiet_stop = λ other is no. quiet (λ sink. no (sym (ap cause_of is) ∙ sink));
}
  where
    cause_of : Result Ran Stop → StopCause
    cause_of (Ok ran) = Memory
    cause_of (Err s) = s.cause
