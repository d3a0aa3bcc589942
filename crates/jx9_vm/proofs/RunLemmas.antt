-- Runs of steps.
use Rattle.std.proofs.Common.{◌≡◌, ℕ, suc, ◌+◌, ◌≤◌, List, [], ◌∷◌, ◌++◌, Option, Some, None, refl, sym, ap, ◌∙◌, subst, arith, length, length-append, take}
use Rattle.std.specs.Prelude.{slice_get}
use Rattle.uq_value.specs.Data.{Bytes}
use Rattle.uq_outside.specs.Streams.{Grows}
use Rattle.jx9_meaning.specs.Laws.{last_saved}
use Rattle.jx9_meaning.specs.Script.{Ended, ended}
use Rattle.jx9_meaning.specs.World.{State, Event}
use Rattle.jx9_compile.specs.Machine.{Machine, ops_of}
use Rattle.jx9_compile.specs.Run.{act, run}
use Rattle.jx9_compile.specs.declared.code.Code.{Code}
use Rattle.jx9_compile.specs.declared.op.Op.{Op}
use Rattle.jx9_vm.specs.declared.ending.Ending.TheVariants.{Spent}
use Rattle.jx9_vm.specs.declared.stop.StopCause.{StopCause}
use Rattle.jx9_vm.specs.declared.work.Flow.{Flow}
use Rattle.jx9_vm.specs.declared.work.Flow.TheVariants.{Next, Ends}
use Rattle.jx9_vm.specs.declared.work.Work.{Work}
use Rattle.jx9_vm.specs.Events.{bytes_of, having, last_in}
use Rattle.jx9_vm.specs.Step.{Acts, At, DoesSome, Fails, Halted, IsFront, Reaches, meant}
use Rattle.jx9_vm.specs.Work.{machine_of}
use Rattle.jx9_vm.proofs.EventLemmas.{bytes_append, grows_not, grows_on, last_append, nothing_more, saved_append}
use Rattle.jx9_vm.proofs.Reaching.{nothing_around, zero_more}
use Rattle.jx9_vm.proofs.Turns.{run_adds, run_longer}

-- ---- the next op of a run

module _ (code : Code) where
  here : (old : Work) (t : State) (o : Option Op) → slice_get (ops_of code old.function) old.place ≡ o → (n : ℕ)
      → run code (suc n) (machine_of old t) ≡ act code (run code n) o (machine_of old t)
  here old t o there n = ap (λ x. act code (run code n) x (machine_of old t)) there

  and_on : (j k : ℕ) → suc j + k ≡ suc (j + k)
  and_on j k = omega arith

  reaches : (op : Op) (flow : Flow) (old : Work) (t : State) (m : Machine) → slice_get (ops_of code old.function) old.place ≡ Some op
      → Acts code op flow (machine_of old t) m → Reaches code flow (machine_of old t) m
  reaches op flow old t m there acts = (
    suc acts.0,
    λ k. ap (λ n. run code n (machine_of old t)) (and_on acts.0 k) ∙ here old t (Some op) there (acts.0 + k) ∙ acts.1 k,
  )

  pub step_did : (op : Op) (flow : Flow) (old new : Work) (w w' : Option Bytes) → slice_get (ops_of code old.function) old.place ≡ Some op
      → DoesSome code (Acts code op) flow old new w w' → DoesSome code (Reaches code) flow old new w w'
  step_did op flow old new w w' there did = (
    did.0,
    record {
      units = did.1.units;
      events = did.1.events;
      last = did.1.last;
      bytes = did.1.bytes;
      saves = did.1.saves;
      falls = did.1.falls;
      leads = λ t is. reaches op flow old t _ there (did.1.leads t is);
    },
  )

  pub step_fails : (op : Op) (old new : Work) (w w' : Option Bytes) (f f' : ℕ) (cause : StopCause) → slice_get (ops_of code old.function) old.place ≡ Some op
      → Fails (Acts code op) old new w w' f f' cause → Fails (Reaches code) old new w w' f f' cause
  step_fails op old new w w' f f' cause there fails = record {
    units = fails.units;
    events = fails.events;
    last = fails.last;
    under_way = fails.under_way;
    one = fails.one;
    bytes = fails.bytes;
    at_sink = fails.at_sink;
    still = fails.still;
    next = λ t e is same. let n = fails.next t e is same in (n.0, reaches op Next old t n.0 there n.1, n.2);
    later = fails.later;
    sink = fails.sink;
    quiet = fails.quiet;
    not_base = fails.not_base;
  }

  -- where the ops run out
  pub step_off : (old : Work) (w : Option Bytes) → slice_get (ops_of code old.function) old.place ≡ None → DoesSome code (Reaches code) (Ends Spent) old old w w
  step_off old w there = (
    [],
    record {
      units = omega arith;
      events = omega arith;
      last = refl;
      bytes = grows_not w;
      saves = λ store. refl;
      falls = λ going. absurd going;
      leads = λ t is. (
        1,
        λ k. ap (λ n. run code n (machine_of old t)) (let e : 1 + k ≡ suc k = omega arith in e)
            ∙ here old t None there k
            ∙ ap (λ s. Some (ended (meant Spent) s)) (sym (nothing_around old t)),
      );
    },
  )

  -- ---- how far a run has come

  pub at_start : (work : Work) (w : Option Bytes) → work.events ≡ 0 → work.last ≡ None → At code Next work work w w
  at_start work w none no_last = record {
    made = [];
    units = omega arith;
    events = none;
    last = no_last;
    bytes = grows_not w;
    saves = λ store. refl;
    reaches = λ t. (0, λ k. ap (λ n. run code n (machine_of work (having [] t))) (zero_more k));
  }

  pub at_step : (flow : Flow) (first work new : Work) (w w' w'' : Option Bytes) → At code Next first work w w'
      → DoesSome code (Reaches code) flow work new w' w'' → At code flow first new w w''
  at_step flow first work new w w' w'' at did = record {
    made = at.made ++ did.0;
    units = omega (arith, at.units, did.1.units);
    events = did.1.events ∙ ap (λ n. n + length did.0) at.events ∙ sym (length-append at.made did.0);
    last = did.1.last ∙ ap (λ l. last_in l (bytes_of did.0)) at.last ∙ sym (last_append None (bytes_of at.made) (bytes_of did.0)) ∙ ap (last_in None) (sym (bytes_append at.made did.0));
    bytes = subst (λ b. Grows b w w'') (sym (bytes_append at.made did.0)) (grows_on (bytes_of at.made) (bytes_of did.0) w w' w'' at.bytes did.1.bytes);
    saves = λ store. saved_append store at.made did.0 ∙ did.1.saves (last_saved store at.made) ∙ at.saves store;
    reaches = λ t. let a = at.reaches t in let b = did.1.leads (having at.made t) at.events in (
      a.0 + b.0,
      λ k. ap (λ n. run code n (machine_of first (having [] t))) (together a.0 b.0 k) ∙ a.1 (b.0 + k) ∙ b.1 k,
    );
  }
    where
      together : (i j k : ℕ) → (i + j) + k ≡ i + (j + k)
      together i j k = omega arith

  -- the same, where it is known how the run goes on
  pub at_arm : (flow flow' : Flow) (first work new : Work) (w w' w'' : Option Bytes) → flow ≡ flow' → At code Next first work w w'
      → DoesSome code (Reaches code) flow work new w' w'' → At code flow' first new w w''
  at_arm flow flow' first work new w w' w'' is at did = subst (λ (f : Flow). At code f first new w w'') is (at_step flow first work new w w' w'' at did)

  -- ---- stops

  -- where the run ends, so does the machine to which it leads
  ends_there : (first : Machine) (m : Machine) (e : Ended) (n : ℕ) → Reaches code Next first m → run code n first ≡ Some e → run code n m ≡ Some e
  ends_there first m e n reaches ends = sym (reaches.1 n) ∙ run_longer code n reaches.0 first e ends

  front_there : (first : Machine) (m : Machine) (e : Ended) (n : ℕ) (es : List Event) → Reaches code Next first m → m.outside.events ≡ es
      → run code n first ≡ Some e → IsFront es e.events
  front_there first m e n es reaches is ends = subst (λ xs. IsFront xs e.events) is (run_adds code n m e (ends_there first m e n reaches ends))

  further : (a b c : Machine) → Reaches code Next a b → Reaches code Next b c → Reaches code Next a c
  further a b c f g = (
    f.0 + g.0,
    λ k. ap (λ n. run code n a) (let e : (f.0 + g.0) + k ≡ f.0 + (g.0 + k) = omega arith in e) ∙ f.1 (g.0 + k) ∙ g.1 k,
  )

  -- with the event under way, where there is one
  front_of : (first work : Work) (made under_way : List Event) (t : State) (e : Ended) (n : ℕ) → length under_way ≤ 1
      → Reaches code Next (machine_of first (having [] t)) (machine_of work (having made t))
      → ((x : Event) → under_way ≡ x ∷ [] → (m : Machine) × Reaches code Next (machine_of work (having made t)) m × (m.outside.events ≡ made ++ x ∷ []))
      → run code n (machine_of first (having [] t)) ≡ Some e → IsFront (made ++ under_way) e.events
  front_of first work made [] t e n one reaches next ends =
      front_there _ _ e n (made ++ []) reaches (sym (nothing_more made)) ends
  front_of first work made (x ∷ []) t e n one reaches next ends =
      let m = next x refl in
      front_there _ m.0 e n (made ++ x ∷ []) (further _ _ _ reaches m.1) m.2 ends
  front_of first work made (x ∷ (y ∷ more)) t e n one reaches next ends = absurd (omega arith)

  pub at_halt : (first work new : Work) (w w' w'' : Option Bytes) (f f' f'' : ℕ) (cause : StopCause) → At code Next first work w w' → f' ≡ f
      → Fails (Reaches code) work new w' w'' f' f'' cause → Halted code first new w w'' f f'' cause
  at_halt first work new w w' w'' f f' f'' cause at calm fails = record {
    made = at.made;
    units = omega (arith, at.units, fails.units);
    events = fails.events ∙ at.events;
    last = fails.last ∙ at.last;
    saves = at.saves;
    under_way = fails.under_way;
    one = fails.one;
    bytes = (fails.bytes.0, grows_on (bytes_of at.made) (take fails.bytes.0 (bytes_of fails.under_way)) w w' w'' at.bytes fails.bytes.1);
    at_sink = fails.at_sink;
    at_other = λ h. subst (λ v. Grows (bytes_of at.made) w v) (sym (fails.still h)) at.bytes;
    front = λ t e n ends. front_of first work at.made fails.under_way t e n fails.one (at.reaches t) (λ x is. fails.next (having at.made t) x is at.events) ends;
    later = omega (arith, fails.later, calm);
    sink = λ h. let r = fails.sink h in omega (arith, r, calm);
    quiet = λ h. fails.quiet h ∙ calm;
    not_base = fails.not_base;
  }
