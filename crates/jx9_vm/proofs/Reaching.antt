-- From the machine's fields to the machine of a code's run.
use Rattle.std.proofs.Common.{◌≡◌, ℕ, zero, suc, ◌+◌, ◌*◌, ◌<◌, ◌≤◌, List, [], ◌∷◌, ◌++◌, Option, Some, refl, sym, ap, ◌∙◌, subst, arith, length, reverse}
use Rattle.std.specs.List.{sum_by}
use Rattle.std.specs.Prelude.{slice_get}
use Rattle.std.proofs.lemmas.List.Sums.{sum_by-cons}
use Rattle.std.proofs.lemmas.Option.{slice_get_past}
use Rattle.uq_value.specs.Data.{Bytes}
use Rattle.uq_value.specs.declared.value.Value.{Value}
use Rattle.jx9_meaning.specs.Script.{ended}
use Rattle.jx9_meaning.specs.World.{State}
use Rattle.jx9_compile.specs.Machine.{Machine, ops_of, ops_or_none}
use Rattle.jx9_compile.specs.Run.{Next as Follows, act, run}
use Rattle.jx9_compile.specs.declared.code.Code.{Code}
use Rattle.jx9_compile.specs.declared.function.Function.{Function}
use Rattle.jx9_compile.specs.declared.op.Op.{Op}
use Rattle.jx9_vm.specs.declared.ending.Ending.{Ending}
use Rattle.jx9_vm.specs.declared.work.Call.{Call}
use Rattle.jx9_vm.specs.declared.work.Flow.{Flow}
use Rattle.jx9_vm.specs.declared.work.Flow.TheVariants.{Ends}
use Rattle.jx9_vm.specs.declared.work.Work.{Work}
use Rattle.jx9_vm.specs.Events.{having}
use Rattle.jx9_vm.specs.Moves.{Passes, Quits}
use Rattle.jx9_vm.specs.Step.{Acts, DoesSome, meant}
use Rattle.jx9_vm.specs.Work.{around, left_of, machine_of, ops_in, to_go, waiting}
use Rattle.jx9_vm.proofs.EventLemmas.{nothing_more, grows_not}

-- ---- machines

-- the machine of some fields
abbrev pub stands : ℕ → ℕ → List Value → List Value → List Call → List Value → List Value → ℕ → State → Machine
stands function place stack slots calls under slots_under units t = record {
  frame = record { function = function; place = place; stack = stack; slots = slots };
  callers = waiting (reverse calls) under slots_under;
  outside = record t { world = record t.world { units = units; active = length calls } };
}

pub same_machine : {f f' p p' u u' : ℕ} {a a' b b' d d' e e' : List Value} {c c' : List Call} (t : State)
    → f ≡ f' → p ≡ p' → a ≡ a' → b ≡ b' → c ≡ c' → d ≡ d' → e ≡ e' → u ≡ u' → stands f p a b c d e u t ≡ stands f' p' a' b' c' d' e' u' t
same_machine {f} {f'} {p} {p'} {u} {u'} {a} {a'} {b} {b'} {d} {d'} {e} {e'} {c} {c'} t hf hp ha hb hc hd he hu =
    ap (λ x. stands x p a b c d e u t) hf
    ∙ ap (λ x. stands f' x a b c d e u t) hp
    ∙ ap (λ x. stands f' p' x b c d e u t) ha
    ∙ ap (λ x. stands f' p' a' x c d e u t) hb
    ∙ ap (λ x. stands f' p' a' b' x d e u t) hc
    ∙ ap (λ x. stands f' p' a' b' c' x e u t) hd
    ∙ ap (λ x. stands f' p' a' b' c' d' x u t) he
    ∙ ap (λ x. stands f' p' a' b' c' d' e' x t) hu

pub nothing_happened : (w : Work) (t : State) → machine_of w (having (t.events ++ []) t) ≡ machine_of w t
nothing_happened w t = ap (λ es. machine_of w (having es t)) (nothing_more t.events)

pub nothing_around : (w : Work) (t : State) → around w (having (t.events ++ []) t) ≡ around w t
nothing_around w t = ap (λ es. around w (having es t)) (nothing_more t.events)

pub zero_more : (k : ℕ) → 0 + k ≡ k
zero_more k = omega arith

-- ---- what is left to do

pub fewer : (n a b : ℕ) → b < a → b * n + n ≤ a * n
fewer n a b h = grind arith

no_fewer : (n a b : ℕ) → b ≤ a → b * n ≤ a * n
no_fewer n a b h = grind arith

-- no function has more ops than all have
ops_within : (fs : List Function) (f : ℕ) → length (ops_or_none (slice_get fs f)) ≤ sum_by (λ (g : Function). length g.ops) fs
ops_within [] f =
    let n : length (ops_or_none (slice_get [] f)) ≡ 0 = ap (λ o. length (ops_or_none o)) (slice_get_past [] f (omega arith)) in
    omega (arith, n)
ops_within (g ∷ gs) zero =
    let n : length (ops_or_none (slice_get (g ∷ gs) zero)) ≡ length g.ops = refl in
    let s = sum_by-cons (λ (h : Function). length h.ops) g gs in
    omega (arith, n, s)
ops_within (g ∷ gs) (suc f) =
    let n : length (ops_or_none (slice_get (g ∷ gs) (suc f))) ≡ length (ops_or_none (slice_get gs f)) = refl in
    let s = sum_by-cons (λ (h : Function). length h.ops) g gs in
    let more = ops_within gs f in
    omega (arith, n, s, more)

pub function_within : (code : Code) (f : ℕ) → length (ops_of code f) ≤ ops_in code
function_within code f = ops_within code.functions f

waits : Code → List Call → ℕ
waits code calls = sum_by (λ (c : Call). to_go code c.function c.place) calls

-- further ahead in the same function
pub less_ahead : (code : Code) (old new : Work) → new.function ≡ old.function → old.place < length (ops_of code old.function)
    → old.place < new.place → new.calls.items ≡ old.calls.items → new.units ≤ old.units → left_of code new < left_of code old
unfolding waits
less_ahead code old new function there place calls units =
    let e : length (ops_of code new.function) ≡ length (ops_of code old.function) = ap (λ f. length (ops_of code f)) function in
    let w : waits code new.calls.items ≡ waits code old.calls.items = ap (waits code) calls in
    let u = no_fewer (ops_in code + 1) old.units new.units units in
    omega (arith, e, w, u, there, place)

-- anywhere in the same function, for a unit
pub less_by_unit : (code : Code) (old new : Work) → new.function ≡ old.function → new.calls.items ≡ old.calls.items → new.units < old.units
    → left_of code new < left_of code old
unfolding waits
less_by_unit code old new function calls units =
    let e : length (ops_of code new.function) ≡ length (ops_of code old.function) = ap (λ f. length (ops_of code f)) function in
    let w : waits code new.calls.items ≡ waits code old.calls.items = ap (waits code) calls in
    let u = fewer (ops_in code + 1) old.units new.units units in
    let l = function_within code old.function in
    omega (arith, e, w, u, l)

-- ---- steps

-- an op that goes on with the next one at once
pub did_pass : (code : Code) (op : Op) (flow : Flow) (units : ℕ) (stack slots : List Value) (old new : Work) (w : Option Bytes)
    → old.place < length (ops_of code old.function) → units ≤ old.units → Passes flow units stack slots old new
    → ((next : Follows) (t : State) → act code next (Some op) (machine_of old t)
    ≡ next (stands old.function (old.place + 1) stack slots old.calls.items old.stack.under old.slots.under units t))
    → DoesSome code (Acts code op) flow old new w w
did_pass code op flow units stack slots old new w there fewer_units passes acts =
    subst (λ (f : Flow). DoesSome code (Acts code op) f old new w w) (sym passes.next) (
      [],
      record {
        units = omega (arith, passes.units, fewer_units);
        events = omega (arith, passes.events);
        last = passes.last;
        bytes = grows_not w;
        saves = λ store. refl;
        falls = λ going. less_ahead code old new passes.function there (omega (arith, passes.place)) (ap (λ x. x.items) passes.calls) (omega (arith, passes.units, fewer_units));
        leads = λ t is. (
          0,
          λ k. ap (λ n. act code (run code n) (Some op) (machine_of old t)) (zero_more k)
              ∙ acts (run code k) t
              ∙ ap (run code k) (same_machine t (sym passes.function) (sym passes.place) (sym passes.stack) (sym passes.slots) (ap (λ x. x.items) (sym passes.calls)) (sym passes.under) (sym passes.slots_under) (sym passes.units))
              ∙ ap (run code k) (sym (nothing_happened new t)),
        );
      },
    )

pub same_around : (old new : Work) (t : State) → new.calls.items ≡ old.calls.items → new.units ≡ old.units → around new t ≡ around old t
same_around old new t calls units =
    ap (λ (n : ℕ). let s : State = record t { world = record t.world { units = n; active = length new.calls.items } } in s) units
    ∙ ap (λ (c : List Call). let s : State = record t { world = record t.world { units = old.units; active = length c } } in s) calls

-- some ops that end the script
pub did_end : (code : Code) (op : Op) (ending : Ending) (flow : Flow) (old new : Work) (w : Option Bytes)
    → flow ≡ Ends ending → new.units ≤ old.units → new.events ≡ old.events → new.last ≡ old.last
    → ((t : State) → old.events ≡ length t.events → Acts code op (Ends ending) (machine_of old t) (machine_of new t))
    → DoesSome code (Acts code op) flow old new w w
did_end code op ending flow old new w ends units events last acts =
    subst (λ (f : Flow). DoesSome code (Acts code op) f old new w w) (sym ends) (
      [],
      record {
        units = units;
        events = omega (arith, events);
        last = last;
        bytes = grows_not w;
        saves = λ store. refl;
        falls = λ going. absurd going;
        leads = λ t is. let a = acts t is in (a.0, λ k. a.1 k ∙ ap (λ s. Some (ended (meant ending) s)) (sym (nothing_around new t)));
      },
    )

-- an op that ends the script at once
pub did_quit : (code : Code) (op : Op) (ending : Ending) (flow : Flow) (old new : Work) (w : Option Bytes) → Quits ending flow old new
    → ((next : Follows) (t : State) → act code next (Some op) (machine_of old t) ≡ Some (ended (meant ending) (around old t)))
    → DoesSome code (Acts code op) flow old new w w
did_quit code op ending flow old new w quits acts =
    did_end code op ending flow old new w quits.ends (omega (arith, quits.units)) quits.events quits.last (λ t same. (
      0,
      λ k. ap (λ n. act code (run code n) (Some op) (machine_of old t)) (zero_more k)
          ∙ acts (run code k) t
          ∙ ap (λ s. Some (ended (meant ending) s)) (sym (same_around old new t quits.calls quits.units)),
    ))
