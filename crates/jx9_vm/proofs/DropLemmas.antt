-- An op and the `Pop` behind it, as steps of a code's run.
use Rattle.std.proofs.Common.{◌≡◌, ℕ, ◌+◌, ◌<◌, Bool, true, false, List, ◌++◌, Option, Some, refl, sym, ap, ◌∙◌, subst, arith, append_assoc, length, length-append}
use Rattle.std.specs.Prelude.{nat_lt, slice_get}
use Rattle.std.proofs.lemmas.Bool.{ltb-false, ltb-true}
use Rattle.std.proofs.lemmas.Option.{slice_get_past}
use Rattle.uq_value.specs.Data.{Bytes}
use Rattle.uq_outside.specs.Streams.{Grows}
use Rattle.jx9_meaning.specs.Laws.{last_saved}
use Rattle.jx9_meaning.specs.World.{Event}
use Rattle.jx9_compile.specs.Machine.{ops_of}
use Rattle.jx9_compile.specs.Run.{act, run}
use Rattle.jx9_compile.specs.declared.code.Code.{Code}
use Rattle.jx9_compile.specs.declared.op.Op.{Op}
use Rattle.jx9_compile.specs.declared.op.Op.TheVariants.{Pop}
use Rattle.jx9_vm.specs.declared.work.Flow.{Flow}
use Rattle.jx9_vm.specs.declared.work.Flow.TheVariants.{Next, Ends}
use Rattle.jx9_vm.specs.declared.work.Work.{Work}
use Rattle.jx9_vm.specs.Events.{bytes_of, having, last_in}
use Rattle.jx9_vm.specs.Moves.{Unshown}
use Rattle.jx9_vm.specs.Step.{Acts, DoesSome, Reaches}
use Rattle.jx9_vm.specs.Work.{machine_of}
use Rattle.jx9_vm.proofs.EventLemmas.{bytes_append, grows_on, last_append, saved_append}
use Rattle.jx9_vm.proofs.OpLemmas.{pop_did}
use Rattle.jx9_vm.proofs.RunLemmas.{step_did}

together : (i j k : ℕ) → (i + j) + k ≡ i + (j + k)
together i j k = omega arith

-- where there is an op
pub there_is : {A : Type 0} (xs : List A) (i : ℕ) (x : A) → slice_get xs i ≡ Some x → i < length xs
there_is {A} xs i x is = by (nat_lt i (length xs)) refl
  where
    by : (b : Bool) → nat_lt i (length xs) ≡ b → i < length xs
    by true h = ltb-true i (length xs) h
    by false h =
        let past = slice_get_past xs i (ltb-false i (length xs) h) in
        absurd (let f : ⊥ = cc in f)

module _ (code : Code) (op : Op) where
  -- what a step does behind the op
  pub did_on : (flow : Flow) (old mid new : Work) (w w' w'' : Option Bytes) → DoesSome code (Acts code op) Next old mid w w'
      → DoesSome code (Reaches code) flow mid new w' w'' → DoesSome code (Acts code op) flow old new w w''
  did_on flow old mid new w w' w'' a b = (
    a.0 ++ b.0,
    record {
      units = omega (arith, a.1.units, b.1.units);
      events = b.1.events ∙ ap (λ n. n + length b.0) a.1.events ∙ together old.events (length a.0) (length b.0) ∙ ap (λ n. old.events + n) (sym (length-append a.0 b.0));
      last = b.1.last ∙ ap (λ l. last_in l (bytes_of b.0)) a.1.last ∙ sym (last_append old.last (bytes_of a.0) (bytes_of b.0)) ∙ ap (last_in old.last) (sym (bytes_append a.0 b.0));
      bytes = subst (λ bs. Grows bs w w'') (sym (bytes_append a.0 b.0)) (grows_on (bytes_of a.0) (bytes_of b.0) w w' w'' a.1.bytes b.1.bytes);
      saves = λ store. saved_append store a.0 b.0 ∙ b.1.saves (last_saved store a.0) ∙ a.1.saves store;
      falls = λ going. let x = a.1.falls tt in let y = b.1.falls going in omega (arith, x, y);
      leads = λ t is.
          let x = a.1.leads t is in
          let y = b.1.leads (having (t.events ++ a.0) t) (a.1.events ∙ ap (λ n. n + length a.0) is ∙ sym (length-append t.events a.0)) in
          subst (λ (es : List Event). Acts code op flow (machine_of old t) (machine_of new (having es t))) (append_assoc t.events a.0 b.0) (
            x.0 + y.0,
            λ k. ap (λ n. act code (run code n) (Some op) (machine_of old t)) (together x.0 y.0 k) ∙ x.1 (y.0 + k) ∙ y.1 k,
          );
    },
  )

  pub unshown_did : (Moves : Flow → Work → Work → Type 0) (flow : Flow) (old new : Work) (w : Option Bytes)
      → slice_get (ops_of code old.function) (old.place + 1) ≡ Some Pop
      → ((f : Flow) (mid : Work) → Moves f old mid → DoesSome code (Acts code op) f old mid w w)
      → Unshown Moves flow old new → DoesSome code (Acts code op) flow old new w w
  unshown_did Moves (Ends ending) old new w pops did moves = did (Ends ending) new moves
  unshown_did Moves Next old new w pops did drops =
      let here : slice_get (ops_of code drops.between.function) drops.between.place ≡ Some Pop =
      ap (λ f. slice_get (ops_of code f) drops.between.place) drops.function ∙ ap (slice_get (ops_of code old.function)) drops.place ∙ pops in
      did_on Next old drops.between new w w w (did Next drops.between drops.made)
      (step_did code Pop Next drops.between new w w here (pop_did code Next drops.between new w (there_is _ _ _ here) drops.dropped))
