use Rattle.std.proofs.Common.{◌≡◌, min, ◌-◌, List, ◌++◌, refl, ap, ◌∙◌, drop, length, replicate, take, rules}
use Rattle.std.specs.Prelude.{slice_get}
use Rattle.uq_value.specs.declared.value.Value.{Value}
use Rattle.jx9_vm.proofs.WorkLemmas.{first_slots_are}
use Rattle.jx9_vm.proofs.work.Work.enter.Goals as goal

pub returns-clause-ok : goal.returns-clause-ok
returns-clause-ok c = λ code is.
    let old = c.args.self.now in
    let given : List Value = take c.min-kept.result (drop (length old.stack.here - c.args.count) old.stack.here) in
    let moved : c.move_upper.new.to.here ≡ take c.min-kept.result (drop (length old.stack.here - c.args.count) old.stack.here) =
    c.in_ok-move_upper.ensures.moved ∙ ap (λ vs. vs ++ take c.min-kept.result (drop (length old.stack.here - c.args.count) old.stack.here)) c.cover.ensures.here in
    let few : c.min-kept.result ≡ min c.args.function.now.params c.args.function.now.slots = (cc) in
    record {
      function = refl;
      place = refl;
      stack = c.cover-2.ensures.here;
      under = c.cover-2.ensures.under
          ∙ ap (λ vs. vs ++ c.move_upper.new.self.here) c.in_ok-move_upper.ensures.under
          ∙ ap (λ vs. old.stack.under ++ vs) c.in_ok-move_upper.ensures.here;
      slots = c.in_ok-fill.ensures.here
          ∙ ap (λ vs. vs ++ replicate (c.slots-2.result - length vs) Value.Null) moved
          ∙ ap (λ n. given ++ replicate (n - length given) Value.Null) c.slots-2.ensures
          ∙ first_slots_are c.args.function.now (slice_get code.functions c.args.number) c.args.count c.min-kept.result old.stack.here is few;
      slots_under = c.in_ok-fill.ensures.under ∙ c.in_ok-move_upper.ensures.to_under ∙ c.cover.ensures.under;
      calls = (search rules);
      units = refl;
      events = refl;
      last = refl;
    }
