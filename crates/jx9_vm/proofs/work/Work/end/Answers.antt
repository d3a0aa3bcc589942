use Rattle.std.proofs.Common.{◌≡◌, [], ◌∷◌, ◌++◌, refl, sym, ap, ◌∙◌, drop, length, take, arith}
use Rattle.std.proofs.lemmas.List.{append-nil}
use Rattle.jx9_vm.specs.Moves.{ends_script, goes_back_to}
use Rattle.jx9_vm.proofs.WorkLemmas.{none_there}
use Rattle.jx9_vm.proofs.work.Work.end.Goals as goal

pub returns-in_default-clause-ok : goal.returns-in_default-clause-ok
returns-in_default-clause-ok c =
    let none : length c.args.self.now.calls.items ≡ 0 = omega (arith, c.in_default.ensures.cases.0) in
    ends_script (none_there c.args.self.now.calls.items none) (record {
      ends = refl;
      calls = sym (c.in_default.ensures.items ∙ append-nil c.pop.new.self.items);
      units = refl;
      events = refl;
      last = refl;
    })

pub returns-clause-ok : goal.returns-clause-ok
returns-clause-ok c =
    let old = c.args.self.now in
    goes_back_to c.in-Some.call (record {
      next = refl;
      waited = c.in-Some.ensures.items;
      function = refl;
      place = refl;
      stack = c.in_ok-push.ensures.here
          ∙ ap (λ vs. vs ++ c.pop-value.result ∷ []) (c.uncover.ensures.here ∙ ap (drop c.in-Some.call.stack_floor) c.pop-value.ensures.under)
          ∙ ap (λ v. drop c.in-Some.call.stack_floor old.stack.under ++ v ∷ []) c.pop-value.ensures.value;
      under = c.in_ok-push.ensures.under ∙ c.uncover.ensures.under ∙ ap (take c.in-Some.call.stack_floor) c.pop-value.ensures.under;
      slots = c.uncover-2.ensures.here;
      slots_under = c.uncover-2.ensures.under;
      units = refl;
      events = refl;
      last = refl;
    })
