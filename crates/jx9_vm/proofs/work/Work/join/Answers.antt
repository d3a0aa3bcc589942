use Rattle.std.proofs.Common.{◌≡◌, refl, ◌∙◌}
use Rattle.jx9_vm.specs.Work.{joined_top}
use Rattle.jx9_vm.proofs.Outcomes.{if_ok_map}
use Rattle.jx9_vm.proofs.WorkLemmas.{is_too_large, joined_above, joined_fits, joined_too_large}
use Rattle.jx9_vm.proofs.work.Work.join.Goals as goal

pub returns-in-Ok-clause-ok : goal.returns-in-Ok-clause-ok
returns-in-Ok-clause-ok c =
    let is : c.in_ok-text.text.items ≡ joined_top c.args.count c.args.self.now =
    c.in_ok-text.ensures ∙ joined_above c.args.count c.args.self.now c.upper.result.now c.upper.ensures in
    if_ok_map c.push_sized.result c.push_sized.ensures.ok (λ flow pays.
    joined_fits c.args.self.now c.push_sized.new.self c.args.count c.args.line flow c.in_ok-text.text.items is c.in-Ok.text c.drop_upper.new.self
    c.in-Ok.ensures.ok c.in-Ok.ensures.fits c.drop_upper.ensures.under c.drop_upper.ensures.here pays)

pub returns-in_default-clause-ok : goal.returns-in_default-clause-ok
returns-in_default-clause-ok c =
    let is : c.in_ok-text.text.items ≡ joined_top c.args.count c.args.self.now =
    c.in_ok-text.ensures ∙ joined_above c.args.count c.args.self.now c.upper.result.now c.upper.ensures in
    joined_too_large c.args.self.now _ c.args.count c.args.line _ c.in_ok-text.text.items is
    (is_too_large c.in_ok-text.text.items c.in-Err.fault c.in-Err.ensures.fault c.in_default.not-Memory)
    (record { ends = refl; calls = refl; units = refl; events = refl; last = refl })
