use Rattle.std.proofs.Common.{refl, ap}
use Rattle.jx9_vm.proofs.Outcomes.{if_ok_map}
use Rattle.jx9_vm.proofs.WorkLemmas.{appended, appended_too_large, is_too_large}
use Rattle.jx9_vm.proofs.work.Work.append.Goals as goal

pub returns-in-Ok-clause-ok : goal.returns-in-Ok-clause-ok
returns-in-Ok-clause-ok c =
    if_ok_map c.write_sized.result c.write_sized.ensures.ok (λ flow paid.
    appended c.args.self.now c.take_text.new.self c.write_sized.new.self c.args.line c.args.slot flow c.in_ok-text.text.items c.take_text.ensures.popped
    c.in_ok-text.ensures.text c.in-Ok.text c.in-Ok.ensures.ok c.in-Ok.ensures.fits paid)

pub returns-in_default-clause-ok : goal.returns-in_default-clause-ok
returns-in_default-clause-ok c =
    let mid = c.take_text.new.self in
    let popped = c.take_text.ensures.popped in
    appended_too_large c.args.self.now mid mid c.args.line c.args.slot _ c.in_ok-text.text.items popped c.in_ok-text.ensures.text
    (is_too_large c.in_ok-text.text.items c.in-Err.fault c.in-Err.ensures.fault c.in_default.not-Memory)
    (record { ends = refl; calls = ap (λ x. x.items) popped.calls; units = popped.units; events = popped.events; last = popped.last })
