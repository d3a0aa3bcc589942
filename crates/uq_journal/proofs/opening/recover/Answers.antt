use Rattle.std.proofs.Common.{◌∙◌}
use Rattle.uq_outside.specs.declared.fault.FileNo.TheVariants.{Main}
use Rattle.uq_outside.specs.Files.{Keeps}
use Rattle.uq_journal.specs.Calls.{IsStill}
use Rattle.uq_journal.proofs.MainKept.{main_on, main_same}
use Rattle.uq_journal.proofs.Still.{refused_on, still_run}
use Rattle.uq_journal.proofs.AtGate.{stays_on}
use Rattle.uq_journal.proofs.opening.recover.Goals as goal

pub returns-clause-refused : goal.returns-clause-refused
returns-clause-refused g c =
    let settle : IsStill g.D.Disk c.args.disk.now c.settle.new.disk = record { same = c.in_ok-settle.ensures.same; steps = c.settle.ensures.steps } in
    refused_on g.D.Disk g.met.D.Disk.counts_now c.args.disk.now c.settle.new.disk c.recover_settled.new.disk c.recover_settled.result settle c.recover_settled.ensures.refused

pub returns-clause-closed : goal.returns-clause-closed
returns-clause-closed g c files told closed =
    let settle : IsStill g.D.Disk c.args.disk.now c.settle.new.disk = record { same = c.in_ok-settle.ensures.same; steps = c.settle.ensures.steps } in
    let first = still_run g.D.Disk (Keeps Main) main_same c.args.disk.now c.settle.new.disk settle in
    main_on g.D.Disk g.met.D.Disk.counts_now c.args.disk.now c.settle.new.disk c.recover_settled.new.disk first (c.recover_settled.ensures.closed files (settle.same ∙ told) closed)

pub returns-clause-gate : goal.returns-clause-gate
returns-clause-gate g c files told closed =
    stays_on g.D.Disk g.met.D.Disk.counts_now c.args.disk.now c.settle.new.disk c.recover_settled.new.disk c.settle.ensures.steps (c.recover_settled.ensures.gate files (c.in_ok-settle.ensures.same ∙ told) closed)
