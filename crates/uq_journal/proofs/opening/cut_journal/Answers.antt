use Rattle.std.proofs.Common.{sym, ◌∙◌}
use Rattle.uq_outside.specs.declared.fault.FileNo.TheVariants.{Journal}
use Rattle.uq_outside.specs.Files.{InFile, Cut}
use Rattle.uq_outside.specs.SinceLaws.{call_steps, sync_steps, steps_on}
use Rattle.uq_journal.specs.Recovery.{Shortens}
use Rattle.uq_journal.proofs.Emptying.{shortens_same, shortens_on, shortens_cut}
use Rattle.uq_journal.proofs.Results.{on_ok_two}
use Rattle.uq_journal.proofs.opening.cut_journal.Goals as goal

pub returns-in_err-cut-clause-steps : goal.returns-in_err-cut-clause-steps
returns-in_err-cut-clause-steps g c = call_steps g.D.Disk (InFile Journal (Cut 1)) Shortens shortens_same shortens_cut g.met.D.Disk.only_now c.args.disk.now c.cut.new.self c.cut.ensures.told c.cut.ensures.stop c.cut.ensures.time

pub returns-clause-steps : goal.returns-clause-steps
returns-clause-steps g c =
    let cut = call_steps g.D.Disk (InFile Journal (Cut 1)) Shortens shortens_same shortens_cut g.met.D.Disk.only_now c.args.disk.now c.cut.new.self c.cut.ensures.told c.cut.ensures.stop c.cut.ensures.time in
    let sync = sync_steps g.D.Disk Shortens shortens_same g.met.D.Disk.only_now c.cut.new.self c.sync.new.self c.sync.ensures.told c.sync.ensures.stop c.sync.ensures.time in
    steps_on g.D.Disk Shortens shortens_on g.met.D.Disk.counts_now c.args.disk.now c.cut.new.self c.sync.new.self cut sync

pub returns-clause-settled : goal.returns-clause-settled
returns-clause-settled g c = on_ok_two c.sync.result (λ durable same files told. durable files (sym same ∙ told)) c.sync.ensures.durable c.sync.ensures.ok
