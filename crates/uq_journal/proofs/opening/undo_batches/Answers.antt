use Rattle.uq_outside.specs.SinceLaws.{goes_on}
use Rattle.uq_journal.specs.Calls.{RecoversAs}
use Rattle.uq_journal.proofs.Results.{on_ok_two}
use Rattle.uq_journal.proofs.Undoing.{puttable, put_stop, gate_stop, gate_closed}
use Rattle.uq_journal.proofs.opening.undo_batches.Goals as goal

pub restore_main-requires-clause-puttable : goal.restore_main-requires-clause-puttable
restore_main-requires-clause-puttable g c files told = puttable c.args.old_pages files (c.requires.open files told)

pub returns-in_err-restore_main-clause-stop : goal.returns-in_err-restore_main-clause-stop
returns-in_err-restore_main-clause-stop g c files told =
    put_stop c.args.old_pages files (c.requires.open files told) g.D.Disk g.met.D.Disk.told_may_stay g.met.D.Disk.counts_now c.args.disk.now told (c.requires.settled files told) c.restore_main.new.disk (c.restore_main.ensures.steps files told)

pub returns-clause-recovered : goal.returns-clause-recovered
returns-clause-recovered g c =
    on_ok_two c.set_gate.result (λ set only files told.
    gate_closed c.args.old_pages files (c.requires.open files told) g.D.Disk g.met.D.Disk.told_may_stay g.met.D.Disk.counts_now c.args.disk.now told (c.requires.settled files told)
    c.restore_main.new.disk (c.restore_main.ensures.steps files told) c.in_ok-restore_main.ensures.put c.in_ok-restore_main.ensures.settled c.set_gate.new.disk c.set_gate.ensures.steps set only) c.set_gate.ensures.set c.set_gate.ensures.settled

pub returns-clause-stop : goal.returns-clause-stop
returns-clause-stop g c files told =
    let first = put_stop c.args.old_pages files (c.requires.open files told) g.D.Disk g.met.D.Disk.told_may_stay g.met.D.Disk.counts_now c.args.disk.now told (c.requires.settled files told) c.restore_main.new.disk (c.restore_main.ensures.steps files told) in
    let second = gate_stop c.args.old_pages files (c.requires.open files told) g.D.Disk g.met.D.Disk.told_may_stay g.met.D.Disk.counts_now c.args.disk.now told (c.requires.settled files told)
    c.restore_main.new.disk (c.restore_main.ensures.steps files told) c.in_ok-restore_main.ensures.put c.in_ok-restore_main.ensures.settled c.set_gate.new.disk c.set_gate.ensures.steps in
    goes_on g.D.Disk (RecoversAs files) c.args.disk.now c.restore_main.new.disk c.set_gate.new.disk first second
