use Rattle.std.proofs.Common.{sym, ◌∙◌}
use Rattle.uq_outside.specs.declared.fault.FileNo.TheVariants.{Journal}
use Rattle.uq_outside.specs.Files.{InFile, Torn}
use Rattle.uq_outside.specs.SinceLaws.{call_steps, sync_steps, steps_on}
use Rattle.uq_journal.specs.Steps.{AtGate}
use Rattle.uq_journal.proofs.Gates.{gate_same, gate_on, gate_torn}
use Rattle.uq_journal.proofs.Results.{on_ok_two}
use Rattle.uq_journal.proofs.gate.set_gate.Goals as goal

pub returns-in_err-write_at-clause-steps : goal.returns-in_err-write_at-clause-steps
returns-in_err-write_at-clause-steps g c = call_steps g.D.Disk (InFile Journal (Torn 0 1)) AtGate gate_same gate_torn g.met.D.Disk.only_now c.args.disk.now c.write_at.new.self c.write_at.ensures.told c.write_at.ensures.stop c.write_at.ensures.time

pub returns-clause-steps : goal.returns-clause-steps
returns-clause-steps g c =
    let write = call_steps g.D.Disk (InFile Journal (Torn 0 1)) AtGate gate_same gate_torn g.met.D.Disk.only_now c.args.disk.now c.write_at.new.self c.write_at.ensures.told c.write_at.ensures.stop c.write_at.ensures.time in
    let sync = sync_steps g.D.Disk AtGate gate_same g.met.D.Disk.only_now c.write_at.new.self c.sync.new.self c.sync.ensures.told c.sync.ensures.stop c.sync.ensures.time in
    steps_on g.D.Disk AtGate gate_on g.met.D.Disk.counts_now c.args.disk.now c.write_at.new.self c.sync.new.self write sync

pub returns-clause-settled : goal.returns-clause-settled
returns-clause-settled g c = on_ok_two c.sync.result (λ durable same files told. durable files (sym same ∙ told)) c.sync.ensures.durable c.sync.ensures.ok
