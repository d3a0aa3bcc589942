use Rattle.std.proofs.Common.{◌≤◌, length, arith}
use Rattle.uq_outside.specs.declared.fault.FileNo.TheVariants.{Journal}
use Rattle.uq_outside.specs.Files.{InFile, Torn}
use Rattle.uq_outside.specs.SinceLaws.{call_steps, sync_steps, steps_on}
use Rattle.uq_journal.specs.Steps.{Behind, kept}
use Rattle.uq_journal.proofs.Behind.{behind_same, behind_on, behind_torn}
use Rattle.uq_journal.proofs.Results.{on_ok_two}
use Rattle.uq_journal.proofs.Staged.{staged_whole}
use Rattle.uq_journal.proofs.staging.stage_batch.Goals as goal

pub write_at-requires-clause-small : goal.write_at-requires-clause-small
write_at-requires-clause-small g c = omega (arith, c.in_ok-end.ensures.staged.size, c.requires.few)

pub returns-in_err-write_at-clause-steps : goal.returns-in_err-write_at-clause-steps
returns-in_err-write_at-clause-steps g c =
    let behind : 1 ≤ c.in_ok-end.end = omega (arith, c.in_ok-end.ensures.staged.size) in
    let gate = call_steps g.D.Disk (InFile Journal (Torn c.in_ok-end.end 1)) (Behind 1) (behind_same 1) (behind_torn 1 c.in_ok-end.end 1 behind) g.met.D.Disk.only_now c.write_body.new.disk c.write_at.new.self c.write_at.ensures.told c.write_at.ensures.stop c.write_at.ensures.time in
    steps_on g.D.Disk (Behind 1) (behind_on 1) g.met.D.Disk.counts_now c.args.disk.now c.write_body.new.disk c.write_at.new.self c.write_body.ensures.steps gate

pub returns-clause-steps : goal.returns-clause-steps
returns-clause-steps g c =
    let behind : 1 ≤ c.in_ok-end.end = omega (arith, c.in_ok-end.ensures.staged.size) in
    let gate = call_steps g.D.Disk (InFile Journal (Torn c.in_ok-end.end 1)) (Behind 1) (behind_same 1) (behind_torn 1 c.in_ok-end.end 1 behind) g.met.D.Disk.only_now c.write_body.new.disk c.write_at.new.self c.write_at.ensures.told c.write_at.ensures.stop c.write_at.ensures.time in
    let sync = sync_steps g.D.Disk (Behind 1) (behind_same 1) g.met.D.Disk.only_now c.write_at.new.self c.sync.new.self c.sync.ensures.told c.sync.ensures.stop c.sync.ensures.time in
    let on = steps_on g.D.Disk (Behind 1) (behind_on 1) g.met.D.Disk.counts_now in
    on c.args.disk.now c.write_at.new.self c.sync.new.self (on c.args.disk.now c.write_body.new.disk c.write_at.new.self c.write_body.ensures.steps gate) sync

pub returns-clause-staged : goal.returns-clause-staged
returns-clause-staged g c =
    on_ok_two c.sync.result (λ durable same. staged_whole g.D.Disk c.args.old_pages (length (kept c.args.old_pages c.args.dirty.now)) c.args.disk.now c.args.dirty.now c.write_body.new.disk c.write_at.new.self c.sync.new.self c.in_ok-end.end c.in_ok-end.ensures.staged c.in_ok-write_at.ensures.ok same durable) c.sync.ensures.durable c.sync.ensures.ok
