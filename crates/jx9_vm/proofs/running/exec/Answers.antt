use Rattle.jx9_vm.proofs.ExecLemmas.{exec_halted, exec_ran, exec_unsettled, exec_unstarted, sink_calm, sink_halted}
use Rattle.jx9_vm.proofs.running.exec.Goals as goal

pub returns-in-Err-clause-stopped : goal.returns-in-Err-clause-stopped
returns-in-Err-clause-stopped g c =
    exec_unstarted c.args.code.now c.args.budget (g.B.Base.shows c.args.base.now) (g.O.Sink.written c.args.out.now) (g.O.Sink.faults c.args.out.now) _ _
    c.every_code_ends.ensures c.raise.ensures
    (g.met.B.Base.only_now c.args.base.now) (g.met.B.Base.saved_stays c.args.base.now) (g.met.B.Base.counts_now c.args.base.now)

pub returns-in-Err-drive-clause-stopped : goal.returns-in-Err-drive-clause-stopped
returns-in-Err-drive-clause-stopped g c =
    exec_halted c.args.code.now c.args.budget c.in-Ok.work c.in-Ok.ensures c.drive.new.work (g.B.Base.shows c.args.base.now) _ _ _ _ _ _ c.in-Err-drive.cause
    c.every_code_ends.ensures c.in-Err-drive.ensures.stopped c.raise-in-Err-drive.ensures
    (g.met.B.Base.only_now c.args.base.now) (g.met.B.Base.saved_stays c.args.base.now) (g.met.B.Base.counts_now c.args.base.now)

pub returns-in-Err-drive-clause-sink : goal.returns-in-Err-drive-clause-sink
returns-in-Err-drive-clause-sink g c = sink_halted _ _ _ c.in-Err-drive.ensures.stopped.later c.in-Err-drive.ensures.stopped.quiet

pub returns-in-Ok-settle-clause-ran : goal.returns-in-Ok-settle-clause-ran
returns-in-Ok-settle-clause-ran g c =
    exec_ran c.args.code.now c.args.budget c.in-Ok.work c.in-Ok.ensures c.drive.new.work c.in-Ok-drive.ending (g.B.Base.shows c.args.base.now) (g.B.Base.shows c.settle.new.base) _ _ _ _ c.used.result
    c.in-Ok-drive.ensures.ended c.in-Ok-settle.ensures.settles c.used.ensures c.raise-in-Ok-settle.ensures
    (g.met.B.Base.only_now c.args.base.now) (g.met.B.Base.saved_stays c.args.base.now) (g.met.B.Base.counts_now c.settle.new.base)

pub returns-in-Ok-settle-clause-sink : goal.returns-in-Ok-settle-clause-sink
returns-in-Ok-settle-clause-sink g c = sink_calm _ _ _ c.in-Ok-drive.ensures.quiet

pub returns-clause-stopped : goal.returns-clause-stopped
returns-clause-stopped g c =
    exec_unsettled c.args.code.now c.args.budget c.in-Ok.work c.in-Ok.ensures c.drive.new.work c.in-Ok-drive.ending _ (g.B.Base.shows c.args.base.now) (g.B.Base.shows c.settle.new.base) _ _ _ _ _ _
    c.in-Ok-drive.ensures.ended c.in-Err-settle.ensures.settles c.raise-in-Err-settle.ensures
    (g.met.B.Base.only_now c.args.base.now) (g.met.B.Base.saved_stays c.args.base.now) (g.met.B.Base.counts_now c.settle.new.base)

pub returns-clause-sink : goal.returns-clause-sink
returns-clause-sink g c = sink_calm _ _ _ c.in-Ok-drive.ensures.quiet
