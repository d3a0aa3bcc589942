use Rattle.std.proofs.Common.{refl, subst}
use Rattle.std.specs.Prelude.{Result, Err}
use Rattle.uq_outside.specs.Since.{Laws}
use Rattle.uq_kv.specs.Cursor.{place_of}
use Rattle.uq_shell.specs.Obeys.{RepliesBy}
use Rattle.uq_shell.specs.declared.progress.Stop.{Stop}
use Rattle.uq_shell.proofs.Answered.{moves_answered, moves_cut}
use Rattle.uq_shell.proofs.obeying.obey.Goals as goal

pub returns-in-Ok-clause-moves : goal.returns-in-Ok-clause-moves
returns-in-Ok-clause-moves g c =
    let laws : Laws g.D.Disk = record { only_now = g.met.D.Disk.only_now; counts_now = g.met.D.Disk.counts_now } in
    moves_answered g.D.Disk g.O.Sink laws c.args.command c.args.progress.now (place_of c.args.cursor.now) (place_of c.answer_command.new.cursor) c.args.kv.now c.answer_command.new.kv c.args.out.now
    c.in-Ok.answer c.in-Ok.ensures.does c.in-Ok.ensures.leaves c.in-Ok.ensures.open c.put_reply.new.progress c.put_reply.new.out c.put_reply.result c.put_reply.ensures

pub returns-in-Ok-clause-reads : goal.returns-in-Ok-clause-reads
returns-in-Ok-clause-reads g c = record { still = c.in-Ok.ensures.leaves.still; idle = c.in-Ok.ensures.leaves.idle }

pub returns-in-Ok-clause-silent : goal.returns-in-Ok-clause-silent
returns-in-Ok-clause-silent g c = λ status is.
    absurd (subst (λ (r : Result (Unit {0}) Stop). RepliesBy g.O.Sink r c.in-Ok.answer c.args.progress.now c.put_reply.new.progress c.args.out.now c.put_reply.new.out) is c.put_reply.ensures)

pub returns-in-Err-clause-moves : goal.returns-in-Err-clause-moves
returns-in-Err-clause-moves g c =
    let laws : Laws g.D.Disk = record { only_now = g.met.D.Disk.only_now; counts_now = g.met.D.Disk.counts_now } in
    moves_cut g.D.Disk g.O.Sink laws c.args.command c.args.progress.now (place_of c.args.cursor.now) (place_of c.answer_command.new.cursor) c.args.kv.now c.answer_command.new.kv c.args.out.now c.in-Err.status c.in-Err.ensures.leaves

pub returns-in-Err-clause-reads : goal.returns-in-Err-clause-reads
returns-in-Err-clause-reads g c = record { still = c.in-Err.ensures.leaves.still; idle = c.in-Err.ensures.leaves.idle }

pub returns-in-Err-clause-silent : goal.returns-in-Err-clause-silent
returns-in-Err-clause-silent g c = λ status is. (refl, refl)
