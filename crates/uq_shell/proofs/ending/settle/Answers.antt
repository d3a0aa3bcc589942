use Rattle.std.proofs.Common.{true, false, refl, sym, subst, ◌∙◌, arith}
use Rattle.uq_outside.specs.Since.{Laws}
use Rattle.uq_shell.specs.Ends.{Settles}
use Rattle.uq_shell.specs.declared.ended.Ended.{Ended}
use Rattle.uq_shell.proofs.Closing.{settles_cut, settles_whole}
use Rattle.uq_shell.proofs.ending.settle.Goals as goal

pub returns-in-Ok-true : goal.returns-in-Ok-true
returns-in-Ok-true g c =
    settles_whole g.D.Disk g.O.Sink c.args.progress c.args.kv.now c.commit.new.self c.args.out.now c.commit.ensures.keeps c.commit.ensures.stop c.commit.ensures.idle
    true c.in-Ok-true.field-0 c.in-Ok-true.ensures.does c.in-Ok-true.ensures.cause.later c.in-Ok-true.ensures.durable _ _
    (sym c.in-Ok-true.ensures.whether ∙ c.in-Ok-true.field-0-test) c.status.ensures refl

pub returns-in-Ok-false : goal.returns-in-Ok-false
returns-in-Ok-false g c =
    settles_whole g.D.Disk g.O.Sink c.args.progress c.args.kv.now c.commit.new.self c.args.out.now c.commit.ensures.keeps c.commit.ensures.stop c.commit.ensures.idle
    false c.in-Ok-false.field-0 c.in-Ok-false.ensures.does c.in-Ok-false.ensures.cause.later c.in-Ok-false.ensures.durable _ _
    (sym c.in-Ok-false.ensures.whether ∙ c.in-Ok-false.field-0-test) c.status-in-Ok-false.ensures (omega arith)

pub returns-in-Err : goal.returns-in-Err
returns-in-Err g c =
    let laws : Laws g.D.Disk = record { only_now = g.met.D.Disk.only_now; counts_now = g.met.D.Disk.counts_now } in
    subst (λ (ended : Ended). Settles g.D.Disk g.O.Sink c.args.progress c.args.kv.now c.commit.new.self c.args.out.now c.end.new.out ended) (sym c.end.ensures.ended)
    (settles_cut g.D.Disk g.O.Sink c.args.progress c.args.kv.now c.commit.new.self c.args.out.now c.commit.ensures.keeps c.commit.ensures.stop c.commit.ensures.idle
    laws c.in-Err.field-0 c.end.new.out c.requires.open c.in-Err.ensures.cause c.in-Err.ensures.faults c.end.ensures.line c.end.ensures.later)
