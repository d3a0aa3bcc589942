use Rattle.uq_outside.specs.Since.{Laws}
use Rattle.uq_kv.specs.Cursor.{place_of}
use Rattle.uq_shell.proofs.Shown.{shown_key, shown_none}
use Rattle.uq_shell.proofs.cursor.go.Goals as goal

pub returns-in-Ok : goal.returns-in-Ok
returns-in-Ok g c =
    let laws : Laws g.D.Disk = record { only_now = g.met.D.Disk.only_now; counts_now = g.met.D.Disk.counts_now } in
    shown_key g.D.Disk c.args.to (place_of c.args.cursor.now) laws c.args.kv.now c.step.new.kv c.cursor_key.new.self (place_of c.step.new.cursor) c.cursor_key.result c.requires c.in-Ok.ensures
    c.cursor_key.ensures.does c.cursor_key.ensures.reads c.cursor_key.ensures.stop c.cursor_key.ensures.keeps c.cursor_key.ensures.cause

pub returns-in-Err : goal.returns-in-Err
returns-in-Err g c =
    shown_none g.D.Disk c.args.to (place_of c.args.cursor.now) c.args.kv.now c.step.new.kv (place_of c.step.new.cursor) c.in-Err.fault c.in-Err.ensures
