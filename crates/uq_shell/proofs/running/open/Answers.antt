use Rattle.std.proofs.Common.{subst, ◌∙◌}
use Rattle.std.specs.Option.{ForSome}
use Rattle.std.specs.Prelude.{IfOk}
use Rattle.uq_outside.specs.Since.{Laws}
use Rattle.uq_shell.specs.Ends.{FindsWhatIsThere}
use Rattle.uq_shell.proofs.Opened.{files_behind, files_here, kept_behind, kept_here}
use Rattle.uq_shell.proofs.running.open.Goals as goal

pub returns-in-Ok-clause-found : goal.returns-in-Ok-clause-found
returns-in-Ok-clause-found g c =
    subst (λ content. IfOk c.recover.result (λ ready. ForSome content (FindsWhatIsThere g.D.Disk ready c.recover.new.disk))) c.attach.ensures.same c.recover.ensures.found

pub returns-in-Ok-clause-not_database : goal.returns-in-Ok-clause-not_database
returns-in-Ok-clause-not_database g c = λ is files told. c.recover.ensures.not_database is files (c.attach.ensures.same ∙ told)

pub returns-in-Ok-clause-gate : goal.returns-in-Ok-clause-gate
returns-in-Ok-clause-gate g c =
    let laws : Laws g.D.Disk = record { only_now = g.met.D.Disk.only_now; counts_now = g.met.D.Disk.counts_now } in
    files_behind g.D.Disk laws c.args.disk.now c.attach.new.self c.attach.ensures.same c.attach.ensures.stop c.attach.ensures.time c.recover.new.disk c.recover.ensures.gate

pub returns-in-Ok-clause-stop : goal.returns-in-Ok-clause-stop
returns-in-Ok-clause-stop g c =
    let laws : Laws g.D.Disk = record { only_now = g.met.D.Disk.only_now; counts_now = g.met.D.Disk.counts_now } in
    kept_behind g.D.Disk laws c.args.disk.now c.attach.new.self c.recover.new.disk c.attach.ensures.same c.attach.ensures.stop c.attach.ensures.time c.recover.ensures.stop

pub returns-in-Err-clause-gate : goal.returns-in-Err-clause-gate
returns-in-Err-clause-gate g c =
    let laws : Laws g.D.Disk = record { only_now = g.met.D.Disk.only_now; counts_now = g.met.D.Disk.counts_now } in
    files_here g.D.Disk laws c.args.disk.now c.attach.new.self c.attach.ensures.same c.attach.ensures.stop c.attach.ensures.time

pub returns-in-Err-clause-stop : goal.returns-in-Err-clause-stop
returns-in-Err-clause-stop g c =
    let laws : Laws g.D.Disk = record { only_now = g.met.D.Disk.only_now; counts_now = g.met.D.Disk.counts_now } in
    kept_here g.D.Disk laws c.args.disk.now c.attach.new.self c.attach.ensures.same c.attach.ensures.stop c.attach.ensures.time
