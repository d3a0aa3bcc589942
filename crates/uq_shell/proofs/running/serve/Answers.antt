use Rattle.std.proofs.Common.{◌≡◌, Err, sym, subst}
use Rattle.uq_model.specs.Session.{opened}
use Rattle.uq_kv.specs.Kv.{Tells, disk_of}
use Rattle.uq_shell.specs.Carries.{CarriesOut}
use Rattle.uq_shell.specs.Ends.{RunsOver}
use Rattle.uq_shell.specs.Modes.{mode_in}
use Rattle.uq_shell.specs.declared.ended.Ended.{Ended}
use Rattle.uq_shell.specs.declared.progress.Stop.{Stop}
use Rattle.uq_shell.specs.declared.progress.Stop.TheVariants.{At, Sink}
use Rattle.uq_shell.proofs.Served.{served_at, served_sink, served_whole}
use Rattle.uq_shell.proofs.running.serve.Goals as goal

pub returns-in-Ok-clause-runs : goal.returns-in-Ok-clause-runs
returns-in-Ok-clause-runs g c =
    served_whole g.D.Disk g.I.Source g.O.Sink c.args.terms.now (mode_in c.args.mode) c.args.most c.carry_out.new.progress c.args.kv.now c.carry_out.new.kv
    c.args.input.now c.carry_out.new.input c.args.out.now c.carry_out.new.out c.settle.new.kv c.settle.new.out c.settle.result _ c.requires.idle c.in-Ok.ensures c.settle.ensures

pub returns-in-Err-At-clause-runs : goal.returns-in-Err-At-clause-runs
returns-in-Err-At-clause-runs g c =
    let is : c.in-Err-At.field-0 ≡ At c.in-Err-At.status = cc in
    let carries = subst (λ (s : Stop). CarriesOut g.D.Disk g.I.Source g.O.Sink c.args.terms.now (mode_in c.args.mode) c.args.most c.carry_out.new.progress c.args.kv.now
    c.carry_out.new.kv c.args.input.now c.carry_out.new.input c.args.out.now c.carry_out.new.out (Err s)) is c.in-Err-At.ensures in
    subst (λ (ended : Ended). RunsOver g.D.Disk g.I.Source g.O.Sink (λ entry. Tells g.D.Disk c.args.kv.now (opened entry)) c.args.terms.now (mode_in c.args.mode)
    c.args.most (disk_of g.D.Disk c.args.kv.now).now (disk_of g.D.Disk c.carry_out.new.kv).now c.args.input.now c.carry_out.new.input c.args.out.now c.end.new.out ended) (sym c.end.ensures.ended)
    (served_at g.D.Disk g.I.Source g.O.Sink c.args.terms.now (mode_in c.args.mode) c.args.most c.carry_out.new.progress c.args.kv.now c.carry_out.new.kv
    c.args.input.now c.carry_out.new.input c.args.out.now c.carry_out.new.out c.in-Err-At.status c.end.new.out carries c.end.ensures.line c.end.ensures.later)

pub returns-clause-runs : goal.returns-clause-runs
returns-clause-runs g c =
    let is : c.in-Err-Sink.field-0 ≡ Sink = cc in
    let carries = subst (λ (s : Stop). CarriesOut g.D.Disk g.I.Source g.O.Sink c.args.terms.now (mode_in c.args.mode) c.args.most c.carry_out.new.progress c.args.kv.now
    c.carry_out.new.kv c.args.input.now c.carry_out.new.input c.args.out.now c.carry_out.new.out (Err s)) is c.in-Err-Sink.ensures in
    served_sink g.D.Disk g.I.Source g.O.Sink c.args.terms.now (mode_in c.args.mode) c.args.most c.carry_out.new.progress c.args.kv.now c.carry_out.new.kv
    c.args.input.now c.carry_out.new.input c.args.out.now c.carry_out.new.out carries
