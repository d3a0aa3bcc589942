use Rattle.std.proofs.Common.{refl, sym, ap, subst, arith}
use Rattle.std.specs.Option.{option_map}
use Rattle.uq_outside.specs.Since.{Laws}
use Rattle.uq_kv.specs.Cursor.{place_of}
use Rattle.uq_kv.specs.Kv.{limits_of}
use Rattle.uq_kv.specs.Stored.{stored_key}
use Rattle.uq_kv.specs.declared.space.Space.TheVariants.{Keys}
use Rattle.uq_shell.specs.Answers.{request_of}
use Rattle.uq_shell.specs.Carries.{CarriesOut}
use Rattle.uq_shell.specs.Modes.{mode_in}
use Rattle.uq_shell.specs.declared.mode.Mode.{Mode}
use Rattle.uq_shell.proofs.Served.{carries_input, carries_script, carries_words}
use Rattle.uq_shell.proofs.running.carry_out.Goals as goal

pub returns-in-Lines : goal.returns-in-Lines
returns-in-Lines g c =
    subst (λ (m : Mode). CarriesOut g.D.Disk g.I.Source g.O.Sink c.args.terms.now (mode_in m) c.args.most c.listen.new.progress c.args.kv.now c.listen.new.kv c.args.input.now c.listen.new.input c.args.out.now c.listen.new.out c.listen.result)
    (sym c.in-Lines.is)
    (carries_input g.D.Disk g.I.Source g.O.Sink c.args.terms.now c.args.most c.listen.new.progress c.args.kv.now c.listen.new.kv c.args.input.now c.listen.new.input c.args.out.now c.listen.new.out
    c.listen.result c.listen.ensures.carries c.listen.ensures.behind c.listen.ensures.draws)

pub returns-in-Script : goal.returns-in-Script
returns-in-Script g c =
    subst (λ (m : Mode). CarriesOut g.D.Disk g.I.Source g.O.Sink c.args.terms.now (mode_in m) c.args.most c.recite.new.progress c.args.kv.now c.recite.new.kv c.args.input.now c.recite.new.input c.args.out.now c.recite.new.out c.recite.result)
    (sym c.in-Script.is)
    (carries_script g.D.Disk g.I.Source g.O.Sink c.args.terms.now c.args.most c.recite.new.progress c.args.kv.now c.recite.new.kv c.args.input.now c.recite.new.input c.args.out.now c.recite.new.out
    c.recite.result c.recite.ensures.carries c.recite.ensures.behind c.recite.ensures.draws)

pub returns-in-Words : goal.returns-in-Words
returns-in-Words g c =
    let laws : Laws g.D.Disk = record { only_now = g.met.D.Disk.only_now; counts_now = g.met.D.Disk.counts_now } in
    subst (λ (m : Mode). CarriesOut g.D.Disk g.I.Source g.O.Sink c.args.terms.now (mode_in m) c.args.most c.obey.new.progress c.args.kv.now c.obey.new.kv c.args.input.now c.args.input.now c.args.out.now c.obey.new.out c.obey.result)
    (sym c.in-Words.is)
    (carries_words g.D.Disk g.I.Source g.O.Sink c.args.terms.now c.args.most c.obey.new.progress c.args.kv.now c.obey.new.kv laws (sym c.requires.terms.of_store) (request_of c.read_command.result) _ c.args.progress.now
    (place_of c.args.cursor.now) (place_of c.obey.new.cursor) c.args.input.now c.args.out.now c.obey.new.out c.obey.result
    c.read_command.ensures c.requires.begins (ap (option_map (stored_key Keys)) c.requires.unset) c.requires.idle c.obey.ensures.moves c.obey.ensures.reads c.obey.ensures.silent)
