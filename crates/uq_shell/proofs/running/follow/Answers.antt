use Rattle.std.proofs.Common.{rules, ◌≡◌, sym, ap, ◌∙◌}
use Rattle.uq_kv.specs.Kv.{disk_of, limits_of}
use Rattle.uq_kv.specs.Opening.{Finds}
use Rattle.uq_model.specs.declared.limits.Limits.{Limits}
use Rattle.uq_words.specs.Texts.{asked_by, texts_of}
use Rattle.uq_shell.specs.Modes.{mode_in}
use Rattle.uq_shell.specs.Stream.{mode_of, terms_in}
use Rattle.uq_shell.specs.declared.terms.Terms.{Terms}
use Rattle.uq_shell.proofs.Served.{runs_over}
use Rattle.uq_shell.proofs.running.follow.Goals as goal

pub returns : goal.returns
returns g c =
    let last = disk_of g.D.Disk c.serve-ended.new.kv in
    let given : last.now ≡ c.disk-1.given.0 = first_of (cc, search rules) in
    runs_over g.D.Disk g.I.Source g.O.Sink c.args.most c.args.input.now c.serve-ended.new.input c.args.out.now c.serve-ended.new.out c.serve-ended.result
    (Finds g.D.Disk c.args.ready c.args.disk.now) (terms_in (asked_by c.args.order.now)) (mode_of (texts_of c.args.order.now.words))
    c.over-kv.result c.serve-ended.new.kv c.args.disk.now _ c.over-kv.ensures.disk (sym given) c.over-kv.ensures.told _ (mode_in c.of-mode.result)
    (ap (λ (limits : Limits). record { limits = limits; budget = c.args.order.now.budget }) c.limits.ensures) (c.of-mode.ensures ∙ ap mode_of c.as_slice.ensures) c.serve-ended.ensures.runs
