use Rattle.std.proofs.Common.{◌≡◌, ◌∙◌, Some, length, refl, sym, ap, subst, arith}
use Rattle.uq_outside.specs.declared.fault.FileNo.TheVariants.{Main}
use Rattle.uq_outside.specs.Files.{Files, Keeps}
use Rattle.uq_outside.specs.SinceLaws.{goes_on, weaker}
use Rattle.uq_journal.specs.Calls.{RecoversAs}
use Rattle.uq_journal.specs.Recovered.{recovered}
use Rattle.uq_journal.specs.Recovery.{IsRecovered, Restores}
use Rattle.uq_journal.proofs.MainKept.{main_on, main_same}
use Rattle.uq_journal.proofs.Emptying.{fresh_stop, fresh_rest}
use Rattle.uq_journal.proofs.Still.{still_call, still_from, still_run, still_settled}
use Rattle.uq_journal.proofs.AtGate.{stays_on, stays_told}
use Rattle.uq_journal.proofs.opening.recover_settled.Goals as goal

pub returns-in_err-len-clause-stop : goal.returns-in_err-len-clause-stop
returns-in_err-len-clause-stop g c files told =
    still_from g.D.Disk (RecoversAs files) c.args.disk.now c.length.new.self files (c.requires.settled files told) refl (still_call g.D.Disk g.met.D.Disk.only_now c.args.disk.now c.length.new.self c.length.ensures.same c.length.ensures.stop c.length.ensures.time).steps

pub returns-in_err-set_gate-clause-stop : goal.returns-in_err-set_gate-clause-stop
returns-in_err-set_gate-clause-stop g c files told =
    let still = still_call g.D.Disk g.met.D.Disk.only_now c.args.disk.now c.length.new.self c.length.ensures.same c.length.ensures.stop c.length.ensures.time in
    let settled = still_settled g.D.Disk g.met.D.Disk.counts_now c.args.disk.now c.length.new.self files (c.requires.settled files told) still in
    goes_on g.D.Disk (RecoversAs files) c.args.disk.now c.length.new.self c.set_gate.new.disk (still_from g.D.Disk (RecoversAs files) c.args.disk.now c.length.new.self files (c.requires.settled files told) refl still.steps)
    (fresh_stop g.D.Disk g.met.D.Disk.counts_now files c.length.new.self (still.same ∙ told) settled (sym (c.in_ok-len.ensures.told files told) ∙ c.if-len-eq0.true) c.set_gate.new.disk c.set_gate.ensures.steps)

pub returns-then-len-eq0-clause-stop : goal.returns-then-len-eq0-clause-stop
returns-then-len-eq0-clause-stop g c files told =
    let still = still_call g.D.Disk g.met.D.Disk.only_now c.args.disk.now c.length.new.self c.length.ensures.same c.length.ensures.stop c.length.ensures.time in
    let settled = still_settled g.D.Disk g.met.D.Disk.counts_now c.args.disk.now c.length.new.self files (c.requires.settled files told) still in
    goes_on g.D.Disk (RecoversAs files) c.args.disk.now c.length.new.self c.set_gate.new.disk (still_from g.D.Disk (RecoversAs files) c.args.disk.now c.length.new.self files (c.requires.settled files told) refl still.steps)
    (fresh_stop g.D.Disk g.met.D.Disk.counts_now files c.length.new.self (still.same ∙ told) settled (sym (c.in_ok-len.ensures.told files told) ∙ c.if-len-eq0.true) c.set_gate.new.disk c.set_gate.ensures.steps)

pub returns-then-len-eq0-clause-answer : goal.returns-then-len-eq0-clause-answer
returns-then-len-eq0-clause-answer g c files told =
    let still = still_call g.D.Disk g.met.D.Disk.only_now c.args.disk.now c.length.new.self c.length.ensures.same c.length.ensures.stop c.length.ensures.time in
    let settled = still_settled g.D.Disk g.met.D.Disk.counts_now c.args.disk.now c.length.new.self files (c.requires.settled files told) still in
    fresh_rest g.D.Disk g.met.D.Disk.counts_now files c.length.new.self (still.same ∙ told) settled (sym (c.in_ok-len.ensures.told files told) ∙ c.if-len-eq0.true) c.set_gate.new.disk c.set_gate.ensures.steps c.in_ok-set_gate.ensures.set c.in_ok-set_gate.ensures.settled

pub returns-in_err-restore-clause-stop : goal.returns-in_err-restore-clause-stop
returns-in_err-restore-clause-stop g c files told =
    let still = still_call g.D.Disk g.met.D.Disk.only_now c.args.disk.now c.length.new.self c.length.ensures.same c.length.ensures.stop c.length.ensures.time in
    goes_on g.D.Disk (RecoversAs files) c.args.disk.now c.length.new.self c.restore.new.disk (still_from g.D.Disk (RecoversAs files) c.args.disk.now c.length.new.self files (c.requires.settled files told) refl still.steps)
    (c.restore.ensures.stop files (still.same ∙ told))

pub returns-then-not-branch-clause-stop : goal.returns-then-not-branch-clause-stop
returns-then-not-branch-clause-stop g c files told =
    let still = still_call g.D.Disk g.met.D.Disk.only_now c.args.disk.now c.length.new.self c.length.ensures.same c.length.ensures.stop c.length.ensures.time in
    goes_on g.D.Disk (RecoversAs files) c.args.disk.now c.length.new.self c.restore.new.disk (still_from g.D.Disk (RecoversAs files) c.args.disk.now c.length.new.self files (c.requires.settled files told) refl still.steps)
    (c.restore.ensures.stop files (still.same ∙ told))

pub returns-in_err-empty_journal-clause-stop : goal.returns-in_err-empty_journal-clause-stop
returns-in_err-empty_journal-clause-stop g c files told =
    let still = still_call g.D.Disk g.met.D.Disk.only_now c.args.disk.now c.length.new.self c.length.ensures.same c.length.ensures.stop c.length.ensures.time in
    let first = goes_on g.D.Disk (RecoversAs files) c.args.disk.now c.length.new.self c.restore.new.disk (still_from g.D.Disk (RecoversAs files) c.args.disk.now c.length.new.self files (c.requires.settled files told) refl still.steps)
    (c.restore.ensures.stop files (still.same ∙ told)) in
    let done : IsRecovered g.D.Disk files c.restore.new.disk = subst (Restores g.D.Disk files c.restore.new.disk) c.if-not-branch.false (c.in_ok-restore.ensures.answer files (still.same ∙ told)) in
    let wide : (left : Files) → recovered left ≡ Some done.now.main → RecoversAs files left = λ left is. is ∙ sym done.main in
    goes_on g.D.Disk (RecoversAs files) c.args.disk.now c.restore.new.disk c.empty_journal.new.disk first
    (weaker g.D.Disk (λ left. recovered left ≡ Some done.now.main) (RecoversAs files) c.restore.new.disk c.empty_journal.new.disk wide (c.empty_journal.ensures.stop done.now done.told))

pub returns-clause-stop : goal.returns-clause-stop
returns-clause-stop g c files told =
    let still = still_call g.D.Disk g.met.D.Disk.only_now c.args.disk.now c.length.new.self c.length.ensures.same c.length.ensures.stop c.length.ensures.time in
    let first = goes_on g.D.Disk (RecoversAs files) c.args.disk.now c.length.new.self c.restore.new.disk (still_from g.D.Disk (RecoversAs files) c.args.disk.now c.length.new.self files (c.requires.settled files told) refl still.steps)
    (c.restore.ensures.stop files (still.same ∙ told)) in
    let done : IsRecovered g.D.Disk files c.restore.new.disk = subst (Restores g.D.Disk files c.restore.new.disk) c.if-not-branch.false (c.in_ok-restore.ensures.answer files (still.same ∙ told)) in
    let wide : (left : Files) → recovered left ≡ Some done.now.main → RecoversAs files left = λ left is. is ∙ sym done.main in
    goes_on g.D.Disk (RecoversAs files) c.args.disk.now c.restore.new.disk c.empty_journal.new.disk first
    (weaker g.D.Disk (λ left. recovered left ≡ Some done.now.main) (RecoversAs files) c.restore.new.disk c.empty_journal.new.disk wide (c.empty_journal.ensures.stop done.now done.told))

pub returns-in_err-empty_journal-clause-closed : goal.returns-in_err-empty_journal-clause-closed
returns-in_err-empty_journal-clause-closed g c files told closed =
    let still = still_call g.D.Disk g.met.D.Disk.only_now c.args.disk.now c.length.new.self c.length.ensures.same c.length.ensures.stop c.length.ensures.time in
    let first = still_run g.D.Disk (Keeps Main) main_same c.args.disk.now c.length.new.self still in
    let on = main_on g.D.Disk g.met.D.Disk.counts_now in
    on c.args.disk.now c.restore.new.disk c.empty_journal.new.disk (on c.args.disk.now c.length.new.self c.restore.new.disk first (c.restore.ensures.closed files (still.same ∙ told) closed)) c.empty_journal.ensures.main

pub returns-clause-closed : goal.returns-clause-closed
returns-clause-closed g c files told closed =
    let still = still_call g.D.Disk g.met.D.Disk.only_now c.args.disk.now c.length.new.self c.length.ensures.same c.length.ensures.stop c.length.ensures.time in
    let first = still_run g.D.Disk (Keeps Main) main_same c.args.disk.now c.length.new.self still in
    let on = main_on g.D.Disk g.met.D.Disk.counts_now in
    on c.args.disk.now c.restore.new.disk c.empty_journal.new.disk (on c.args.disk.now c.length.new.self c.restore.new.disk first (c.restore.ensures.closed files (still.same ∙ told) closed)) c.empty_journal.ensures.main

pub returns-in_err-len-clause-gate : goal.returns-in_err-len-clause-gate
returns-in_err-len-clause-gate g c files told closed =
    let still = still_call g.D.Disk g.met.D.Disk.only_now c.args.disk.now c.length.new.self c.length.ensures.same c.length.ensures.stop c.length.ensures.time in
    still.steps

pub returns-in_err-set_gate-clause-gate : goal.returns-in_err-set_gate-clause-gate
returns-in_err-set_gate-clause-gate g c files told closed =
    let still = still_call g.D.Disk g.met.D.Disk.only_now c.args.disk.now c.length.new.self c.length.ensures.same c.length.ensures.stop c.length.ensures.time in
    absurd (omega (arith, c.in_ok-len.ensures.told files told, c.if-len-eq0.true, ap length closed))

pub returns-then-len-eq0-clause-gate : goal.returns-then-len-eq0-clause-gate
returns-then-len-eq0-clause-gate g c files told closed =
    let still = still_call g.D.Disk g.met.D.Disk.only_now c.args.disk.now c.length.new.self c.length.ensures.same c.length.ensures.stop c.length.ensures.time in
    absurd (omega (arith, c.in_ok-len.ensures.told files told, c.if-len-eq0.true, ap length closed))

pub returns-in_err-restore-clause-gate : goal.returns-in_err-restore-clause-gate
returns-in_err-restore-clause-gate g c files told closed =
    let still = still_call g.D.Disk g.met.D.Disk.only_now c.args.disk.now c.length.new.self c.length.ensures.same c.length.ensures.stop c.length.ensures.time in
    let two = stays_on g.D.Disk g.met.D.Disk.counts_now c.args.disk.now c.length.new.self c.restore.new.disk still.steps (c.restore.ensures.gate files (still.same ∙ told) closed) in
    two

pub returns-then-not-branch-clause-gate : goal.returns-then-not-branch-clause-gate
returns-then-not-branch-clause-gate g c files told closed =
    let still = still_call g.D.Disk g.met.D.Disk.only_now c.args.disk.now c.length.new.self c.length.ensures.same c.length.ensures.stop c.length.ensures.time in
    let two = stays_on g.D.Disk g.met.D.Disk.counts_now c.args.disk.now c.length.new.self c.restore.new.disk still.steps (c.restore.ensures.gate files (still.same ∙ told) closed) in
    two

pub returns-in_err-empty_journal-clause-gate : goal.returns-in_err-empty_journal-clause-gate
returns-in_err-empty_journal-clause-gate g c files told closed =
    let still = still_call g.D.Disk g.met.D.Disk.only_now c.args.disk.now c.length.new.self c.length.ensures.same c.length.ensures.stop c.length.ensures.time in
    let two = stays_on g.D.Disk g.met.D.Disk.counts_now c.args.disk.now c.length.new.self c.restore.new.disk still.steps (c.restore.ensures.gate files (still.same ∙ told) closed) in
    let done : IsRecovered g.D.Disk files c.restore.new.disk = subst (Restores g.D.Disk files c.restore.new.disk) c.if-not-branch.false (c.in_ok-restore.ensures.answer files (still.same ∙ told)) in
    let same = stays_told g.D.Disk g.met.D.Disk.counts_now g.met.D.Disk.told_may_stay c.args.disk.now c.restore.new.disk files (c.requires.settled files told) two done.now done.told in
    stays_on g.D.Disk g.met.D.Disk.counts_now c.args.disk.now c.restore.new.disk c.empty_journal.new.disk two (c.empty_journal.ensures.gate done.now done.told (ap (λ (f : Files). f.journal) same ∙ closed))

pub returns-clause-gate : goal.returns-clause-gate
returns-clause-gate g c files told closed =
    let still = still_call g.D.Disk g.met.D.Disk.only_now c.args.disk.now c.length.new.self c.length.ensures.same c.length.ensures.stop c.length.ensures.time in
    let two = stays_on g.D.Disk g.met.D.Disk.counts_now c.args.disk.now c.length.new.self c.restore.new.disk still.steps (c.restore.ensures.gate files (still.same ∙ told) closed) in
    let done : IsRecovered g.D.Disk files c.restore.new.disk = subst (Restores g.D.Disk files c.restore.new.disk) c.if-not-branch.false (c.in_ok-restore.ensures.answer files (still.same ∙ told)) in
    let same = stays_told g.D.Disk g.met.D.Disk.counts_now g.met.D.Disk.told_may_stay c.args.disk.now c.restore.new.disk files (c.requires.settled files told) two done.now done.told in
    stays_on g.D.Disk g.met.D.Disk.counts_now c.args.disk.now c.restore.new.disk c.empty_journal.new.disk two (c.empty_journal.ensures.gate done.now done.told (ap (λ (f : Files). f.journal) same ∙ closed))
