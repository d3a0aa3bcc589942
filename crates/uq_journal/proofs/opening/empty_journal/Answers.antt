use Rattle.std.proofs.Common.{◌≡◌, ◌∙◌, Some, refl, ap, take, option_map}
use Rattle.uq_outside.specs.declared.fault.FileNo.TheVariants.{Journal}
use Rattle.uq_outside.specs.Files.{Files, in_file}
use Rattle.uq_outside.specs.SinceLaws.{goes_on}
use Rattle.uq_journal.specs.Recovered.{recovered}
use Rattle.uq_journal.proofs.Emptying.{cut_stop, cut_rest, close_stop, close_rest}
use Rattle.uq_journal.proofs.MainKept.{main_cut, main_gate, main_on, main_still}
use Rattle.uq_journal.proofs.Results.{on_ok_two}
use Rattle.uq_journal.proofs.Still.{still_call, still_leaves}
use Rattle.uq_journal.proofs.AtGate.{nothing_shortened, reads_closed, stays_on}
use Rattle.uq_journal.proofs.opening.empty_journal.Goals as goal

pub returns-in_err-cut_journal-clause-stop : goal.returns-in_err-cut_journal-clause-stop
returns-in_err-cut_journal-clause-stop g c files told =
    cut_stop g.D.Disk g.met.D.Disk.counts_now files c.args.disk.now told (c.requires.settled files told) (c.requires.shut files told) c.cut_journal.new.disk c.cut_journal.ensures.steps

pub returns-in_err-read-clause-stop : goal.returns-in_err-read-clause-stop
returns-in_err-read-clause-stop g c files told =
    let P : Files → Type 0 = λ left. recovered left ≡ Some files.main in
    let first = cut_stop g.D.Disk g.met.D.Disk.counts_now files c.args.disk.now told (c.requires.settled files told) (c.requires.shut files told) c.cut_journal.new.disk c.cut_journal.ensures.steps in
    let read = still_call g.D.Disk g.met.D.Disk.only_now c.cut_journal.new.disk c.read.new.self c.read.ensures.same c.read.ensures.stop c.read.ensures.time in
    still_leaves g.D.Disk g.met.D.Disk.counts_now P c.args.disk.now c.cut_journal.new.disk c.read.new.self first read

pub returns-then-gate-eq-CLOSED-clause-stop : goal.returns-then-gate-eq-CLOSED-clause-stop
returns-then-gate-eq-CLOSED-clause-stop g c files told =
    let P : Files → Type 0 = λ left. recovered left ≡ Some files.main in
    let first = cut_stop g.D.Disk g.met.D.Disk.counts_now files c.args.disk.now told (c.requires.settled files told) (c.requires.shut files told) c.cut_journal.new.disk c.cut_journal.ensures.steps in
    let read = still_call g.D.Disk g.met.D.Disk.only_now c.cut_journal.new.disk c.read.new.self c.read.ensures.same c.read.ensures.stop c.read.ensures.time in
    still_leaves g.D.Disk g.met.D.Disk.counts_now P c.args.disk.now c.cut_journal.new.disk c.read.new.self first read

pub returns-then-gate-eq-CLOSED-clause-rest : goal.returns-then-gate-eq-CLOSED-clause-rest
returns-then-gate-eq-CLOSED-clause-rest g c files told =
    let shut = c.requires.shut files told in
    let settled = c.requires.settled files told in
    let there = c.in_ok-cut_journal.ensures.cut ∙ ap (option_map (in_file Journal (take 1))) told in
    let now : Files = in_file Journal (take 1) files in
    let read = still_call g.D.Disk g.met.D.Disk.only_now c.cut_journal.new.disk c.read.new.self c.in_ok-read.ensures.same c.in_ok-read.ensures.stop c.in_ok-read.ensures.time in
    let rest = cut_rest g.D.Disk g.met.D.Disk.counts_now files c.args.disk.now told settled shut c.cut_journal.new.disk c.cut_journal.ensures.steps c.in_ok-cut_journal.ensures.cut c.in_ok-cut_journal.ensures.settled c.read.new.self read
    c.read.new.into (c.in_ok-read.ensures.told now there) c.if-gate-eq-CLOSED.true in
    (now, c.in_ok-read.ensures.same ∙ there, refl, rest)

pub returns-clause-rest : goal.returns-clause-rest
returns-clause-rest g c = on_ok_two c.set_gate.result (λ set only files told.
    let read = still_call g.D.Disk g.met.D.Disk.only_now c.cut_journal.new.disk c.read.new.self c.in_ok-read.ensures.same c.in_ok-read.ensures.stop c.in_ok-read.ensures.time in
    close_rest g.D.Disk g.met.D.Disk.counts_now files c.args.disk.now told (c.requires.settled files told) (c.requires.shut files told) c.cut_journal.new.disk c.cut_journal.ensures.steps c.in_ok-cut_journal.ensures.cut c.in_ok-cut_journal.ensures.settled c.read.new.self read
    c.set_gate.new.disk c.set_gate.ensures.steps set only) c.set_gate.ensures.set c.set_gate.ensures.settled

pub returns-clause-stop : goal.returns-clause-stop
returns-clause-stop g c files told =
    let P : Files → Type 0 = λ left. recovered left ≡ Some files.main in
    let shut = c.requires.shut files told in
    let settled = c.requires.settled files told in
    let first = cut_stop g.D.Disk g.met.D.Disk.counts_now files c.args.disk.now told settled shut c.cut_journal.new.disk c.cut_journal.ensures.steps in
    let read = still_call g.D.Disk g.met.D.Disk.only_now c.cut_journal.new.disk c.read.new.self c.in_ok-read.ensures.same c.in_ok-read.ensures.stop c.in_ok-read.ensures.time in
    let two = still_leaves g.D.Disk g.met.D.Disk.counts_now P c.args.disk.now c.cut_journal.new.disk c.read.new.self first read in
    goes_on g.D.Disk P c.args.disk.now c.read.new.self c.set_gate.new.disk two
    (close_stop g.D.Disk g.met.D.Disk.counts_now files c.args.disk.now told settled shut c.cut_journal.new.disk c.cut_journal.ensures.steps c.in_ok-cut_journal.ensures.cut c.in_ok-cut_journal.ensures.settled c.read.new.self read c.set_gate.new.disk c.set_gate.ensures.steps)

pub returns-in_err-read-clause-main : goal.returns-in_err-read-clause-main
returns-in_err-read-clause-main g c =
    let read = still_call g.D.Disk g.met.D.Disk.only_now c.cut_journal.new.disk c.read.new.self c.read.ensures.same c.read.ensures.stop c.read.ensures.time in
    main_still g.D.Disk g.met.D.Disk.counts_now c.args.disk.now c.cut_journal.new.disk c.read.new.self (main_cut g.D.Disk c.args.disk.now c.cut_journal.new.disk c.cut_journal.ensures.steps) read

pub returns-then-gate-eq-CLOSED-clause-main : goal.returns-then-gate-eq-CLOSED-clause-main
returns-then-gate-eq-CLOSED-clause-main g c =
    let read = still_call g.D.Disk g.met.D.Disk.only_now c.cut_journal.new.disk c.read.new.self c.read.ensures.same c.read.ensures.stop c.read.ensures.time in
    main_still g.D.Disk g.met.D.Disk.counts_now c.args.disk.now c.cut_journal.new.disk c.read.new.self (main_cut g.D.Disk c.args.disk.now c.cut_journal.new.disk c.cut_journal.ensures.steps) read

pub returns-clause-main : goal.returns-clause-main
returns-clause-main g c =
    let read = still_call g.D.Disk g.met.D.Disk.only_now c.cut_journal.new.disk c.read.new.self c.in_ok-read.ensures.same c.in_ok-read.ensures.stop c.in_ok-read.ensures.time in
    let two = main_still g.D.Disk g.met.D.Disk.counts_now c.args.disk.now c.cut_journal.new.disk c.read.new.self (main_cut g.D.Disk c.args.disk.now c.cut_journal.new.disk c.cut_journal.ensures.steps) read in
    main_on g.D.Disk g.met.D.Disk.counts_now c.args.disk.now c.read.new.self c.set_gate.new.disk two (main_gate g.D.Disk c.read.new.self c.set_gate.new.disk c.set_gate.ensures.steps)

pub returns-in_err-cut_journal-clause-main : goal.returns-in_err-cut_journal-clause-main
returns-in_err-cut_journal-clause-main g c = main_cut g.D.Disk c.args.disk.now c.cut_journal.new.disk c.cut_journal.ensures.steps

pub returns-in_err-cut_journal-clause-gate : goal.returns-in_err-cut_journal-clause-gate
returns-in_err-cut_journal-clause-gate g c files told closed = nothing_shortened g.D.Disk c.args.disk.now c.cut_journal.new.disk files (c.requires.settled files told) closed c.cut_journal.ensures.steps

pub returns-in_err-read-clause-gate : goal.returns-in_err-read-clause-gate
returns-in_err-read-clause-gate g c files told closed =
    let cut = nothing_shortened g.D.Disk c.args.disk.now c.cut_journal.new.disk files (c.requires.settled files told) closed c.cut_journal.ensures.steps in
    let read = still_call g.D.Disk g.met.D.Disk.only_now c.cut_journal.new.disk c.read.new.self c.read.ensures.same c.read.ensures.stop c.read.ensures.time in
    stays_on g.D.Disk g.met.D.Disk.counts_now c.args.disk.now c.cut_journal.new.disk c.read.new.self cut read.steps

pub returns-then-gate-eq-CLOSED-clause-gate : goal.returns-then-gate-eq-CLOSED-clause-gate
returns-then-gate-eq-CLOSED-clause-gate g c files told closed =
    let cut = nothing_shortened g.D.Disk c.args.disk.now c.cut_journal.new.disk files (c.requires.settled files told) closed c.cut_journal.ensures.steps in
    let read = still_call g.D.Disk g.met.D.Disk.only_now c.cut_journal.new.disk c.read.new.self c.read.ensures.same c.read.ensures.stop c.read.ensures.time in
    stays_on g.D.Disk g.met.D.Disk.counts_now c.args.disk.now c.cut_journal.new.disk c.read.new.self cut read.steps

pub returns-clause-gate : goal.returns-clause-gate
returns-clause-gate g c files told closed =
    let there = c.in_ok-cut_journal.ensures.cut ∙ ap (option_map (in_file Journal (take 1))) told in
    let gate = reads_closed files.journal c.read.new.into closed (c.in_ok-read.ensures.told (in_file Journal (take 1) files) there) in
    absurd (c.if-gate-eq-CLOSED.false gate)
