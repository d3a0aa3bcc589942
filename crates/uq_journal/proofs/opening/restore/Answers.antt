use Rattle.std.proofs.Common.{◌∙◌, refl, subst}
use Rattle.uq_outside.specs.SinceLaws.{goes_on}
use Rattle.uq_journal.specs.Calls.{RecoversAs}
use Rattle.uq_journal.proofs.Still.{still_from}
use Rattle.uq_journal.specs.Recovery.{Shows}
use Rattle.uq_journal.proofs.AtGate.{no_batch}
use Rattle.uq_journal.proofs.opening.restore.Goals as goal

pub returns-in_err-examine-clause-stop : goal.returns-in_err-examine-clause-stop
returns-in_err-examine-clause-stop g c files told = still_from g.D.Disk (RecoversAs files) c.args.disk.now c.examine.new.disk files (c.requires.settled files told) refl c.examine.ensures.still.steps

pub returns-in_err-undo_batches-in-Open-clause-stop : goal.returns-in_err-undo_batches-in-Open-clause-stop
returns-in_err-undo_batches-in-Open-clause-stop g c files told =
    goes_on g.D.Disk (RecoversAs files) c.args.disk.now c.examine.new.disk c.undo_batches.new.disk (still_from g.D.Disk (RecoversAs files) c.args.disk.now c.examine.new.disk files (c.requires.settled files told) refl c.examine.ensures.still.steps)
    (c.undo_batches.ensures.stop files (c.in_ok-examine.ensures.still.same ∙ told))

pub returns-in_ok-undo_batches-in-Open-clause-stop : goal.returns-in_ok-undo_batches-in-Open-clause-stop
returns-in_ok-undo_batches-in-Open-clause-stop g c files told =
    goes_on g.D.Disk (RecoversAs files) c.args.disk.now c.examine.new.disk c.undo_batches.new.disk (still_from g.D.Disk (RecoversAs files) c.args.disk.now c.examine.new.disk files (c.requires.settled files told) refl c.examine.ensures.still.steps)
    (c.undo_batches.ensures.stop files (c.in_ok-examine.ensures.still.same ∙ told))

pub returns-in_err-undo_batches-in-Open-clause-gate : goal.returns-in_err-undo_batches-in-Open-clause-gate
returns-in_err-undo_batches-in-Open-clause-gate g c files told closed =
    absurd (no_batch c.in-Open.old_pages files closed (subst (Shows files) c.in-Open.is (c.in_ok-examine.ensures.shows files told)))

pub returns-in_ok-undo_batches-in-Open-clause-gate : goal.returns-in_ok-undo_batches-in-Open-clause-gate
returns-in_ok-undo_batches-in-Open-clause-gate g c files told closed =
    absurd (no_batch c.in-Open.old_pages files closed (subst (Shows files) c.in-Open.is (c.in_ok-examine.ensures.shows files told)))

pub returns-in_err-examine-clause-gate : goal.returns-in_err-examine-clause-gate
returns-in_err-examine-clause-gate g c files told closed = c.examine.ensures.still.steps
