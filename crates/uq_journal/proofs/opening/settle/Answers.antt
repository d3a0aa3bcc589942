use Rattle.std.proofs.Common.{sym, ◌∙◌}
use Rattle.uq_journal.proofs.Phases.{same_files}
use Rattle.uq_journal.proofs.Results.{on_ok_two}
use Rattle.uq_journal.proofs.opening.settle.Goals as goal

pub returns-clause-settled : goal.returns-clause-settled
returns-clause-settled g c =
    on_ok_two c.sync-2.result (λ durable same files told left may.
    let mid = sym same ∙ told in
    let start = sym c.in_ok-sync.ensures.ok ∙ mid in
    same_files left files (c.in_ok-sync.ensures.durable files start left (c.sync-2.ensures.stop left may)) (durable files mid left may)) c.sync-2.ensures.durable c.sync-2.ensures.ok
