use Rattle.std.proofs.Common.{◌+◌, ◌*◌, ◌<◌, ℕ, drop, length, refl, arith, sym, ◌∙◌}
use Rattle.uq_journal.specs.declared.format.TheConstants.{ORIGINAL_SIZE}
use Rattle.uq_journal.specs.Batches.{number}
use Rattle.uq_journal.proofs.BatchesAt.{gate_read, closed_at, broken_at, found_at}
use Rattle.uq_journal.proofs.reading.read_gate.Goals as goal

pub returns-then-gate-clause-told : goal.returns-then-gate-clause-told
returns-then-gate-clause-told g c files told =
    let lt : c.args.at < length files.journal = omega (arith, c.requires.size files told, c.requires.within) in
    closed_at c.args.at files.journal lt (λ is. c.if-gate.true (gate_read c.args.at files.journal c.read.new.into lt (c.in_ok-read.ensures.told files told) ∙ is))

pub returns-then-len-at-le-HEAD_SIZE-clause-told : goal.returns-then-len-at-le-HEAD_SIZE-clause-told
returns-then-len-at-le-HEAD_SIZE-clause-told g c files told =
    let lt : c.args.at < length files.journal = omega (arith, c.requires.size files told, c.requires.within) in
    let gate = sym (gate_read c.args.at files.journal c.read.new.into lt (c.in_ok-read.ensures.told files told)) ∙ c.if-gate.false in
    let n : ℕ = number (drop (c.args.at + 5) files.journal) in
    broken_at c.args.at n (c.args.at + 9 + ORIGINAL_SIZE * n) files.journal lt gate refl refl (omega (arith, c.requires.size files told, c.if-len-at-le-HEAD_SIZE.true))

pub returns-then-len-at-clause-told : goal.returns-then-len-at-clause-told
returns-then-len-at-clause-told g c files told =
    let lt : c.args.at < length files.journal = omega (arith, c.requires.size files told, c.requires.within) in
    let gate = sym (gate_read c.args.at files.journal c.read.new.into lt (c.in_ok-read.ensures.told files told)) ∙ c.if-gate.false in
    let n : ℕ = c.in_ok-count.count in
    let n_is = c.in_ok-count.ensures.told files (c.in_ok-old_pages.ensures.still.same ∙ c.in_ok-read.ensures.same ∙ told) in
    broken_at c.args.at n (c.args.at + 9 + ORIGINAL_SIZE * n) files.journal lt gate n_is refl (omega (arith, c.requires.size files told, c.if-len-at.true))

pub returns-clause-told : goal.returns-clause-told
returns-clause-told g c files told =
    let lt : c.args.at < length files.journal = omega (arith, c.requires.size files told, c.requires.within) in
    let gate = sym (gate_read c.args.at files.journal c.read.new.into lt (c.in_ok-read.ensures.told files told)) ∙ c.if-gate.false in
    let n : ℕ = c.in_ok-count.count in
    let old_is = c.in_ok-old_pages.ensures.told files (c.in_ok-read.ensures.same ∙ told) in
    let n_is = c.in_ok-count.ensures.told files (c.in_ok-old_pages.ensures.still.same ∙ c.in_ok-read.ensures.same ∙ told) in
    found_at c.args.at c.in_ok-old_pages.old_pages n (c.args.at + (9 + ORIGINAL_SIZE * n)) files.journal lt gate old_is n_is (omega arith)
