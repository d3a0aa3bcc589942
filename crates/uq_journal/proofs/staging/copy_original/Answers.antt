use Rattle.std.proofs.Common.{◌≡◌, ℕ, List, option_map, ◌∙◌, ap}
use Rattle.std.proofs.lemmas.Result.{on_ok_weaker}
use Rattle.uq_outside.specs.declared.fault.FileNo.TheVariants.{Journal}
use Rattle.uq_outside.specs.Files.{Files, InFile, Torn, in_file}
use Rattle.uq_facts.specs.Written.{written}
use Rattle.uq_outside.specs.SinceLaws.{call_steps, still_steps, steps_on, told_alike}
use Rattle.uq_journal.specs.Batches.{original_bytes}
use Rattle.uq_journal.specs.Steps.{Behind, page_at}
use Rattle.uq_journal.proofs.Behind.{behind_same, behind_on, behind_torn}
use Rattle.uq_journal.proofs.staging.copy_original.Goals as goal

pub returns-clause-steps : goal.returns-clause-steps
returns-clause-steps g c =
    let step = Behind 1 in
    let read = still_steps g.D.Disk step (behind_same 1) g.met.D.Disk.only_now c.args.disk.now c.read.new.self c.read.ensures.same c.read.ensures.stop c.read.ensures.time in
    let write = call_steps g.D.Disk (InFile Journal (Torn c.args.at _)) step (behind_same 1) (behind_torn 1 c.args.at _ c.requires.behind) g.met.D.Disk.only_now c.read.new.self c.write_at.new.self c.write_at.ensures.told c.write_at.ensures.stop c.write_at.ensures.time in
    steps_on g.D.Disk step (behind_on 1) g.met.D.Disk.counts_now c.args.disk.now c.read.new.self c.write_at.new.self read write

pub returns-clause-copied : goal.returns-clause-copied
returns-clause-copied g c =
    let old = g.D.Disk.content c.args.disk.now in
    let put = λ (files : Files). in_file Journal (written c.args.at c.original.result) files in
    let copy = λ (files : Files). in_file Journal (written c.args.at (original_bytes (c.args.no, page_at files.main c.args.no))) files in
    let same : option_map put old ≡ option_map copy old = told_alike old put copy (λ files is. ap (λ (bytes : List ℕ). in_file Journal (written c.args.at bytes) files) (c.original.ensures ∙ ap (λ (page : List ℕ). original_bytes (c.args.no, page)) (c.in_ok-read.ensures.told files is))) in
    on_ok_weaker c.write_at.result (λ ok. ok ∙ ap (option_map put) c.read.ensures.same ∙ same) c.write_at.ensures.ok
