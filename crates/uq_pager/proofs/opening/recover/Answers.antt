use Rattle.std.proofs.Common.{refl, sym, subst}
use Rattle.uq_outside.specs.Stops.{ToldAlike}
use Rattle.uq_pager.proofs.Openings.{main_still, recovered_here, recovers_to, recovers_to_none, rests_at}
use Rattle.uq_outside.specs.SinceLaws.{still_steps}
use Rattle.uq_journal.specs.Calls.{Stays}
use Rattle.uq_pager.specs.KeepsLaws.{gate_on}
use Rattle.uq_outside.specs.Since.{Laws}
use Rattle.uq_pager.proofs.opening.recover.Goals as goal

pub returns-in-Some-whole_pages-clause-ready : goal.returns-in-Some-whole_pages-clause-ready
returns-in-Some-whole_pages-clause-ready g c =
    rests_at g.D.Disk c.args.disk.now c.open.new.disk c.length.new.self c.in-Ok-length.ensures.same c.in-Some-whole_pages.saved c.in-Ok-length.len
    c.in-Ok-length.ensures.stop c.in-Ok-open.ensures.rest c.in-Ok-length.ensures.told c.in-Some-whole_pages.ensures

pub returns-in-Some-whole_pages-clause-main : goal.returns-in-Some-whole_pages-clause-main
returns-in-Some-whole_pages-clause-main g c = main_still g.D.Disk c.args.disk.now c.open.new.disk c.length.new.self c.in-Ok-length.ensures.same c.in-Ok-open.ensures.main

pub returns-in-Some-whole_pages-clause-pages : goal.returns-in-Some-whole_pages-clause-pages
returns-in-Some-whole_pages-clause-pages g c =
    recovers_to g.D.Disk c.args.disk.now c.open.new.disk c.length.new.self c.in-Ok-length.ensures.same c.in-Some-whole_pages.saved c.in-Ok-length.len
    c.in-Ok-open.ensures.alike c.in-Ok-open.ensures.main c.in-Ok-length.ensures.told c.in-Some-whole_pages.ensures

pub returns-in-None-clause-not_database : goal.returns-in-None-clause-not_database
returns-in-None-clause-not_database g c = λ _.
    recovers_to_none g.D.Disk c.args.disk.now c.open.new.disk c.length.new.self c.in-Ok-length.ensures.same c.in-Ok-length.len
    c.in-Ok-open.ensures.alike c.in-Ok-open.ensures.main c.in-Ok-length.ensures.told c.in-None.ensures

pub returns-in-Some-whole_pages-clause-told : goal.returns-in-Some-whole_pages-clause-told
returns-in-Some-whole_pages-clause-told g c =
    recovered_here g.D.Disk c.args.disk.now c.length.new.self
    (subst (λ o. ToldAlike (g.D.Disk.content c.args.disk.now) o) (sym c.in-Ok-length.ensures.same) c.in-Ok-open.ensures.alike)
    (main_still g.D.Disk c.args.disk.now c.open.new.disk c.length.new.self c.in-Ok-length.ensures.same c.in-Ok-open.ensures.main)

pub returns-in-Some-whole_pages-clause-gate : goal.returns-in-Some-whole_pages-clause-gate
returns-in-Some-whole_pages-clause-gate g c =
    let laws : Laws g.D.Disk = record { only_now = g.met.D.Disk.only_now; counts_now = g.met.D.Disk.counts_now } in
    let length = c.in-Ok-length.ensures in
    gate_on g.D.Disk laws c.args.disk.now c.open.new.disk c.length.new.self c.in-Ok-open.ensures.gate
    (still_steps g.D.Disk Stays (λ files. refl) g.met.D.Disk.only_now c.open.new.disk c.length.new.self length.same length.stop length.time)

pub returns-in-None-clause-gate : goal.returns-in-None-clause-gate
returns-in-None-clause-gate g c =
    let laws : Laws g.D.Disk = record { only_now = g.met.D.Disk.only_now; counts_now = g.met.D.Disk.counts_now } in
    let length = c.in-Ok-length.ensures in
    gate_on g.D.Disk laws c.args.disk.now c.open.new.disk c.length.new.self c.in-Ok-open.ensures.gate
    (still_steps g.D.Disk Stays (λ files. refl) g.met.D.Disk.only_now c.open.new.disk c.length.new.self length.same length.stop length.time)
