use Rattle.std.proofs.Common.{sym, arith, ◌∙◌}
use Rattle.uq_page.specs.Page.{bytes_of}
use Rattle.uq_kv.proofs.Openings.{database_empty, database_read, header_there, main_behind, pages_still, shape_empty, shape_named}
use Rattle.uq_pager.specs.KeepsLaws.{gate_on}
use Rattle.uq_outside.specs.Since.{Laws}
use Rattle.uq_kv.proofs.recovering.recover.Goals as goal

pub returns-then-count-eq0-clause-found : goal.returns-then-count-eq0-clause-found
returns-then-count-eq0-clause-found g c = λ start on stored recovers. record {
  pages = recovers.pages;
  told = c.in_ok-pager.ensures.told start on ∙ recovers.recovers;
  database = database_empty start c.in_ok-pager.pager.saved (c.in_ok-pager.ensures.pages start on) (sym c.count-count.ensures ∙ c.if-count-eq0.true) _ stored recovers;
}

pub returns-then-count-eq0-clause-shape : goal.returns-then-count-eq0-clause-shape
returns-then-count-eq0-clause-shape g c = λ start on. shape_empty start c.in_ok-pager.pager.saved (c.in_ok-pager.ensures.pages start on) (sym c.count-count.ensures ∙ c.if-count-eq0.true)

pub returns-in_err-read_page-clause-closed : goal.returns-in_err-read_page-clause-closed
returns-in_err-read_page-clause-closed g c =
    main_behind g.D.Disk (record { only_now = g.met.D.Disk.only_now; counts_now = g.met.D.Disk.counts_now }) c.args.disk.now c.recover.new.disk c.read_page.new.disk c.in_ok-pager.ensures.closed c.in_err-read_page.ensures.still

pub returns-in_default-clause-not_database : goal.returns-in_default-clause-not_database
returns-in_default-clause-not_database g c = λ _ start on stored recovers.
    let there = header_there start c.in_ok-pager.pager.saved (c.in_ok-pager.ensures.pages start on) (omega (arith, c.count-count.ensures)) (bytes_of c.read_page.new.into)
    (λ pages is. c.in_ok-read_page.ensures.page pages (c.in_ok-pager.ensures.told start on ∙ is)) stored recovers in
    let read = c.read_header.ensures.exact recovers.header there.1 in
    c.in_default.not-Some recovers.header read

pub returns-in_default-clause-closed : goal.returns-in_default-clause-closed
returns-in_default-clause-closed g c =
    main_behind g.D.Disk (record { only_now = g.met.D.Disk.only_now; counts_now = g.met.D.Disk.counts_now }) c.args.disk.now c.recover.new.disk c.read_page.new.disk c.in_ok-pager.ensures.closed c.in_ok-read_page.ensures.still

pub returns-then-header-count-clause-closed : goal.returns-then-header-count-clause-closed
returns-then-header-count-clause-closed g c =
    main_behind g.D.Disk (record { only_now = g.met.D.Disk.only_now; counts_now = g.met.D.Disk.counts_now }) c.args.disk.now c.recover.new.disk c.read_page.new.disk c.in_ok-pager.ensures.closed c.in_ok-read_page.ensures.still

pub returns-clause-found : goal.returns-clause-found
returns-clause-found g c = λ start on stored recovers. record {
  pages = recovers.pages;
  told = pages_still g.D.Disk c.recover.new.disk c.read_page.new.disk c.in_ok-read_page.ensures.still.same ∙ c.in_ok-pager.ensures.told start on ∙ recovers.recovers;
  database = database_read start c.in_ok-pager.pager.saved (c.in_ok-pager.ensures.pages start on) (omega (arith, c.count-count.ensures)) (bytes_of c.read_page.new.into)
      (λ pages is. c.in_ok-read_page.ensures.page pages (c.in_ok-pager.ensures.told start on ∙ is)) c.in-Some.header c.in-Some.ensures.exact stored recovers;
}

pub returns-clause-shape : goal.returns-clause-shape
returns-clause-shape g c = λ start on.
    shape_named start c.in_ok-pager.pager.saved (c.in_ok-pager.ensures.pages start on) (omega (arith, c.count-count.ensures)) (bytes_of c.read_page.new.into)
    (λ pages is. c.in_ok-read_page.ensures.page pages (c.in_ok-pager.ensures.told start on ∙ is)) c.in-Some.header c.in-Some.ensures.found (omega (arith, c.count-count.ensures))

pub returns-clause-closed : goal.returns-clause-closed
returns-clause-closed g c =
    main_behind g.D.Disk (record { only_now = g.met.D.Disk.only_now; counts_now = g.met.D.Disk.counts_now }) c.args.disk.now c.recover.new.disk c.read_page.new.disk c.in_ok-pager.ensures.closed c.in_ok-read_page.ensures.still

pub returns-in_err-read_page-clause-gate : goal.returns-in_err-read_page-clause-gate
returns-in_err-read_page-clause-gate g c =
    let laws : Laws g.D.Disk = record { only_now = g.met.D.Disk.only_now; counts_now = g.met.D.Disk.counts_now } in
    gate_on g.D.Disk laws c.args.disk.now c.recover.new.disk c.read_page.new.disk c.in_ok-pager.ensures.gate c.in_err-read_page.ensures.still.steps

pub returns-in_default-clause-gate : goal.returns-in_default-clause-gate
returns-in_default-clause-gate g c =
    let laws : Laws g.D.Disk = record { only_now = g.met.D.Disk.only_now; counts_now = g.met.D.Disk.counts_now } in
    gate_on g.D.Disk laws c.args.disk.now c.recover.new.disk c.read_page.new.disk c.in_ok-pager.ensures.gate c.in_ok-read_page.ensures.still.steps

pub returns-then-header-count-clause-gate : goal.returns-then-header-count-clause-gate
returns-then-header-count-clause-gate g c =
    let laws : Laws g.D.Disk = record { only_now = g.met.D.Disk.only_now; counts_now = g.met.D.Disk.counts_now } in
    gate_on g.D.Disk laws c.args.disk.now c.recover.new.disk c.read_page.new.disk c.in_ok-pager.ensures.gate c.in_ok-read_page.ensures.still.steps

pub returns-clause-gate : goal.returns-clause-gate
returns-clause-gate g c =
    let laws : Laws g.D.Disk = record { only_now = g.met.D.Disk.only_now; counts_now = g.met.D.Disk.counts_now } in
    gate_on g.D.Disk laws c.args.disk.now c.recover.new.disk c.read_page.new.disk c.in_ok-pager.ensures.gate c.in_ok-read_page.ensures.still.steps
