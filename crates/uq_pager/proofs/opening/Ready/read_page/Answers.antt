use Rattle.std.proofs.Common.{refl, ◌∙◌}
use Rattle.uq_pager.proofs.Openings.{lies_ready, read_ready, ready_still}
use Rattle.uq_pager.proofs.opening.Ready.read_page.Goals as goal

pub read-requires : goal.read-requires
read-requires g c = record { within = lies_ready g.D.Disk c.args.disk.now c.args.self.now.saved c.args.no c.requires.rest c.requires.there 4096 refl }

pub returns-in-Ok-clause-page : goal.returns-in-Ok-clause-page
returns-in-Ok-clause-page g c =
    read_ready g.D.Disk c.args.disk.now c.args.self.now.saved c.args.no c.requires.rest c.requires.there _ 4096 refl (λ files told. c.from_bytes.ensures ∙ c.in-Ok.ensures.told files told)

pub returns-in-Ok-clause-rest : goal.returns-in-Ok-clause-rest
returns-in-Ok-clause-rest g c = ready_still g.D.Disk c.args.disk.now c.read.new.self c.args.self.now.saved c.in-Ok.ensures.same c.in-Ok.ensures.stop c.requires.rest

pub returns-in-Err-clause-rest : goal.returns-in-Err-clause-rest
returns-in-Err-clause-rest g c = ready_still g.D.Disk c.args.disk.now c.read.new.self c.args.self.now.saved c.in-Err.ensures.same c.in-Err.ensures.stop c.requires.rest
