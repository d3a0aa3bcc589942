use Rattle.std.proofs.Common.{ap, ◌∙◌}
use Rattle.std.specs.Option.{option_map}
use Rattle.uq_pager.specs.Opening.{just_opened}
use Rattle.uq_pager.proofs.Openings.{recovered_here}
use Rattle.uq_pager.proofs.pager.Pager.open.Goals as goal

pub returns-clause-told : goal.returns-clause-told
returns-clause-told g c = λ files on.
    c.over.ensures.told ∙ ap (option_map just_opened) (recovered_here g.D.Disk c.args.disk.now c.recover.new.disk c.in_ok-ready.ensures.alike c.in_ok-ready.ensures.main files on)
