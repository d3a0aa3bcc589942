use Rattle.uq_pager.specs.PagerLaws.{is_committed}
use Rattle.uq_pager.proofs.pager.Pager.is_begun.Goals as goal

pub returns-clause-committed : goal.returns-clause-committed
returns-clause-committed g c = is_committed g.D.Disk c.args.self.now
