use Rattle.uq_value.proofs.Tallies.{tally-push}
use Rattle.uq_value.proofs.depth_counts.DepthCounts.add.Goals as goal

pub returns : goal.returns
returns c = λ ds few t. tally-push c.args.self.now.counts ds c.args.depth _ c.requires few c.saturating_add.ensures t
