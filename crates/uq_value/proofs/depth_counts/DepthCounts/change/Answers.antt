use Rattle.uq_value.proofs.Tallies.{tally-set}
use Rattle.uq_value.proofs.depth_counts.DepthCounts.change.Goals as goal

pub returns : goal.returns
returns c = λ ds at few h e t. tally-set c.args.self.now.counts ds at c.args.before c.args.after _ _ c.requires.before c.requires.after few h e c.saturating_sub.ensures c.saturating_add.ensures t
