use Rattle.std.proofs.Common.{sym, ap, ◌∙◌}
use Rattle.std.specs.FinMap as map
use Rattle.std.specs.Cmp.{nat_cmp_total}
use Rattle.uq_model.proofs.Entries.{len_of_sorted}
use Rattle.uq_model.proofs.tables.ById.len.Goals as goal

pub returns-clause-len : goal.returns-clause-len
returns-clause-len g c = c.len.ensures.len ∙ sym (len_of_sorted nat_cmp_total c.self.inside.tree.entries
    c.len.ensures.ordered) ∙ ap map.len c.self.view_is
