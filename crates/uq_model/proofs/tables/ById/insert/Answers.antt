use Rattle.std.proofs.Common.{ap, ◌∙◌, subst}
use Rattle.std.specs.FinMap as map
use Rattle.std.specs.List.Sorted.{IsStrictlySortedBy}
use Rattle.std.specs.Map.{keys_of}
use Rattle.std.specs.Ordering.{nat_cmp}
use Rattle.std.specs.Cmp.{nat_cmp_total}
use Rattle.uq_model.proofs.Entries.{inserted}
use Rattle.uq_model.proofs.tables.ById.insert.Goals as goal

pub returns-in-Ok-clause-ok : goal.returns-in-Ok-clause-ok
returns-in-Ok-clause-ok g c =
    ap (λ es. map.from_entries {R = nat_cmp} es) c.in-Ok.ensures.entries
    ∙ inserted nat_cmp_total c.self.inside.tree.entries c.args.id c.args.value c.insert.ensures.was_ordered
    (subst (λ es. IsStrictlySortedBy nat_cmp (keys_of es)) c.in-Ok.ensures.entries c.insert.ensures.ordered)
    ∙ ap (λ m. map.insert m c.args.id c.args.value) c.self.view_is
