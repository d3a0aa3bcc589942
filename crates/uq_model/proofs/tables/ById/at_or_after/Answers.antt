use Rattle.std.proofs.Common.{sym, ap, ◌∙◌}
use Rattle.std.specs.FinMap as map
use Rattle.std.specs.Option.{option_map}
use Rattle.std.specs.List.{find as list_find}
use Rattle.std.proofs.Common.{not, nat_lt}
use Rattle.uq_model.proofs.Entries.{first_found, none_found, from_number}
use Rattle.std.specs.Cmp.{nat_cmp_total}
use Rattle.uq_model.proofs.Entries.{entries_of_sorted}
use Rattle.uq_model.proofs.tables.ById.at_or_after.Goals as goal

pub returns-in-Some : goal.returns-in-Some
returns-in-Some g c =
    sym (ap (option_map (λ e. e.0))
    (ap (list_find (λ e. not (nat_lt e.0 c.args.id))) (sym (ap map.entries c.self.view_is)
    ∙ entries_of_sorted nat_cmp_total c.self.inside.tree.entries c.range.ensures.ordered)
    ∙ first_found (λ e. not (nat_lt e.0 c.args.id)) _ (λ e. from_number c.args.id e.0) c.self.inside.tree.entries _ _
    (sym (c.range.ensures.between tt) ∙ c.in-Some.ensures.steps)))

pub returns-in-None : goal.returns-in-None
returns-in-None g c =
    sym (ap (option_map (λ e. e.0))
    (ap (list_find (λ e. not (nat_lt e.0 c.args.id))) (sym (ap map.entries c.self.view_is)
    ∙ entries_of_sorted nat_cmp_total c.self.inside.tree.entries c.range.ensures.ordered)
    ∙ none_found (λ e. not (nat_lt e.0 c.args.id)) _ (λ e. from_number c.args.id e.0) c.self.inside.tree.entries
    (sym (c.range.ensures.between tt) ∙ c.in-None.ensures.steps.0)))
