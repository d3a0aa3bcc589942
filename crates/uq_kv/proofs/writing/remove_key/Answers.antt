use Rattle.std.proofs.Common.{ℕ, List, subst, ◌∙◌}
use Rattle.uq_kv.specs.Writing.{Removes}
use Rattle.uq_kv.proofs.Databases.{if_ok}
use Rattle.uq_kv.proofs.writing.remove_key.Goals as goal

pub returns-in-Ok-clause-removes : goal.returns-in-Ok-clause-removes
returns-in-Ok-clause-removes g c =
    if_ok c.remove.result _ _ (λ there removes pages on entries database.
    subst (λ (key : List ℕ). Removes key entries (g.P.Pages.pages c.remove.new.p) c.remove.new.header there) (c.deref.ensures.value ∙ c.in-Ok.ensures) (removes pages on entries database)) c.remove.ensures.removes
