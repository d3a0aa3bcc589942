use Rattle.std.proofs.Common.{sym, subst}
use Rattle.uq_value.specs.Internal.Beside.{NamesAre}
use Rattle.uq_value.specs.Internal.Index.{IsIndexOf}
use Rattle.uq_value.proofs.kept.Kept.copy.Goals as goal

pub returns-in_ok-new-in-With-clause-names : goal.returns-in_ok-new-in-With-clause-names
returns-in_ok-new-in-With-clause-names c = λ ns h.
    let inside : IsIndexOf ns c.in-With.more.value.names = subst (λ k. NamesAre k ns) c.in-With.is h in
    subst (λ m. IsIndexOf ns m.names) (sym c.in_ok-new-in-With.ensures.ok)
    (c.in_ok-copy-in-With.ensures.names ns (subst (λ m. IsIndexOf ns m.names) (sym c.deref.ensures) inside))
