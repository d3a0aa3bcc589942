use Rattle.std.proofs.Common.{refl, sym, subst, ◌∙◌}
use Rattle.std.proofs.lemmas.Option.{same_Some}
use Rattle.std.proofs.lemmas.Result.{on_ok_weaker}
use Rattle.uq_page.specs.Cell.{kept_bytes}
use Rattle.uq_chain.specs.CauseLaws.{handed_whole}
use Rattle.uq_hash.specs.Changed.{AreOld, NoOldOrFreeList, NoValueOrFreeList}
use Rattle.uq_hash.proofs.StoreLemmas.{old_dropped, old_entry, old_none}
use Rattle.uq_hash.proofs.storing.drop_old.Goals as goal

pub returns-in-Cell-clause-dropped : goal.returns-in-Cell-clause-dropped
returns-in-Cell-clause-dropped g c =
    on_ok_weaker c.drop_value.result (λ dropped before told olds are free list after told_after.
    let one = old_entry before olds c.in-Cell.cell (subst (AreOld before olds) c.in-Cell.is are) in
    old_dropped before after c.drop_value.new.h.free free olds c.in-Cell.cell one (dropped before told one.it one.is free list after told_after))
    c.drop_value.ensures.dropped

pub returns-in-Cell-clause-cause : goal.returns-in-Cell-clause-cause
returns-in-Cell-clause-cause g c =
    handed_whole (NoValueOrFreeList (g.P.Pages.pages c.args.p.now) c.in-Cell.cell.len (kept_bytes c.in-Cell.cell.value) c.args.h.now.free) ⊥ (NoOldOrFreeList (g.P.Pages.pages c.args.p.now) c.args.old c.args.h.now.free) ⊥
    (g.P.Pages.faults c.args.p.now) (g.P.Pages.faults c.args.p.now) (g.P.Pages.faults c.drop_value.new.p) (g.P.Pages.is_sound c.drop_value.new.p) c.drop_value.result refl c.drop_value.ensures.cause
    (λ none before told olds are free list.
    let one = old_entry before olds c.in-Cell.cell (subst (AreOld before olds) c.in-Cell.is are) in
    none before told one.it one.is free list)
    (λ short. short)

pub returns-in-Nothing-clause-dropped : goal.returns-in-Nothing-clause-dropped
returns-in-Nothing-clause-dropped g c before told olds are free list after told_after =
    old_none before after c.args.h.now.free free olds (subst (AreOld before olds) c.in-Nothing.is are) (same_Some before after (sym told ∙ told_after)) list
