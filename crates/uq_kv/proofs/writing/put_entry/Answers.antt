use Rattle.std.proofs.Common.{ℕ, List, refl, subst}
use Rattle.std.specs.FinMap.{insert}
use Rattle.std.proofs.lemmas.Result.{err_from_is_err_and}
use Rattle.uq_kv.specs.Writing.{HoldsNow, IsPlaced}
use Rattle.uq_kv.proofs.Databases.{handed_on, map_cause}
use Rattle.uq_kv.proofs.Putting.{changed_now, made_now}
use Rattle.uq_kv.proofs.writing.put_entry.Goals as goal

pub returns-in_err-insert_at-in-Some-clause-cause : goal.returns-in_err-insert_at-in-Some-clause-cause
returns-in_err-insert_at-in-Some-clause-cause g c =
    let placed = subst (IsPlaced (g.P.Pages.pages c.args.p.now) (g.P.Pages.size c.args.p.now) c.args.header.now c.args.key.now c.args.seen.now.before.old_len) c.in-Some.is c.requires.seen in
    let p = err_from_is_err_and c.from_residual.result c.from_residual.ensures.1 in
    let one = p.1 in
    let two = p.2 in
    handed_on c.insert_at.result c.from_residual.result c.in_err-insert_at-in-Some.field-0.0 c.in_err-insert_at-in-Some.was (cc) (g.P.Pages.pages c.args.p.now) c.args.header.now _ _ _
    (map_cause (g.P.Pages.pages c.args.p.now) c.args.header.now (g.P.Pages.size c.args.p.now) (g.met.P.Pages.size_is c.args.p.now) _ _ _ c.insert_at.result placed.some c.insert_at.ensures.cause)

pub returns-in_ok-insert_at-in-Some-clause-put : goal.returns-in_ok-insert_at-in-Some-clause-put
returns-in_ok-insert_at-in-Some-clause-put g c pages on stored keeps =
    let placed = subst (IsPlaced (g.P.Pages.pages c.args.p.now) (g.P.Pages.size c.args.p.now) c.args.header.now c.args.key.now c.args.seen.now.before.old_len) c.in-Some.is c.requires.seen in
    subst (λ (key : List ℕ). HoldsNow (g.P.Pages.pages c.insert_at.new.p) c.insert_at.new.h (insert stored key c.args.value.now)) placed.same
    (changed_now (g.P.Pages.pages c.args.p.now) c.args.header.now (g.P.Pages.size c.args.p.now) (g.met.P.Pages.size_is c.args.p.now) (λ stored. insert stored c.in-Some.at.key.now c.args.value.now) (g.P.Pages.pages c.insert_at.new.p) c.insert_at.new.h placed.some
    c.in_ok-insert_at-in-Some.ensures.inserted (c.in_ok-insert_at-in-Some.ensures.told (λ is. cc)) pages on stored keeps)

pub returns-in_ok-insert-in-None-clause-put : goal.returns-in_ok-insert-in-None-clause-put
returns-in_ok-insert-in-None-clause-put g c =
    let placed = subst (IsPlaced (g.P.Pages.pages c.args.p.now) (g.P.Pages.size c.args.p.now) c.args.header.now c.args.key.now c.args.seen.now.before.old_len) c.in-None.is c.requires.seen in
    made_now (g.P.Pages.pages c.args.p.now) c.args.header.now (g.P.Pages.size c.args.p.now) (g.met.P.Pages.size_is c.args.p.now) (λ stored. insert stored c.args.key.now c.args.value.now) (λ stored. insert stored c.args.key.now c.args.value.now)
    (g.P.Pages.pages c.create.new.p) (g.P.Pages.pages c.insert.new.p) c.in_ok-new-in-None.new c.insert.new.h placed.0 refl c.in_ok-new-in-None.ensures.created c.in_ok-insert-in-None.ensures.inserted (c.in_ok-insert-in-None.ensures.told (λ is. cc))
