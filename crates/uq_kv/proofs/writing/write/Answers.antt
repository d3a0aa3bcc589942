use Rattle.std.proofs.Common.{◌≡◌, length, refl, rules, sym, ap, subst, ◌∙◌}
use Rattle.std.specs.FinMap.{insert}
use Rattle.std.proofs.lemmas.Result.{err_from_is_err_and}
use Rattle.uq_kv.specs.Stored.{stored_key}
use Rattle.uq_kv.specs.Writing.{HoldsNow, IsBefore}
use Rattle.uq_kv.proofs.Databases.{cause_behind, handed_on, kept, no_some, within}
use Rattle.uq_kv.proofs.Putting.{headed}
use Rattle.uq_kv.proofs.Sums.{full_is, still_within}
use Rattle.uq_kv.proofs.writing.write.Goals as goal

pub returns-in_err-seen-clause-cause : goal.returns-in_err-seen-clause-cause
returns-in_err-seen-clause-cause g c =
    let p = err_from_is_err_and c.from_residual.result c.from_residual.ensures.1 in
    let one = p.1 in
    let two = p.2 in
    handed_on c.examine.result c.from_residual.result c.in_err-seen.field-0.0 c.in_err-seen.was (cc) (g.P.Pages.pages c.args.p.now) c.args.header.now _ _ _ c.examine.ensures.cause

pub returns-in_default-totals_after-clause-cause : goal.returns-in_default-totals_after-clause-cause
returns-in_default-totals_after-clause-cause g c = record {
  pages = record {
    later = c.in_ok-seen.ensures.cause.pages.later;
    failed = λ is. absurd (cc);
    quiet = λ _. c.in_ok-seen.ensures.cause.pages.quiet (λ is. cc);
    ended = λ is. absurd (cc);
    sound = λ _. c.in_ok-seen.ensures.cause.pages.sound (λ is. cc);
  };
  corrupt = λ _ pages on stored database.
      let before = c.in_ok-seen.ensures.before pages on stored (kept c.args.header.now stored pages database) in
      no_some c.totals_after.result (c.totals_after.ensures.some stored c.deref.result.now (within c.args.header.now stored pages database) before) c.in_default-totals_after.not-Some;
  no_page = λ is. absurd (cc);
}

pub returns-in_err-new-clause-cause : goal.returns-in_err-new-clause-cause
returns-in_err-new-clause-cause g c =
    let p = err_from_is_err_and c.from_residual-in_err-new.result c.from_residual-in_err-new.ensures.1 in
    let one = p.1 in
    let two = p.2 in
    handed_on c.put_entry.result c.from_residual-in_err-new.result c.in_err-new.field-0.0 c.in_err-new.was (cc) (g.P.Pages.pages c.args.p.now) c.args.header.now _ _ _
    (cause_behind c.put_entry.result (g.P.Pages.pages c.args.p.now) (g.P.Pages.pages c.examine.new.p) c.args.header.now _ _ _ _
    (c.in_ok-seen.ensures.same (λ is. cc)) (c.in_ok-seen.ensures.cause.pages.quiet (λ is. cc)) c.put_entry.ensures.cause)

pub returns-then-is_over-clause-puts : goal.returns-then-is_over-clause-puts
returns-then-is_over-clause-puts g c = λ pages on stored database.
    let stored_as : c.deref.result.now ≡ stored_key c.args.space c.args.key.now = c.deref.ensures.value ∙ c.in-Ok.ensures in
    let long : c.len.result ≡ length c.in-Ok.stored.items = search rules in
    let before = subst (λ k. IsBefore stored k c.in_ok-seen.seen.before) stored_as (c.in_ok-seen.ensures.before pages on stored (kept c.args.header.now stored pages database)) in
    let after = c.in-Some.ensures.after stored (stored_key c.args.space c.args.key.now) c.args.value.now (long ∙ ap length c.in-Ok.ensures) refl before in
    full_is c.args.limits.now stored (stored_key c.args.space c.args.key.now) c.args.value.now c.in_ok-seen.seen.before c.in-Some.after before after
    ∙ sym c.is_over.ensures ∙ c.if-is_over.true

pub returns-clause-puts : goal.returns-clause-puts
returns-clause-puts g c = λ pages on stored database.
    let stored_as : c.deref.result.now ≡ stored_key c.args.space c.args.key.now = c.deref.ensures.value ∙ c.in-Ok.ensures in
    let stored_again : c.deref-2.result.now ≡ stored_key c.args.space c.args.key.now = c.deref-2.ensures.value ∙ c.in-Ok.ensures in
    let long : c.len.result ≡ length c.in-Ok.stored.items = search rules in
    let keeps = kept c.args.header.now stored pages database in
    let before = subst (λ k. IsBefore stored k c.in_ok-seen.seen.before) stored_as (c.in_ok-seen.ensures.before pages on stored keeps) in
    let after = c.in-Some.ensures.after stored (stored_key c.args.space c.args.key.now) c.args.value.now (long ∙ ap length c.in-Ok.ensures) refl before in
    let not_full = full_is c.args.limits.now stored (stored_key c.args.space c.args.key.now) c.args.value.now c.in_ok-seen.seen.before c.in-Some.after before after ∙ sym c.is_over.ensures ∙ c.if-is_over.false in
    let limits = still_within c.args.limits.now stored (stored_key c.args.space c.args.key.now) c.args.value.now c.requires.entries c.requires.bytes (within c.args.header.now stored pages database) not_full in
    let put = c.in_ok-new.ensures.put pages (c.in_ok-seen.ensures.same (λ is. cc) ∙ on) stored keeps in (
      not_full,
      headed c.apart_from_header.ensures (g.P.Pages.pages c.put_entry.new.p) (g.P.Pages.pages c.write_head.new.p) c.in_ok-new.new (insert stored (stored_key c.args.space c.args.key.now) c.args.value.now) (g.P.Pages.size c.put_entry.new.p)
          (g.met.P.Pages.size_is c.put_entry.new.p) c.in_ok-new.ensures.some
          (subst (λ k. HoldsNow (g.P.Pages.pages c.put_entry.new.p) c.in_ok-new.new (insert stored k c.args.value.now)) stored_again put) c.in_ok-write_head.ensures.written limits,
    )
