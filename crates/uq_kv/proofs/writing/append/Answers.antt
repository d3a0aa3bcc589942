use Rattle.std.proofs.Common.{◌≡◌, ◌+◌, ◌<◌, ◌≤◌, Bool, length, length-append, Ok, Err, arith, rules, sym, ap, subst, ◌∙◌}
use Rattle.std.specs.FinMap.{get}
use Rattle.std.proofs.lemmas.Result.{err_from_is_err_and}
use Rattle.std.proofs.lemmas.Bool.{le-ltb, lt-ltb}
use Rattle.std.specs.Prelude.{if◌then◌else◌}
use Rattle.uq_hash.specs.Looks.{value_or_none}
use Rattle.uq_kv.specs.declared.error.KvFault.TheVariants.{ValueTooLong}
use Rattle.uq_kv.specs.declared.limits.TheConstants.{MOST_VALUE}
use Rattle.uq_kv.specs.Stored.{stored_key}
use Rattle.uq_kv.specs.Writing.{HoldsNow, IsBefore, added, longer}
use Rattle.uq_kv.proofs.Databases.{cause_behind, handed_on, kept, no_some, within}
use Rattle.uq_kv.proofs.Putting.{headed, old_long, too_long}
use Rattle.uq_kv.proofs.Sums.{full_is, still_within}
use Rattle.uq_kv.proofs.writing.append.Goals as goal

pub returns-in_err-seen-clause-cause : goal.returns-in_err-seen-clause-cause
returns-in_err-seen-clause-cause g c =
    let p = err_from_is_err_and c.from_residual.result c.from_residual.ensures.1 in
    let one = p.1 in
    let two = p.2 in
    handed_on c.examine.result c.from_residual.result c.in_err-seen.field-0.0 c.in_err-seen.was (cc) (g.P.Pages.pages c.args.p.now) c.args.header.now _ _ _ c.examine.ensures.cause

pub returns-in_default-totals_after-clause-cause : goal.returns-in_default-totals_after-clause-cause
returns-in_default-totals_after-clause-cause g c = record {
  pages = record {
    later = c.in_ok-seen.ensures.cause.pages.later;
    failed = λ is. absurd (cc);
    quiet = λ _. c.in_ok-seen.ensures.cause.pages.quiet (λ is. cc);
    ended = λ is. absurd (cc);
    sound = λ _. c.in_ok-seen.ensures.cause.pages.sound (λ is. cc);
  };
  corrupt = λ _ pages on stored database.
      let before = c.in_ok-seen.ensures.before pages on stored (kept c.args.header.now stored pages database) in
      no_some c.totals_after.result (c.totals_after.ensures.some stored c.deref.result.now (within c.args.header.now stored pages database) before) c.in_default-totals_after.not-Some;
  no_page = λ is. absurd (cc);
}

pub returns-in_err-new-clause-cause : goal.returns-in_err-new-clause-cause
returns-in_err-new-clause-cause g c =
    let p = err_from_is_err_and c.from_residual-in_err-new.result c.from_residual-in_err-new.ensures.1 in
    let one = p.1 in
    let two = p.2 in
    handed_on c.add_entry.result c.from_residual-in_err-new.result c.in_err-new.field-0.0 c.in_err-new.was (cc) (g.P.Pages.pages c.args.p.now) c.args.header.now _ _ _
    (cause_behind c.add_entry.result (g.P.Pages.pages c.args.p.now) (g.P.Pages.pages c.examine.new.p) c.args.header.now _ _ _ _
    (c.in_ok-seen.ensures.same (λ is. cc)) (c.in_ok-seen.ensures.cause.pages.quiet (λ is. cc)) c.add_entry.ensures.cause)

pub returns-in_default-longer_len-clause-adds : goal.returns-in_default-longer_len-clause-adds
returns-in_default-longer_len-clause-adds g c = λ pages on stored database.
    let stored_as : c.deref.result.now ≡ stored_key c.args.space c.args.key.now = c.deref.ensures.value ∙ c.in-Ok.ensures in
    let before = subst (λ k. IsBefore stored k c.in_ok-seen.seen.before) stored_as (c.in_ok-seen.ensures.before pages on stored (kept c.args.header.now stored pages database)) in
    let old = old_long (get stored (stored_key c.args.space c.args.key.now)) c.in_ok-seen.seen.before.old_len before.old in
    let joined = length-append (value_or_none (get stored (stored_key c.args.space c.args.key.now))) c.args.more.now in
    let many : MOST_VALUE < c.len_before.result + length c.args.more.now = too_long c.longer_len.result c.longer_len.ensures.none c.in_default-longer_len.not-Some in
    ap (λ (b : Bool). if b then Err ValueTooLong else Ok tt) (lt-ltb MOST_VALUE (length (longer stored (stored_key c.args.space c.args.key.now) c.args.more.now)) (omega (arith, many, old, joined, c.len_before.ensures)))

pub returns-then-is_over-clause-adds : goal.returns-then-is_over-clause-adds
returns-then-is_over-clause-adds g c = λ pages on stored database.
    let key = stored_key c.args.space c.args.key.now in
    let stored_as : c.deref.result.now ≡ key = c.deref.ensures.value ∙ c.in-Ok.ensures in
    let long : c.len.result ≡ length c.in-Ok.stored.items = search rules in
    let before = subst (λ k. IsBefore stored k c.in_ok-seen.seen.before) stored_as (c.in_ok-seen.ensures.before pages on stored (kept c.args.header.now stored pages database)) in
    let old = old_long (get stored key) c.in_ok-seen.seen.before.old_len before.old in
    let joined = length-append (value_or_none (get stored key)) c.args.more.now in
    let len_is : c.in-Some.len ≡ length (longer stored key c.args.more.now) = omega (arith, c.in-Some.ensures.some.0, old, joined, c.len_before.ensures) in
    let fits : length (longer stored key c.args.more.now) ≤ MOST_VALUE = omega (arith, c.in-Some.ensures.some.1, len_is) in
    let after = c.in-Some-totals_after.ensures.after stored key (longer stored key c.args.more.now) (long ∙ ap length c.in-Ok.ensures) len_is before in (
      ap (λ (b : Bool). if b then Err ValueTooLong else Ok tt) (le-ltb MOST_VALUE (length (longer stored key c.args.more.now)) fits),
      full_is c.args.limits.now stored key (longer stored key c.args.more.now) c.in_ok-seen.seen.before c.in-Some-totals_after.after before after ∙ sym c.is_over.ensures ∙ c.if-is_over.true,
    )

pub returns-clause-adds : goal.returns-clause-adds
returns-clause-adds g c = λ pages on stored database.
    let key = stored_key c.args.space c.args.key.now in
    let stored_as : c.deref.result.now ≡ key = c.deref.ensures.value ∙ c.in-Ok.ensures in
    let stored_again : c.deref-2.result.now ≡ key = c.deref-2.ensures.value ∙ c.in-Ok.ensures in
    let long : c.len.result ≡ length c.in-Ok.stored.items = search rules in
    let keeps = kept c.args.header.now stored pages database in
    let before = subst (λ k. IsBefore stored k c.in_ok-seen.seen.before) stored_as (c.in_ok-seen.ensures.before pages on stored keeps) in
    let old = old_long (get stored key) c.in_ok-seen.seen.before.old_len before.old in
    let joined = length-append (value_or_none (get stored key)) c.args.more.now in
    let len_is : c.in-Some.len ≡ length (longer stored key c.args.more.now) = omega (arith, c.in-Some.ensures.some.0, old, joined, c.len_before.ensures) in
    let fits : length (longer stored key c.args.more.now) ≤ MOST_VALUE = omega (arith, c.in-Some.ensures.some.1, len_is) in
    let after = c.in-Some-totals_after.ensures.after stored key (longer stored key c.args.more.now) (long ∙ ap length c.in-Ok.ensures) len_is before in
    let not_full = full_is c.args.limits.now stored key (longer stored key c.args.more.now) c.in_ok-seen.seen.before c.in-Some-totals_after.after before after ∙ sym c.is_over.ensures ∙ c.if-is_over.false in
    let limits = still_within c.args.limits.now stored key (longer stored key c.args.more.now) c.requires.entries c.requires.bytes (within c.args.header.now stored pages database) not_full in
    let put = c.in_ok-new.ensures.added pages (c.in_ok-seen.ensures.same (λ is. cc) ∙ on) stored keeps in (
      ap (λ (b : Bool). if b then Err ValueTooLong else Ok tt) (le-ltb MOST_VALUE (length (longer stored key c.args.more.now)) fits),
      not_full,
      headed c.apart_from_header.ensures (g.P.Pages.pages c.add_entry.new.p) (g.P.Pages.pages c.write_head.new.p) c.in_ok-new.new (added stored key c.args.more.now) (g.P.Pages.size c.add_entry.new.p)
          (g.met.P.Pages.size_is c.add_entry.new.p) c.in_ok-new.ensures.some
          (subst (λ k. HoldsNow (g.P.Pages.pages c.add_entry.new.p) c.in_ok-new.new (added stored k c.args.more.now)) stored_again put) c.in_ok-write_head.ensures.written limits,
    )
