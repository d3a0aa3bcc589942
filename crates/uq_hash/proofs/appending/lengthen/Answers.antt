use Rattle.std.proofs.Common.{◌≡◌, ◌⊎◌, inl, inr, ℕ, ◌+◌, ◌-◌, ◌<◌, Ok, Err, List, ◌++◌, length, Option, refl, sym, ap, subst, ◌∙◌, arith, length-append}
use Rattle.std.specs.Prelude.{slice_set}
use Rattle.std.specs.Option.{option_map}
use Rattle.std.specs.FinMap.{get, insert}
use Rattle.std.proofs.lemmas.Option.{same_Some}
use Rattle.std.proofs.lemmas.Result.{IfOk-at_ok, err_from_is_err_and}
use Rattle.uq_facts.specs.Written.{written}
use Rattle.uq_page.specs.Cell.{IsKept}
use Rattle.uq_page.specs.Page.{bytes_of}
use Rattle.uq_page.specs.declared.layout.TheConstants.{MOST_INLINE}
use Rattle.uq_chain.specs.Causes.{IsShort}
use Rattle.uq_chain.specs.CauseLaws.{handed_whole, not_err}
use Rattle.uq_chain.specs.Chain.{IsAppended, NoChainOrFreeList, pages_for}
use Rattle.uq_hash.specs.Causes.{NoMap}
use Rattle.uq_page.specs.declared.header.Header.{Header}
use Rattle.uq_hash.specs.Looks.{value_or_none}
use Rattle.uq_hash.specs.Place.{at}
use Rattle.uq_hash.specs.Map.{HoldsMap, cell}
use Rattle.uq_hash.specs.declared.searching.Standing.TheVariants.{Cell as AtCell}
use Rattle.uq_hash.proofs.CauseLemmas.{roomy, roomy_err, roomy_ok}
use Rattle.uq_hash.proofs.GrowLemmas.{grown_map, grows_room, long_at, longer_cell}
use Rattle.uq_hash.proofs.InsertLemmas.{fresh}
use Rattle.uq_hash.proofs.RefillLemmas.{told_still}
use Rattle.uq_hash.proofs.SumLemmas.{IsOldOf, sums_after, sums_on}
use Rattle.uq_hash.proofs.ValueLemmas.{chain_of, first_is}
use Rattle.uq_hash.proofs.appending.lengthen.Goals as goal

pub returns-in_err-map_err-clause-cause : goal.returns-in_err-map_err-clause-cause
returns-in_err-map_err-clause-cause g c =
    let fault = err_from_is_err_and c.from_residual.result c.from_residual.ensures.1 in
    let was = roomy_err c.append_chain.result (Err c.in_err-map_err.field-0.0) c.in_err-map_err.field-0.0 c.in_err-map_err.ensures.cases refl in
    let len = c.args.cell.now.len in
    let more = length c.args.more.now in
    let Wrong = NoChainOrFreeList (g.P.Pages.pages c.args.p.now) c.args.first len c.args.h.now.free in
    let Short = IsShort (g.P.Pages.pages c.args.p.now) c.args.h.now.free (g.P.Pages.size c.append_chain.new.p) (pages_for (len + more) - pages_for len) in
    let kept = subst (IsKept len) c.requires.names c.requires.kept in
    handed_whole (Wrong ⊎ Short) ⊥ (NoMap (g.P.Pages.pages c.args.p.now) c.args.h.now) ⊥
    (g.P.Pages.faults c.args.p.now) (g.P.Pages.faults c.args.p.now) (g.P.Pages.faults c.append_chain.new.p) (g.P.Pages.is_sound c.append_chain.new.p) c.from_residual.result refl
    (roomy Wrong Short (g.P.Pages.faults c.args.p.now) (g.P.Pages.faults c.append_chain.new.p) (g.P.Pages.is_sound c.append_chain.new.p) was.0 c.append_chain.result c.from_residual.result was.1 (fault.1 ∙ ap Err (fault.2 ∙ was.2)) c.append_chain.ensures.cause)
    (λ wrong pages told m held.
    let is = c.requires.is pages told m held in
    let so = long_at pages c.args.h.now m held c.args.at.now is.0 c.args.cell.now c.args.first c.requires.names is.1 in
    let size = g.met.P.Pages.size_is c.args.p.now pages told in
    let most = c.append_chain.ensures.most in
    elim wrong [
      | inl none ↦ none pages told _ _ (chain_of pages _ len c.args.first kept.1 kept.0 so.is) (sym so.is.long) held.free held.form.listed
      | inr short ↦ grows_room pages c.args.h.now m held c.args.at.now is.0 len more (g.P.Pages.size c.append_chain.new.p) c.requires.entries c.requires.bytes c.requires.value (omega arith) short.0 (short.1 pages told held.free held.form.listed)
    ])
    (λ short. short)

pub returns-in_err-write_page-clause-keeps : goal.returns-in_err-write_page-clause-keeps
returns-in_err-write_page-clause-keeps g c = g.met.P.Pages.keeps_on _ _ _ c.append_chain.ensures.keeps c.in_err-write_page.ensures.keeps

pub returns-clause-appended : goal.returns-clause-appended
returns-clause-appended g c pages told m held after told_after =
    let is = c.requires.is pages told m held in
    let look = c.args.at.now in
    let seen = c.args.cell.now in
    let first = c.args.first in
    let more = c.args.more.now in
    let h1 = c.append_chain.new.h in
    let so = long_at pages c.args.h.now m held look is.0 seen first c.requires.names is.1 in
    let kept = subst (IsKept seen.len) c.requires.names c.requires.kept in
    let value = value_or_none (get m look.key.now) ++ more in
    let got = ap value_or_none so.got in
    let ok = roomy_ok c.append_chain.result (Ok c.in_ok-map_err.field-0) c.in_ok-map_err.field-0 c.in_ok-map_err.ensures.cases refl in
    let b1 = told_still (g.P.Pages.pages c.args.p.now) (g.P.Pages.pages c.append_chain.new.p) pages (c.append_chain.ensures.told (λ failed. not_err _ _ (sym ok ∙ failed))) told in
    let chain = chain_of pages _ seen.len first kept.1 kept.0 so.is in
    let step0 = IfOk-at_ok _ ok c.append_chain.ensures.appended pages told _ _ chain (sym so.is.long) held.free held.form.listed b1.0 b1.1 in
    let step = subst (λ (bytes : List ℕ). IsAppended pages b1.0 h1.free held.free (at is.0.here.found.stands.group look.place.spot.index).row first (bytes ++ more)) (sym got) step0 in
    let lens = length-append (value_or_none (get m look.key.now)) more in
    let old_len : length (value_or_none (get m look.key.now)) ≡ seen.len = ap length got ∙ sym so.is.long in
    let long : MOST_INLINE < length value = let more_than = kept.0 in omega arith in
    let cell_is = longer_cell b1.0 seen.key.now look.key.now value step.made (seen.len + length more) first so.key (omega arith) long step.chain in
    let page_is = c.write_cell.ensures.bytes ∙ ap (λ bytes. written look.place.spot.at bytes (bytes_of look.place.it.page)) cell_is in
    let after_is : after ≡ slice_set b1.0 look.place.no (written look.place.spot.at (cell (fresh look.key.now value step.made)) (bytes_of look.place.it.page)) =
    same_Some after _ (sym told_after ∙ c.in_ok-write_page.ensures.ok ∙ ap (option_map (λ ps. slice_set ps look.place.no (bytes_of c.write_cell.new.page))) b1.1) ∙ ap (slice_set b1.0 look.place.no) page_is in
    let keeps = IfOk-at_ok _ ok c.append_chain.ensures.header in
    let counted_before : c.args.h.now.pages ≡ g.P.Pages.size c.args.p.now = held.counts.count ∙ sym (g.met.P.Pages.size_is c.args.p.now pages told) in
    let counted = IfOk-at_ok _ ok c.append_chain.ensures.count counted_before in
    let new : Header = record { version = h1.version; pages = h1.pages; buckets = h1.buckets; free = h1.free; root = h1.root; entries = h1.entries; bytes = h1.bytes + length more } in
    let sums = sums_after h1 new m look.key.now value (AtCell seen) (subst (λ (o : Option (List ℕ)). IsOldOf (AtCell seen) o) (sym so.got) so.is.long) (sums_on c.args.h.now h1 m keeps.entries keeps.bytes held.sums)
    (record { fields = record { version = refl; pages = refl; buckets = refl; free = refl; root = refl }; keys = refl; bytes = omega arith }) in
    subst (λ (ps : List (List ℕ)). HoldsMap ps new (insert m look.key.now value)) (sym after_is)
    (grown_map pages b1.0 h1.free c.args.h.now new m held look.key look.place is.0.bucket is.0.for is.0.here so.within value first so.same (let fits = c.requires.value in omega arith) long (let long_was = so.is.long in let more_than = kept.0 in omega arith)
    step (first_is pages _ seen.len first kept.1 kept.0 so.is)
    (record {
      version = keeps.version;
      count = counted ∙ sym c.in_ok-write_page.ensures.size ∙ g.met.P.Pages.size_is c.write_page.new.self after told_after ∙ ap length after_is;
      buckets = keeps.buckets;
      root = keeps.root;
      free_is = refl;
    }) sums)
