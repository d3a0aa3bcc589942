use Rattle.std.proofs.Common.{◌≡◌, inl, inr, ◌++◌, drop, Some, sym, ap, ◌∙◌}
use Rattle.std.specs.Prelude.{slice_get}
use Rattle.std.proofs.lemmas.List.{take_rest}
use Rattle.uq_hash.proofs.LyingLemmas.{cut_from}
use Rattle.uq_hash.proofs.assembling.append_rest.Goals.{then-is_replaced+in-Some, else-is_replaced}
use Rattle.uq_hash.proofs.assembling.append_rest.Goals as goal

pub returns-in-Ok-extend_from_slice-clause-cut : goal.returns-in-Ok-extend_from_slice-clause-cut
returns-in-Ok-extend_from_slice-clause-cut c =
    let from = c.if-is_replaced.from.0 in
    let at = c.if-is_replaced.from.1 in
    let sizes : c.extend_from_slice.new.self.items ≡ c.args.sizes.now.items ++ drop from c.args.rest.now.sizes.items =
    c.in-Ok.ensures.items ∙ ap (λ xs. c.args.sizes.now.items ++ xs) (take_rest c.deref-2.result.now from ∙ ap (drop from) c.deref-2.ensures.value) in
    let bytes : c.extend_from_slice-2.new.self.items ≡ c.args.bytes.now.items ++ drop at c.args.rest.now.bytes.items =
    c.in-Ok-extend_from_slice.ensures.items ∙ ap (λ xs. c.args.bytes.now.items ++ xs) (take_rest c.deref-3.result.now at ∙ ap (drop at) c.deref-3.ensures.value) in
    cut_from from at c.args.sizes.now.items c.args.bytes.now.items c.args.rest.now.sizes.items c.args.rest.now.bytes.items c.extend_from_slice.new.self.items c.extend_from_slice-2.new.self.items c.requires.cut c.requires.rest sizes bytes
    (elim c.if-is_replaced.branch [
      | then-is_replaced+in-Some w ↦ inr (ap (λ p. p.0) w.from-is, ap (λ xs. slice_get xs 0) (sym w.deref.ensures.value) ∙ sym w.in-Some.ensures.value ∙ ap Some (sym w.from.ensures ∙ sym (ap (λ p. p.1) w.from-is)))
      | else-is_replaced w ↦ inl (ap (λ p. p.0) w.from-is, ap (λ p. p.1) w.from-is)
    ])
