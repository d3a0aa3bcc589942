use Rattle.std.proofs.Common.{◌≡◌, ◌-◌, sym, ap, ◌∙◌, ◌∷◌, ◌++◌, [], true, false, inl, arith, rules, length, take, replicate}
use Rattle.std.specs.Vec.{vec_len}
use Rattle.uq_json.specs.Internal.LeftOut.{marked}
use Rattle.uq_json.proofs.Keeping.{marked_within, marked_behind}
use Rattle.uq_json.proofs.members.mark.Goals as goal

pub returns-then-place-len : goal.returns-then-place-len
returns-then-place-len c = inl (marked_within c.args.place c.args.is_left_out c.args.marks.now.items (omega (arith, c.if-place-len.true, c.len.ensures)))

pub returns-in_ok-push : goal.returns-in_ok-push
returns-in_ok-push c =
    let count : vec_len c.args.marks.now ≡ length c.args.marks.now.items = search rules in
    inl (c.in_ok-push.ensures.items ∙ ap (λ bs. bs ++ true ∷ []) (c.in_ok-resize.ensures.items ∙ ap (λ n. take c.args.place c.args.marks.now.items ++ replicate (c.args.place - n) false) count) ∙ marked_behind c.args.place c.args.marks.now.items (omega (arith, c.if-place-len.false, c.len.ensures))
    ∙ ap (λ b. marked c.args.place b c.args.marks.now.items) (sym c.if-is_left_out.true))
