use Rattle.std.proofs.Common.{List, ℕ, ◌++◌, map, sym, ap, ◌∙◌}
use Rattle.std.specs.Borrow.{Bor}
use Rattle.uq_value.specs.Data.{Bytes}
use Rattle.uq_words.specs.Texts.{texts}
use Rattle.uq_words.proofs.Plains.{plain_none, plain_some}
use Rattle.uq_words.proofs.options.plain_words.Goals as goal

pub returns-then-has_dash : goal.returns-then-has_dash
returns-then-has_dash c =
    plain_none c.args.words.now c.split_at_dashes.result.0.now c.split_at_dashes.result.1.now c.split_at_dashes.ensures.before c.split_at_dashes.ensures.behind
    (sym c.if-has_dash.true ∙ c.has_dash.ensures)

pub returns : goal.returns
returns c =
    plain_some c.args.words.now c.split_at_dashes.result.0.now c.split_at_dashes.result.1.now c.split_at_dashes.ensures.before c.split_at_dashes.ensures.behind
    (map (λ (word : Bor (List ℕ)). word.now) c.push_words-2.new.plain.items) (sym c.if-has_dash.false ∙ c.has_dash.ensures)
    (c.in_ok-push_words-2.ensures
    ∙ ap (λ (w : List Bytes). w ++ texts c.split_at_dashes.result.1.now)
    (c.in_ok-push_words.ensures ∙ ap (λ (w : List (Bor (List ℕ))). map (λ (word : Bor (List ℕ)). word.now) w ++ texts c.split_at_dashes.result.0.now) c.new-plain.ensures.items))
