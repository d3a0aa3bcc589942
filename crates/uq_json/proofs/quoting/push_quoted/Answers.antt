use Rattle.std.proofs.Common.{◌∷◌, ◌++◌, [], ap, ◌∙◌, append_assoc}
use Rattle.std.specs.List.{flat_map}
use Rattle.uq_json.specs.Quote.{escaped}
use Rattle.uq_value.specs.Data.{Bytes}
use Rattle.uq_json.proofs.Verbatim.{rest_shorter, escapes_go_on, escapes_end}
use Rattle.uq_json.proofs.quoting.push_quoted.Goals as goal

pub returns-in_default : goal.returns-in_default
returns-in_default c =
    c.in_ok-push-2.ensures.items
    ∙ ap (λ (w : Bytes). w ++ 0x22 ∷ []) (escapes_end c.escapes.text.items c.extend_from_slice.new.self.items (c.args.text.now.items ++ 0x22 ∷ flat_map escaped c.args.bytes.now) c.escapes.rest.now c.split_verbatim.result.1.now
    c.escapes.invariant (c.in_ok-extend_from_slice.ensures.items ∙ ap (λ (w : Bytes). c.escapes.text.items ++ w) c.split_verbatim.ensures.verbatim) c.split_verbatim.ensures.rest c.in_default.len_below)
    ∙ append_assoc c.args.text.now.items (0x22 ∷ flat_map escaped c.args.bytes.now) (0x22 ∷ [])

pub escapes-smaller : goal.escapes-smaller
escapes-smaller c = rest_shorter c.escapes.rest.now c.split_verbatim.result.1.now c.split_verbatim.ensures.rest c.in-len1-up.len_at_least

pub escapes-preserved : goal.escapes-preserved
escapes-preserved c =
    escapes_go_on c.escapes.text.items c.extend_from_slice.new.self.items c.push_escaped.new.text.items (c.args.text.now.items ++ 0x22 ∷ flat_map escaped c.args.bytes.now) c.escapes.rest.now c.split_verbatim.result.1.now
    c.escapes.invariant (c.in_ok-extend_from_slice.ensures.items ∙ ap (λ (w : Bytes). c.escapes.text.items ++ w) c.split_verbatim.ensures.verbatim) c.split_verbatim.ensures.rest c.in-len1-up.len_at_least c.in_ok-push_escaped.ensures
