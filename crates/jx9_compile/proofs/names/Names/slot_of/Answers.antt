use Rattle.std.proofs.Common.{position, ap, ◌∙◌}
use Rattle.std.specs.Str.{bytes_eq}
use Rattle.jx9_compile.proofs.NameLemmas.{found_by}
use Rattle.jx9_compile.proofs.names.Names.slot_of.Goals as goal

pub returns : goal.returns
returns c =
    c.copied.ensures ∙ c.get.ensures.value ∙ found_by (λ k. k.items) c.args.name.now c.self.inside.slots.entries ∙ c.self.invariant.found c.args.name.now
    ∙ ap (λ ns. position (λ n. bytes_eq n c.args.name.now) ns) c.self.view_is
