use Rattle.std.proofs.Common.{length, sym, ap, ◌∙◌}
use Rattle.jx9_compile.proofs.NameLemmas.{length_names}
use Rattle.jx9_compile.proofs.names.Names.len.Goals as goal

pub returns : goal.returns
returns c = c.len.ensures.len ∙ sym (length_names (λ k. k.items) c.self.inside.slots.entries (length c.self.inside.slots.entries)) ∙ ap length c.self.view_is
