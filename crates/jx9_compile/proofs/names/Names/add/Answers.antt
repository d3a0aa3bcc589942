use Rattle.std.proofs.Common.{length, sym, ap, ◌∙◌}
use Rattle.jx9_compile.proofs.NameLemmas.{length_names, name_added, slots_added}
use Rattle.jx9_compile.proofs.names.Names.add.Goals as goal

pub invariant_of-self-2 : goal.invariant_of-self-2
invariant_of-self-2 c =
    slots_added (λ k. k.items) _ _ _ _ _ _ c.in_ok-name.ensures.items (c.in_ok-slot.ensures ∙ c.len.ensures.len) c.in_ok-insert.ensures.entries c.self.view_is c.self.invariant c.requires

pub returns-clause-slot : goal.returns-clause-slot
returns-clause-slot c =
    c.in_ok-slot.ensures ∙ c.len.ensures.len ∙ sym (length_names (λ k. k.items) c.self.inside.slots.entries (length c.self.inside.slots.entries)) ∙ ap length c.self.view_is

pub returns-clause-names : goal.returns-clause-names
returns-clause-names c =
    name_added (λ k. k.items) _ _ _ _ _ _ c.in_ok-name.ensures.items (c.in_ok-slot.ensures ∙ c.len.ensures.len) c.in_ok-insert.ensures.entries c.self.view_is c.self.invariant c.requires
