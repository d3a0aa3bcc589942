use Rattle.std.proofs.Common.{◌≡◌, ◌<◌, ◌∙◌, sym, ap, arith, subst, [], get_or, length, true}
use Rattle.std.proofs.lemmas.Slice.Eq.{bytes_eq-Decides}
use Rattle.uq_value.specs.Internal.Names.{names}
use Rattle.uq_value.specs.Internal.Table.{slot_at, no_place}
use Rattle.uq_value.proofs.NamePlaces.{name-at, length-names}
use Rattle.uq_value.proofs.Slots.{one-more, slot-is, seen, place-within}
use Rattle.uq_value.proofs.table.NameTable.find.Goals as goal

pub returns-then-eq : goal.returns-then-eq
returns-then-eq c =
    let e = slot-is c.args.self.now.slots.items c.loop-slot.slot c.index-found.result.now c.index-found.ensures (omega arith) in
    let w = place-within (names c.args.members.now) c.args.self.now.slots.items c.loop-slot.slot c.index-found.result.now c.requires.within e (omega arith) in
    let n = name-at c.args.members.now c.index-found.result.now.at c.index-members-at.result c.index-members-at.is (omega (arith, w, length-names c.args.members.now)) in
    seen (names c.args.members.now) c.args.name.now c.index-found.result.now.at c.requires.distinct w
    (n ∙ sym c.name.ensures ∙ (bytes_eq-Decides c.name.result.now c.args.name.now).0 (sym c.eq.ensures ∙ c.if-eq.true))

pub loop-slot-preserved : goal.loop-slot-preserved
loop-slot-preserved c = record {
  none = λ i least most m a. one-more
      (λ j. (slot_at c.args.self.now.slots.items j).mark ≡ c.args.mark → (slot_at c.args.self.now.slots.items j).at < no_place → get_or (names c.args.members.now) (slot_at c.args.self.now.slots.items j).at [] ≡ c.args.name.now → ⊥)
      c.loop-slot.slot i (λ k. c.loop-slot.invariant.none i least k)
      (λ p q r.
      let e = slot-is c.args.self.now.slots.items c.loop-slot.slot c.index-found.result.now c.index-found.ensures (omega arith) in
      let w = place-within (names c.args.members.now) c.args.self.now.slots.items c.loop-slot.slot c.index-found.result.now c.requires.within e (omega arith) in
      let n = name-at c.args.members.now c.index-found.result.now.at c.index-members-at.result c.index-members-at.is (omega (arith, w, length-names c.args.members.now)) in
      let t : c.eq.result ≡ true = c.eq.ensures ∙ (bytes_eq-Decides c.name.result.now c.args.name.now).1 (c.name.ensures ∙ sym n ∙ ap (λ s. get_or (names c.args.members.now) s.at []) (sym e) ∙ r) in
      let f = c.if-eq.false in absurd (cc))
      most m a;
}
