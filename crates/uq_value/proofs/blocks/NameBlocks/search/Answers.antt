use Rattle.std.proofs.Common.{ap, sym, ◌∙◌, subst, ◌∷◌, ◌<◌, length}
use Rattle.uq_value.specs.Internal.Blocks.{Splits}
use Rattle.uq_value.specs.Internal.Names.{names}
use Rattle.uq_value.proofs.NamePlaces.{length-names}
use Rattle.uq_value.proofs.Searches.{entry-within, found, missing-other, missing-end}
use Rattle.uq_value.proofs.blocks.NameBlocks.search.Goals as goal

pub is_for-requires : goal.is_for-requires
is_for-requires c =
    let s = subst (λ d. Splits (names c.args.members.now) (d ∷ c.args.name.now) c.args.self.now.blocks.items c.place-place.result.block c.place-place.result.entry) c.digest-digest.ensures c.place-place.ensures in
    let w : c.in-Some.entry.at < length (names c.args.members.now) = entry-within (names c.args.members.now) c.args.name.now c.args.self.now.blocks.items c.place-place.result.block c.place-place.result.entry c.requires.sorted s c.in-Some.entry (sym c.in-Some.ensures) in
    subst (λ n. c.in-Some.entry.at < n) (length-names c.args.members.now) w

pub returns-then-is_for-clause-found : goal.returns-then-is_for-clause-found
returns-then-is_for-clause-found c =
    let s = subst (λ d. Splits (names c.args.members.now) (d ∷ c.args.name.now) c.args.self.now.blocks.items c.place-place.result.block c.place-place.result.entry) c.digest-digest.ensures c.place-place.ensures in
    found (names c.args.members.now) c.args.name.now c.args.self.now.blocks.items c.place-place.result.block c.place-place.result.entry c.requires.sorted s c.in-Some.entry c.requires.distinct (sym c.in-Some.ensures)
    (c.if-is_for.ensures ∙ ap (λ d. d ∷ c.args.name.now) c.digest-digest.ensures)

pub returns-else-is_for-clause-missing : goal.returns-else-is_for-clause-missing
returns-else-is_for-clause-missing c =
    let s = subst (λ d. Splits (names c.args.members.now) (d ∷ c.args.name.now) c.args.self.now.blocks.items c.place-place.result.block c.place-place.result.entry) c.digest-digest.ensures c.place-place.ensures in
    missing-other (names c.args.members.now) c.args.name.now c.args.self.now.blocks.items c.place-place.result.block c.place-place.result.entry c.requires.sorted s c.in-Some.entry (sym c.in-Some.ensures)
    (λ p. c.if-is_for.ensures (p ∙ ap (λ d. d ∷ c.args.name.now) (sym c.digest-digest.ensures)))

pub returns-in-None-clause-missing : goal.returns-in-None-clause-missing
returns-in-None-clause-missing c =
    let s = subst (λ d. Splits (names c.args.members.now) (d ∷ c.args.name.now) c.args.self.now.blocks.items c.place-place.result.block c.place-place.result.entry) c.digest-digest.ensures c.place-place.ensures in
    missing-end (names c.args.members.now) c.args.name.now c.args.self.now.blocks.items c.place-place.result.block c.place-place.result.entry c.requires.sorted s (sym c.in-None.ensures)
