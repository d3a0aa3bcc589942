use Rattle.std.proofs.Common.{arith, ap, sym, ◌∙◌, ◌∷◌, ◌++◌, ◌<◌, ◌≡◌, [], take, get_or, length, subst, add-one, false}
use Rattle.std.proofs.Math.Seq.{take-suc}
use Rattle.uq_value.specs.Data.{IsDistinct, is_among}
use Rattle.uq_value.specs.Internal.Index.{Indexes}
use Rattle.uq_value.specs.Internal.Names.{names}
use Rattle.uq_value.specs.Internal.Table.{mark}
use Rattle.uq_value.proofs.Rows.{on-ok}
use Rattle.uq_value.proofs.NamePlaces.{names-take, name-at, length-names, distinct-take, apart, place-missing}
use Rattle.uq_value.proofs.names.NameIndex.add_next.Goals as goal

pub spot-requires-clause-index : goal.spot-requires-clause-index
spot-requires-clause-index c = subst (λ ns. Indexes c.args.self.now ns) (sym (names-take c.args.members.now c.args.at)) c.requires.index

pub spot-requires-clause-distinct : goal.spot-requires-clause-distinct
spot-requires-clause-distinct c = subst (λ ns. IsDistinct ns) (sym (names-take c.args.members.now c.args.at)) (distinct-take (names c.args.members.now) c.args.at c.requires.distinct)

pub enter-requires-clause-index : goal.enter-requires-clause-index
enter-requires-clause-index c = subst (λ ns. Indexes c.args.self.now ns) (sym (names-take c.args.members.now c.args.at)) c.requires.index

pub returns-in-Ok : goal.returns-in-Ok
returns-in-Ok c =
    let inside : c.args.at < length (names c.args.members.now) = omega (arith, length-names c.args.members.now, c.requires.within) in
    let n : c.name-name.result.now ≡ get_or (names c.args.members.now) c.args.at [] = c.name-name.ensures ∙ sym (name-at c.args.members.now c.args.at _ c.index-members-at.is c.requires.within) in
    let a : is_among c.name-name.result.now (names (take c.args.at c.args.members.now)) ≡ false = ap (λ m. is_among m (names (take c.args.at c.args.members.now))) n ∙ ap (λ ns. is_among (get_or (names c.args.members.now) c.args.at []) ns) (names-take c.args.members.now c.args.at) ∙ apart (names c.args.members.now) c.args.at c.requires.distinct inside in
    absurd (omega (arith, c.in-Ok.ensures.found.within, c.in-Ok.ensures.found.place, place-missing (names (take c.args.at c.args.members.now)) c.name-name.result.now a))

pub returns-in-Err : goal.returns-in-Err
returns-in-Err c =
    let inside : c.args.at < length (names c.args.members.now) = omega (arith, length-names c.args.members.now, c.requires.within) in
    let n : c.name-name.result.now ≡ get_or (names c.args.members.now) c.args.at [] = c.name-name.ensures ∙ sym (name-at c.args.members.now c.args.at _ c.index-members-at.is c.requires.within) in
    on-ok c.enter.result _ _
    (λ i. subst (λ ns. Indexes c.enter.new.self ns)
    (ap (λ ns. ns ++ c.name-name.result.now ∷ []) (names-take c.args.members.now c.args.at) ∙ ap (λ m. take c.args.at (names c.args.members.now) ++ m ∷ []) n
    ∙ sym (ap (λ k. take k (names c.args.members.now)) (add-one c.args.at) ∙ take-suc (names c.args.members.now) c.args.at [] inside)) i)
    c.enter.ensures.ok
