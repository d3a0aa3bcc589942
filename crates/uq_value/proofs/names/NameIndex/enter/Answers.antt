use Rattle.std.proofs.Common.{sym, ap, ◌∙◌, ◌++◌, ◌∷◌, [], subst, length, set, arith}
use Rattle.uq_value.specs.Internal.Index.{IsIndex, BelongsAt}
use Rattle.uq_value.specs.Internal.Names.{names}
use Rattle.uq_value.specs.Internal.Table.{mark_of}
use Rattle.uq_value.proofs.Rows.{on-ok}
use Rattle.uq_value.proofs.NamePlaces.{length-names}
use Rattle.uq_value.proofs.Slots.{free-inside, filled, entered}
use Rattle.uq_value.proofs.names.NameIndex.enter.Goals as goal

pub fill-requires : goal.fill-requires
fill-requires c =
    let b = subst (λ s. BelongsAt c.args.self.now (names c.args.members.now) c.args.name.now s) c.in-Row.is c.requires.belongs in
    free-inside c.args.self.now.table.slots.items _ c.in-Row.room.slot c.requires.index.long b.1

pub returns-in-Row-clause-ok : goal.returns-in-Row-clause-ok
returns-in-Row-clause-ok c =
    let ns = names c.args.members.now in
    let slots = c.args.self.now.table.slots.items in
    let b = subst (λ s. BelongsAt c.args.self.now (names c.args.members.now) c.args.name.now s) c.in-Row.is c.requires.belongs in
    on-ok c.fill.result _ _
    (λ f. subst (λ s. IsIndex (ns ++ c.args.name.now ∷ []) s c.args.self.now.beside.blocks.items)
    (sym (f.1 ∙ ap (λ m. set slots c.in-Row.room.slot (record { mark = m; at = length c.args.members.now })) b.0 ∙ ap (λ n. set slots c.in-Row.room.slot (record { mark = mark_of c.args.name.now; at = n })) (sym (length-names c.args.members.now))))
    (filled ns slots c.args.self.now.beside.blocks.items c.args.name.now c.requires.index c.in-Row.room.slot b.1 (free-inside slots _ c.in-Row.room.slot c.requires.index.long b.1) (omega (arith, f.0, length-names c.args.members.now))))
    c.fill.ensures.ok

pub returns-in-Beside-clause-ok : goal.returns-in-Beside-clause-ok
returns-in-Beside-clause-ok c =
    let b = subst (λ s. BelongsAt c.args.self.now (names c.args.members.now) c.args.name.now s) c.in-Beside.is c.requires.belongs in
    on-ok c.enter.result _ _
    (λ e. entered (names c.args.members.now) c.args.self.now.table.slots.items c.args.self.now.beside.blocks.items c.args.name.now c.requires.index c.enter.new.self.blocks.items b.0 e)
    c.enter.ensures.ok
