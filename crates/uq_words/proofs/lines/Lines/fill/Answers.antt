use Rattle.std.proofs.Common.{◌≡◌, ◌+◌, length, refl, ap, ◌∙◌, arith}
use Rattle.uq_words.specs.Taking.{pending}
use Rattle.uq_words.proofs.Filling.{enlarged, fills_none, fills_piece, front_left, front_stays, memory_cause, part_long, piece_behind, source_cause, unenlarged}
use Rattle.uq_words.proofs.lines.Lines.fill.Goals as goal

pub returns-then-is_err : goal.returns-then-is_err
returns-then-is_err g c =
    fills_none g.I.Source c.args.self.now _ c.args.input.now c.args.input.now c.drop_given.ensures.begins c.drop_given.ensures.kept _
    (unenlarged c.resize.result c.is_err.result c.resize.new.self.items _ _ c.resize.ensures.items c.is_err.ensures.value c.if-is_err.true ∙ c.drop_given.ensures.bytes)
    c.drop_given.ensures.room refl refl (memory_cause (g.I.Source.faults c.args.input.now))

pub returns-in-Ok : goal.returns-in-Ok
returns-in-Ok g c =
    let items = enlarged c.resize.result c.is_err.result c.resize.new.self.items _ _ c.resize.ensures.items c.is_err.ensures.value c.if-is_err.false in
    let long = enlarged c.resize.result c.is_err.result c.resize.new.self.len _ _ c.resize.ensures.len c.is_err.ensures.value c.if-is_err.false in
    let front : length c.drop_given.new.self.bytes.items ≡ length (pending c.args.self.now) = ap length c.drop_given.ensures.bytes in
    let held = c.len-held.ensures in
    let piece = c.min-piece.ensures in
    let room = c.drop_given.ensures.room in
    let some = c.requires in
    let few = c.in-Ok.ensures.bound.0 in
    let whole = c.deref_mut.ensures.len in
    let same = c.take.auto.into in
    let part = part_long c.deref_mut.result.now c.len-held.result in
    fills_piece g.I.Source c.args.self.now _ c.args.input.now c.take.new.self c.drop_given.ensures.begins c.drop_given.ensures.kept c.in-Ok.count _ c.take.new.into
    (c.truncate.ensures.items
    ∙ piece_behind (pending c.args.self.now) c.deref_mut.result.now c.take.new.into _ _ c.len-held.result c.in-Ok.count c.resize.new.self.len (omega arith)
    (front_stays (pending c.args.self.now) c.drop_given.new.self.bytes.items c.deref_mut.result.now c.len-held.result (c.len-held.result + c.min-piece.result) _ c.drop_given.ensures.bytes
    (omega arith) (omega arith) (c.deref_mut.ensures.value ∙ items))
    few (omega arith))
    (omega arith) few same (omega arith) c.in-Ok.ensures.bytes c.in-Ok.ensures.taken c.in-Ok.ensures.ended c.in-Ok.ensures.cause

pub returns-in-Err : goal.returns-in-Err
returns-in-Err g c =
    let items = enlarged c.resize.result c.is_err.result c.resize.new.self.items _ _ c.resize.ensures.items c.is_err.ensures.value c.if-is_err.false in
    let long = enlarged c.resize.result c.is_err.result c.resize.new.self.len _ _ c.resize.ensures.len c.is_err.ensures.value c.if-is_err.false in
    let front : length c.drop_given.new.self.bytes.items ≡ length (pending c.args.self.now) = ap length c.drop_given.ensures.bytes in
    let held = c.len-held.ensures in
    fills_none g.I.Source c.args.self.now _ c.args.input.now c.take.new.self c.drop_given.ensures.begins c.drop_given.ensures.kept _
    (c.truncate-in-Err.ensures.items
    ∙ front_left (pending c.args.self.now) c.deref_mut.result.now _ _ c.len-held.result c.resize.new.self.len (omega arith)
    (front_stays (pending c.args.self.now) c.drop_given.new.self.bytes.items c.deref_mut.result.now c.len-held.result (c.len-held.result + c.min-piece.result) _ c.drop_given.ensures.bytes
    (omega arith) (omega arith) (c.deref_mut.ensures.value ∙ items))
    (omega arith))
    c.drop_given.ensures.room c.in-Err.ensures.bytes c.in-Err.ensures.taken (source_cause (g.I.Source.faults c.args.input.now) (g.I.Source.faults c.take.new.self) c.in-Err.field-0 c.in-Err.ensures.cause)
