use Rattle.std.proofs.Common.{sym, ◌∙◌}
use Rattle.std.proofs.lemmas.Result.{err_from_is_err_and}
use Rattle.uq_json.specs.Internal.Reading.{inside_at}
use Rattle.uq_json.specs.Internal.Decoding.{piece}
use Rattle.uq_json.proofs.Decoding.{piece_shrinks, pieces_go_on, pieces_fail, pieces_end}
use Rattle.uq_json.proofs.Verbatim.{verbatim_goes_on, shorter_behind}
use Rattle.uq_json.proofs.unquoting.inside.Goals as goal

pub returns-then-next_is : goal.returns-then-next_is
returns-then-next_is c =
    pieces_end c.push_bytes.new.self.bytes.items c.flush.new.self.bytes.items c.push_bytes.new.self.waiting c.split_verbatim.result.1.now (inside_at c.args.text.now) (sym c.next_is.ensures.next ∙ c.if-next_is.true) c.in_ok-flush.ensures.0
    (verbatim_goes_on c.pieces.decoder.bytes.items c.push_bytes.new.self.bytes.items c.pieces.decoder.waiting c.push_bytes.new.self.waiting c.pieces.rest.now c.split_verbatim.result.0.now c.split_verbatim.result.1.now (inside_at c.args.text.now)
    c.split_verbatim.ensures.verbatim c.split_verbatim.ensures.rest c.in_ok-push_bytes.ensures c.pieces.invariant)

pub returns-in_err-piece : goal.returns-in_err-piece
returns-in_err-piece c =
    let p = err_from_is_err_and c.from_residual-in_err-piece.result c.from_residual-in_err-piece.ensures.1 in
    rw (p.1, p.2) (pieces_fail c.push_bytes.new.self.bytes.items c.push_bytes.new.self.waiting c.split_verbatim.result.1.now c.in_err-piece.field-0.0 (inside_at c.args.text.now) (sym c.next_is.ensures.next ∙ c.if-next_is.false) c.in_err-piece.ensures
    (verbatim_goes_on c.pieces.decoder.bytes.items c.push_bytes.new.self.bytes.items c.pieces.decoder.waiting c.push_bytes.new.self.waiting c.pieces.rest.now c.split_verbatim.result.0.now c.split_verbatim.result.1.now (inside_at c.args.text.now)
    c.split_verbatim.ensures.verbatim c.split_verbatim.ensures.rest c.in_ok-push_bytes.ensures c.pieces.invariant))

pub pieces-smaller : goal.pieces-smaller
pieces-smaller c =
    shorter_behind c.pieces.rest.now c.split_verbatim.result.1.now c.in_ok-piece.after.now c.split_verbatim.ensures.rest
    (piece_shrinks c.split_verbatim.result.1.now c.in_ok-piece.after.now (piece c.in_ok-piece.piece) (sym c.next_is.ensures.next ∙ c.if-next_is.false) c.in_ok-piece.ensures)

pub pieces-preserved : goal.pieces-preserved
pieces-preserved c =
    pieces_go_on c.push_bytes.new.self.bytes.items c.push.new.self.bytes.items c.push_bytes.new.self.waiting c.push.new.self.waiting 0 c.split_verbatim.result.1.now c.in_ok-piece.after.now (piece c.in_ok-piece.piece) (inside_at c.args.text.now)
    (sym c.next_is.ensures.next ∙ c.if-next_is.false) c.in_ok-piece.ensures c.in_ok-push.ensures
    (verbatim_goes_on c.pieces.decoder.bytes.items c.push_bytes.new.self.bytes.items c.pieces.decoder.waiting c.push_bytes.new.self.waiting c.pieces.rest.now c.split_verbatim.result.0.now c.split_verbatim.result.1.now (inside_at c.args.text.now)
    c.split_verbatim.ensures.verbatim c.split_verbatim.ensures.rest c.in_ok-push_bytes.ensures c.pieces.invariant)
