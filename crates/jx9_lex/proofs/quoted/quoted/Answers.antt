use Rattle.std.proofs.Common.{sym, ap, subst, ◌∙◌}
use Rattle.std.proofs.lemmas.Result.{err_from_is_err_and}
use Rattle.jx9_syntax.specs.Bytes.{run, behind}
use Rattle.jx9_syntax.specs.Front.{quoted_at}
use Rattle.jx9_lex.specs.Classes.{test}
use Rattle.jx9_lex.specs.Cuts.{CutsToken}
use Rattle.jx9_syntax.specs.Tokens.{PartsFit}
use Rattle.jx9_lex.specs.Built.{piece, IsOpen}
use Rattle.jx9_lex.proofs.Reading.{Reads, reads_run, reads_piece, piece_fails, reads_end}
use Rattle.jx9_lex.proofs.quoted.quoted.Goals as goal
use Rattle.jx9_lex.proofs.quoted.quoted.Goals.{In_ok-push_bytes}

-- behind the run, where the builder has its bytes
behind_run : (c : In_ok-push_bytes) → Reads c.args.quote c.push_bytes.new.self.parts.items c.push_bytes.new.self.pending.items c.split_run.result.1.now (quoted_at c.args.quote c.args.text.now)
behind_run c =
    reads_run c.args.quote c.push_bytes.new.self.parts.items c.pieces.builder.pending.items c.push_bytes.new.self.pending.items c.pieces.rest.now c.split_run.result.0.now c.split_run.result.1.now (quoted_at c.args.quote c.args.text.now)
    c.requires c.in_ok-push_bytes.ensures.ok
    (c.split_run.ensures.run ∙ ap (λ p. run (test p) c.pieces.rest.now) c.verbatim_class-class.ensures)
    (c.split_run.ensures.behind ∙ ap (λ p. behind (test p) c.pieces.rest.now) c.verbatim_class-class.ensures)
    (subst (λ parts. Reads c.args.quote parts.items c.pieces.builder.pending.items c.pieces.rest.now (quoted_at c.args.quote c.args.text.now)) (sym c.in_ok-push_bytes.ensures.parts) c.pieces.invariant.reads)

pub returns-in_default : goal.returns-in_default
returns-in_default c =
    subst (CutsToken c.closed.result)
    (reads_end c.args.quote c.push_bytes.new.self.parts.items c.push_bytes.new.self.pending.items c.split_run.result.1.now (quoted_at c.args.quote c.args.text.now) (sym c.in_default.ensures.piece) (behind_run (goal.at.returns-in_default c).In_ok-push_bytes))
    c.closed.ensures

pub returns-in_err-builder : goal.returns-in_err-builder
returns-in_err-builder c =
    let p = err_from_is_err_and c.from_residual-in_err-builder.result c.from_residual-in_err-builder.ensures.1 in
    rw (p.1, p.2)
    (piece_fails c.args.quote c.push_bytes.new.self.parts.items c.push_bytes.new.self.pending.items c.split_run.result.1.now (piece c.in-Some.piece) c.in-Some.after.now (quoted_at c.args.quote c.args.text.now) c.in_err-builder.field-0.0
    (sym c.in-Some.ensures.piece) c.in-Some.ensures.shorter c.in_err-builder.ensures.err (behind_run (goal.at.returns-in_err-builder c).In_ok-push_bytes))

pub pieces-preserved : goal.pieces-preserved
pieces-preserved c =
    let adds = c.in_ok-builder.ensures.ok in
    record {
      reads = reads_piece c.args.quote c.push_bytes.new.self.parts.items c.in_ok-builder.builder.parts.items c.push_bytes.new.self.pending.items c.in_ok-builder.builder.pending.items c.split_run.result.1.now (piece c.in-Some.piece) c.in-Some.after.now
          (quoted_at c.args.quote c.args.text.now) (sym c.in-Some.ensures.piece) c.in-Some.ensures.shorter adds (behind_run (goal.at.pieces-preserved c).In_ok-push_bytes);
      fits = adds.fits (subst (λ parts. PartsFit parts.items) (sym c.in_ok-push_bytes.ensures.parts) c.pieces.invariant.fits);
      is_open = adds.is_open (subst (λ parts. IsOpen parts.items) (sym c.in_ok-push_bytes.ensures.parts) c.pieces.invariant.is_open);
    }
