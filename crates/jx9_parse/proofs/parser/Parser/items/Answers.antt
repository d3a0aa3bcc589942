use Rattle.std.proofs.Common.{◌≡◌, Result, sym, subst, ◌∙◌}
use Rattle.jx9_parse.specs.Answers.{Gives, state}
use Rattle.jx9_parse.specs.Items.{program_parts}
use Rattle.jx9_parse.specs.Pieces.{Parts, item_of, parts_in}
use Rattle.jx9_parse.specs.declared.program.Pieces.{Pieces}
use Rattle.jx9_parse.specs.declared.stop.Stop.{Stop}
use Rattle.jx9_parse.proofs.Descents.{as_err}
use Rattle.jx9_parse.proofs.ItemLoops.{item_shrinks, with_parts, parts_begin, parts_go_on, parts_stop, parts_end}
use Rattle.jx9_parse.proofs.parser.Parser.items.Goals as goal

pub loop-self-init : goal.loop-self-init
loop-self-init c = subst (λ (ps : Parts). with_parts ps (program_parts (state c.args.self.now)) ≡ program_parts (state c.args.self.now)) (sym c.new-found.ensures) (parts_begin (program_parts (state c.args.self.now)))

pub loop-self-smaller : goal.loop-self-smaller
loop-self-smaller c = item_shrinks (state c.loop-self.self) (item_of c.in_ok-piece.piece, state c.piece.new.self) c.in_ok-piece.ensures

pub loop-self-preserved : goal.loop-self-preserved
loop-self-preserved c = subst (λ (ps : Parts). with_parts ps (program_parts (state c.piece.new.self)) ≡ program_parts (state c.args.self.now)) (sym c.in_ok-add.ensures.ok)
    (parts_go_on (parts_in c.loop-self.found) (state c.loop-self.self) (item_of c.in_ok-piece.piece, state c.piece.new.self) (program_parts (state c.args.self.now)) (sym c.begins_statement.ensures ∙ c.loop-self-test.true) c.in_ok-piece.ensures c.loop-self.invariant)

pub returns-in_err-piece : goal.returns-in_err-piece
returns-in_err-piece c = as_err (λ (r : Result Pieces Stop). Gives parts_in r c.piece.new.self (program_parts (state c.args.self.now))) c.from_residual.result c.in_err-piece.field-0.0 c.from_residual.ensures.1
    (parts_stop (parts_in c.loop-self.found) (state c.loop-self.self) (program_parts (state c.args.self.now)) c.in_err-piece.field-0.0 c.piece.new.self (sym c.begins_statement.ensures ∙ c.loop-self-test.true) c.in_err-piece.ensures c.loop-self.invariant)

pub returns : goal.returns
returns c = parts_end (parts_in c.loop-self.found) (state c.loop-self.self) (program_parts (state c.args.self.now)) (sym c.begins_statement.ensures ∙ c.loop-self-test.false) c.loop-self.invariant
