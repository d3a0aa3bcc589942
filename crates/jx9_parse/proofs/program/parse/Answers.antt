use Rattle.std.proofs.Common.{[], ◌∷◌, length, Ok, Err, ap, arith}
use Rattle.std.proofs.lemmas.List.{length-append}
use Rattle.jx9_parse.specs.Answers.{state}
use Rattle.jx9_parse.specs.Pieces.{parts_in}
use Rattle.jx9_parse.proofs.ItemLoops.{some_left, none_left, from_start, dead_read, left_dead, left_behind, found_is, only_is, fits_is, dead_is, dead_behind}
use Rattle.jx9_parse.proofs.program.parse.Goals as goal

pub slice_bounds-parser-count : goal.slice_bounds-parser-count
slice_bounds-parser-count c = let count = ap length c.requires.tokens.split in omega (arith, count, length-append c.requires.tokens.body (c.requires.tokens.last ∷ []))

pub dead-requires-clause-within : goal.dead-requires-clause-within
dead-requires-clause-within c = left_behind c.args.tokens.now c.requires.tokens (parts_in c.in-Ok.field-0) (state c.items-read.new.self) (from_start c.args.tokens.now c.requires.tokens c.new.result (Ok (parts_in c.in-Ok.field-0, state c.items-read.new.self)) c.new.ensures c.in-Ok.ensures) (some_left c.items-read.new.self.tokens.now c.if-not-is_empty.ensures)

pub invariant_of-result : goal.invariant_of-result
invariant_of-result c = record { nested = ∣ fits_is c.args.tokens.now c.requires.tokens (parts_in c.in-Ok.field-0) (state c.items-read.new.self) (from_start c.args.tokens.now c.requires.tokens c.new.result (Ok (parts_in c.in-Ok.field-0, state c.items-read.new.self)) c.new.ensures c.in-Ok.ensures) (none_left c.items-read.new.self.tokens.now c.if-not-is_empty.ensures) ∣₁ }

pub returns-in-Ok-clause-found : goal.returns-in-Ok-clause-found
returns-in-Ok-clause-found c = found_is c.args.tokens.now c.requires.tokens (parts_in c.in-Ok.field-0) (state c.items-read.new.self) (from_start c.args.tokens.now c.requires.tokens c.new.result (Ok (parts_in c.in-Ok.field-0, state c.items-read.new.self)) c.new.ensures c.in-Ok.ensures) (none_left c.items-read.new.self.tokens.now c.if-not-is_empty.ensures)

pub returns-in-Ok-clause-only : goal.returns-in-Ok-clause-only
returns-in-Ok-clause-only c = λ others p. only_is c.args.tokens.now c.requires.tokens (parts_in c.in-Ok.field-0) (state c.items-read.new.self) (from_start c.args.tokens.now c.requires.tokens c.new.result (Ok (parts_in c.in-Ok.field-0, state c.items-read.new.self)) c.new.ensures c.in-Ok.ensures) (none_left c.items-read.new.self.tokens.now c.if-not-is_empty.ensures) others p

pub returns-then-not-is_empty-clause-dead : goal.returns-then-not-is_empty-clause-dead
returns-then-not-is_empty-clause-dead c = dead_behind c.args.tokens.now c.requires.tokens (parts_in c.in-Ok.field-0) (state c.items-read.new.self) c.dead.result (from_start c.args.tokens.now c.requires.tokens c.new.result (Ok (parts_in c.in-Ok.field-0, state c.items-read.new.self)) c.new.ensures c.in-Ok.ensures) (some_left c.items-read.new.self.tokens.now c.if-not-is_empty.ensures) c.dead.ensures

pub dead-requires-in-Dead-clause-within : goal.dead-requires-in-Dead-clause-within
dead-requires-in-Dead-clause-within c = left_dead c.args.tokens.now c.requires.tokens c.items-read.new.self.tokens.now (from_start c.args.tokens.now c.requires.tokens c.new.result (Err c.items-read.new.self.tokens.now) c.new.ensures (dead_read c.in-Err.stop c.items-read.new.self _ c.in-Dead.is c.in-Err.ensures))

pub returns-in-Dead-clause-dead : goal.returns-in-Dead-clause-dead
returns-in-Dead-clause-dead c = dead_is c.args.tokens.now c.requires.tokens c.items-read.new.self.tokens.now c.dead-in-Dead.result (from_start c.args.tokens.now c.requires.tokens c.new.result (Err c.items-read.new.self.tokens.now) c.new.ensures (dead_read c.in-Err.stop c.items-read.new.self _ c.in-Dead.is c.in-Err.ensures)) c.dead-in-Dead.ensures
