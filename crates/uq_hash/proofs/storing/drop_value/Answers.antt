use Rattle.std.proofs.Common.{sym, ◌∙◌}
use Rattle.std.proofs.lemmas.Option.{same_Some}
use Rattle.uq_hash.proofs.StoreLemmas.{dropped_short, inline_few}
use Rattle.uq_hash.proofs.storing.drop_value.Goals as goal

pub returns-in-Inline-clause-dropped : goal.returns-in-Inline-clause-dropped
returns-in-Inline-clause-dropped g c before told it is free list after told_after =
    dropped_short before after c.args.h.now.free free it c.args.len (same_Some before after (sym told ∙ told_after)) (let few = inline_few c.args.len _ c.in-Inline.is c.requires.kept in few) is.long is.has list
