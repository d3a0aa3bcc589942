use Rattle.std.proofs.Common.{refl, sym, arith}
use Rattle.std.proofs.lemmas.Result.{on_ok_weaker}
use Rattle.std.specs.Int.{w32, to_be_bytes}
use Rattle.uq_chain.specs.Chain.{NoChainOrFreeList}
use Rattle.uq_chain.specs.CauseLaws.{handed_whole}
use Rattle.uq_hash.specs.Changed.{NoValueOrFreeList}
use Rattle.uq_hash.proofs.ValueLemmas.{chain_of}
use Rattle.uq_hash.proofs.storing.drop_chain.Goals as goal

pub returns-clause-dropped : goal.returns-clause-dropped
returns-clause-dropped g c =
    on_ok_weaker c.free_chain.result (λ freed before told it is free list after told_after.
    freed before told it.row it.value (chain_of before it c.args.len c.args.first (omega arith) c.requires.long is) (sym is.long) before told free list after told_after)
    c.free_chain.ensures.freed

pub returns-clause-cause : goal.returns-clause-cause
returns-clause-cause g c =
    handed_whole (NoChainOrFreeList (g.P.Pages.pages c.args.p.now) c.args.first c.args.len c.args.h.now.free) ⊥ (NoValueOrFreeList (g.P.Pages.pages c.args.p.now) c.args.len (to_be_bytes w32 c.args.first) c.args.h.now.free) ⊥
    (g.P.Pages.faults c.args.p.now) (g.P.Pages.faults c.args.p.now) (g.P.Pages.faults c.free_chain.new.p) (g.P.Pages.is_sound c.free_chain.new.p) c.free_chain.result refl c.free_chain.ensures.cause
    (λ none before told it is free list. none before told it.row it.value (chain_of before it c.args.len c.args.first (omega arith) c.requires.long is) (sym is.long) free list)
    (λ short. short)
