use Rattle.std.proofs.Common.{length, sym, ◌∙◌}
use Rattle.std.proofs.lemmas.Option.{same_Some}
use Rattle.std.proofs.lemmas.Result.{IfOk-weaker}
use Rattle.uq_chain.specs.Causes.{IsShort, NoFreeList}
use Rattle.uq_chain.specs.Chain.{pages_for}
use Rattle.uq_chain.specs.FreeList.{KeepsCount, KeepsHeader}
use Rattle.uq_hash.specs.Changed.{Stores}
use Rattle.uq_hash.proofs.CauseLemmas.{roomy_if, roomy_unless, roomy_whole}
use Rattle.uq_hash.proofs.StoreLemmas.{stores_long, stores_short}
use Rattle.uq_hash.proofs.storing.store_value.Goals as goal

pub returns-then-value-le-MOST_INLINE-clause-stored : goal.returns-then-value-le-MOST_INLINE-clause-stored
returns-then-value-le-MOST_INLINE-clause-stored g c before told free list after told_after key =
    stores_short before after c.args.h.now.free free key c.args.value.now (same_Some before after (sym told ∙ told_after)) c.if-value-le-MOST_INLINE.true list

pub returns-clause-stored : goal.returns-clause-stored
returns-clause-stored g c =
    roomy_if (λ first. Stores (g.P.Pages.pages c.args.p.now) (g.P.Pages.pages c.write_chain.new.p) c.args.h.now.free c.write_chain.new.h.free first c.args.value.now) c.write_chain.result c.map_err.result c.map_err.ensures.cases
    (IfOk-weaker c.write_chain.result _ _ (λ first written before told free list after told_after key.
    stores_long before after c.write_chain.new.h.free free first key c.args.value.now c.if-value-le-MOST_INLINE.false (written before told free list after told_after))
    c.write_chain.ensures.written)

pub returns-clause-header : goal.returns-clause-header
returns-clause-header g c = roomy_if (λ first. KeepsHeader c.args.h.now c.write_chain.new.h) c.write_chain.result c.map_err.result c.map_err.ensures.cases c.write_chain.ensures.header

pub returns-clause-count : goal.returns-clause-count
returns-clause-count g c =
    roomy_if (λ first. KeepsCount c.args.h.now c.write_chain.new.h (g.P.Pages.size c.args.p.now) (g.P.Pages.size c.write_chain.new.p)) c.write_chain.result c.map_err.result c.map_err.ensures.cases c.write_chain.ensures.count

pub returns-clause-told : goal.returns-clause-told
returns-clause-told g c unless = c.write_chain.ensures.told (roomy_unless c.write_chain.result c.map_err.result c.map_err.ensures.cases unless)

pub returns-clause-cause : goal.returns-clause-cause
returns-clause-cause g c =
    roomy_whole (NoFreeList (g.P.Pages.pages c.args.p.now) c.args.h.now.free) (IsShort (g.P.Pages.pages c.args.p.now) c.args.h.now.free (g.P.Pages.size c.write_chain.new.p) (pages_for (length c.args.value.now)))
    (g.P.Pages.faults c.args.p.now) (g.P.Pages.faults c.write_chain.new.p) (g.P.Pages.is_sound c.write_chain.new.p) c.write_chain.result c.map_err.result c.map_err.ensures.cases c.write_chain.ensures.cause
