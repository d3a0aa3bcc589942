use Rattle.std.proofs.Common.{Err, ◌++◌, sym, ap, ◌∙◌, arith}
use Rattle.std.proofs.lemmas.Result.{err_from_is_err_and}
use Rattle.std.specs.Int.{w32, to_be_bytes}
use Rattle.uq_chain.specs.Chain.{NoChain}
use Rattle.uq_chain.specs.CauseLaws.{handed_on}
use Rattle.uq_hash.specs.Looked.{NoValue}
use Rattle.uq_hash.proofs.ValueLemmas.{chain_of}
use Rattle.uq_hash.proofs.lookup.read_long.Goals as goal

pub returns-in_err-read_chain-clause-cause : goal.returns-in_err-read_chain-clause-cause
returns-in_err-read_chain-clause-cause g c =
    let fault = err_from_is_err_and c.from_residual.result c.from_residual.ensures.1 in
    handed_on (NoChain (g.P.Pages.pages c.args.p.now) c.args.first c.args.len) ⊥ (NoValue (g.P.Pages.pages c.args.p.now) c.args.len (to_be_bytes w32 c.args.first)) ⊥
    (g.P.Pages.faults c.args.p.now) (g.P.Pages.faults c.args.p.now) (g.P.Pages.faults c.read_chain.new.p) (g.P.Pages.is_sound c.read_chain.new.p)
    c.in_err-read_chain.field-0.0 c.from_residual.result (fault.1 ∙ ap Err fault.2) (omega arith) c.in_err-read_chain.ensures.cause
    (λ none pages told it is. none pages told it.row it.value (chain_of pages it c.args.len c.args.first (omega arith) c.requires.long is) (sym is.long))
    (λ short. short)

pub returns-clause-read : goal.returns-clause-read
returns-clause-read g c pages told it is =
    c.in_ok-read_chain.ensures.read pages told it.row it.value (chain_of pages it c.args.len c.args.first (omega arith) c.requires.long is) (sym is.long)
    ∙ ap (λ xs. xs ++ it.value) c.new-bytes.ensures.items
