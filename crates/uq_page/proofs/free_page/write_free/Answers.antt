use Rattle.std.proofs.Common.{◌≡◌, ap, ◌∙◌, drop, ◌++◌, arith}
use Rattle.std.proofs.lemmas.List.{drop-replicate}
use Rattle.uq_facts.specs.Written.{written}
use Rattle.uq_page.specs.Page.{zeros}
use Rattle.uq_page.specs.FreePage.{free_fields, free_page}
use Rattle.uq_page.proofs.free_page.write_free.Goals as goal

zero_rest : drop 8 (zeros 4096) ≡ zeros 4088
unfolding zeros
zero_rest = drop-replicate 8 4096 0

pub returns-clause-bytes : goal.returns-clause-bytes
unfolding free_page
returns-clause-bytes c =
    c.put.ensures.bytes
    ∙ ap (λ page. written 0 c.free_bytes.result page) c.zero.ensures
    ∙ ap (λ bytes. written 0 bytes (zeros 4096)) c.free_bytes.ensures ∙ ap (λ rest. free_fields c.args.next ++ rest) zero_rest

pub returns-clause-reads : goal.returns-clause-reads
returns-clause-reads c = record { fits = omega arith; bytes = returns-clause-bytes c }
