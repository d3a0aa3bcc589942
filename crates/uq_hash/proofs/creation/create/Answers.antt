use Rattle.std.proofs.Common.{refl, sym, ap, ◌∙◌, drop, ◌++◌}
use Rattle.uq_page.specs.Bucket.{bucket_fields}
use Rattle.uq_page.specs.declared.layout.TheConstants.{CELLS_AT}
use Rattle.uq_page.specs.Page.{bytes_of}
use Rattle.uq_hash.proofs.CreateLemmas.{created, empty_bucket}
use Rattle.uq_hash.proofs.creation.create.Goals as goal

pub returns-clause-created : goal.returns-clause-created
returns-clause-created g c =
    created _ refl (bytes_of c.write_header.new.page) (bytes_of c.write_bucket.new.page)
    (g.P.Pages.pages c.args.p.now) (g.P.Pages.pages c.grow.new.self) (g.P.Pages.pages c.grow-2.new.self)
    (λ pages told. sym c.requires.empty ∙ g.met.P.Pages.size_is c.args.p.now pages told)
    c.write_header.ensures.reads
    (c.write_bucket.ensures.bytes ∙ ap (λ page. bucket_fields (record { cells = 0; next = 0; end = CELLS_AT }) ++ drop CELLS_AT page) c.zero-page-2.ensures ∙ empty_bucket)
    c.in_ok-grow.ensures.ok c.in_ok-grow-2.ensures.ok
