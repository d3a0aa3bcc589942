use Rattle.std.proofs.Common.{◌≡◌, ◌-◌, ◌+◌, ◌++◌, length, take, drop, sym, ap, ◌∙◌, arith, append_assoc}
use Rattle.std.proofs.lemmas.List.{drop_at, length-take-le}
use Rattle.uq_facts.specs.Written.{written}
use Rattle.uq_page.specs.Page.{zeros}
use Rattle.uq_page.specs.PageLaws.{length-zeros, drop-zeros}
use Rattle.uq_page.specs.Bucket.{bucket_fields}
use Rattle.uq_hash.specs.Cells.{bucket_page}
use Rattle.uq_hash.proofs.refilling.page_of.Goals as goal
use Rattle.uq_page.specs.declared.layout.TheConstants.{CELLS_AT, CELLS_ROOM, PAGE_SIZE}

pub returns : goal.returns
unfolding bucket_page
returns c group count bytes_are =
    let bytes = c.args.bytes.now in
    let front : length (take CELLS_AT (zeros PAGE_SIZE)) ≡ CELLS_AT = length-take-le 16 (zeros PAGE_SIZE) (let n = length-zeros PAGE_SIZE in omega arith) in
    let rest : drop CELLS_AT (written CELLS_AT bytes (zeros PAGE_SIZE)) ≡ bytes ++ zeros (CELLS_ROOM - length bytes) =
    ap (drop CELLS_AT) (append_assoc (take CELLS_AT (zeros PAGE_SIZE)) bytes (drop (CELLS_AT + length bytes) (zeros PAGE_SIZE))) ∙ drop_at (take CELLS_AT (zeros PAGE_SIZE)) (bytes ++ drop (CELLS_AT + length bytes) (zeros PAGE_SIZE)) CELLS_AT front
    ∙ ap (λ ys. bytes ++ ys) (drop-zeros (CELLS_AT + length bytes) PAGE_SIZE) ∙ ap (λ n. bytes ++ zeros n) (omega arith) in
    c.write_bucket.ensures.bytes ∙ ap (λ ys. bucket_fields (record { cells = c.args.cells; next = c.args.next; end = CELLS_AT + length bytes }) ++ drop CELLS_AT ys) (c.put.ensures.bytes ∙ ap (written CELLS_AT bytes) c.zero-page.ensures)
    ∙ ap (λ ys. bucket_fields (record { cells = c.args.cells; next = c.args.next; end = CELLS_AT + length bytes }) ++ ys) rest
    ∙ ap (λ n. bucket_fields (record { cells = n; next = c.args.next; end = CELLS_AT + length bytes }) ++ (bytes ++ zeros (CELLS_ROOM - length bytes))) (sym count)
    ∙ ap (λ ys. bucket_fields (record { cells = length group; next = c.args.next; end = CELLS_AT + length ys }) ++ (ys ++ zeros (CELLS_ROOM - length ys))) (sym bytes_are)
