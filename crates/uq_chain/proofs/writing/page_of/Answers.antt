use Rattle.std.proofs.Common.{◌≡◌, ◌-◌, ◌+◌, ◌++◌, length, take, drop, ap, ◌∙◌, arith, append_assoc}
use Rattle.std.proofs.lemmas.List.{drop_at, length-take-le}
use Rattle.uq_page.specs.declared.layout.TheConstants.{PAGE_SIZE, VALUE_AT, VALUE_ROOM}
use Rattle.uq_facts.specs.Written.{written}
use Rattle.uq_page.specs.Page.{zeros}
use Rattle.uq_page.specs.PageLaws.{length-zeros, drop-zeros}
use Rattle.uq_page.specs.ValuePage.{value_page, value_fields}
use Rattle.uq_chain.proofs.writing.page_of.Goals as goal

pub returns : goal.returns
unfolding value_page
returns c =
    let bytes = c.args.bytes.now in
    let front : length (take VALUE_AT (zeros PAGE_SIZE)) ≡ VALUE_AT = length-take-le VALUE_AT (zeros PAGE_SIZE) (let n = length-zeros PAGE_SIZE in omega arith) in
    let rest : drop VALUE_AT (written VALUE_AT bytes (zeros PAGE_SIZE)) ≡ bytes ++ zeros (VALUE_ROOM - length bytes) =
    ap (drop VALUE_AT) (append_assoc (take VALUE_AT (zeros PAGE_SIZE)) bytes (drop (VALUE_AT + length bytes) (zeros PAGE_SIZE))) ∙ drop_at (take VALUE_AT (zeros PAGE_SIZE)) (bytes ++ drop (VALUE_AT + length bytes) (zeros PAGE_SIZE)) VALUE_AT front
    ∙ ap (λ ys. bytes ++ ys) (drop-zeros (VALUE_AT + length bytes) PAGE_SIZE) ∙ ap (λ n. bytes ++ zeros n) (omega arith) in
    c.write_value_page.ensures.bytes ∙ ap (λ ys. value_fields (record { held = length bytes; next = c.args.next }) ++ drop VALUE_AT ys) (c.put.ensures.bytes ∙ ap (written VALUE_AT bytes) c.zero-page.ensures) ∙ ap (λ ys. value_fields (record { held = length bytes; next = c.args.next }) ++ ys) rest
