use Rattle.std.proofs.Common.{◌≡◌, ◌-◌, ◌+◌, ◌++◌, ℕ, List, length, take, drop, sym, ap, ◌∙◌, arith, append_assoc, length-append}
use Rattle.std.proofs.lemmas.List.{drop_at, length-take-le, length-drop}
use Rattle.uq_page.specs.declared.layout.TheConstants.{PAGE_SIZE, VALUE_AT, VALUE_ROOM}
use Rattle.uq_facts.specs.Written.{written}
use Rattle.uq_facts.specs.WrittenLaws.{written-written}
use Rattle.uq_page.specs.Page.{zeros, bytes_of}
use Rattle.uq_page.specs.PageLaws.{length-zeros, drop-zeros}
use Rattle.uq_page.specs.ValuePage.{value_page, value_fields}
use Rattle.uq_chain.proofs.appending.longer.Goals as goal

pub returns : goal.returns
unfolding value_page
returns c =
    let held = c.args.held in
    let old = bytes_of c.args.page.now in
    let kept : List ℕ = take held (drop VALUE_AT old) in
    let more = c.args.more.now in
    let bytes : List ℕ = kept ++ more in
    let zero_len = length-zeros PAGE_SIZE in
    let fits = c.requires.fits in
    let dropped = length-drop VALUE_AT old in
    let page_len = c.bytes.ensures.length in
    let kept_len : length kept ≡ held = length-take-le held (drop VALUE_AT old) (omega arith) in
    let long : length bytes ≡ held + length more = length-append kept more ∙ ap (λ n. n + length more) kept_len in
    let first : bytes_of c.put.new.self ≡ written VALUE_AT kept (zeros PAGE_SIZE) =
    c.put.ensures.bytes ∙ ap (λ xs. written VALUE_AT (take (VALUE_AT + held - VALUE_AT) (drop VALUE_AT xs)) (bytes_of c.zero-new.result)) c.bytes.ensures.bytes
    ∙ ap (λ n. written VALUE_AT (take n (drop VALUE_AT old)) (bytes_of c.zero-new.result)) (omega arith) ∙ ap (written VALUE_AT kept) c.zero-new.ensures in
    let both : bytes_of c.put-2.new.self ≡ written VALUE_AT bytes (zeros PAGE_SIZE) =
    c.put-2.ensures.bytes ∙ ap (written (VALUE_AT + held) more) first ∙ written-written VALUE_AT (VALUE_AT + held) kept more (zeros PAGE_SIZE) (omega arith) (omega arith) in
    let front : length (take VALUE_AT (zeros PAGE_SIZE)) ≡ VALUE_AT = length-take-le VALUE_AT (zeros PAGE_SIZE) (omega arith) in
    let rest : drop VALUE_AT (written VALUE_AT bytes (zeros PAGE_SIZE)) ≡ bytes ++ zeros (VALUE_ROOM - length bytes) =
    ap (drop VALUE_AT) (append_assoc (take VALUE_AT (zeros PAGE_SIZE)) bytes (drop (VALUE_AT + length bytes) (zeros PAGE_SIZE))) ∙ drop_at (take VALUE_AT (zeros PAGE_SIZE)) (bytes ++ drop (VALUE_AT + length bytes) (zeros PAGE_SIZE)) VALUE_AT front
    ∙ ap (λ ys. bytes ++ ys) (drop-zeros (VALUE_AT + length bytes) PAGE_SIZE) ∙ ap (λ n. bytes ++ zeros n) (omega arith) in
    c.write_value_page.ensures.bytes ∙ ap (λ ys. value_fields (record { held = held + length more; next = c.args.next }) ++ drop VALUE_AT ys) both ∙ ap (λ ys. value_fields (record { held = held + length more; next = c.args.next }) ++ ys) rest
    ∙ ap (λ n. value_fields (record { held = n; next = c.args.next }) ++ (bytes ++ zeros (VALUE_ROOM - length bytes))) (sym long)
