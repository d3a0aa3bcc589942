use Rattle.std.proofs.Common.{lit≤, ◌≡◌, refl, sym, ap, ◌∙◌, arith, take}
use Rattle.std.proofs.lemmas.Bool.{false≢true}
use Rattle.std.proofs.lemmas.Slice.Eq.{bytes_eq-Decides}
use Rattle.uq_page.specs.ValuePage.{value_fields}
use Rattle.uq_page.proofs.FieldLemmas.{read_field}
use Rattle.uq_page.proofs.value_page.read_value_page.Goals as goal
use Rattle.uq_page.proofs.value_page.read_value_page.Goals.{else-held-ge1-via-then-held-ge1+then-held-le-VALUE_ROOM+else-eq, else-held-ge1-via-then-held-ge1+else-held-le-VALUE_ROOM, else-held-ge1-via-else-held-ge1}

pub returns-else-held-ge1-clause-exact : goal.returns-else-held-ge1-clause-exact
returns-else-held-ge1-clause-exact c head is =
    let bytes = c.bytes-bytes.result.now in
    let front : take 16 bytes ≡ value_fields head = ap (take 16) c.bytes-bytes.ensures.bytes ∙ is.bytes in
    let next_fits = is.next in
    let high = is.high in
    let low = is.low in
    let held_is : c.read_u16.result ≡ head.held = c.read_u16.ensures ∙ read_field bytes (value_fields head) 16 2 2 head.held front (lit≤ tt) (omega arith) refl in
    let next_is : c.read_u32.result ≡ head.next = c.read_u32.ensures ∙ read_field bytes (value_fields head) 16 4 4 head.next front (lit≤ tt) next_fits refl in
    let same : c.head_bytes-fields.result ≡ value_fields head =
    c.head_bytes-fields.ensures.bytes
    ∙ ap (λ n. value_fields (record { held = n; next = c.read_u32.result })) held_is
    ∙ ap (λ n. value_fields (record { held = head.held; next = n })) next_is in
    elim c.else-held-ge1.branch [
      | else-held-ge1-via-then-held-ge1+then-held-le-VALUE_ROOM+else-eq w ↦ absurd (false≢true (w.if-eq.ensures ∙ (bytes_eq-Decides (take 16 bytes) c.head_bytes-fields.result).1 (front ∙ sym same)))
      | else-held-ge1-via-then-held-ge1+else-held-le-VALUE_ROOM w ↦ absurd (omega arith)
      | else-held-ge1-via-else-held-ge1 w ↦ absurd (omega arith)
    ]
