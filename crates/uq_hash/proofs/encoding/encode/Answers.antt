use Rattle.std.proofs.Common.{◌≡◌, ◌++◌, length, sym, ap, ◌∙◌}
use Rattle.std.specs.Int.{w16, w32, to_be_bytes}
use Rattle.uq_hash.specs.Map.{Stored, first_of}
use Rattle.uq_hash.proofs.ValueLemmas.{cell_of, kept_long, kept_short}
use Rattle.uq_hash.proofs.encoding.encode.Goals.{then-value-le-MOST_INLINE+in_ok-append-4, else-value-le-MOST_INLINE+in_ok-append-5}
use Rattle.uq_hash.proofs.encoding.encode.Goals as goal

pub returns-clause-cell : goal.returns-clause-cell
returns-clause-cell c row first =
    let it : Stored = record { key = c.args.key.now; value = c.args.value.now; row = row } in
    let front : c.append-3.new.cell.items ≡ (to_be_bytes w16 (length c.args.key.now) ++ to_be_bytes w32 (length c.args.value.now)) ++ c.args.key.now =
    c.in_ok-append-3.ensures.bytes ∙ ap (λ xs. xs ++ c.args.key.now) (c.in_ok-append-2.ensures.bytes ∙ ap (λ xs. xs ++ c.to_be_bytes-2.result) (c.in_ok-append.ensures.bytes ∙ ap (λ xs. xs ++ c.to_be_bytes.result) c.new-cell.ensures.items ∙ c.to_be_bytes.ensures)
    ∙ ap (λ xs. to_be_bytes w16 (length c.args.key.now) ++ xs) c.to_be_bytes-2.ensures) in
    elim c.if-value-le-MOST_INLINE.branch [
      | then-value-le-MOST_INLINE+in_ok-append-4 w ↦
          ap (λ v. v.items) w.cell-is ∙ w.in_ok-append-4.ensures.bytes ∙ ap (λ xs. xs ++ c.args.value.now) front ∙ sym (cell_of it c.args.value.now (kept_short it w.if-value-le-MOST_INLINE.true))
      | else-value-le-MOST_INLINE+in_ok-append-5 w ↦
          ap (λ v. v.items) w.cell-is ∙ w.in_ok-append-5.ensures.bytes ∙ ap (λ xs. xs ++ w.to_be_bytes-else-value-le-MOST_INLINE.result) front
          ∙ ap (λ xs. ((to_be_bytes w16 (length it.key) ++ to_be_bytes w32 (length it.value)) ++ it.key) ++ xs) (w.to_be_bytes-else-value-le-MOST_INLINE.ensures ∙ ap (to_be_bytes w32) first)
          ∙ sym (cell_of it (to_be_bytes w32 (first_of row)) (kept_long it w.if-value-le-MOST_INLINE.false))
    ]
