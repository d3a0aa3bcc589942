-- A page that begins as a bucket page has one head.
use Rattle.std.proofs.Common.{◌≡◌, ℕ, List, lit≤, refl, sym, ◌∙◌, arith}
use Rattle.uq_page.specs.declared.bucket.BucketHead.{BucketHead}
use Rattle.uq_page.specs.declared.layout.TheConstants.{CELLS_AT}
use Rattle.uq_page.specs.Bucket.{bucket_fields, IsBucketHead}
use Rattle.uq_page.proofs.FieldLemmas.{read_field}

pub one_bucket_head : (page : List ℕ) (a b : BucketHead) → IsBucketHead page a → IsBucketHead page b → a ≡ b
one_bucket_head page a b first second =
    let a_high = first.high in
    let b_high = second.high in
    let cells : a.cells ≡ b.cells =
    sym (read_field page (bucket_fields a) CELLS_AT 2 2 a.cells first.bytes (lit≤ tt) first.fits.cells refl) ∙ read_field page (bucket_fields b) CELLS_AT 2 2 b.cells second.bytes (lit≤ tt) second.fits.cells refl in
    let next : a.next ≡ b.next =
    sym (read_field page (bucket_fields a) CELLS_AT 4 4 a.next first.bytes (lit≤ tt) first.fits.next refl) ∙ read_field page (bucket_fields b) CELLS_AT 4 4 b.next second.bytes (lit≤ tt) second.fits.next refl in
    let end : a.end ≡ b.end =
    sym (read_field page (bucket_fields a) CELLS_AT 8 2 a.end first.bytes (lit≤ tt) (omega arith) refl) ∙ read_field page (bucket_fields b) CELLS_AT 8 2 b.end second.bytes (lit≤ tt) (omega arith) refl in
    λ i. record { cells = cells i; next = next i; end = end i }
