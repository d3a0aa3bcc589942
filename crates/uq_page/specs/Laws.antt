-- What follows from the layouts alone: the bytes tell the fields.
use Rattle.std.specs.Prelude.{◌≡◌, ℕ, List}
use Rattle.uq_page.specs.declared.bucket.BucketHead.{BucketHead}
use Rattle.uq_page.specs.declared.header.Header.{Header}
use Rattle.uq_page.specs.Bucket.{IsBucketHead}
use Rattle.uq_page.specs.Cell.{IsCellAt}
use Rattle.uq_page.specs.Header.{IsHeader}

-- a page is that of one header at most
abbrev pub OneHeader : Type 0
OneHeader = (page : List ℕ) (a b : Header) → IsHeader page a → IsHeader page b → a ≡ b

-- a page begins with one head of a bucket page at most
abbrev pub OneBucketHead : Type 0
OneBucketHead = (page : List ℕ) (a b : BucketHead) → IsBucketHead page a → IsBucketHead page b → a ≡ b

-- from each place of a page on lies one cell at most
abbrev pub OneCell : Type 0
OneCell =
    (page : List ℕ) (at : ℕ) (key : List ℕ) (len : ℕ) (kept key' : List ℕ) (len' : ℕ) (kept' : List ℕ)
    → IsCellAt page at key len kept → IsCellAt page at key' len' kept' → (key ≡ key') × (len ≡ len') × (kept ≡ kept')
