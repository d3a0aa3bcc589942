-- The sums in the header after a change.
use Rattle.std.specs.Prelude.{◌≡◌, ℕ, ◌+◌}
use Rattle.uq_page.specs.declared.header.Header.{Header}
use Rattle.uq_hash.specs.declared.searching.Standing.{Standing}
use Rattle.uq_hash.specs.declared.searching.Standing.TheVariants.{Cell, Nothing}

-- how many keys, and how many bytes, go with what stood there
abbrev pub gone_keys : Standing → ℕ
gone_keys (Cell cell) = 1
gone_keys Nothing = 0

abbrev pub gone_bytes : ℕ → Standing → ℕ
gone_bytes key (Cell cell) = key + cell.len
gone_bytes key Nothing = 0

-- of the header at most the two sums are others
pub record KeepsFields (old new : Header) : Type 0 where
  pub version : new.version ≡ old.version
  pub pages : new.pages ≡ old.pages
  pub buckets : new.buckets ≡ old.buckets
  pub free : new.free ≡ old.free
  pub root : new.root ≡ old.root

-- the header counts a key of this length with a value of that length, in place of what stood there
pub record Recounts (old new : Header) (key value : ℕ) (was : Standing) : Type 0 where
  pub fields : KeepsFields old new
  pub keys : new.entries + gone_keys was ≡ old.entries + 1
  pub bytes : new.bytes + gone_bytes key was ≡ old.bytes + (key + value)

-- the header counts a key of this length with a value of that length no more
pub record Discounts (old new : Header) (key value : ℕ) : Type 0 where
  pub fields : KeepsFields old new
  pub keys : new.entries + 1 ≡ old.entries
  pub bytes : new.bytes + (key + value) ≡ old.bytes
