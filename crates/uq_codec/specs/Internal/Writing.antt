-- What the private functions of the writer leave: what stood there, and behind it what they wrote.
use Rattle.std.specs.Prelude.{◌≡◌, ℕ, ◌++◌, [], Result, OnOk, slice_index_or}
use Rattle.uq_value.specs.Data.{Bytes, Data, Datas, Pairs, null}
use Rattle.uq_codec.specs.Stored.{IsMember, Encodes}

-- behind what stood there stands a word, and where all of it was written, the word is whole
pub record Writes {E : Type 0} (Whole : Bytes → Type 0) (old new : Bytes) (result : Result (Unit {0}) E) : Type 0 where
  pub word : Bytes
  pub parts : new ≡ old ++ word
  pub is_whole : OnOk result (Whole word)

-- the item at a place
abbrev pub EncodesItemAt : Datas → ℕ → Bytes → Type 0
EncodesItemAt ds at word = Encodes word (slice_index_or ds at null)

-- a member
abbrev pub EncodesMember : Bytes × Data → Bytes → Type 0
EncodesMember m word = IsMember word m.0 m.1

-- the member at a place
abbrev pub EncodesMemberAt : Pairs → ℕ → Bytes → Type 0
EncodesMemberAt ms at word = EncodesMember (slice_index_or ms at ([], null)) word
