-- What holds of values and their plain data, for the proofs of crates above.
pub mod Levels
pub mod Growth
pub mod Limits
pub mod Parts
pub mod Named
use Rattle.std.specs.Prelude.{◌≡◌, ◌<◌, ℕ, [], length, slice_index_or}
use Rattle.uq_value.specs.Data.{Data, Datas, Pairs, null, text, list, object}
use Rattle.uq_value.specs.IsValue.{IsValue}
use Rattle.uq_value.specs.Plain.{plain, value_of}
use Rattle.uq_value.specs.declared.value.Value.{Value}

-- a value is that of its data, and each data that of one level
abbrev pub DataAndBack : Type 0
DataAndBack = (v : Value) → value_of (plain v) ≡ v

abbrev pub LevelAndBack : Type 0
LevelAndBack = (d : Data) → plain (value_of d) ≡ d

-- the parts of a value are values, and its names are texts
abbrev pub ItemsAreValues : Type 0
ItemsAreValues = (ds : Datas) (at : ℕ) → at < length ds → IsValue (list ds) → IsValue (slice_index_or ds at null)

abbrev pub MembersAreValues : Type 0
MembersAreValues = (ms : Pairs) (at : ℕ) → at < length ms → IsValue (object ms) → IsValue (slice_index_or ms at ([], null)).1

abbrev pub NamesAreTexts : Type 0
NamesAreTexts = (ms : Pairs) (at : ℕ) → at < length ms → IsValue (object ms) → IsValue (text (slice_index_or ms at ([], null)).0)
