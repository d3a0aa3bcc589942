-- What is kept beside the parts of a list or object.
use Rattle.std.specs.Prelude.{◌≡◌, ◌<◌, ◌+◌, ℕ, List, length, slice_index_or, slice_set}
use Rattle.std.specs.Option.{IfSome}
use Rattle.uq_value.specs.Data.{Bytes}
use Rattle.uq_value.specs.Places.{place_of}
use Rattle.uq_value.specs.Internal.Tally.{IsTally, deepest_of}
use Rattle.uq_value.specs.Internal.Index.{IsIndexOf, Lacks}
use Rattle.uq_value.specs.declared.names.Spot.{Spot}
use Rattle.uq_value.specs.declared.kept.Numbers.{Numbers}
use Rattle.uq_value.specs.declared.kept.More.{More}
use Rattle.uq_value.specs.declared.kept.Kept.{Kept}

abbrev pub numbers_of : Kept → Numbers
numbers_of (Kept.Alone numbers) = numbers
numbers_of (Kept.With more) = more.value.numbers

abbrev pub size_of : Kept → ℕ
size_of k = (numbers_of k).size

abbrev pub depth_of : Kept → ℕ
depth_of k = (numbers_of k).depth

-- where parts are counted by their depths, these are the depths
abbrev pub Counts : More → List ℕ → Type 0
Counts m ds = IfSome m.counts (λ c. IsTally c.value.counts ds)

abbrev pub CountsAre : Kept → List ℕ → Type 0
CountsAre (Kept.Alone numbers) ds = Unit {0}
CountsAre (Kept.With more) ds = Counts more.value ds

-- and so is the depth of the whole
abbrev pub DepthIs : Kept → List ℕ → Type 0
DepthIs k ds = depth_of k ≡ 1 + deepest_of ds

abbrev pub Tells : Kept → List ℕ → Type 0
Tells k ds = DepthIs k ds × CountsAre k ds

-- where there is an index of names, these are the names
abbrev pub NamesAre : Kept → List Bytes → Type 0
NamesAre (Kept.Alone numbers) ns = Unit {0}
NamesAre (Kept.With more) ns = IsIndexOf ns more.value.names

-- what is right stays right
abbrev pub KeepsCounts : Kept → Kept → Type 0
KeepsCounts old new = (ds : List ℕ) → CountsAre old ds → CountsAre new ds

abbrev pub KeepsNames : Kept → Kept → Type 0
KeepsNames old new = (ns : List Bytes) → NamesAre old ns → NamesAre new ns

-- the place of a name that is not among these belongs there
abbrev pub SpotLacks : Kept → List Bytes → Bytes → Spot → Type 0
SpotLacks (Kept.Alone numbers) ns name spot = Unit {0}
SpotLacks (Kept.With more) ns name spot = Lacks ns name more.value.names spot

-- a name is not among these, and its place belongs there
abbrev pub LacksAt : Kept → List Bytes → Bytes → Spot → Type 0
LacksAt k ns name spot = (place_of name ns ≡ length ns) × SpotLacks k ns name spot

-- a part went from one depth to another, and these are all depths now: the depth of the whole and the counts are right
abbrev pub Mends : Kept → Kept → ℕ → ℕ → List ℕ → Type 0
Mends old new before after now =
    (ds : List ℕ) (at : ℕ) → at < length ds → slice_index_or ds at 0 ≡ before → slice_set ds at after ≡ now
    → Tells old ds → Tells new now
