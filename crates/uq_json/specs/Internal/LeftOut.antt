-- The members of an object of a text, of which a value that is too large is left out.
use Rattle.std.specs.Prelude.{◌≡◌, ◌<◌, ℕ, zero, suc, Bool, true, false, List, [], ◌∷◌}
use Rattle.uq_value.specs.Data.{Data, Pairs}
use Rattle.uq_value.specs.Size.{data_size, most_size}
use Rattle.uq_value.specs.Depth.{data_depth, most_depth}
use Rattle.uq_json.specs.declared.members.Members.{Members}

-- what is left out is too large to be a value, and not too deep to stand in an object
abbrev pub KeptAs : Bool → Data → Data → Type 0
KeptAs false kept d = kept ≡ d
KeptAs true kept d = (most_size < data_size d) × (data_depth d < most_depth)

-- the members that are kept stand for these, one for one; a mark tells which is left out, and none is missing
abbrev pub StandFor : Pairs → List Bool → Pairs → Type 0
StandFor [] [] [] = Unit {0}
StandFor [] [] (m ∷ ms) = ⊥
StandFor [] (b ∷ bs) ms = ⊥
StandFor (k ∷ ks) bs [] = ⊥
StandFor (k ∷ ks) [] (m ∷ ms) = (k.0 ≡ m.0) × (k.1 ≡ m.1) × StandFor ks [] ms
StandFor (k ∷ ks) (b ∷ bs) (m ∷ ms) = (k.0 ≡ m.0) × KeptAs b k.1 m.1 × StandFor ks bs ms

abbrev pub Stands : Members → Pairs → Type 0
Stands members ms = StandFor members.kept members.left_out.items ms

-- the marks with one at a place
abbrev pub marked : ℕ → Bool → List Bool → List Bool
marked zero mark [] = mark ∷ []
marked (suc n) mark [] = false ∷ marked n mark []
marked zero mark (b ∷ bs) = mark ∷ bs
marked (suc n) mark (b ∷ bs) = b ∷ marked n mark bs
