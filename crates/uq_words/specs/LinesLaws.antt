-- Laws of the lines at the front of an input of which the first `most` bytes count.
use Rattle.std.proofs.Common.{◌≡◌, ℕ, suc, ◌+◌, true, false, ltb, [], ◌∷◌, ◌++◌, length, take, refl, ap, ◌∙◌, length-append, arith}
use Rattle.std.proofs.lemmas.List.{take_all, take_at}
use Rattle.std.proofs.lemmas.List.Splits.{slice_split_at, slice_split_none}
use Rattle.std.proofs.Math.Seq.{take-append-add}
use Rattle.uq_value.specs.Data.{Bytes}
use Rattle.uq_words.specs.Lines.{IsLast, IsLine, IsTooMuch, is_feed, lines}

-- ---- a line and its line feed

module _ (most : ℕ) (input : Bytes) (text : _) (most_behind : ℕ) (behind : Bytes) (is : IsLine most input text most_behind behind) where
  taken : take most input ≡ is.raw ++ 0x0a ∷ take most_behind behind
  taken =
      let more : most ≡ length is.raw + suc most_behind = let count = is.count in omega arith in
      ap (λ (w : Bytes). take most w) is.split
      ∙ ap (λ (n : ℕ). take n (is.raw ++ 0x0a ∷ behind)) more
      ∙ take-append-add is.raw (0x0a ∷ behind) (suc most_behind)

  -- it is the first of the lines, and the others are those of what is behind it
  pub line_first : lines (take most input) ≡ is.raw ∷ lines (take most_behind behind)
  line_first = ap lines taken ∙ slice_split_at is_feed is.raw 0x0a (take most_behind behind) is.no_feed refl

  -- the input ends within the bytes that count, or not, as what is behind the line does
  pub line_ends : ltb (length input) most ≡ ltb (length behind) most_behind
  line_ends =
      let whole : length input ≡ length (is.raw ++ 0x0a ∷ behind) = ap length is.split in
      let both : length (is.raw ++ 0x0a ∷ behind) ≡ length is.raw + length (0x0a ∷ behind) = length-append is.raw (0x0a ∷ behind) in
      let count = is.count in
      grind arith

-- ---- the last line

module _ (most : ℕ) (input : Bytes) (text : _) (is : IsLast most input text) where
  pub last_alone : lines (take most input) ≡ input ∷ []
  last_alone =
      let few = is.few in
      let all : take most input ≡ input = take_all most input (omega arith) in
      ap lines all ∙ slice_split_none is_feed input is.no_feed

  pub last_ends : ltb (length input) most ≡ true
  last_ends = let few = is.few in grind arith

-- ---- a line that is not at its end

module _ (most : ℕ) (input : Bytes) (is : IsTooMuch most input) where
  pub part_alone : lines (take most input) ≡ is.part ∷ []
  part_alone =
      ap (λ (w : Bytes). lines (take most w)) is.split
      ∙ ap lines (take_at is.part is.rest most is.count)
      ∙ slice_split_none is_feed is.part is.no_feed

  pub part_goes_on : ltb (length input) most ≡ false
  part_goes_on =
      let whole : length input ≡ length (is.part ++ is.rest) = ap length is.split in
      let both : length (is.part ++ is.rest) ≡ length is.part + length is.rest = length-append is.part is.rest in
      let count = is.count in
      grind arith
