-- Laws of the blocks at the front of an input of which the first `most` bytes count.
use Rattle.std.proofs.Common.{◌≡◌, ℕ, suc, ◌+◌, true, false, ltb, List, [], ◌∷◌, ◌++◌, length, take, refl, sym, ap, ◌∙◌, append_assoc, length-append, arith}
use Rattle.std.proofs.lemmas.List.{take_all, take_at}
use Rattle.std.proofs.lemmas.List.Elements.{All-drop}
use Rattle.std.proofs.lemmas.List.Splits.{slice_split_at, slice_split_none}
use Rattle.std.proofs.Math.Seq.{take-append-add}
use Rattle.std.specs.List.{All}
use Rattle.uq_value.specs.Data.{Bytes}
use Rattle.uq_words.specs.Blocks.{IsBlock, IsBlockTooMuch, IsInner, IsLastBlock, IsUnfinished, text_of_lines, with_feed}
use Rattle.uq_words.specs.Lines.{HasNoFeed, is_feed, lines}

-- ---- lines that are not the last

pub one_before : (raw others rest : Bytes) → (with_feed raw ++ others) ++ rest ≡ raw ++ 0x0a ∷ (others ++ rest)
one_before raw others rest = append_assoc (with_feed raw) others rest ∙ append_assoc raw (0x0a ∷ []) (others ++ rest)

-- they are the first of the lines, and the others are those of what is behind them
pub lines_before : (inner : List Bytes) (rest : Bytes) → All IsInner inner → lines (text_of_lines inner ++ rest) ≡ inner ++ lines rest
lines_before [] rest all = refl
lines_before (raw ∷ inner) rest all =
    let first = all 0 raw (omega arith) in
    ap lines (one_before raw (text_of_lines inner) rest)
    ∙ slice_split_at is_feed raw 0x0a (text_of_lines inner ++ rest) first.0 refl
    ∙ ap (λ (them : List Bytes). raw ∷ them) (lines_before inner rest (All-drop IsInner 1 (raw ∷ inner) all))

lines_and_last : (inner : List Bytes) (last : Bytes) → All IsInner inner → HasNoFeed last → lines (text_of_lines inner ++ last) ≡ inner ++ last ∷ []
lines_and_last inner last all none = lines_before inner last all ∙ ap (λ (them : List Bytes). inner ++ them) (slice_split_none is_feed last none)

-- ---- a block and the line feed of the line that closes it

module _ (most : ℕ) (input : Bytes) (text : _) (most_behind : ℕ) (behind : Bytes) (is : IsBlock most input text most_behind behind) where
  taken : take most input ≡ text_of_lines is.inner ++ (is.closing ++ 0x0a ∷ take most_behind behind)
  taken =
      let more : most ≡ length (text_of_lines is.inner) + (length is.closing + suc most_behind) = let count = is.count in omega arith in
      ap (λ (w : Bytes). take most w) is.split
      ∙ ap (λ (n : ℕ). take n (text_of_lines is.inner ++ (is.closing ++ 0x0a ∷ behind))) more
      ∙ take-append-add (text_of_lines is.inner) (is.closing ++ 0x0a ∷ behind) (length is.closing + suc most_behind)
      ∙ ap (λ (w : Bytes). text_of_lines is.inner ++ w) (take-append-add is.closing (0x0a ∷ behind) (suc most_behind))

  -- its lines are the first, then the one that closes it; the others are those of what is behind it
  pub block_first : lines (take most input) ≡ is.inner ++ is.closing ∷ lines (take most_behind behind)
  block_first =
      ap lines taken
      ∙ lines_before is.inner (is.closing ++ 0x0a ∷ take most_behind behind) is.all_inner
      ∙ ap (λ (them : List Bytes). is.inner ++ them) (slice_split_at is_feed is.closing 0x0a (take most_behind behind) is.no_feed refl)

  -- the input ends within the bytes that count, or not, as what is behind the block does
  pub block_ends : ltb (length input) most ≡ ltb (length behind) most_behind
  block_ends =
      let whole : length input ≡ length (text_of_lines is.inner ++ (is.closing ++ 0x0a ∷ behind)) = ap length is.split in
      let both : length (text_of_lines is.inner ++ (is.closing ++ 0x0a ∷ behind)) ≡ length (text_of_lines is.inner) + length (is.closing ++ 0x0a ∷ behind)
      = length-append (text_of_lines is.inner) (is.closing ++ 0x0a ∷ behind) in
      let last : length (is.closing ++ 0x0a ∷ behind) ≡ length is.closing + length (0x0a ∷ behind) = length-append is.closing (0x0a ∷ behind) in
      let count = is.count in
      grind arith

-- ---- a block that the last line closes

module _ (most : ℕ) (input : Bytes) (text : _) (is : IsLastBlock most input text) where
  pub last_block_alone : lines (take most input) ≡ is.inner ++ is.closing ∷ []
  last_block_alone =
      let few = is.few in
      let all : take most input ≡ input = take_all most input (omega arith) in
      ap lines (all ∙ is.split) ∙ lines_and_last is.inner is.closing is.all_inner is.no_feed

  pub last_block_ends : ltb (length input) most ≡ true
  last_block_ends = let few = is.few in grind arith

-- ---- a block that no line closes

module _ (most : ℕ) (input : Bytes) (is : IsUnfinished most input) where
  pub unfinished_alone : lines (take most input) ≡ is.inner ++ is.last ∷ []
  unfinished_alone =
      let few = is.few in
      let all : take most input ≡ input = take_all most input (omega arith) in
      ap lines (all ∙ is.split) ∙ lines_and_last is.inner is.last is.all_inner is.last_inner.0

  pub unfinished_ends : ltb (length input) most ≡ true
  unfinished_ends = let few = is.few in grind arith

-- ---- a block that is not at its end

module _ (most : ℕ) (input : Bytes) (is : IsBlockTooMuch most input) where
  pub block_part_alone : lines (take most input) ≡ is.inner ++ is.part ∷ []
  block_part_alone =
      let both : length (text_of_lines is.inner ++ is.part) ≡ length (text_of_lines is.inner) + length is.part = length-append (text_of_lines is.inner) is.part in
      ap (λ (w : Bytes). lines (take most w)) (is.split ∙ sym (append_assoc (text_of_lines is.inner) is.part is.rest))
      ∙ ap lines (take_at (text_of_lines is.inner ++ is.part) is.rest most (both ∙ is.count))
      ∙ lines_and_last is.inner is.part is.all_inner is.no_feed

  pub block_part_goes_on : ltb (length input) most ≡ false
  block_part_goes_on =
      let whole : length input ≡ length (text_of_lines is.inner ++ (is.part ++ is.rest)) = ap length is.split in
      let both : length (text_of_lines is.inner ++ (is.part ++ is.rest)) ≡ length (text_of_lines is.inner) + length (is.part ++ is.rest)
      = length-append (text_of_lines is.inner) (is.part ++ is.rest) in
      let last : length (is.part ++ is.rest) ≡ length is.part + length is.rest = length-append is.part is.rest in
      let count = is.count in
      grind arith
