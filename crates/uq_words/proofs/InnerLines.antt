-- Lines of a block at the front of an input, and how it ends behind them.
use Rattle.std.proofs.Common.{◌≡◌, ℕ, ◌+◌, ◌<◌, Bool, true, false, eqb, ltb, cond, bytes_eq, codes, List, [], ◌∷◌, ◌++◌, length, Option, Some, None, refl, sym, ap, ◌∙◌, append_assoc, append-nil, length-append, arith}
use Rattle.std.proofs.Math.Bool.{and-false}
use Rattle.std.proofs.lemmas.List.Elements.{All-append, All-cons}
use Rattle.std.specs.List.{All}
use Rattle.uq_value.specs.Data.{Bytes}
use Rattle.uq_words.specs.Blocks.{IsBlockBy, IsBlockPart, IsBlockTooMuch, IsInner, IsLastBlockBy, IsUnfinished, closes, no_text, text_of_lines, with_feed}
use Rattle.uq_words.specs.Lines.{IsLastWithin, IsLineWithin, IsPart, IsTooMuch, kept_within, without_return}
use Rattle.uq_words.specs.TakingBlocks.{ArePassed, is_dot}

-- ---- lists of lines

pub none_inner : All IsInner []
none_inner = λ k d less. absurd (omega (arith, less))

pub one_inner : (raw : Bytes) → IsInner raw → All IsInner (raw ∷ [])
one_inner raw is = All-cons IsInner raw [] is none_inner

-- the text of two lists of lines
pub text_both : (first second : List Bytes) → text_of_lines (first ++ second) ≡ text_of_lines first ++ text_of_lines second
text_both [] second = refl
text_both (raw ∷ first) second = ap (λ (w : Bytes). with_feed raw ++ w) (text_both first second) ∙ sym (append_assoc (with_feed raw) (text_of_lines first) (text_of_lines second))

pub text_one : (raw : Bytes) → text_of_lines (raw ∷ []) ≡ raw ++ 0x0a ∷ []
text_one raw = append-nil (raw ++ 0x0a ∷ [])

pub length_both : (first second : List Bytes) → length (text_of_lines (first ++ second)) ≡ length (text_of_lines first) + length (text_of_lines second)
length_both first second = ap length (text_both first second) ∙ length-append (text_of_lines first) (text_of_lines second)

pub length_one : (raw : Bytes) → length (text_of_lines (raw ∷ [])) ≡ length raw + 1
length_one raw = ap length (text_one raw) ∙ length-append raw (0x0a ∷ [])

-- ---- lines that were passed

pub passed_none : (most : ℕ) (input : Bytes) → ArePassed most input most input
passed_none most input = record { inner = []; all_inner = none_inner; split = refl; count = omega arith }

-- more text behind what was split
pub behind_both : (first second : List Bytes) (input mid behind : Bytes) → input ≡ text_of_lines first ++ mid → mid ≡ text_of_lines second ++ behind → input ≡ text_of_lines (first ++ second) ++ behind
behind_both first second input mid behind is next =
    is ∙ ap (λ (w : Bytes). text_of_lines first ++ w) next
    ∙ sym (append_assoc (text_of_lines first) (text_of_lines second) behind)
    ∙ ap (λ (w : Bytes). w ++ behind) (sym (text_both first second))

pub passed_both : (most : ℕ) (input : Bytes) (most_mid : ℕ) (mid : Bytes) (most_behind : ℕ) (behind : Bytes)
    → ArePassed most input most_mid mid → ArePassed most_mid mid most_behind behind → ArePassed most input most_behind behind
passed_both most input most_mid mid most_behind behind first second =
    let long = length_both first.inner second.inner in
    let count = first.count in
    let count' = second.count in
    record {
      inner = first.inner ++ second.inner;
      all_inner = All-append IsInner first.inner second.inner first.all_inner second.all_inner;
      split = behind_both first.inner second.inner input mid behind first.split second.split;
      count = omega arith;
    }

-- what is behind lines that were passed is behind all of them
module _ (most : ℕ) (input : Bytes) (most_mid : ℕ) (mid : Bytes) (passed : ArePassed most input most_mid mid) where
  -- fewer bytes are behind than before, and as many count
  few_behind : length mid < most_mid → length input < most
  few_behind few =
      let whole : length input ≡ length (text_of_lines passed.inner ++ mid) = ap length passed.split in
      let both : length (text_of_lines passed.inner ++ mid) ≡ length (text_of_lines passed.inner) + length mid = length-append (text_of_lines passed.inner) mid in
      let count = passed.count in
      omega arith

  pub block_behind : (keep : Bytes → Option Bytes) (text text_mid : Option Bytes) (most_behind : ℕ) (behind : Bytes) (is : IsBlockBy no_text most_mid mid text_mid most_behind behind)
      → text ≡ keep (text_of_lines (passed.inner ++ is.inner)) → IsBlockBy keep most input text most_behind behind
  block_behind keep text text_mid most_behind behind is kept =
      let long = length_both passed.inner is.inner in
      let count = passed.count in
      let count' = is.count in
      record {
        inner = passed.inner ++ is.inner;
        closing = is.closing;
        all_inner = All-append IsInner passed.inner is.inner passed.all_inner is.all_inner;
        no_feed = is.no_feed;
        closes_it = is.closes_it;
        split = behind_both passed.inner is.inner input mid (is.closing ++ 0x0a ∷ behind) passed.split is.split;
        count = omega arith;
        kept_text = kept;
      }

  pub last_behind : (keep : Bytes → Option Bytes) (text text_mid : Option Bytes) (is : IsLastBlockBy no_text most_mid mid text_mid)
      → text ≡ keep (text_of_lines (passed.inner ++ is.inner)) → IsLastBlockBy keep most input text
  last_behind keep text text_mid is kept = record {
    inner = passed.inner ++ is.inner;
    closing = is.closing;
    all_inner = All-append IsInner passed.inner is.inner passed.all_inner is.all_inner;
    no_feed = is.no_feed;
    closes_it = is.closes_it;
    split = behind_both passed.inner is.inner input mid is.closing passed.split is.split;
    few = few_behind is.few;
    kept_text = kept;
  }

  pub unfinished_behind : IsUnfinished most_mid mid → IsUnfinished most input
  unfinished_behind is = record {
    inner = passed.inner ++ is.inner;
    last = is.last;
    all_inner = All-append IsInner passed.inner is.inner passed.all_inner is.all_inner;
    last_inner = is.last_inner;
    split = behind_both passed.inner is.inner input mid is.last passed.split is.split;
    few = few_behind is.few;
  }

  pub too_much_behind : IsBlockTooMuch most_mid mid → IsBlockTooMuch most input
  too_much_behind is =
      let long = length_both passed.inner is.inner in
      let count = passed.count in
      let count' = is.count in
      record {
        inner = passed.inner ++ is.inner;
        part = is.part;
        rest = is.rest;
        all_inner = All-append IsInner passed.inner is.inner passed.all_inner is.all_inner;
        no_feed = is.no_feed;
        split = behind_both passed.inner is.inner input mid (is.part ++ is.rest) passed.split is.split;
        count = omega arith;
      }

  pub part_behind : (behind : Bytes) → IsBlockPart mid behind → IsBlockPart input behind
  part_behind behind is = record {
    inner = passed.inner ++ is.inner;
    part = is.part;
    all_inner = All-append IsInner passed.inner is.inner passed.all_inner is.all_inner;
    no_feed = is.no_feed;
    split = behind_both passed.inner is.inner input mid (is.part ++ behind) passed.split is.split;
  }

-- ---- one line

module _ (limit most : ℕ) (input : Bytes) (text : Option Bytes) (most_behind : ℕ) (behind : Bytes) (is : IsLineWithin limit most input text most_behind behind) where
  pub line_closes : closes is.raw ≡ true → IsBlockBy no_text most input None most_behind behind
  line_closes closed = record {
    inner = [];
    closing = is.raw;
    all_inner = none_inner;
    no_feed = is.no_feed;
    closes_it = closed;
    split = is.split;
    count = let count = is.count in omega arith;
    kept_text = refl;
  }

  pub line_passes : closes is.raw ≡ false → ArePassed most input most_behind behind
  line_passes open' =
      let long = length_one is.raw in
      let count = is.count in
      record {
        inner = is.raw ∷ [];
        all_inner = one_inner is.raw (is.no_feed, open');
        split = is.split ∙ sym (append_assoc is.raw (0x0a ∷ []) behind) ∙ ap (λ (w : Bytes). w ++ behind) (sym (text_one is.raw));
        count = omega arith;
      }

module _ (limit most : ℕ) (input : Bytes) (text : Option Bytes) (is : IsLastWithin limit most input text) where
  pub last_closes : closes input ≡ true → IsLastBlockBy no_text most input None
  last_closes closed = record {
    inner = [];
    closing = input;
    all_inner = none_inner;
    no_feed = is.no_feed;
    closes_it = closed;
    split = refl;
    few = is.few;
    kept_text = refl;
  }

  pub last_passes : closes input ≡ false → IsUnfinished most input
  last_passes open' = record {
    inner = [];
    last = input;
    all_inner = none_inner;
    last_inner = (is.no_feed, open');
    split = refl;
    few = is.few;
  }

pub too_much_line : (most : ℕ) (input : Bytes) → IsTooMuch most input → IsBlockTooMuch most input
too_much_line most input is = record {
  inner = [];
  part = is.part;
  rest = is.rest;
  all_inner = none_inner;
  no_feed = is.no_feed;
  split = is.split;
  count = let count = is.count in omega arith;
}

pub part_line : (input behind : Bytes) → IsPart input behind → IsBlockPart input behind
part_line input behind is = record { inner = []; part = is.part; all_inner = none_inner; no_feed = is.no_feed; split = is.split }

-- ---- a line that is a dot

-- more than one byte is no dot
pub long_open : (text : Bytes) → 1 < length text → bytes_eq text (codes ".") ≡ false
long_open [] long = absurd (omega (arith, long))
long_open (a ∷ []) long = absurd (omega (arith, long))
long_open (a ∷ b ∷ cs) long = and-false (eqb a 0x2e)

pub dot_closes : (raw : Bytes) (text : Option Bytes) → text ≡ kept_within 1 raw → is_dot text ≡ closes raw
dot_closes raw text is = ap is_dot is ∙ by (ltb 1 (length (without_return raw))) refl
  where
    by : (long : Bool) → ltb 1 (length (without_return raw)) ≡ long → is_dot (cond long None (Some (without_return raw))) ≡ closes raw
    by true long = sym (long_open (without_return raw) (grind arith))
    by false long = refl
