-- Numbers in groups of seven bits, group by group.
use Rattle.std.proofs.Common.{◌≡◌, ℕ, zero, suc, ◌+◌, ◌-◌, ◌*◌, ◌<◌, ◌≤◌, [], ◌∷◌, ◌++◌, length, length-append, get_or, take, drop, take_all, Option, Some, None, refl, sym, ap, subst, ◌∙◌, append_assoc, arith}
use Rattle.std.specs.Borrow.{Bor}
use Rattle.std.specs.List.{IsSplitAt}
use Rattle.std.specs.Option.{MatchOption}
use Rattle.std.proofs.lemmas.List.{get_or-append-add, take-append-drop}
use Rattle.uq_value.specs.Data.{Bytes}
use Rattle.uq_value.specs.Size.{most_size}
use Rattle.uq_codec.specs.Varint.{IsVarint}
use Rattle.uq_codec.specs.Stored.{IsName}
use Rattle.uq_codec.specs.Internal.Reading.{Front, NoFront, ReadsLength, ReadsName}
use Rattle.uq_codec.proofs.Determined.{varint_same}

-- a group before others
pub group_before : (tail : Bytes) (low high n : ℕ) → low < 128 → 0 < high → n ≡ low + 128 * high → IsVarint tail high → IsVarint ((low + 128) ∷ tail) n
group_before [] low high n small filled number is = absurd is
group_before (next ∷ groups) low high n small filled number is = (low, high, small, refl, filled, number, is)

-- ---- writing

-- groups have been written, and whatever spells what is left completes the number
pub record HasWritten (old out : Bytes) (left n : ℕ) : Type 0 where
  pub word : Bytes
  pub parts : out ≡ old ++ word
  pub completes : (tail : Bytes) → IsVarint tail left → IsVarint (word ++ tail) n

-- ---- reading

-- what is left of a number's spelling, where the groups before count this together and one in the next counts this
pub record Left (rest behind : Bytes) (low weight n : ℕ) : Type 0 where
  pub tail : Bytes
  pub high : ℕ
  pub parts : rest ≡ tail ++ behind
  pub is : IsVarint tail high
  pub number : n ≡ low + weight * high
  pub counts : 1 < weight → 0 < high

-- a front of the bytes has been read
pub record HasRead (bytes rest : Bytes) (low weight : ℕ) : Type 0 where
  pub front : Bytes
  pub parts : bytes ≡ front ++ rest
  pub first : 1 ≤ weight
  pub less : low < weight
  -- what spells a number with the front, and what the spelling of a number has behind it
  pub completes : (tail : Bytes) (high : ℕ) → (1 < weight → 0 < high) → IsVarint tail high → IsVarint (front ++ tail) (low + weight * high)
  pub is_completed : (n : ℕ) (behind : Bytes) → Front (λ word. IsVarint word n) bytes behind → Left rest behind low weight n

pub none_read : (bytes : Bytes) → HasRead bytes bytes 0 1
none_read bytes = record {
  front = [];
  parts = refl;
  first = omega arith;
  less = omega arith;
  completes = λ tail high counts is. let same : high ≡ 0 + 1 * high = omega arith in subst (λ (n : ℕ). IsVarint tail n) same is;
  is_completed = λ n behind f. record { tail = f.word; high = n; parts = f.parts; is = f.is_word; number = omega arith; counts = λ h. absurd (omega (arith, h)) };
}

-- what a group and those above it count
weighed : (low weight bits above : ℕ) → low + weight * (bits + 128 * above) ≡ (low + bits * weight) + weight * 128 * above
weighed low weight bits above = grind arith

weighed_less : (low weight bits : ℕ) → low < weight → bits < 128 → low + bits * weight < weight * 128
weighed_less low weight bits less small = grind arith

-- a group that is not the last
more_left : (group : ℕ) (rest behind : Bytes) (low weight n : ℕ) → 128 ≤ group → Left (group ∷ rest) behind low weight n → Left rest behind (low + (group - 128) * weight) (weight * 128) n
more_left group rest behind low weight n more left = by left.tail left.high left.parts left.is left.number
  where
    by : (tail : Bytes) (high : ℕ) → group ∷ rest ≡ tail ++ behind → IsVarint tail high → n ≡ low + weight * high → Left rest behind (low + (group - 128) * weight) (weight * 128) n
    by [] high parts is number = absurd is
    by (g ∷ []) high parts is number = let same : group ≡ g = cc in absurd (omega (arith, same, is.0, more))
    by (g ∷ next ∷ groups) high parts (bits, above, small, group_is, filled, high_is, others) number =
        let same : group ≡ g = cc in
        let high_now : high ≡ (group - 128) + 128 * above = omega (arith, same, group_is, high_is) in
        record {
          tail = next ∷ groups;
          high = above;
          parts = cc;
          is = others;
          number = number ∙ ap (λ (h : ℕ). low + weight * h) high_now ∙ weighed low weight (group - 128) above;
          counts = λ h. filled;
        }

pub one_read : (bytes rest : Bytes) (group low weight : ℕ) → 128 ≤ group → group < 256 → HasRead bytes (group ∷ rest) low weight → HasRead bytes rest (low + (group - 128) * weight) (weight * 128)
one_read bytes rest group low weight more fits read = record {
  front = read.front ++ group ∷ [];
  parts = read.parts ∙ sym (append_assoc read.front (group ∷ []) rest);
  first = omega (arith, read.first);
  less = weighed_less low weight (group - 128) read.less (omega (arith, more, fits));
  completes = λ tail high counts is.
      let filled : 0 < high = counts (omega (arith, read.first)) in
      let group_is : (group - 128) + 128 ≡ group = omega (arith, more) in
      let one : IsVarint (group ∷ tail) ((group - 128) + 128 * high) =
      subst (λ (g : ℕ). IsVarint (g ∷ tail) ((group - 128) + 128 * high)) group_is (group_before tail (group - 128) high ((group - 128) + 128 * high) (omega (arith, more, fits)) filled refl is) in
      let whole = read.completes (group ∷ tail) ((group - 128) + 128 * high) (λ h. omega (arith, filled)) one in
      subst (λ (w : Bytes). IsVarint w (low + (group - 128) * weight + weight * 128 * high)) (sym (append_assoc read.front (group ∷ []) tail))
      (subst (λ (n : ℕ). IsVarint (read.front ++ group ∷ tail) n) (weighed low weight (group - 128) high) whole);
  is_completed = λ n behind f. more_left group rest behind low weight n more (read.is_completed n behind f);
}

-- the last group
pub last_read : (bytes rest : Bytes) (group low weight : ℕ) → group < 128 → (1 < weight → 0 < group) → HasRead bytes (group ∷ rest) low weight → Front (λ word. IsVarint word (low + group * weight)) bytes rest
last_read bytes rest group low weight last counts read = record {
  word = read.front ++ group ∷ [];
  parts = read.parts ∙ sym (append_assoc read.front (group ∷ []) rest);
  is_word = let turned : weight * group ≡ group * weight = grind arith in
      subst (λ (n : ℕ). IsVarint (read.front ++ group ∷ []) (low + n)) turned (read.completes (group ∷ []) group counts (last, refl));
}

pub record Last (group low weight n : ℕ) : Type 0 where
  pub number : n ≡ low + group * weight
  pub counts : 1 < weight → 0 < group

-- any number that the bytes begin with ends there
pub is_last : (bytes rest : Bytes) (group low weight : ℕ) → group < 128 → HasRead bytes (group ∷ rest) low weight → (n : ℕ) (behind : Bytes) → Front (λ word. IsVarint word n) bytes behind → Last group low weight n
is_last bytes rest group low weight last read n behind f = let left = read.is_completed n behind f in by left.tail left.high left.parts left.is left.number left.counts
  where
    by : (tail : Bytes) (high : ℕ) → group ∷ rest ≡ tail ++ behind → IsVarint tail high → n ≡ low + weight * high → (1 < weight → 0 < high) → Last group low weight n
    by [] high parts is number counts = absurd is
    by (g ∷ []) high parts is number counts =
        let same : high ≡ group = is.1 ∙ (let heads : g ≡ group = cc in heads) in
        let turned : weight * group ≡ group * weight = grind arith in
        record { number = number ∙ ap (λ (h : ℕ). low + weight * h) same ∙ ap (λ (k : ℕ). low + k) turned; counts = λ h. omega (arith, same, counts h) }
    by (g ∷ next ∷ groups) high parts (bits, above, small, group_is, filled, high_is, others) number counts =
        let same : group ≡ g = cc in absurd (omega (arith, same, group_is, last))

-- none begins where no group is left
pub none_left : (bytes rest : Bytes) (low weight : ℕ) → length rest < 1 → HasRead bytes rest low weight → (n : ℕ) → NoFront (λ word. IsVarint word n) bytes
none_left bytes (g ∷ rest) low weight empty read n behind f = absurd (omega (arith, empty))
none_left bytes [] low weight empty read n behind f = let left = read.is_completed n behind f in by left.tail left.high left.parts left.is
  where
    by : (tail : Bytes) (high : ℕ) → [] ≡ tail ++ behind → IsVarint tail high → ⊥
    by [] high parts is = is
    by (g ∷ groups) high parts is = cc

-- one that has more groups is at least what one in them counts
pub many : (bytes rest : Bytes) (low weight : ℕ) → 1 < weight → HasRead bytes rest low weight → (n : ℕ) (behind : Bytes) → Front (λ word. IsVarint word n) bytes behind → weight ≤ n
many bytes rest low weight more read n behind f =
    let left = read.is_completed n behind f in at_least weight left.high n (left.counts more) left.number
  where
    at_least : (weight high n : ℕ) → 0 < high → n ≡ low + weight * high → weight ≤ n
    at_least weight (suc h) n filled number = grind arith
    at_least weight zero n filled number = absurd (omega (arith, filled))

-- the first group that is left, and those behind it
abbrev pub first_of : Bytes → ℕ
first_of rest = get_or rest 0 0

abbrev pub others_of : Bytes → Bytes
others_of rest = take (length rest - 1) (drop 1 rest)

in_two : (rest : Bytes) → 1 ≤ length rest → rest ≡ first_of rest ∷ others_of rest
in_two [] filled = absurd (omega (arith, filled))
in_two (g ∷ rest) filled = ap (λ (w : Bytes). g ∷ w) (sym (take_all (length (g ∷ rest) - 1) rest (omega arith)))

pub with_first : (bytes rest : Bytes) (low weight : ℕ) → 1 ≤ length rest → HasRead bytes rest low weight → HasRead bytes (first_of rest ∷ others_of rest) low weight
with_first bytes rest low weight filled read = subst (λ (w : Bytes). HasRead bytes w low weight) (in_two rest filled) read

-- what holds of each byte holds of the first that is left
pub is_byte : (bytes rest : Bytes) (low weight : ℕ) → HasRead bytes rest low weight → ((i : ℕ) → get_or bytes i 0 < 256) → first_of rest < 256
is_byte bytes rest low weight read fit =
    let at : get_or bytes (length read.front + 0) 0 ≡ first_of rest = ap (λ (w : Bytes). get_or w (length read.front + 0) 0) read.parts ∙ get_or-append-add read.front rest 0 0 in
    subst (λ (b : ℕ). b < 256) at (fit (length read.front + 0))

-- ---- a length and as many bytes

-- a name's length stands before it
length_first : (bytes name behind : Bytes) → Front (λ word. IsName word name) bytes behind → Front (λ word. IsVarint word (length name)) bytes (name ++ behind)
length_first bytes name behind f = record {
  word = f.is_word.count;
  parts = f.parts ∙ ap (λ (w : Bytes). w ++ behind) f.is_word.parts ∙ append_assoc f.is_word.count name behind;
  is_word = f.is_word.is_count;
}

pub no_name : (bytes : Bytes) → ReadsLength bytes None → ReadsName bytes None
no_name bytes none name small behind f = none (length name) small (name ++ behind) (length_first bytes name behind f)

pub name_cut : (bytes rest : Bytes) (len : ℕ) (result : Option (Bor Bytes × Bor Bytes)) → len ≤ most_size → Front (λ word. IsVarint word len) bytes rest →
    MatchOption result (length rest < len) (λ p. IsSplitAt rest len p.0.now p.1.now) → ReadsName bytes result
name_cut bytes rest len None small found short = λ name fits behind f.
    let other = length_first bytes name behind f in
    let same = varint_same found.word other.word rest (name ++ behind) len (length name) found.is_word other.is_word (sym found.parts ∙ other.parts) in
    let long : length rest ≡ length name + length behind = ap length same.rest ∙ length-append name behind in
    absurd (omega (arith, short, same.value, long))
name_cut bytes rest len (Some (name, behind)) small found (within, front, back, long, other) =
    let rest_is : rest ≡ name.now ++ behind.now =
    sym (take-append-drop len rest) ∙ ap (λ (w : Bytes). w ++ drop len rest) (sym front) ∙ ap (λ (w : Bytes). name.now ++ w) (sym back) in (
      record {
        word = found.word ++ name.now;
        parts = found.parts ∙ ap (λ (w : Bytes). found.word ++ w) rest_is ∙ sym (append_assoc found.word name.now behind.now);
        is_word = record { count = found.word; parts = refl; is_count = subst (λ (n : ℕ). IsVarint found.word n) (sym long) found.is_word };
      },
      omega (arith, long, small),
    )
