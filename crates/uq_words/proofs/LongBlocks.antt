-- A block that is known to be too long before its end.
use Rattle.std.proofs.Common.{◌≡◌, ℕ, ◌+◌, ◌<◌, ◌≤◌, Bool, true, false, ltb, cond, List, [], ◌∷◌, ◌++◌, length, Some, None, refl, sym, ap, ◌∙◌, length-append, arith}
use Rattle.std.proofs.lemmas.List.Elements.{All-tail}
use Rattle.uq_value.specs.Data.{Bytes}
use Rattle.uq_words.specs.Blocks.{closes, kept_script, longest_script, text_of_lines, with_feed}
use Rattle.uq_words.specs.BlocksLaws.{one_before}
use Rattle.uq_words.specs.Lines.{HasNoFeed, is_feed, without_return}
use Rattle.uq_words.proofs.Cutting.{return_one}
use Rattle.uq_words.proofs.InnerLines.{length_both, long_open}

abbrev head_of : Bytes → ℕ
head_of [] = 0
head_of (c ∷ cs) = c

abbrev tail_of : Bytes → Bytes
tail_of [] = []
tail_of (c ∷ cs) = cs

-- bytes without a line feed end before the first one
feed_behind : (part more raw others : Bytes) → HasNoFeed part → part ++ more ≡ raw ++ 0x0a ∷ others → length part ≤ length raw
feed_behind [] more raw others none same = omega arith
feed_behind (c ∷ cs) more [] others none same =
    let is : c ≡ 0x0a = ap head_of same in
    let not_feed : is_feed c ≡ false = none 0 0 (omega arith) in
    absurd (let both : true ≡ false = sym (ap is_feed is) ∙ not_feed in cc)
feed_behind (c ∷ cs) more (d ∷ ds) others none same =
    let rest = feed_behind cs more ds others (All-tail (λ x. is_feed x ≡ false) c cs none) (ap tail_of same) in
    omega (arith, rest)

-- a line that closes a block is a dot, and at most a carriage return
closing_short : (raw : Bytes) → closes raw ≡ true → length raw ≤ 2
closing_short raw is = by (ltb 1 (length (without_return raw))) refl
  where
    by : (long : Bool) → ltb 1 (length (without_return raw)) ≡ long → length raw ≤ 2
    by true long = absurd (let both : true ≡ false = sym is ∙ long_open (without_return raw) (grind arith) in cc)
    by false short = let one = return_one raw in grind arith

kept_long : (text : Bytes) → longest_script < length text → kept_script text ≡ None
kept_long text long =
    let above : ltb longest_script (length text) ≡ true = grind arith in
    ap (λ (b : Bool). cond b None (Some text)) above

-- A part of a line stands behind these lines, and all are more than a script and what closes it; where it goes on, the text is too long.
module _ (first : List Bytes) (part more : Bytes) (none : HasNoFeed part) (long : longest_script + 2 < length (text_of_lines first) + length part) where
  line_too_long : (raw : Bytes) (inner : List Bytes) (others : Bytes) → part ++ more ≡ text_of_lines (raw ∷ inner) ++ others → kept_script (text_of_lines (first ++ raw ∷ inner)) ≡ None
  line_too_long raw inner others same =
      let less = feed_behind part more raw (text_of_lines inner ++ others) none (same ∙ one_before raw (text_of_lines inner) others) in
      let both = length_both first (raw ∷ inner) in
      let line : length (text_of_lines (raw ∷ inner)) ≡ length (with_feed raw) + length (text_of_lines inner) = length-append (with_feed raw) (text_of_lines inner) in
      let feed : Bytes = 0x0a ∷ [] in
      let fed : length (with_feed raw) ≡ length raw + length feed = length-append raw feed in
      kept_long (text_of_lines (first ++ raw ∷ inner)) (omega arith)

  pub block_too_long : (inner : List Bytes) (closing others : Bytes) → closes closing ≡ true → part ++ more ≡ text_of_lines inner ++ (closing ++ 0x0a ∷ others)
      → kept_script (text_of_lines (first ++ inner)) ≡ None
  block_too_long [] closing others closed same =
      let less = feed_behind part more closing others none same in
      let short = closing_short closing closed in
      let both = length_both first [] in
      kept_long (text_of_lines (first ++ [])) (omega arith)
  block_too_long (raw ∷ inner) closing others closed same = line_too_long raw inner (closing ++ 0x0a ∷ others) same

  pub last_too_long : (inner : List Bytes) (closing : Bytes) → closes closing ≡ true → part ++ more ≡ text_of_lines inner ++ closing → kept_script (text_of_lines (first ++ inner)) ≡ None
  last_too_long [] closing closed same =
      let whole : length (part ++ more) ≡ length closing = ap length same in
      let parts : length (part ++ more) ≡ length part + length more = length-append part more in
      let short = closing_short closing closed in
      let both = length_both first [] in
      kept_long (text_of_lines (first ++ [])) (omega arith)
  last_too_long (raw ∷ inner) closing closed same = line_too_long raw inner closing same
