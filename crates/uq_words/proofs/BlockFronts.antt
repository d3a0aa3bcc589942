-- Lines of a block at the front of what was taken, and the line behind them that is searched.
use Rattle.std.proofs.Common.{◌≡◌, ℕ, ◌+◌, ◌-◌, ◌<◌, ◌≤◌, Bool, true, false, leb, ltb, cond, List, [], ◌∷◌, ◌++◌, length, take, drop, Option, Some, None, Result, Ok, Err, refl, sym, ap, subst, ◌∙◌, append_assoc, append-nil, length-append, length-drop, arith}
use Rattle.std.proofs.lemmas.List.{drop-append-le, drop-drop, length-take-le, take-append-drop, take-append-le, take_all, take_at}
use Rattle.std.proofs.lemmas.List.Elements.{All-append}
use Rattle.std.specs.Io.KnownBytes.{IsAtEnd}
use Rattle.std.specs.List.{All, position_or_len}
use Rattle.std.specs.Option.{ForSome}
use Rattle.std.specs.Prelude.{slice_range}
use Rattle.uq_outside.specs.Stops.{Told}
use Rattle.uq_outside.specs.declared.source.Source.{Ghosts}
use Rattle.uq_value.specs.Data.{Bytes}
use Rattle.uq_words.specs.Blocks.{IsBlock, IsBlockBy, IsBlockPart, IsBlockTooMuch, IsInner, IsLastBlock, IsLastBlockBy, IsUnfinished, closes, kept_script, longest_script, no_text, text_of_lines}
use Rattle.uq_words.specs.Lines.{HasNoFeed, is_feed}
use Rattle.uq_words.specs.Taking.{Fills, Gives, left_of, most_of, pending, text_of}
use Rattle.uq_words.specs.TakingBlocks.{ArePassed, EndsBlock, FindsBlock, FindsBlockBy}
use Rattle.uq_words.specs.declared.blocks.BlockStep.{BlockStep}
use Rattle.uq_words.specs.declared.blocks.BlockStep.TheVariants as block
use Rattle.uq_words.specs.declared.error.InputFault.{InputFault}
use Rattle.uq_words.specs.declared.lines.Lines.{Lines}
use Rattle.uq_words.proofs.Advancing.{empty, front_is, rest_is}
use Rattle.uq_words.proofs.Cutting.{none_before, none_within, place_within, split_at_feed}
use Rattle.uq_words.proofs.InnerLines.{behind_both, block_behind, last_behind, length_both, length_one, one_inner, part_behind, text_one, too_much_behind, unfinished_behind}
use Rattle.uq_words.proofs.LongBlocks.{block_too_long, last_too_long}
use Rattle.uq_words.proofs.Pieces.{before}

-- the line that is searched, and what is behind it
abbrev pub under : Lines → ℕ → Bytes
under it line = drop (it.next + line) it.bytes.items

-- where no line feed is found in it
pub under_none : (it : Lines) (line end : ℕ) → it.next + line ≤ length it.bytes.items → end ≡ it.next + line + position_or_len is_feed (under it line) → length it.bytes.items ≤ end
    → HasNoFeed (under it line)
under_none it line end inside is past =
    let few = place_within (under it line) in
    let count : length (under it line) ≡ length it.bytes.items - (it.next + line) = length-drop (it.next + line) it.bytes.items in
    none_within (under it line) (omega arith)

-- the last line, as it is cut
pub last_line : (it : Lines) (line len : ℕ) (bytes : Bytes) → bytes ≡ it.bytes.items → len ≡ length it.bytes.items → take (len - (it.next + line)) (drop (it.next + line) bytes) ≡ drop line (pending it)
last_line it line len bytes is whole =
    let count : length (under it line) ≡ length it.bytes.items - (it.next + line) = length-drop (it.next + line) it.bytes.items in
    ap (λ (w : Bytes). take (len - (it.next + line)) (drop (it.next + line) w)) is
    ∙ take_all (len - (it.next + line)) (under it line) (omega arith)
    ∙ sym (drop-drop line it.next it.bytes.items)

-- what is found from there on is found from the start
pub found_since : {I : Type 0} (i : Ghosts I) (result : Result BlockStep InputFault) (left since : Option Bytes) (most count : ℕ) (new : Lines) (in_new : I) → left ≡ since → most ≡ count
    → FindsBlock i result left most new in_new → FindsBlock i result since count new in_new
found_since i result left since most count new in_new same_left same_most found =
    subst (λ (l : Option Bytes). FindsBlock i result l count new in_new) same_left (subst (λ (n : ℕ). FindsBlock i result left n new in_new) same_most found)

-- what holds whatever the source has left
told_front : (front behind : Bytes) (R : Bytes → Bytes → Type 0) → ((rest : Bytes) → R (front ++ rest) (behind ++ rest)) → (left : Option Bytes) → Told R (before front left) (before behind left)
told_front front behind R all None = tt
told_front front behind R all (Some rest) = all rest

-- what holds of a text holds behind another
told_behind : (front part : Bytes) (R S : Bytes → Bytes → Type 0) → ((rest y : Bytes) → R (part ++ rest) y → S (front ++ (part ++ rest)) y) → (left new : Option Bytes)
    → Told R (before part left) new → Told S (before (front ++ part) left) new
told_behind front part R S step None None told = tt
told_behind front part R S step None (Some y) told = absurd told
told_behind front part R S step (Some rest) None told = absurd told
told_behind front part R S step (Some rest) (Some y) told = subst (λ (w : Bytes). S w y) (sym (append_assoc front part rest)) (step rest y told)

-- the text of a block, as it is given
script_kept : (front : Bytes) (line : ℕ) → line ≤ length front → cond (leb line longest_script) (Some (take line front)) None ≡ kept_script (take line front)
script_kept front line within = by (leb line longest_script) refl
  where
    by : (short : Bool) → leb line longest_script ≡ short → cond short (Some (take line front)) None ≡ kept_script (take line front)
    by true short =
        let long : length (take line front) ≡ line = length-take-le line front within in
        let less : ltb longest_script (length (take line front)) ≡ false = grind arith in
        sym (ap (λ (b : Bool). cond b None (Some (take line front))) less)
    by false short =
        let long : length (take line front) ≡ line = length-take-le line front within in
        let more : ltb longest_script (length (take line front)) ≡ true = grind arith in
        sym (ap (λ (b : Bool). cond b None (Some (take line front))) more)

module _ (it : Lines) (line : ℕ) (inner : List Bytes) (all : All IsInner inner) (text : take line (pending it) ≡ text_of_lines inner) (inside : it.next + line ≤ length it.bytes.items) where
  under_is : drop line (pending it) ≡ under it line
  under_is = drop-drop line it.next it.bytes.items

  split_front : pending it ≡ text_of_lines inner ++ under it line
  split_front =
      sym (take-append-drop line (pending it))
      ∙ ap (λ (w : Bytes). w ++ drop line (pending it)) text
      ∙ ap (λ (w : Bytes). text_of_lines inner ++ w) under_is

  line_within : line ≤ length (pending it)
  line_within = let count : length (pending it) ≡ length it.bytes.items - it.next = length-drop it.next it.bytes.items in omega arith

  line_long : length (text_of_lines inner) ≡ line
  line_long = sym (ap length text) ∙ length-take-le line (pending it) line_within

  whole_long : length (pending it) ≡ line + length (under it line)
  whole_long =
      let whole : length (pending it) ≡ length (text_of_lines inner ++ under it line) = ap length split_front in
      let both : length (text_of_lines inner ++ under it line) ≡ length (text_of_lines inner) + length (under it line) = length-append (text_of_lines inner) (under it line) in
      let long = line_long in
      omega arith

  text_kept : cond (leb line longest_script) (Some (take line (pending it))) None ≡ kept_script (text_of_lines inner)
  text_kept = script_kept (pending it) line line_within ∙ ap kept_script text

  -- ---- a line ends there

  module _ (end : ℕ) (place : end ≡ it.next + line + position_or_len is_feed (under it line)) (within : end < length it.bytes.items) where
    line_split : under it line ≡ slice_range it.bytes.items (it.next + line) end ++ 0x0a ∷ drop (end + 1) it.bytes.items
    line_split =
        let count : length (under it line) ≡ length it.bytes.items - (it.next + line) = length-drop (it.next + line) it.bytes.items in
        let found : position_or_len is_feed (under it line) < length (under it line) = omega arith in
        split_at_feed (under it line) (position_or_len is_feed (under it line)) refl found
        ∙ ap (λ (w : Bytes). w ++ 0x0a ∷ drop (position_or_len is_feed (under it line) + 1) (under it line)) (sym (front_is it.bytes.items (it.next + line) end place))
        ∙ ap (λ (w : Bytes). slice_range it.bytes.items (it.next + line) end ++ 0x0a ∷ w) (sym (rest_is it.bytes.items (it.next + line) end place))

    line_none : HasNoFeed (slice_range it.bytes.items (it.next + line) end)
    line_none = subst (λ (w : Bytes). HasNoFeed w) (sym (front_is it.bytes.items (it.next + line) end place)) (none_before (under it line))

    raw_long : length (slice_range it.bytes.items (it.next + line) end) ≡ end - (it.next + line)
    raw_long =
        let count : length (under it line) ≡ length it.bytes.items - (it.next + line) = length-drop (it.next + line) it.bytes.items in
        length-take-le (end - (it.next + line)) (under it line) (omega arith)

    -- it is one of the block
    pub passes_inner : closes (slice_range it.bytes.items (it.next + line) end) ≡ false → All IsInner (inner ++ slice_range it.bytes.items (it.next + line) end ∷ [])
    passes_inner open' =
        All-append IsInner inner (slice_range it.bytes.items (it.next + line) end ∷ []) all
        (one_inner (slice_range it.bytes.items (it.next + line) end) (line_none, open'))

    pub passes_text : take (end + 1 - it.next) (pending it) ≡ text_of_lines (inner ++ slice_range it.bytes.items (it.next + line) end ∷ [])
    passes_text =
        let raw = slice_range it.bytes.items (it.next + line) end in
        let both = length_both inner (raw ∷ []) in
        let one = length_one raw in
        let long = raw_long in
        let first = line_long in
        let count : length (text_of_lines (inner ++ raw ∷ [])) ≡ end + 1 - it.next = omega arith in
        ap (take (end + 1 - it.next))
        (behind_both inner (raw ∷ []) (pending it) (under it line) (drop (end + 1) it.bytes.items) split_front
        (line_split ∙ sym (append_assoc raw (0x0a ∷ []) (drop (end + 1) it.bytes.items)) ∙ ap (λ (w : Bytes). w ++ drop (end + 1) it.bytes.items) (sym (text_one raw))))
        ∙ take_at (text_of_lines (inner ++ raw ∷ [])) (drop (end + 1) it.bytes.items) (end + 1 - it.next) count

    -- it closes the block
    pub gives_block : (new : Lines) → Gives line longest_script (end + 1) it new → closes (slice_range it.bytes.items (it.next + line) end) ≡ true → (left : Option Bytes)
        → Told (λ x y. IsBlock (most_of it) x (text_of new) (most_of new) y) (before (pending it) left) (before (pending new) left)
    gives_block new gives closed left =
        told_front (pending it) (pending new) (λ x y. IsBlock (most_of it) x (text_of new) (most_of new) y) (λ rest. record {
          inner = inner;
          closing = raw;
          all_inner = all;
          no_feed = line_none;
          closes_it = closed;
          split =
              ap (λ (w : Bytes). w ++ rest) split
              ∙ append_assoc (text_of_lines inner) (raw ++ 0x0a ∷ pending new) rest
              ∙ ap (λ (w : Bytes). text_of_lines inner ++ w) (append_assoc raw (0x0a ∷ pending new) rest);
          count =
              let whole = whole_long in
              let under_long : length (under it line) ≡ length (raw ++ 0x0a ∷ pending new) = ap length (line_split ∙ ap (λ (w : Bytes). raw ++ 0x0a ∷ w) (sym behind)) in
              let both : length (raw ++ 0x0a ∷ pending new) ≡ length raw + length (0x0a ∷ pending new) = length-append raw (0x0a ∷ pending new) in
              let room = gives.room in
              let first = line_long in
              omega arith;
          kept_text = gives.text ∙ text_kept;
        }) left
      where
        raw : Bytes
        raw = slice_range it.bytes.items (it.next + line) end

        behind : pending new ≡ drop (end + 1) it.bytes.items
        behind = ap (λ (w : Bytes). drop new.next w) gives.bytes ∙ ap (λ (n : ℕ). drop n it.bytes.items) gives.begins

        split : pending it ≡ text_of_lines inner ++ (raw ++ 0x0a ∷ pending new)
        split = split_front ∙ ap (λ (w : Bytes). text_of_lines inner ++ w) (line_split ∙ ap (λ (w : Bytes). raw ++ 0x0a ∷ w) (sym behind))

  -- ---- the line is not at its end

  module _ (none : HasNoFeed (under it line)) where
    pub full_block : it.room ≡ 0 → (left : Option Bytes) → ForSome (before (pending it) left) (IsBlockTooMuch (most_of it))
    full_block full None = λ x is. absurd (cc)
    full_block full (Some rest) = λ x is.
        let same : pending it ++ rest ≡ x = cc in
        let whole = whole_long in
        let first = line_long in
        record {
          inner = inner;
          part = under it line;
          rest = rest;
          all_inner = all;
          no_feed = none;
          split = sym same ∙ ap (λ (w : Bytes). w ++ rest) split_front ∙ append_assoc (text_of_lines inner) (under it line) rest;
          count = omega arith;
        }

    told_part : (left : Option Bytes) → Told IsBlockPart (before (pending it) left) left
    told_part None = tt
    told_part (Some rest) = record {
      inner = inner;
      part = under it line;
      all_inner = all;
      no_feed = none;
      split = ap (λ (w : Bytes). w ++ rest) split_front ∙ append_assoc (text_of_lines inner) (under it line) rest;
    }

    told_last : closes (under it line) ≡ true → (kept_text : Option Bytes) → kept_text ≡ kept_script (text_of_lines inner) → 0 < it.room → (left : Option Bytes) → IsAtEnd left
        → Told (λ x y. IsLastBlock (most_of it) x kept_text × (y ≡ [])) (before (pending it) left) (before [] left)
    told_last closed kept_text kept some None ends = tt
    told_last closed kept_text kept some (Some rest) ends =
        let same : pending it ++ rest ≡ pending it = ap (λ (w : Bytes). pending it ++ w) ends ∙ append-nil (pending it) in
        let count : length (pending it ++ rest) ≡ length (pending it) = ap length same in (
          record {
            inner = inner;
            closing = under it line;
            all_inner = all;
            no_feed = none;
            closes_it = closed;
            split = same ∙ split_front;
            few = omega arith;
            kept_text = kept;
          },
          ends,
        )

    told_unfinished : closes (under it line) ≡ false → 0 < it.room → (left : Option Bytes) → IsAtEnd left
        → Told (λ x y. IsUnfinished (most_of it) x × (y ≡ [])) (before (pending it) left) (before [] left)
    told_unfinished open' some None ends = tt
    told_unfinished open' some (Some rest) ends =
        let same : pending it ++ rest ≡ pending it = ap (λ (w : Bytes). pending it ++ w) ends ∙ append-nil (pending it) in
        let count : length (pending it ++ rest) ≡ length (pending it) = ap length same in (
          record {
            inner = inner;
            last = under it line;
            all_inner = all;
            last_inner = (none, open');
            split = same ∙ split_front;
            few = omega arith;
          },
          ends,
        )

    module _ {I : Type 0} (i : Ghosts I) where
      pub fault_block : (new : Lines) (in_old in_new : I) (fault : InputFault) → Fills i (Err fault) it in_old new in_new → Told IsBlockPart (left_of i it in_old) (i.left in_new)
      fault_block new in_old in_new fault fills =
          let same : pending new ≡ pending it = fills.pending ∙ ap (λ (w : Bytes). pending it ++ w) fills.none ∙ append-nil (pending it) in
          subst (λ (left : Option Bytes). Told IsBlockPart left (i.left in_new)) fills.left
          (subst (λ (w : Bytes). Told IsBlockPart (before w (i.left in_new)) (i.left in_new)) (sym same) (told_part (i.left in_new)))

      pub ends_block : (full new : Lines) (in_old in_new : I) (count : ℕ) (ends : BlockStep) → 0 < it.room → count ≡ 0 → Fills i (Ok count) it in_old full in_new → EndsBlock line ends full new
          → FindsBlock i (Ok ends) (left_of i it in_old) (most_of it) new in_new
      ends_block full new in_old in_new count ends some no_more fills is =
          subst (λ (left : Option Bytes). FindsBlock i (Ok ends) left (most_of it) new in_new) fills.left
          (subst (λ (w : Bytes). FindsBlock i (Ok ends) (before w (i.left in_new)) (most_of it) new in_new) (sym same)
          (subst (λ (e : BlockStep). FindsBlock i (Ok e) (before (pending it) (i.left in_new)) (most_of it) new in_new) (sym is.way) (by (closes (drop line (pending full))) refl)))
        where
          nothing : fills.piece ≡ []
          nothing = empty fills.piece (fills.taken_count ∙ no_more)

          same : pending full ≡ pending it
          same = fills.pending ∙ ap (λ (w : Bytes). pending it ++ w) nothing ∙ append-nil (pending it)

          last : drop line (pending full) ≡ under it line
          last = ap (drop line) same ∙ under_is

          by : (b : Bool) → closes (drop line (pending full)) ≡ b → FindsBlock i (Ok (cond b block.ClosedLast block.Unfinished)) (before (pending it) (i.left in_new)) (most_of it) new in_new
          by true closed =
              subst (λ (w : Bytes). Told (λ x y. IsLastBlock (most_of it) x (text_of new) × (y ≡ [])) (before (pending it) (i.left in_new)) (before w (i.left in_new))) (sym is.none_left)
              (told_last (ap closes (sym last) ∙ closed) (text_of new) (is.text closed ∙ ap (λ (w : Bytes). kept_script (take line w)) same ∙ ap kept_script text) some (i.left in_new)
              (fills.at_end no_more))
          by false open' =
              subst (λ (w : Bytes). Told (λ x y. IsUnfinished (most_of it) x × (y ≡ [])) (before (pending it) (i.left in_new)) (before w (i.left in_new))) (sym is.none_left)
              (told_unfinished (ap closes (sym last) ∙ open') some (i.left in_new) (fills.at_end no_more))

      -- a piece is taken, and the line goes on
      module _ (new : Lines) (in_old in_new : I) (count : ℕ) (fills : Fills i (Ok count) it in_old new in_new) where
        pub text_on : take line (pending new) ≡ text_of_lines inner
        text_on = ap (take line) fills.pending ∙ take-append-le line (pending it) fills.piece line_within ∙ text

        under_on : under new line ≡ under it line ++ fills.piece
        under_on =
            sym (drop-drop line new.next new.bytes.items)
            ∙ ap (drop line) fills.pending
            ∙ drop-append-le line (pending it) fills.piece line_within
            ∙ ap (λ (w : Bytes). w ++ fills.piece) under_is

        new_long : length (pending new) ≡ length (pending it) + length fills.piece
        new_long = ap length fills.pending ∙ length-append (pending it) fills.piece

        pub inside_on : new.next + line ≤ length new.bytes.items
        inside_on =
            let begins = fills.begins in
            let long = new_long in
            let count : length (pending new) ≡ length new.bytes.items - new.next = length-drop new.next new.bytes.items in
            let few = line_within in
            omega arith

        pub searched_on : (searched : ℕ) → searched ≡ length it.bytes.items - (it.next + line) → searched ≤ length (under new line)
        searched_on searched is =
            let before : length (under it line) ≡ length it.bytes.items - (it.next + line) = length-drop (it.next + line) it.bytes.items in
            let after : length (under new line) ≡ length (under it line ++ fills.piece) = ap length under_on in
            let both : length (under it line ++ fills.piece) ≡ length (under it line) + length fills.piece = length-append (under it line) fills.piece in
            omega arith

        pub none_on : (searched : ℕ) → searched ≡ length it.bytes.items - (it.next + line) → HasNoFeed (take searched (under new line))
        none_on searched is =
            let before : length (under it line) ≡ length it.bytes.items - (it.next + line) = length-drop (it.next + line) it.bytes.items in
            subst (λ (w : Bytes). HasNoFeed w) (sym (ap (take searched) under_on ∙ take_at (under it line) fills.piece searched (before ∙ sym is))) none

      -- ---- the block is too long

      pub skips_block : longest_script + 2 < line + length (under it line) → (result : Result BlockStep InputFault) (left : Option Bytes) (new : Lines) (in_new : I)
          → FindsBlockBy i no_text result (before (under it line) left) (length (under it line) + it.room) new in_new → FindsBlock i result (before (pending it) left) (most_of it) new in_new
      skips_block more result left new in_new found =
          subst (λ (w : Bytes). FindsBlock i result (before w left) (most_of it) new in_new) (sym split_front) (by result found)
        where
          long : longest_script + 2 < length (text_of_lines inner) + length (under it line)
          long = let first = line_long in omega arith

          passed : (mid : Bytes) → ArePassed (most_of it) (text_of_lines inner ++ mid) (length (under it line) + it.room) mid
          passed mid = record {
            inner = inner;
            all_inner = all;
            split = refl;
            count = let whole = whole_long in let first = line_long in omega arith;
          }

          too_much : (l : Option Bytes) → ForSome (before (under it line) l) (IsBlockTooMuch (length (under it line) + it.room))
              → ForSome (before (text_of_lines inner ++ under it line) l) (IsBlockTooMuch (most_of it))
          too_much None is = λ x same. absurd (cc)
          too_much (Some rest) is = λ x same.
              let whole : (text_of_lines inner ++ under it line) ++ rest ≡ x = cc in
              subst (IsBlockTooMuch (most_of it)) (sym (append_assoc (text_of_lines inner) (under it line) rest) ∙ whole)
              (too_much_behind (most_of it) (text_of_lines inner ++ (under it line ++ rest)) (length (under it line) + it.room) (under it line ++ rest) (passed (under it line ++ rest))
              (is (under it line ++ rest) refl))

          by : (r : Result BlockStep InputFault) → FindsBlockBy i no_text r (before (under it line) left) (length (under it line) + it.room) new in_new
              → FindsBlock i r (before (text_of_lines inner ++ under it line) left) (most_of it) new in_new
          by (Ok block.Closed) is =
              told_behind (text_of_lines inner) (under it line) (λ x y. IsBlockBy no_text (length (under it line) + it.room) x (text_of new) (most_of new) y)
              (λ x y. IsBlock (most_of it) x (text_of new) (most_of new) y)
              (λ rest y closed.
              block_behind (most_of it) (text_of_lines inner ++ (under it line ++ rest)) (length (under it line) + it.room) (under it line ++ rest) (passed (under it line ++ rest)) kept_script (text_of new)
              (text_of new) (most_of new) y closed
              (closed.kept_text ∙ sym (block_too_long inner (under it line) rest none long closed.inner closed.closing y closed.closes_it closed.split)))
              left (left_of i new in_new) is
          by (Ok block.ClosedLast) is =
              told_behind (text_of_lines inner) (under it line) (λ x y. IsLastBlockBy no_text (length (under it line) + it.room) x (text_of new) × (y ≡ []))
              (λ x y. IsLastBlock (most_of it) x (text_of new) × (y ≡ []))
              (λ rest y both.
              let closed = both.0 in (
                last_behind (most_of it) (text_of_lines inner ++ (under it line ++ rest)) (length (under it line) + it.room) (under it line ++ rest) (passed (under it line ++ rest)) kept_script (text_of new)
                    (text_of new) closed
                    (closed.kept_text ∙ sym (last_too_long inner (under it line) rest none long closed.inner closed.closing closed.closes_it closed.split)),
                both.1,
              ))
              left (left_of i new in_new) is
          by (Ok block.Unfinished) is =
              told_behind (text_of_lines inner) (under it line) (λ x y. IsUnfinished (length (under it line) + it.room) x × (y ≡ [])) (λ x y. IsUnfinished (most_of it) x × (y ≡ []))
              (λ rest y both.
              (unfinished_behind (most_of it) (text_of_lines inner ++ (under it line ++ rest)) (length (under it line) + it.room) (under it line ++ rest) (passed (under it line ++ rest)) both.0, both.1))
              left (left_of i new in_new) is
          by (Ok block.TooMuch) is = too_much left is
          by (Err fault) is =
              told_behind (text_of_lines inner) (under it line) IsBlockPart IsBlockPart
              (λ rest y part. part_behind (most_of it) (text_of_lines inner ++ (under it line ++ rest)) (length (under it line) + it.room) (under it line ++ rest) (passed (under it line ++ rest)) y part)
              left (i.left in_new) is
