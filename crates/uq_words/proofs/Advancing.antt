-- The steps of taking a line.
use Rattle.std.proofs.Common.{◌≡◌, ℕ, ◌+◌, ◌-◌, ◌<◌, ◌≤◌, Bool, false, cond, [], ◌∷◌, ◌++◌, length, take, drop, Option, Some, None, Result, Ok, Err, refl, sym, ap, subst, ◌∙◌, append_assoc, append-nil, length-append, length-drop, arith}
use Rattle.std.proofs.lemmas.List.{drop-drop, take_all, take_at}
use Rattle.std.proofs.lemmas.List.Elements.{All-append}
use Rattle.std.specs.List.{position_or_len}
use Rattle.std.specs.Prelude.{slice_range}
use Rattle.uq_outside.specs.Stops.{Told}
use Rattle.uq_outside.specs.declared.source.Source.{Ghosts}
use Rattle.uq_value.specs.Data.{Bytes}
use Rattle.uq_words.specs.Lines.{HasNoFeed, IsLastWithin, IsLineWithin, IsPart, is_feed, kept_within}
use Rattle.uq_words.specs.Taking.{Cuts, Fills, FindsWithin, Passing, left_of, most_of, pending, text_of}
use Rattle.uq_words.specs.declared.error.InputFault.{InputFault}
use Rattle.uq_words.specs.declared.lines.Lines.{Lines}
use Rattle.uq_words.specs.declared.lines.Step.{Step}
use Rattle.uq_words.specs.declared.lines.Step.TheVariants.{Line, Last, TooMuch}
use Rattle.uq_words.proofs.Cutting.{none_before, none_within, place_behind, place_within, split_at_feed}
use Rattle.uq_words.proofs.Pieces.{before, before_both, before_none, found_last, found_line, found_part, found_too_much, kept_none}

-- ---- where the line ends

pub end_is : (bytes : Bytes) (next searched count : ℕ) → searched ≤ length (drop next bytes) → HasNoFeed (take searched (drop next bytes)) → count ≡ position_or_len is_feed (drop (next + searched) bytes)
    → next + searched + count ≡ next + position_or_len is_feed (drop next bytes)
end_is bytes next searched count within none is =
    let all = place_behind (drop next bytes) searched within none in
    let same : position_or_len is_feed (drop searched (drop next bytes)) ≡ position_or_len is_feed (drop (next + searched) bytes)
    = ap (position_or_len is_feed) (drop-drop searched next bytes) in
    omega arith

-- the bytes up to the end are a front of what is behind the line
pub front_is : (bytes : Bytes) (next end : ℕ) → end ≡ next + position_or_len is_feed (drop next bytes) → slice_range bytes next end ≡ take (position_or_len is_feed (drop next bytes)) (drop next bytes)
front_is bytes next end is = ap (λ (n : ℕ). take n (drop next bytes)) (let count : end - next ≡ position_or_len is_feed (drop next bytes) = omega arith in count)

-- and what is behind the line feed is the rest of it
pub rest_is : (bytes : Bytes) (next end : ℕ) → end ≡ next + position_or_len is_feed (drop next bytes) → drop (end + 1) bytes ≡ drop (position_or_len is_feed (drop next bytes) + 1) (drop next bytes)
rest_is bytes next end is =
    ap (λ (n : ℕ). drop n bytes) (let count : end + 1 ≡ next + (position_or_len is_feed (drop next bytes) + 1) = omega arith in count)
    ∙ sym (drop-drop (position_or_len is_feed (drop next bytes) + 1) next bytes)

pub empty : (w : Bytes) → length w ≡ 0 → w ≡ []
empty [] none = refl
empty (c ∷ cs) none = absurd (omega (arith, none))

-- a line that is not kept has no text
pub unkept : (it : Lines) → it.kept ≡ false → text_of it ≡ None
unkept it is = ap (λ (b : Bool). cond b (Some (slice_range it.bytes.items it.from it.to)) None) is

-- where no line feed is found
pub no_feed_left : (it : Lines) (end : ℕ) → end ≡ it.next + position_or_len is_feed (pending it) → length it.bytes.items ≤ end → HasNoFeed (pending it)
no_feed_left it end is past =
    let few = place_within (pending it) in
    let count : length (pending it) ≡ length it.bytes.items - it.next = length-drop it.next it.bytes.items in
    let rest = it.rest in
    none_within (pending it) (omega arith)

module _ {I : Type 0} (i : Ghosts I) (limit : ℕ) where
  -- what is found from there on is found from the start
  pub found_since : (result : Result Step InputFault) (left since : Option Bytes) (most count : ℕ) (new : Lines) (in_new : I) → left ≡ since → most ≡ count → FindsWithin i limit result left most new in_new
      → FindsWithin i limit result since count new in_new
  found_since result left since most count new in_new same_left same_most found =
      subst (λ (l : Option Bytes). FindsWithin i limit result l count new in_new) same_left (subst (λ (n : ℕ). FindsWithin i limit result left n new in_new) same_most found)

  -- ---- a line

  pub cuts_line : (it new : Lines) (input : I) (end : ℕ) → end ≡ it.next + position_or_len is_feed (pending it) → end < length it.bytes.items → Cuts limit end (end + 1) it new
      → FindsWithin i limit (Ok Line) (left_of i it input) (most_of it) new input
  cuts_line it new input end is within cuts =
      let rest = it.rest in
      let count : length (pending it) ≡ length it.bytes.items - it.next = length-drop it.next it.bytes.items in
      let inside : position_or_len is_feed (pending it) < length (pending it) = omega arith in
      let behind : pending new ≡ drop (position_or_len is_feed (pending it) + 1) (pending it)
      = ap (λ (w : Bytes). drop new.next w) cuts.bytes ∙ ap (λ (n : ℕ). drop n it.bytes.items) cuts.begins ∙ rest_is it.bytes.items it.next end is in
      let split : pending it ≡ take (position_or_len is_feed (pending it)) (pending it) ++ 0x0a ∷ pending new
      = split_at_feed (pending it) (position_or_len is_feed (pending it)) refl inside
      ∙ ap (λ (w : Bytes). take (position_or_len is_feed (pending it)) (pending it) ++ 0x0a ∷ w) (sym behind) in
      let room = cuts.room in
      found_line limit (most_of it) it.room (pending it) refl (i.left input) (take (position_or_len is_feed (pending it)) (pending it)) (pending new) (text_of new) (most_of new) split
      (none_before (pending it)) (cuts.text ∙ ap (kept_within limit) (front_is it.bytes.items it.next end is)) (ap (λ (n : ℕ). length (pending new) + n) room)

  -- ---- the last line

  pub cuts_last : (it full new : Lines) (in_old in_new : I) (count end : ℕ) → HasNoFeed (pending it) → 0 < it.room → count ≡ 0 → Fills i (Ok count) it in_old full in_new → end ≡ length full.bytes.items
      → Cuts limit end end full new → FindsWithin i limit (Ok Last) (left_of i it in_old) (most_of it) new in_new
  cuts_last it full new in_old in_new count end none some no_more fills is cuts =
      let no_piece : length fills.piece ≡ 0 = fills.taken_count ∙ no_more in
      let nothing : fills.piece ≡ [] = empty fills.piece no_piece in
      let same : pending full ≡ pending it = fills.pending ∙ ap (λ (w : Bytes). pending it ++ w) nothing ∙ append-nil (pending it) in
      let whole : full.bytes.items ≡ pending full = sym (ap (λ (n : ℕ). drop n full.bytes.items) fills.begins) in
      let raw : slice_range full.bytes.items full.next end ≡ pending it
      = ap (λ (n : ℕ). take (end - n) (drop n full.bytes.items)) fills.begins ∙ take_all (end - 0) full.bytes.items (omega arith) ∙ whole ∙ same in
      let behind : pending new ≡ []
      = ap (λ (w : Bytes). drop new.next w) cuts.bytes ∙ ap (λ (n : ℕ). drop n full.bytes.items) (cuts.begins ∙ is) ∙ all_dropped full.bytes.items in
      let found = found_last limit (most_of it) it.room (pending it) refl (i.left in_new) (text_of new) (fills.at_end no_more) some none (cuts.text ∙ ap (kept_within limit) raw) in
      subst (λ (left : Option Bytes). FindsWithin i limit (Ok Last) left (most_of it) new in_new) fills.left
      (subst (λ (w : Bytes). FindsWithin i limit (Ok Last) (before w (i.left in_new)) (most_of it) new in_new) (sym same)
      (subst (λ (w : Bytes). Told (λ (input later : Bytes). IsLastWithin limit (most_of it) input (text_of new) × (later ≡ [])) (before (pending it) (i.left in_new)) (before w (i.left in_new))) (sym behind) found))
    where
      all_dropped : (w : Bytes) → drop (length w) w ≡ []
      all_dropped [] = refl
      all_dropped (c ∷ cs) = all_dropped cs

  -- ---- no more may be taken, and a fault

  pub stops_full : (it : Lines) (input : I) → HasNoFeed (pending it) → it.room ≡ 0 → FindsWithin i limit (Ok TooMuch) (left_of i it input) (most_of it) it input
  stops_full it input none full = found_too_much limit (most_of it) it.room (pending it) refl (i.left input) full none

  pub stops_at : (it new : Lines) (in_old in_new : I) (fault : InputFault) → HasNoFeed (pending it) → Fills i (Err fault) it in_old new in_new → FindsWithin i limit (Err fault) (left_of i it in_old) (most_of it) new in_new
  stops_at it new in_old in_new fault none fills =
      let same : pending new ≡ pending it = fills.pending ∙ ap (λ (w : Bytes). pending it ++ w) fills.none ∙ append-nil (pending it) in
      subst (λ (left : Option Bytes). Told IsPart left (i.left in_new)) fills.left
      (subst (λ (w : Bytes). Told IsPart (before w (i.left in_new)) (i.left in_new)) (sym same) (found_part (i.left in_new) (pending it) none))

  -- ---- a piece is taken, and the line goes on

  module _ (it new : Lines) (in_old in_new : I) (count : ℕ) (fills : Fills i (Ok count) it in_old new in_new) where
    pub most_on : most_of new ≡ most_of it
    most_on =
        let all : length (pending new) ≡ length (pending it ++ fills.piece) = ap length fills.pending in
        let both : length (pending it ++ fills.piece) ≡ length (pending it) + length fills.piece = length-append (pending it) fills.piece in
        let room = fills.room in
        omega arith

    -- what was behind the line is in front of the piece
    pub within_on : (searched : ℕ) → searched ≡ length it.bytes.items - it.next → searched ≤ length (pending new)
    within_on searched is =
        let all : length (pending new) ≡ length (pending it ++ fills.piece) = ap length fills.pending in
        let both : length (pending it ++ fills.piece) ≡ length (pending it) + length fills.piece = length-append (pending it) fills.piece in
        let before : length (pending it) ≡ length it.bytes.items - it.next = length-drop it.next it.bytes.items in
        omega arith

    pub none_on : (searched : ℕ) → searched ≡ length it.bytes.items - it.next → HasNoFeed (pending it) → HasNoFeed (take searched (pending new))
    none_on searched is none =
        let before : length (pending it) ≡ length it.bytes.items - it.next = length-drop it.next it.bytes.items in
        subst (λ (w : Bytes). HasNoFeed w)
        (sym (ap (λ (w : Bytes). take searched w) fills.pending ∙ take_at (pending it) fills.piece searched (before ∙ sym is))) none

    pub room_on : 0 < count → new.room < it.room
    room_on some =
        let long : length fills.piece ≡ count = fills.taken_count in
        let room = fills.room in
        omega arith

  -- ---- a line that is too long

  pub passing_here : (it : Lines) (input : I) → HasNoFeed (pending it) → limit + 1 < length (pending it) → Passing i limit it input it input
  passing_here it input none long = record { part = pending it; no_feed = none; long = long; left = refl; count = refl }

  module _ (old mid : Lines) (in_old in_mid : I) (passing : Passing i limit old in_old mid in_mid) where
    pub passing_still : (new : Lines) → new.room ≡ mid.room → Passing i limit old in_old new in_mid
    passing_still new same = record {
      part = passing.part;
      no_feed = passing.no_feed;
      long = passing.long;
      left = passing.left;
      count = let count = passing.count in omega arith;
    }

    pub passes_full : (new : Lines) → mid.room ≡ 0 → FindsWithin i limit (Ok TooMuch) (left_of i old in_old) (most_of old) new in_mid
    passes_full new full =
        subst (λ (left : Option Bytes). FindsWithin i limit (Ok TooMuch) left (most_of old) new in_mid) (sym passing.left)
        (found_too_much limit (most_of old) mid.room passing.part passing.count (i.left in_mid) full passing.no_feed)

    module _ (none : pending mid ≡ []) where
      module _ (full : Lines) (in_new : I) (count : ℕ) (fills : Fills i (Ok count) mid in_mid full in_new) where
        piece_is : pending full ≡ fills.piece
        piece_is = fills.pending ∙ ap (λ (w : Bytes). w ++ fills.piece) none

        left_is : i.left in_mid ≡ before fills.piece (i.left in_new)
        left_is =
            sym (before_none (i.left in_mid)) ∙ ap (λ (w : Bytes). before w (i.left in_mid)) (sym none) ∙ sym fills.left
            ∙ ap (λ (w : Bytes). before w (i.left in_new)) piece_is

        left_on : left_of i old in_old ≡ before (passing.part ++ fills.piece) (i.left in_new)
        left_on = passing.left ∙ ap (before passing.part) left_is ∙ before_both passing.part fills.piece (i.left in_new)

        count_on : most_of old ≡ length (passing.part ++ fills.piece) + full.room
        count_on =
            let both : length (passing.part ++ fills.piece) ≡ length passing.part + length fills.piece = length-append passing.part fills.piece in
            let count = passing.count in
            let room = fills.room in
            omega arith

        -- the piece has no line feed
        pub passing_on : HasNoFeed (pending full) → Passing i limit old in_old full in_new
        passing_on no_feed =
            let both : length (passing.part ++ fills.piece) ≡ length passing.part + length fills.piece = length-append passing.part fills.piece in
            let long = passing.long in
            record {
              part = passing.part ++ fills.piece;
              no_feed = All-append (λ c. is_feed c ≡ false) passing.part fills.piece passing.no_feed (subst (λ (w : Bytes). HasNoFeed w) piece_is no_feed);
              long = omega arith;
              left = left_on;
              count = count_on;
            }

        -- it has one, at this place
        pub passes_line : (end : ℕ) (text : Option Bytes) → end ≡ full.next + position_or_len is_feed (pending full) → end < length full.bytes.items → text ≡ None
            → Told (λ (input later : Bytes). IsLineWithin limit (most_of old) input text (length (drop (end + 1) full.bytes.items) + full.room) later) (left_of i old in_old)
            (before (drop (end + 1) full.bytes.items) (i.left in_new))
        passes_line end text is within none_kept =
            let begins = fills.begins in
            let count : length (pending full) ≡ length full.bytes.items - full.next = length-drop full.next full.bytes.items in
            let inside : position_or_len is_feed (pending full) < length (pending full) = omega arith in
            let split : pending full ≡ take (position_or_len is_feed (pending full)) (pending full) ++ 0x0a ∷ drop (end + 1) full.bytes.items
            = split_at_feed (pending full) (position_or_len is_feed (pending full)) refl inside
            ∙ ap (λ (w : Bytes). take (position_or_len is_feed (pending full)) (pending full) ++ 0x0a ∷ w) (sym (rest_is full.bytes.items full.next end is)) in
            let whole : passing.part ++ fills.piece ≡ (passing.part ++ take (position_or_len is_feed (pending full)) (pending full)) ++ 0x0a ∷ drop (end + 1) full.bytes.items
            = ap (λ (w : Bytes). passing.part ++ w) (sym piece_is ∙ split)
            ∙ sym (append_assoc passing.part (take (position_or_len is_feed (pending full)) (pending full)) (0x0a ∷ drop (end + 1) full.bytes.items)) in
            let both : length (passing.part ++ take (position_or_len is_feed (pending full)) (pending full))
            ≡ length passing.part + length (take (position_or_len is_feed (pending full)) (pending full))
            = length-append passing.part (take (position_or_len is_feed (pending full)) (pending full)) in
            let long = passing.long in
            subst (λ (left : Option Bytes). Told (λ (input later : Bytes). IsLineWithin limit (most_of old) input text (length (drop (end + 1) full.bytes.items) + full.room) later) left
            (before (drop (end + 1) full.bytes.items) (i.left in_new))) (sym left_on)
            (found_line limit (most_of old) full.room (passing.part ++ fills.piece) count_on (i.left in_new) (passing.part ++ take (position_or_len is_feed (pending full)) (pending full))
            (drop (end + 1) full.bytes.items) text (length (drop (end + 1) full.bytes.items) + full.room) whole
            (All-append (λ c. is_feed c ≡ false) passing.part (take (position_or_len is_feed (pending full)) (pending full)) passing.no_feed (none_before (pending full)))
            (none_kept ∙ sym (kept_none limit (passing.part ++ take (position_or_len is_feed (pending full)) (pending full)) (omega arith)))
            refl)

      pub passes_last : (full : Lines) (in_new : I) (count : ℕ) → Fills i (Ok count) mid in_mid full in_new → count ≡ 0 → 0 < mid.room → mid.kept ≡ false
          → FindsWithin i limit (Ok Last) (left_of i old in_old) (most_of old) full in_new
      passes_last full in_new count fills no_more some not_kept =
          let no_piece : length fills.piece ≡ 0 = fills.taken_count ∙ no_more in
          let nothing : fills.piece ≡ [] = empty fills.piece no_piece in
          let same : left_of i old in_old ≡ before passing.part (i.left in_new)
          = left_on full in_new count fills ∙ ap (λ (w : Bytes). before (passing.part ++ w) (i.left in_new)) nothing
          ∙ ap (λ (w : Bytes). before w (i.left in_new)) (append-nil passing.part) in
          let behind : pending full ≡ [] = piece_is full in_new count fills ∙ nothing in
          let text : text_of full ≡ None = unkept full (fills.kept ∙ not_kept) in
          let long = passing.long in
          let found = found_last limit (most_of old) mid.room passing.part passing.count (i.left in_new) (text_of full) (fills.at_end no_more) some passing.no_feed
          (text ∙ sym (kept_none limit passing.part long)) in
          subst (λ (left : Option Bytes). FindsWithin i limit (Ok Last) left (most_of old) full in_new) (sym same)
          (subst (λ (w : Bytes). Told (λ (input later : Bytes). IsLastWithin limit (most_of old) input (text_of full) × (later ≡ [])) (before passing.part (i.left in_new)) (before w (i.left in_new))) (sym behind) found)

      pub passes_fault : (new : Lines) (in_new : I) (fault : InputFault) → Fills i (Err fault) mid in_mid new in_new → FindsWithin i limit (Err fault) (left_of i old in_old) (most_of old) new in_new
      passes_fault new in_new fault fills =
          let nothing : pending new ≡ [] = fills.pending ∙ ap (λ (w : Bytes). w ++ fills.piece) none ∙ fills.none in
          let same : i.left in_mid ≡ i.left in_new
          = sym (before_none (i.left in_mid)) ∙ ap (λ (w : Bytes). before w (i.left in_mid)) (sym none) ∙ sym fills.left
          ∙ ap (λ (w : Bytes). before w (i.left in_new)) nothing ∙ before_none (i.left in_new) in
          subst (λ (left : Option Bytes). Told IsPart left (i.left in_new)) (sym (passing.left ∙ ap (before passing.part) same)) (found_part (i.left in_new) passing.part passing.no_feed)
