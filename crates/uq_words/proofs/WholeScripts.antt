-- An input that is one script, in the pieces that were taken of a source.
use Rattle.std.proofs.Common.{◌≡◌, ◌⊎◌, ℕ, ◌+◌, ◌<◌, ◌≤◌, inl, inr, min, Bool, true, false, ltb, eqb, cond, [], ◌++◌, length, take, drop, Option, Some, None, Ok, Err, refl, sym, ap, subst, ◌∙◌, append-nil, length-append, arith}
use Rattle.std.proofs.lemmas.Bool.{ne_eqb}
use Rattle.std.proofs.lemmas.List.{length-take, take_all}
use Rattle.std.specs.Io.KnownBytes.{IsAtEnd}
use Rattle.uq_outside.specs.Stops.{Told}
use Rattle.uq_outside.specs.declared.source.Source.{Ghosts}
use Rattle.uq_value.specs.Data.{Bytes}
use Rattle.uq_words.specs.Blocks.{Complete, IsScriptPart, IsWhole, Overlong, Unended, longest_script, whole}
use Rattle.uq_words.specs.Taking.{Fills, Took, left_of, most_of, pending}
use Rattle.uq_words.specs.TakingBlocks.{ShowsScript, TakesScript, whole_of}
use Rattle.uq_words.specs.declared.error.InputFault.{InputFault}
use Rattle.uq_words.specs.declared.lines.Lines.{Lines}
use Rattle.uq_words.specs.declared.script.Script.{Script}
use Rattle.uq_words.proofs.Pieces.{before, not_zero, took_both}

-- ---- what an input is

module _ (most : ℕ) (input : Bytes) where
  whole_complete : length input ≤ longest_script → length input < most → whole most input ≡ Complete input
  whole_complete short few =
      let all : take most input ≡ input = take_all most input (omega arith) in
      let less : ltb longest_script (length (take most input)) ≡ false = let same : length (take most input) ≡ length input = ap length all in grind arith in
      let ends : ltb (length input) most ≡ true = grind arith in
      ap (λ (b : Bool). cond b Overlong (cond (ltb (length input) most) (Complete input) Unended)) less
      ∙ ap (λ (b : Bool). cond b (Complete input) Unended) ends

  whole_unended : most ≤ longest_script → most ≤ length input → whole most input ≡ Unended
  whole_unended short many =
      let count : length (take most input) ≡ min most (length input) = length-take most input in
      let less : ltb longest_script (length (take most input)) ≡ false = grind arith in
      let goes_on : ltb (length input) most ≡ false = grind arith in
      ap (λ (b : Bool). cond b Overlong (cond (ltb (length input) most) (Complete input) Unended)) less
      ∙ ap (λ (b : Bool). cond b (Complete input) Unended) goes_on

  whole_overlong : longest_script < most → longest_script < length input → whole most input ≡ Overlong
  whole_overlong long many =
      let count : length (take most input) ≡ min most (length input) = length-take most input in
      let more : ltb longest_script (length (take most input)) ≡ true = grind arith in
      ap (λ (b : Bool). cond b Overlong (cond (ltb (length input) most) (Complete input) Unended)) more

-- ---- told

module _ (most : ℕ) (front : Bytes) where
  told_complete : length front ≤ longest_script → length front < most → (left : Option Bytes) → IsAtEnd left → Told (λ x y. IsWhole most x (Complete front) y) (before front left) left
  told_complete short few None ends = tt
  told_complete short few (Some rest) ends =
      let same : front ++ rest ≡ front = ap (λ (w : Bytes). front ++ w) ends ∙ append-nil front in
      record {
        is = ap (whole most) same ∙ whole_complete most front short few;
        taken = front;
        split = refl;
        count = refl;
      }

  told_unended : most ≤ longest_script → length front ≡ most → (left : Option Bytes) → Told (λ x y. IsWhole most x Unended y) (before front left) left
  told_unended short all None = tt
  told_unended short all (Some rest) =
      let both : length (front ++ rest) ≡ length front + length rest = length-append front rest in
      record {
        is = whole_unended most (front ++ rest) short (omega arith);
        taken = front;
        split = refl;
        count = all;
      }

  told_overlong : longest_script < most → length front ≡ longest_script + 1 → (left : Option Bytes) → Told (λ x y. IsWhole most x Overlong y) (before front left) left
  told_overlong long all None = tt
  told_overlong long all (Some rest) =
      let both : length (front ++ rest) ≡ length front + length rest = length-append front rest in
      record {
        is = whole_overlong most (front ++ rest) long (omega arith);
        taken = front;
        split = refl;
        count = all;
      }

  told_part : length front ≤ longest_script → length front < most → (left : Option Bytes) → Told (IsScriptPart most) (before front left) left
  told_part short few None = tt
  told_part short few (Some rest) = record { taken = front; split = refl; short = short; few = few }

-- ---- so far

module _ {I : Type 0} (i : Ghosts I) where
  -- What was taken so far, of which no take failed or told the end.
  pub record Reading (most : ℕ) (in_old : I) (it : Lines) (in_now : I) : Type 0 where
    pub left : left_of i it in_now ≡ i.left in_old
    pub count : most_of it ≡ min most (longest_script + 1)
    pub faults : i.faults in_now ≡ i.faults in_old
    pub taken : Took (length (pending it)) (i.taken in_old) (i.taken in_now)
    pub fresh : (length (pending it) ≡ 0) ⊎ (i.ended in_now ≡ false)

  none_before : (left : Option Bytes) (bytes : Bytes) → bytes ≡ [] → before bytes left ≡ left
  none_before None bytes is = refl
  none_before (Some rest) bytes is = ap (λ (w : Bytes). Some (w ++ rest)) is

  pub reading_none : (most : ℕ) (it : Lines) (input : I) → pending it ≡ [] → it.room ≡ min most (longest_script + 1) → Reading most input it input
  reading_none most it input none room =
      let count : length (pending it) ≡ 0 = ap length none in
      record {
        left = none_before (i.left input) (pending it) none;
        count = omega arith;
        faults = refl;
        taken = inl (count, refl);
        fresh = inl count;
      }

  module _ (most : ℕ) (in_old : I) (it : Lines) (in_mid : I) (reading : Reading most in_old it in_mid) where
    -- a piece more
    module _ (new : Lines) (in_new : I) (count : ℕ) (fills : Fills i (Ok count) it in_mid new in_new) where
      longer : length (pending new) ≡ length (pending it) + length fills.piece
      longer = ap length fills.pending ∙ length-append (pending it) fills.piece

      pub reading_on : 0 < count → Reading most in_old new in_new
      reading_on some =
          let quiet = fills.cause.quiet (λ is. cc) in
          let all = reading.count in
          let room = fills.room in
          let long = longer in
          record {
            left = fills.left ∙ reading.left;
            count = omega arith;
            faults = quiet ∙ reading.faults;
            taken = took_both _ _ _ _ _ _ long reading.taken fills.taken;
            fresh = inr (fills.ended ∙ ne_eqb count 0 (not_zero count some));
          }

      -- the end was told
      module _ (some : 0 < it.room) (no_more : count ≡ 0) where
        same : new.bytes.items ≡ pending new
        same = sym (ap (λ (n : ℕ). drop n new.bytes.items) fills.begins)

        no_longer : length new.bytes.items ≡ length (pending it)
        no_longer =
            let long = longer in
            let none : length fills.piece ≡ 0 = fills.taken_count ∙ no_more in
            let all : length new.bytes.items ≡ length (pending new) = ap length same in
            omega arith

        pub finds_complete : Told (λ x y. IsWhole most x (Complete new.bytes.items) y) (i.left in_old) (i.left in_new)
        finds_complete =
            let all = reading.count in
            let long = no_longer in
            subst (λ (left : Option Bytes). Told (λ x y. IsWhole most x (Complete new.bytes.items) y) left (i.left in_new))
            (ap (λ (w : Bytes). before w (i.left in_new)) same ∙ fills.left ∙ reading.left)
            (told_complete most new.bytes.items (omega arith) (omega arith) (i.left in_new) (fills.at_end no_more))

        pub shows_complete : ShowsScript i most in_old in_new (Complete new.bytes.items)
        shows_complete =
            let all = reading.count in
            let long = no_longer in
            let none : length fills.piece ≡ 0 = fills.taken_count ∙ no_more in
            record {
              within = omega arith;
              short = omega arith;
              taken = took_both _ _ _ _ _ _ (let sum : length new.bytes.items ≡ length (pending it) + length fills.piece = omega arith in sum) reading.taken fills.taken;
              ended = fills.ended ∙ ap (λ (n : ℕ). eqb n 0) no_more;
              fits = λ text is. let same_text : new.bytes.items ≡ text = cc in let count' : length new.bytes.items ≡ length text = ap length same_text in omega arith;
            }

        pub takes_complete : (read : Script) → whole_of read ≡ Complete new.bytes.items → TakesScript i (Ok read) most in_old in_new
        takes_complete read is = record {
          cause = record {
            later = let quiet = fills.cause.quiet (λ not. cc) in let faults = reading.faults in omega arith;
            failed = λ not. absurd (cc);
            quiet = λ other. fills.cause.quiet (λ not. cc) ∙ reading.faults;
          };
          shows = subst (ShowsScript i most in_old in_new) (sym is) shows_complete;
        }

    -- no more is taken
    module _ (least : 1 ≤ most) (full : it.room ≡ 0) where
      not_ended : i.ended in_mid ≡ false
      not_ended =
          let all = reading.count in
          elim reading.fresh [ inl none ↦ absurd (omega arith) | inr no_end ↦ no_end ]

      pub finds_unended : most ≤ longest_script → Told (λ x y. IsWhole most x Unended y) (i.left in_old) (i.left in_mid)
      finds_unended short =
          let all = reading.count in
          subst (λ (left : Option Bytes). Told (λ x y. IsWhole most x Unended y) left (i.left in_mid)) reading.left (told_unended most (pending it) short (omega arith) (i.left in_mid))

      pub shows_unended : most ≤ longest_script → ShowsScript i most in_old in_mid Unended
      shows_unended short =
          let all = reading.count in
          record {
            within = omega arith;
            short = omega arith;
            taken = subst (λ (n : ℕ). Took n (i.taken in_old) (i.taken in_mid)) (let sum : length (pending it) ≡ most = omega arith in sum) reading.taken;
            ended = not_ended;
            fits = λ text is. absurd (cc);
          }

      pub finds_overlong : longest_script < most → Told (λ x y. IsWhole most x Overlong y) (i.left in_old) (i.left in_mid)
      finds_overlong long =
          let all = reading.count in
          subst (λ (left : Option Bytes). Told (λ x y. IsWhole most x Overlong y) left (i.left in_mid)) reading.left (told_overlong most (pending it) long (omega arith) (i.left in_mid))

      pub shows_overlong : longest_script < most → ShowsScript i most in_old in_mid Overlong
      shows_overlong long =
          let all = reading.count in
          record {
            within = omega arith;
            short = omega arith;
            taken = subst (λ (n : ℕ). Took n (i.taken in_old) (i.taken in_mid)) (let sum : length (pending it) ≡ longest_script + 1 = omega arith in sum) reading.taken;
            ended = not_ended;
            fits = λ text is. absurd (cc);
          }

    -- a take failed
    pub finds_fault : (new : Lines) (in_new : I) (fault : InputFault) → 0 < it.room → Fills i (Err fault) it in_mid new in_new → Told (IsScriptPart most) (i.left in_old) (i.left in_new)
    finds_fault new in_new fault some fills =
        let all = reading.count in
        let same : pending new ≡ pending it = fills.pending ∙ ap (λ (w : Bytes). pending it ++ w) fills.none ∙ append-nil (pending it) in
        let long : length (pending new) ≡ length (pending it) = ap length same in
        subst (λ (left : Option Bytes). Told (IsScriptPart most) left (i.left in_new)) (fills.left ∙ reading.left)
        (told_part most (pending new) (omega arith) (omega arith) (i.left in_new))
