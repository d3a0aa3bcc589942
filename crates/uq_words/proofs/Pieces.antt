-- Lines in the pieces that were taken of a source.
use Rattle.std.proofs.Common.{◌≡◌, ℕ, ◌+◌, ◌-◌, ◌<◌, ◌≤◌, inl, inr, Bool, true, ltb, eqb, cond, [], ◌∷◌, ◌++◌, length, Option, Some, None, Result, Ok, Err, refl, sym, ap, subst, ◌∙◌, append_assoc, append-nil, length-append, arith}
use Rattle.std.proofs.lemmas.Bool.{ne_eqb}
use Rattle.std.specs.Io.KnownBytes.{IsAtEnd}
use Rattle.std.specs.Option.{ForSome, option_map}
use Rattle.uq_facts.specs.Causes.{HasCauseAt}
use Rattle.uq_outside.specs.Stops.{Told}
use Rattle.uq_outside.specs.declared.source.Source.{Ghosts}
use Rattle.uq_value.specs.Data.{Bytes}
use Rattle.uq_words.specs.Lines.{HasNoFeed, IsLastWithin, IsLineWithin, IsPart, IsTooMuch, kept_within, without_return}
use Rattle.uq_words.specs.Taking.{Fills, Going, IsNotEnded, Takes, Took, room_of}
use Rattle.uq_words.specs.declared.error.InputFault.{InputFault}
use Rattle.uq_words.specs.declared.error.InputFault.TheVariants.{Source}
use Rattle.uq_words.specs.declared.lines.Lines.{Lines}
use Rattle.uq_words.specs.declared.lines.Step.{Step}
use Rattle.uq_words.specs.declared.lines.Step.TheVariants.{Line, Last, TooMuch}
use Rattle.uq_words.proofs.Cutting.{return_one}

-- ---- told

-- bytes in front of what is left, where that is told
abbrev pub before : Bytes → Option Bytes → Option Bytes
before bytes left = option_map (λ rest. bytes ++ rest) left

pub before_none : (left : Option Bytes) → before [] left ≡ left
before_none None = refl
before_none (Some rest) = refl

pub before_both : (xs ys : Bytes) (left : Option Bytes) → before xs (before ys left) ≡ before (xs ++ ys) left
before_both xs ys None = refl
before_both xs ys (Some rest) = ap (λ (w : Bytes). Some w) (sym (append_assoc xs ys rest))

module _ (limit most room : ℕ) (front : Bytes) (counts : most ≡ length front + room) where
  pub found_line : (left : Option Bytes) (raw behind : Bytes) (text : Option Bytes) (most_behind : ℕ) → front ≡ raw ++ 0x0a ∷ behind → HasNoFeed raw → text ≡ kept_within limit raw → most_behind ≡ length behind + room
      → Told (λ input later. IsLineWithin limit most input text most_behind later) (before front left) (before behind left)
  found_line None raw behind text most_behind split none is counts_behind = tt
  found_line (Some rest) raw behind text most_behind split none is counts_behind =
      let whole : length front ≡ length (raw ++ 0x0a ∷ behind) = ap length split in
      let both : length (raw ++ 0x0a ∷ behind) ≡ length raw + length (0x0a ∷ behind) = length-append raw (0x0a ∷ behind) in
      record {
        raw = raw;
        no_feed = none;
        split = ap (λ (w : Bytes). w ++ rest) split ∙ append_assoc raw (0x0a ∷ behind) rest;
        count = omega arith;
        kept_text = is;
      }

  pub found_last : (left : Option Bytes) (text : Option Bytes) → IsAtEnd left → 0 < room → HasNoFeed front → text ≡ kept_within limit front
      → Told (λ input later. IsLastWithin limit most input text × (later ≡ [])) (before front left) (before [] left)
  found_last None text ends some none is = tt
  found_last (Some rest) text ends some none is =
      let all : front ++ rest ≡ front = ap (λ (w : Bytes). front ++ w) ends ∙ append-nil front in
      let count : length (front ++ rest) ≡ length front = ap length all in (
        record {
          no_feed = subst (λ (w : Bytes). HasNoFeed w) (sym all) none;
          few = omega arith;
          kept_text = is ∙ ap (kept_within limit) (sym all);
        },
        ends,
      )

  pub found_too_much : (left : Option Bytes) → room ≡ 0 → HasNoFeed front → ForSome (before front left) (λ input. IsTooMuch most input)
  found_too_much None no_room none = λ input is. absurd (cc)
  found_too_much (Some rest) no_room none = λ input is.
      let same : front ++ rest ≡ input = cc in
      record { part = front; rest = rest; no_feed = none; split = sym same; count = omega arith }

pub found_part : (left : Option Bytes) (front : Bytes) → HasNoFeed front → Told IsPart (before front left) left
found_part None front none = tt
found_part (Some rest) front none = record { part = front; no_feed = none; split = refl }

-- a line that is too long has no text
pub kept_none : (limit : ℕ) (raw : Bytes) → limit + 1 < length raw → kept_within limit raw ≡ None
kept_none limit raw long =
    let one = return_one raw in
    let above : ltb limit (length (without_return raw)) ≡ true = grind arith in
    ap (λ (b : Bool). cond b None (Some (without_return raw))) above

-- ---- told or not

pub not_zero : (n : ℕ) → 0 < n → n ≡ 0 → ⊥
not_zero n some is = omega (arith, some, is)

abbrev fails_step : InputFault → Result Step InputFault
fails_step fault = Err fault

abbrev pub fails_count : InputFault → Result ℕ InputFault
fails_count fault = Err fault

pub took_both : (n m k before mid now : ℕ) → k ≡ n + m → Took n before mid → Took m mid now → Took k before now
took_both n m k before mid now is (inl (none, same)) (inl (none', same')) = inl (omega arith, same' ∙ same)
took_both n m k before mid now is (inl (none, same)) (inr next) = inr (omega arith)
took_both n m k before mid now is (inr first) (inl (none', same')) = inr (omega arith)
took_both n m k before mid now is (inr first) (inr next) = inr (omega arith)

module _ {I : Type 0} (i : Ghosts I) where
  pub going_here : (it : Lines) (input : I) → Going i it input it input
  going_here it input = record { faults = refl; room = omega arith; taken = inl (omega arith, refl); fresh = inl (refl, refl) }

  module _ (old : Lines) (in_old : I) (mid : Lines) (in_mid : I) (going : Going i old in_old mid in_mid) where
    -- one more piece
    pub going_on : (new : Lines) (in_new : I) (count : ℕ) → Fills i (Ok count) mid in_mid new in_new → 0 < count → Going i old in_old new in_new
    going_on new in_new count fills some =
        let quiet = fills.cause.quiet (λ is. cc) in
        let room = going.room in
        let less = fills.room in
        let least : room_of new ≤ room_of old = omega arith in
        let sum : room_of old - room_of new ≡ (room_of old - room_of mid) + length fills.piece = omega arith in
        record {
          faults = quiet ∙ going.faults;
          room = least;
          taken = took_both _ _ _ _ _ _ sum going.taken fills.taken;
          fresh = inr (fills.ended ∙ ne_eqb count 0 (not_zero count some));
        }

    -- what a step from there on takes, it takes from the start
    pub takes_on : (result : Result Step InputFault) (new : Lines) (in_new : I) → Takes i result mid in_mid new in_new → Takes i result old in_old new in_new
    takes_on result new in_new takes =
        let room = going.room in
        let less = takes.room in
        let sum : room_of old - room_of new ≡ (room_of old - room_of mid) + (room_of mid - room_of new) = omega arith in
        record {
          cause = subst (λ (n : ℕ). HasCauseAt Source n (i.faults in_new) result) going.faults takes.cause;
          room = omega arith;
          taken = took_both _ _ _ _ _ _ sum going.taken takes.taken;
          too_much = takes.too_much;
          last = takes.last;
          not_last = λ how. fresh_on (takes.not_last how);
        }
      where
        fresh_on : IsNotEnded i mid in_mid new in_new → IsNotEnded i old in_old new in_new
        fresh_on (inr no_end) = inr no_end
        fresh_on (inl same) = elim going.fresh [ inl first ↦ inl (same.0 ∙ first.0, same.1 ∙ first.1) | inr no_end ↦ inr (ap i.ended same.1 ∙ no_end) ]

    -- no more was taken, and as much may be
    pub going_still : (new : Lines) → new.room ≡ mid.room → Going i old in_old new in_mid
    going_still new same =
        let room = going.room in
        record {
          faults = going.faults;
          room = omega arith;
          taken = subst (λ (n : ℕ). Took (room_of old - n) (i.taken in_old) (i.taken in_mid)) (sym same) going.taken;
          fresh = elim going.fresh [ inl first ↦ inl (same ∙ first.0, first.1) | inr no_end ↦ inr no_end ];
        }

  -- ---- what the last piece of a step takes

  pub takes_line : (it new : Lines) (input : I) → new.room ≡ it.room → Takes i (Ok Line) it input new input
  takes_line it new input same = record {
    cause = record { later = omega arith; failed = λ is. absurd (cc); quiet = λ other. refl };
    room = omega arith;
    taken = inl (omega arith, refl);
    too_much = λ is. absurd (cc);
    last = λ is. absurd (cc);
    not_last = λ how. inl (same, refl);
  }

  pub takes_full : (it new : Lines) (input : I) → new.room ≡ it.room → it.room ≡ 0 → Takes i (Ok TooMuch) it input new input
  takes_full it new input same full = record {
    cause = record { later = omega arith; failed = λ is. absurd (cc); quiet = λ other. refl };
    room = omega arith;
    taken = inl (omega arith, refl);
    too_much = λ is. same ∙ full;
    last = λ is. absurd (cc);
    not_last = λ how. inl (same, refl);
  }

  pub takes_last : (it full new : Lines) (in_old in_new : I) (count : ℕ) → Fills i (Ok count) it in_old full in_new → count ≡ 0 → new.room ≡ full.room → Takes i (Ok Last) it in_old new in_new
  takes_last it full new in_old in_new count fills no_more same =
      let less = fills.room in
      let quiet = fills.cause.quiet (λ is. cc) in
      let sum : room_of it - room_of new ≡ length fills.piece = omega arith in
      record {
        cause = record { later = fills.cause.later; failed = λ is. absurd (cc); quiet = λ other. quiet };
        room = omega arith;
        taken = subst (λ (n : ℕ). Took n (i.taken in_old) (i.taken in_new)) (sym sum) fills.taken;
        too_much = λ is. absurd (cc);
        last = λ is. fills.ended ∙ ap (λ (n : ℕ). eqb n 0) no_more;
        not_last = λ how. elim how [ inl is ↦ absurd (cc) | inr is ↦ absurd (cc) ];
      }

  pub takes_fault : (it new : Lines) (in_old in_new : I) (fault : InputFault) → Fills i (Err fault) it in_old new in_new → Takes i (Err fault) it in_old new in_new
  takes_fault it new in_old in_new fault fills =
      let less = fills.room in
      let sum : room_of it - room_of new ≡ length fills.piece = omega arith in
      record {
        cause = record {
          later = fills.cause.later;
          failed = λ is. fills.cause.failed (same_fault is);
          quiet = λ other. fills.cause.quiet (λ is. other (fault_same is));
        };
        room = omega arith;
        taken = subst (λ (n : ℕ). Took n (i.taken in_old) (i.taken in_new)) (sym sum) fills.taken;
        too_much = λ is. absurd (cc);
        last = λ is. absurd (cc);
        not_last = λ how. elim how [ inl is ↦ absurd (cc) | inr is ↦ absurd (cc) ];
      }
    where
      same_fault : fails_step fault ≡ fails_step Source → fails_count fault ≡ fails_count Source
      same_fault is = cc

      fault_same : fails_count fault ≡ fails_count Source → fails_step fault ≡ fails_step Source
      fault_same is = cc
