-- A piece taken from a source behind what there is.
use Rattle.std.proofs.Common.{◌≡◌, ℕ, ◌+◌, ◌-◌, ◌^◌, ◌<◌, ◌≤◌, inl, inr, min, Bool, true, false, cond, eqb, [], ◌++◌, length, take, drop, replicate, Option, Some, None, Result, Ok, Err, refl, sym, ap, ◌∙◌, append_assoc, append-nil, length-drop, arith}
use Rattle.std.proofs.lemmas.Bool.{ne_eqb}
use Rattle.std.proofs.lemmas.List.{length-take, length-take-le, take-append-le, take-take, take_all, take_at}
use Rattle.std.proofs.Math.Seq.{take-append-add}
use Rattle.std.specs.Result.{is_err, is_ok}
use Rattle.uq_facts.specs.Causes.{HasCause, HasCauseAt}
use Rattle.uq_outside.specs.Streams.{TakeMoves, end_told, took}
use Rattle.uq_outside.specs.Stops.{Told}
use Rattle.uq_outside.specs.declared.fault.ReadFault.{ReadFault}
use Rattle.uq_outside.specs.declared.source.Source.{Ghosts}
use Rattle.uq_value.specs.Data.{Bytes}
use Rattle.uq_words.specs.Taking.{Fills, pending}
use Rattle.uq_words.specs.declared.error.InputFault.{InputFault}
use Rattle.uq_words.specs.declared.error.InputFault.TheVariants.{Memory, Source}
use Rattle.uq_words.specs.declared.lines.Lines.{Lines}
use Rattle.uq_words.proofs.Pieces.{before, fails_count, not_zero}

abbrev gives_count : ℕ → Result ℕ ReadFault
gives_count count = Ok count

-- bytes that went from the front of what is left to the end of what is in front of it
moved : (front piece : Bytes) (old new : Option Bytes) → Told (λ before behind. before ≡ piece ++ behind) old new → before (front ++ piece) new ≡ before front old
moved front piece None None told = refl
moved front piece None (Some rest) told = absurd told
moved front piece (Some all) None told = absurd told
moved front piece (Some all) (Some rest) told = ap (λ (w : Bytes). Some w) (append_assoc front piece rest ∙ ap (λ (w : Bytes). front ++ w) (sym told))

abbrev gives_fault : ReadFault → Result ℕ ReadFault
gives_fault fault = Err fault

-- what a call that may want memory leaves, where it did not and where it did
module _ {T E X : Type 0} where
  pub enlarged : (result : Result T E) (failed : Bool) (now larger same : X) → now ≡ cond (is_ok result) larger same → failed ≡ is_err result → failed ≡ false → now ≡ larger
  enlarged (Ok done) failed now larger same is told well = is
  enlarged (Err fault) failed now larger same is told well = absurd (let both : true ≡ false = sym told ∙ well in cc)

  pub unenlarged : (result : Result T E) (failed : Bool) (now larger same : X) → now ≡ cond (is_ok result) larger same → failed ≡ is_err result → failed ≡ true → now ≡ same
  unenlarged (Ok done) failed now larger same is told well = absurd (let both : false ≡ true = sym told ∙ well in cc)
  unenlarged (Err fault) failed now larger same is told well = is

-- room was made behind what there was
pub front_stays : (front old full : Bytes) (held count more : ℕ) → old ≡ front → held ≡ length front → held ≤ count → full ≡ take count old ++ replicate more 0 → take held full ≡ front
front_stays front old full held count more same is few made =
    ap (take held) (made ∙ ap (λ (w : Bytes). take count w ++ replicate more 0) same ∙ ap (λ (w : Bytes). w ++ replicate more 0) (take_all count front (omega arith)))
    ∙ take_at front (replicate more 0) held (sym is)

-- and is cut off
pub front_left : (front full back tail : Bytes) (held long : ℕ) → held ≡ length front → take held full ≡ front → held ≤ long → take held (take long ((take held full ++ back) ++ tail)) ≡ front
front_left front full back tail held long is whole fits =
    take-take held long ((take held full ++ back) ++ tail) fits
    ∙ ap (λ (w : Bytes). take held ((w ++ back) ++ tail)) whole
    ∙ ap (take held) (append_assoc front back tail)
    ∙ take_at front (back ++ tail) held (sym is)

pub memory_cause : (faults : ℕ) → HasCauseAt Source faults faults (fails_count Memory)
memory_cause faults = record { later = omega arith; failed = λ is. absurd (cc); quiet = λ other. refl }

pub source_cause : (before now : ℕ) (fault : ReadFault) → HasCause before now (gives_fault fault) → HasCauseAt Source before now (fails_count Source)
source_cause before now fault cause = record { later = cause.later; failed = λ is. cause.failed; quiet = λ other. absurd (other refl) }

-- the piece stands behind what was there, and what was asked for beyond it is cut off
pub piece_behind : (front full into rest tail : Bytes) (held count long : ℕ) → held ≡ length front → take held full ≡ front → count ≤ length into → held + count ≤ long
    → take (held + count) (take long ((take held full ++ (into ++ rest)) ++ tail)) ≡ front ++ take count into
piece_behind front full into rest tail held count long is whole few fits =
    take-take (held + count) long ((take held full ++ (into ++ rest)) ++ tail) fits
    ∙ ap (λ (w : Bytes). take (held + count) ((w ++ (into ++ rest)) ++ tail)) whole
    ∙ ap (λ (n : ℕ). take (n + count) ((front ++ (into ++ rest)) ++ tail)) is
    ∙ ap (take (length front + count)) (append_assoc front (into ++ rest) tail ∙ ap (λ (w : Bytes). front ++ w) (append_assoc into rest tail))
    ∙ take-append-add front (into ++ (rest ++ tail)) count
    ∙ ap (λ (w : Bytes). front ++ w) (take-append-le count into (rest ++ tail) few)

-- how much room is behind what was there
pub part_long : (full : Bytes) (held : ℕ) → length (take (length full - held) (drop held full)) ≡ length full - held
part_long full held =
    let both : length (take (length full - held) (drop held full)) ≡ min (length full - held) (length (drop held full)) = length-take (length full - held) (drop held full) in
    let behind : length (drop held full) ≡ length full - held = length-drop held full in
    omega arith

module _ {I : Type 0} (i : Ghosts I) (old new : Lines) (in_old in_new : I) (begins : new.next ≡ 0) (kept : new.kept ≡ old.kept) where
  front_is : (bytes : Bytes) → new.bytes.items ≡ bytes → pending new ≡ bytes
  front_is bytes is = ap (λ (n : ℕ). drop n new.bytes.items) begins ∙ is

  -- nothing was taken
  pub fills_none : (fault : InputFault) → new.bytes.items ≡ pending old → new.room ≡ old.room → i.left in_new ≡ i.left in_old → i.taken in_new ≡ i.taken in_old
      → HasCauseAt Source (i.faults in_old) (i.faults in_new) (fails_count fault) → Fills i (Err fault) old in_old new in_new
  fills_none fault bytes room left taken cause = record {
    begins = begins;
    kept = kept;
    piece = [];
    pending = front_is (pending old) bytes ∙ sym (append-nil (pending old));
    taken_count = tt;
    none = refl;
    left = ap (before (pending new)) left ∙ ap (λ (w : Bytes). before w (i.left in_old)) (front_is (pending old) bytes);
    at_end = tt;
    room = omega arith;
    taken = inl (refl, taken);
    ended = tt;
    cause = cause;
  }

  -- so many bytes were taken, into room for some
  pub fills_piece : (count space : ℕ) (into : Bytes) → new.bytes.items ≡ pending old ++ take count into → old.room ≡ new.room + count → count ≤ length into → length into ≡ space → 0 < space
      → TakeMoves (i.left in_old) (i.left in_new) (gives_count count) into → i.taken in_new ≡ took (gives_count count) (i.taken in_old)
      → i.ended in_new ≡ end_told (gives_count count) space (i.ended in_old) → HasCause (i.faults in_old) (i.faults in_new) (gives_count count) → Fills i (Ok count) old in_old new in_new
  fills_piece count space into bytes room few is_space some moves taken ended cause =
      let long : length (take count into) ≡ count = length-take-le count into few in
      record {
        begins = begins;
        kept = kept;
        piece = take count into;
        pending = front_is (pending old ++ take count into) bytes;
        taken_count = long;
        none = tt;
        left = ap (λ (w : Bytes). before w (i.left in_new)) (front_is (pending old ++ take count into) bytes)
            ∙ moved (pending old) (take count into) (i.left in_old) (i.left in_new) moves.0;
        at_end = λ is. moves.1 is (omega (arith, is_space, some));
        room = omega arith;
        taken = inr (taken ∙ ap (λ (n : ℕ). min (i.taken in_old + n) (2 ^ 64 - 1)) (sym long));
        ended = ended ∙ ap (λ (b : Bool). cond b (i.ended in_old) (eqb count 0)) (ne_eqb space 0 (not_zero space some));
        cause = record { later = cause.later; failed = λ is. absurd (cc); quiet = λ other. cause.quiet };
      }
