-- The fault of a call that reads no page.
use Rattle.std.proofs.Common.{◌≡◌, ◌⊎◌, inl, inr, ℕ, Bool, true, Result, Ok, Err, refl, sym, ap, subst, ◌∙◌, arith}
use Rattle.std.specs.Prelude.{IfOk, IsErrAnd, MatchResult}
use Rattle.std.proofs.lemmas.Bool.{false≢true}
use Rattle.uq_page.specs.declared.error.ChainFault.{ChainFault}
use Rattle.uq_page.specs.declared.error.ChainFault.TheVariants.{Corrupt, Failed, Memory, NoPage}
use Rattle.uq_chain.specs.Causes.{HasChainCause}
use Rattle.uq_chain.specs.CauseLaws.{not_err, some_fault}
use Rattle.uq_hash.specs.Causes.{fault_without_room}

at_fault : {A B : Type 0} (fault other : ChainFault) (r : Result B ChainFault) → r ≡ Err fault → r ≡ Err other → ◌≡◌ {A = Result A ChainFault} (Err fault) (Err other)
at_fault fault other r is failed = ap Err (some_fault (sym is ∙ failed))

-- the fault of a call that reads no page, whose causes are causes of this one
pub handed_quiet : {A B : Type 0} (Wrong Short Wrong' Short' : Type 0) (before now : ℕ) (is_sound : Bool) (fault : ChainFault) (r : Result B ChainFault)
    → r ≡ Err fault → now ≡ before → is_sound ≡ true → HasChainCause {T = A} Wrong Short 0 0 true (Err fault) → (Wrong → Wrong') → (Short → Short') → HasChainCause {T = B} Wrong' Short' before now is_sound r
handed_quiet Wrong Short Wrong' Short' before now is_sound fault r is quiet sound cause wrong short = record {
  pages = record {
    later = omega arith;
    failed = λ failed. absurd (false≢true (sym (cause.pages.ended (at_fault fault Failed r is failed))));
    quiet = λ unless. quiet;
    ended = λ failed. absurd (false≢true (sym (cause.pages.ended (at_fault fault Failed r is failed))));
    sound = λ unless. sound;
  };
  corrupt = λ corrupt. wrong (cause.corrupt (at_fault fault Corrupt r is corrupt));
  no_page = λ none. short (cause.no_page (at_fault fault NoPage r is none));
}

-- another fault than `Failed` is no failure further up
pub unless_here : {A B : Type 0} (fault : ChainFault) (r : Result B ChainFault) → r ≡ Err fault → (r ≡ Err Failed → ⊥) → ◌≡◌ {A = Result A ChainFault} (Err fault) (Err Failed) → ⊥
unless_here fault r is unless failed = unless (is ∙ ap Err (some_fault failed))

-- the same of a call whose answer is this one
pub quiet_whole : {A : Type 0} (Wrong Short : Type 0) (before now : ℕ) (is_sound : Bool) (r : Result A ChainFault) → now ≡ before → is_sound ≡ true → HasChainCause {T = A} ⊥ ⊥ 0 0 true r → HasChainCause {T = A} Wrong Short before now is_sound r
quiet_whole Wrong Short before now is_sound r quiet sound cause = record {
  pages = record {
    later = omega arith;
    failed = λ failed. absurd (false≢true (sym (cause.pages.ended failed)));
    quiet = λ unless. quiet;
    ended = λ failed. absurd (false≢true (sym (cause.pages.ended failed)));
    sound = λ unless. sound;
  };
  corrupt = λ corrupt. absurd (cause.corrupt corrupt);
  no_page = λ none. absurd (cause.no_page none);
}

-- a fault where there is no room is `Failed` only where it was, `Corrupt` where it was that or `NoPage`, and never `NoPage`
was_failed : (fault : ChainFault) → fault_without_room fault ≡ Failed → fault ≡ Failed
was_failed Failed is = refl
was_failed Corrupt is = let other : ⊥ = cc in absurd other
was_failed NoPage is = let other : ⊥ = cc in absurd other
was_failed Memory is = let other : ⊥ = cc in absurd other

was_corrupt : (fault : ChainFault) → fault_without_room fault ≡ Corrupt → (fault ≡ Corrupt) ⊎ (fault ≡ NoPage)
was_corrupt Failed is = let other : ⊥ = cc in absurd other
was_corrupt Corrupt is = inl refl
was_corrupt NoPage is = inr refl
was_corrupt Memory is = let other : ⊥ = cc in absurd other

never_no_page : (fault : ChainFault) → fault_without_room fault ≡ NoPage → ⊥
never_no_page Failed is = cc
never_no_page Corrupt is = cc
never_no_page NoPage is = cc
never_no_page Memory is = cc

-- the fault of a call that may have found no page, where that is no fault of its own any more
pub roomy : {A B : Type 0} (Wrong Short : Type 0) (before now : ℕ) (is_sound : Bool) (fault : ChainFault) (r : Result A ChainFault) (s : Result B ChainFault)
    → r ≡ Err fault → s ≡ Err (fault_without_room fault) → HasChainCause {T = A} Wrong Short before now is_sound r → HasChainCause {T = B} (Wrong ⊎ Short) ⊥ before now is_sound s
roomy {A} {B} Wrong Short before now is_sound fault r s is is' cause = record {
  pages = record {
    later = cause.pages.later;
    failed = λ failed. cause.pages.failed (back failed);
    quiet = λ unless. cause.pages.quiet (λ failed. unless (is' ∙ ap (λ f. Err (fault_without_room f)) (some_fault (sym is ∙ failed))));
    ended = λ failed. cause.pages.ended (back failed);
    sound = λ unless. cause.pages.sound (λ failed. unless (is' ∙ ap (λ f. Err (fault_without_room f)) (some_fault (sym is ∙ failed))));
  };
  corrupt = λ corrupt. by_fault (was_corrupt fault (some_fault (sym is' ∙ corrupt)));
  no_page = λ none. never_no_page fault (some_fault (sym is' ∙ none));
}
  where
    back : s ≡ Err Failed → r ≡ Err Failed
    back failed = is ∙ ap Err (was_failed fault (some_fault (sym is' ∙ failed)))

    by_fault : (fault ≡ Corrupt) ⊎ (fault ≡ NoPage) → Wrong ⊎ Short
    by_fault (inl corrupt) = inl (cause.corrupt (is ∙ ap Err corrupt))
    by_fault (inr none) = inr (cause.no_page (is ∙ ap Err none))

-- one answer is another one, where a fault of that is looked at by `without_room`
abbrev pub IsRoomy : {A : Type 0} → Result A ChainFault → Result A ChainFault → Type 0
IsRoomy r s = MatchResult r (λ x. s ≡ Ok x) (λ fault. IsErrAnd s (λ other. other ≡ fault_without_room fault))

pub roomy_whole : {A : Type 0} (Wrong Short : Type 0) (before now : ℕ) (is_sound : Bool) (r s : Result A ChainFault) → IsRoomy r s
    → HasChainCause {T = A} Wrong Short before now is_sound r → HasChainCause {T = A} (Wrong ⊎ Short) ⊥ before now is_sound s
roomy_whole {A} Wrong Short before now is_sound (Ok x) s maps cause =
    subst (λ (t : Result A ChainFault). HasChainCause {T = A} (Wrong ⊎ Short) ⊥ before now is_sound t) (sym maps)
    (record { pages = cause.pages; corrupt = λ corrupt. absurd (not_err x Corrupt corrupt); no_page = λ none. absurd (not_err x NoPage none) })
roomy_whole Wrong Short before now is_sound (Err fault) (Ok x) maps cause = absurd maps
roomy_whole Wrong Short before now is_sound (Err fault) (Err other) maps cause = roomy Wrong Short before now is_sound fault (Err fault) (Err other) refl (ap Err maps) cause

pub roomy_if : {A : Type 0} (P : A → Type 0) (r s : Result A ChainFault) → IsRoomy r s → IfOk r P → IfOk s P
roomy_if {A} P (Ok x) s maps holds = subst (λ (t : Result A ChainFault). IfOk t P) (sym maps) holds
roomy_if P (Err fault) (Ok x) maps holds = absurd maps
roomy_if P (Err fault) (Err other) maps holds = tt

pub roomy_unless : {A : Type 0} (r s : Result A ChainFault) → IsRoomy r s → (s ≡ Err Failed → ⊥) → r ≡ Err Failed → ⊥
roomy_unless (Ok x) s maps unless failed = not_err x Failed failed
roomy_unless (Err fault) (Ok x) maps unless failed = absurd maps
roomy_unless (Err fault) (Err other) maps unless failed = unless (ap Err (maps ∙ ap fault_without_room (some_fault failed)))

pub roomy_ok : {A : Type 0} (r s : Result A ChainFault) (x : A) → IsRoomy r s → s ≡ Ok x → r ≡ Ok x
roomy_ok (Ok y) s x maps is = sym maps ∙ is
roomy_ok (Err fault) (Ok y) x maps is = absurd maps
roomy_ok (Err fault) (Err other) x maps is = absurd (not_err x other (sym is))

pub roomy_err : {A : Type 0} (r s : Result A ChainFault) (other : ChainFault) → IsRoomy r s → s ≡ Err other → (fault : ChainFault) × (r ≡ Err fault) × (other ≡ fault_without_room fault)
roomy_err (Ok x) s other maps is = absurd (not_err x other (sym maps ∙ is))
roomy_err (Err fault) (Ok x) other maps is = absurd maps
roomy_err (Err fault) (Err here) other maps is = (fault, refl, some_fault (sym is) ∙ maps)
