-- The cause of a fault that is handed on.
use Rattle.std.proofs.Common.{◌≡◌, ℕ, Bool, true, Result, Ok, Err, sym, ap, ◌∙◌, arith}
use Rattle.uq_page.specs.declared.error.ChainFault.{ChainFault}
use Rattle.uq_page.specs.declared.error.ChainFault.TheVariants.{Corrupt, Failed, NoPage}
use Rattle.uq_page.specs.Pages.{HasPagesCause}
use Rattle.uq_chain.specs.Causes.{HasChainCause}

-- the fault of an answer, or another one
fault_or : {A : Type 0} → ChainFault → Result A ChainFault → ChainFault
fault_or other (Ok x) = other
fault_or other (Err fault) = fault

same_fault : {A B : Type 0} (fault other : ChainFault) (r : Result B ChainFault) → r ≡ Err fault → r ≡ Err other → ◌≡◌ {A = Result A ChainFault} (Err fault) (Err other)
unfolding fault_or
same_fault fault other r one two = ap Err (ap (fault_or fault) (sym one ∙ two))

back : {A B : Type 0} (fault other : ChainFault) (r : Result B ChainFault) → r ≡ Err fault → ◌≡◌ {A = Result A ChainFault} (Err fault) (Err other) → r ≡ Err other
unfolding fault_or
back fault other r one two = one ∙ ap Err (ap (fault_or fault) two)

pub some_fault : {A : Type 0} {fault other : ChainFault} → ◌≡◌ {A = Result A ChainFault} (Err fault) (Err other) → fault ≡ other
unfolding fault_or
some_fault {fault = fault} same = ap (fault_or fault) same

-- an answer is no fault
pub not_err : {T E : Type 0} (x : T) (e : E) → ◌≡◌ {A = Result T E} (Ok x) (Err e) → ⊥
not_err x e same = cc

-- the pages' fault of an inner call, where the count was as at the beginning
pages_on : {A B : Type 0} (before mid now : ℕ) (is_sound : Bool) (fault : ChainFault) (r : Result B ChainFault)
    → r ≡ Err fault → mid ≡ before → HasPagesCause {T = A} Failed mid now is_sound (Err fault) → HasPagesCause {T = B} Failed before now is_sound r
pages_on before mid now is_sound fault r is earlier cause =
    let later = cause.later in
    record {
      later = omega arith;
      failed = λ failed. let rose = cause.failed (same_fault fault _ r is failed) in omega arith;
      quiet = λ unless. cause.quiet (λ failed. unless (back fault _ r is failed)) ∙ earlier;
      ended = λ failed. cause.ended (same_fault fault _ r is failed);
      sound = λ unless. cause.sound (λ failed. unless (back fault _ r is failed));
    }

-- the fault of an inner call, whose causes are causes of this one
pub handed_on : {A B : Type 0} (Wrong Short Wrong' Short' : Type 0) (before mid now : ℕ) (is_sound : Bool) (fault : ChainFault) (r : Result B ChainFault)
    → r ≡ Err fault → mid ≡ before → HasChainCause {T = A} Wrong Short mid now is_sound (Err fault) → (Wrong → Wrong') → (Short → Short') → HasChainCause {T = B} Wrong' Short' before now is_sound r
handed_on Wrong Short Wrong' Short' before mid now is_sound fault r is earlier cause wrong short = record {
  pages = pages_on before mid now is_sound fault r is earlier cause.pages;
  corrupt = λ corrupt. wrong (cause.corrupt (same_fault fault _ r is corrupt));
  no_page = λ none. short (cause.no_page (same_fault fault _ r is none));
}

-- nothing failed, and the answer is another fault than `Failed`
quiet_pages : {B : Type 0} (before now : ℕ) (is_sound : Bool) (r : Result B ChainFault) → (r ≡ Err Failed → ⊥) → now ≡ before → is_sound ≡ true → HasPagesCause {T = B} Failed before now is_sound r
quiet_pages before now is_sound r unlike quiet sound = record {
  later = omega arith;
  failed = λ failed. absurd (unlike failed);
  quiet = λ unless. quiet;
  ended = λ failed. absurd (unlike failed);
  sound = λ unless. sound;
}

-- `Corrupt`, for its cause
pub corrupted : {B : Type 0} (Wrong Short : Type 0) (before now : ℕ) (is_sound : Bool) (r : Result B ChainFault)
    → r ≡ Err Corrupt → now ≡ before → is_sound ≡ true → Wrong → HasChainCause {T = B} Wrong Short before now is_sound r
corrupted Wrong Short before now is_sound r is quiet sound wrong = record {
  pages = quiet_pages before now is_sound r (λ failed. cc) quiet sound;
  corrupt = λ corrupt. wrong;
  no_page = λ no_page. let other : ⊥ = cc in absurd other;
}

-- `NoPage`, for its cause
pub unfilled : {B : Type 0} (Wrong Short : Type 0) (before now : ℕ) (is_sound : Bool) (r : Result B ChainFault)
    → r ≡ Err NoPage → now ≡ before → is_sound ≡ true → Short → HasChainCause {T = B} Wrong Short before now is_sound r
unfilled Wrong Short before now is_sound r is quiet sound short = record {
  pages = quiet_pages before now is_sound r (λ failed. cc) quiet sound;
  corrupt = λ corrupt. let other : ⊥ = cc in absurd other;
  no_page = λ no_page. short;
}

-- the answer of a later call, whose causes are causes of this one
pub handed_whole : {A : Type 0} (Wrong Short Wrong' Short' : Type 0) (before mid now : ℕ) (is_sound : Bool) (r : Result A ChainFault)
    → mid ≡ before → HasChainCause {T = A} Wrong Short mid now is_sound r → (Wrong → Wrong') → (Short → Short') → HasChainCause {T = A} Wrong' Short' before now is_sound r
handed_whole Wrong Short Wrong' Short' before mid now is_sound r earlier cause wrong short =
    let later = cause.pages.later in
    record {
      pages = record {
        later = omega arith;
        failed = λ failed. let rose = cause.pages.failed failed in omega arith;
        quiet = λ unless. cause.pages.quiet unless ∙ earlier;
        ended = cause.pages.ended;
        sound = cause.pages.sound;
      };
      corrupt = λ corrupt. wrong (cause.corrupt corrupt);
      no_page = λ none. short (cause.no_page none);
    }
