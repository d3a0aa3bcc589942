-- Lengths that are refused.
use Rattle.std.proofs.Common.{◌≡◌, ◌⊎◌, inl, inr, ⊎_elim, true, false, List, ◌∷◌, None, Ok, Err, refl, sym, ap, subst, ◌∙◌, arith}
use Rattle.std.specs.Prelude.{Result}
use Rattle.std.proofs.lemmas.Bool.{false≢true}
use Rattle.uq_outside.specs.declared.disk.Disk.{Ghosts}
use Rattle.uq_page.specs.declared.error.ChainFault.{ChainFault}
use Rattle.uq_page.specs.declared.error.ChainFault.TheVariants as chain
use Rattle.uq_model.specs.Session.{Call, Session}
use Rattle.uq_kv.specs.declared.error.KvFault.{KvFault}
use Rattle.uq_kv.specs.declared.error.KvFault.TheVariants.{EmptyKey, KeyTooLong, ValueTooLong, Full, NotFound, NoEntry, Disk, Corrupt, Closed, Memory}
use Rattle.uq_kv.specs.declared.kv.Kv.{Kv}
use Rattle.uq_kv.specs.Calls.{FailsBy, IsAmong, behind, closed_by, seen_by, stop_of}
use Rattle.uq_kv.specs.Kv.{Does, HasCauses, Tells, closed_of}
use Rattle.uq_kv.specs.Lengths.{RefusesKeys, RefusesLengths, is_of_key, is_of_length, then_checked}
use Rattle.uq_kv.specs.Stored.{Stored}

pub key_of_length : (fault : KvFault) → (fault ≡ EmptyKey) ⊎ (fault ≡ KeyTooLong) → is_of_length fault ≡ true
key_of_length fault is = ⊎_elim (λ (e : fault ≡ EmptyKey). ap is_of_length e) (λ (e : fault ≡ KeyTooLong). ap is_of_length e) is

pub key_among : (rest : List KvFault) (fault : KvFault) → (fault ≡ EmptyKey) ⊎ (fault ≡ KeyTooLong) → IsAmong (EmptyKey ∷ KeyTooLong ∷ rest) fault
key_among rest fault is = ⊎_elim (λ (e : fault ≡ EmptyKey). inl e) (λ (e : fault ≡ KeyTooLong). inr (inl e)) is

pub stop_not_length : (fault : ChainFault) → is_of_length (stop_of fault) ≡ false
stop_not_length chain.Failed = refl
stop_not_length chain.Corrupt = refl
stop_not_length chain.NoPage = refl
stop_not_length chain.Memory = refl

-- the checks of two lengths
pub first_refused : (first next : Result (Unit {0}) KvFault) (fault : KvFault) → first ≡ Err fault → then_checked first next ≡ Err fault
first_refused first next fault is = ap (λ (r : Result (Unit {0}) KvFault). then_checked r next) is

pub first_passed : (first next answer : Result (Unit {0}) KvFault) → first ≡ Ok tt → next ≡ answer → then_checked first next ≡ answer
first_passed first next answer is next_is = ap (λ (r : Result (Unit {0}) KvFault). then_checked r next) is ∙ next_is

module _ {T : Type 0} (checked : Result (Unit {0}) KvFault) (result : Result T KvFault) where
  pub refuses_here : (fault : KvFault) → checked ≡ Err fault → result ≡ Err fault → RefusesLengths checked result
  refuses_here fault is answered other of_length = (
    (λ (now : result ≡ Err other). let same : fault ≡ other = cc in is ∙ ap Err same),
    (λ (now : checked ≡ Err other). let same : fault ≡ other = cc in answered ∙ ap Err same),
  )

  module _ (passes : checked ≡ Ok tt) where
    pub refuses_none : (value : T) → result ≡ Ok value → RefusesLengths checked result
    refuses_none value answered other of_length = ((λ (now : result ≡ Err other). absurd (cc)), (λ (now : checked ≡ Err other). absurd (cc)))

    pub refuses_else : (fault : KvFault) → is_of_length fault ≡ false → result ≡ Err fault → RefusesLengths checked result
    refuses_else fault unlike answered other of_length = (
      (λ (now : result ≡ Err other). let same : fault ≡ other = cc in absurd (false≢true (sym unlike ∙ ap is_of_length same ∙ of_length))),
      (λ (now : checked ≡ Err other). absurd (cc)),
    )

-- the same of keys alone
pub of_key : (fault : KvFault) → is_of_key fault ≡ true → is_of_length fault ≡ true
of_key EmptyKey is = refl
of_key KeyTooLong is = refl
of_key ValueTooLong is = absurd (false≢true is)
of_key Full is = absurd (false≢true is)
of_key NotFound is = absurd (false≢true is)
of_key NoEntry is = absurd (false≢true is)
of_key Disk is = absurd (false≢true is)
of_key Corrupt is = absurd (false≢true is)
of_key (Closed first) is = absurd (false≢true is)
of_key Memory is = absurd (false≢true is)

pub stop_not_key : (fault : ChainFault) → is_of_key (stop_of fault) ≡ false
stop_not_key chain.Failed = refl
stop_not_key chain.Corrupt = refl
stop_not_key chain.NoPage = refl
stop_not_key chain.Memory = refl

module _ {T : Type 0} (checked : Result (Unit {0}) KvFault) (result : Result T KvFault) where
  pub keys_refused : RefusesLengths checked result → RefusesKeys checked result
  keys_refused refused fault is = refused fault (of_key fault is)

  pub keys_else : checked ≡ Ok tt → (fault : KvFault) → is_of_key fault ≡ false → result ≡ Err fault → RefusesKeys checked result
  keys_else passes fault unlike answered other of_it = (
    (λ (now : result ≡ Err other). let same : fault ≡ other = cc in absurd (false≢true (sym unlike ∙ ap is_of_key same ∙ of_it))),
    (λ (now : checked ≡ Err other). absurd (cc)),
  )

-- ---- what a call leaves that was refused so

left_open : (T : Type 0) (fault : KvFault) → is_of_length fault ≡ true → closed_by {T = T} (Err fault) None ≡ None
left_open T EmptyKey of_length = refl
left_open T KeyTooLong of_length = refl
left_open T ValueTooLong of_length = refl
left_open T Full of_length = refl
left_open T NotFound of_length = refl
left_open T NoEntry of_length = refl
left_open T Disk of_length = absurd (false≢true of_length)
left_open T Corrupt of_length = absurd (false≢true of_length)
left_open T (Closed first) of_length = absurd (false≢true of_length)
left_open T Memory of_length = absurd (false≢true of_length)

module _ {D T : Type 0} (g : Ghosts D) (it : Kv D g) (result : Result T KvFault) (fault : KvFault) (answered : result ≡ Err fault) where
  pub fails_by : (faults : List KvFault) → IsAmong faults fault → FailsBy faults result
  fails_by faults among = subst (λ (r : Result T KvFault). FailsBy faults r) (sym answered) among

  pub does_nothing : {U : Type 0} (view : T → U) (checked : Result (Unit {0}) KvFault) (call : Call Stored (Result U KvFault)) → checked ≡ Err fault → Does g view (behind checked call) it it result
  does_nothing view checked call is s tells was =
      let whole : (Err fault, s) ≡ behind checked call s = ap (λ (r : Result (Unit {0}) KvFault). behind r call s) (sym is) in (
        ap (seen_by view) answered ∙ ap (λ (a : Result _ KvFault × Session Stored). a.0) whole,
        subst (Tells g it) (ap (λ (a : Result _ KvFault × Session Stored). a.1) whole) tells,
      )

  module _ (unclosed : closed_of g it ≡ None) (of_length : is_of_length fault ≡ true) where
    no_other : (other : KvFault) → is_of_length other ≡ false → result ≡ Err other → ⊥
    no_other other unlike now = let same : other ≡ fault = cc in false≢true (sym unlike ∙ ap is_of_length same ∙ of_length)

    pub causes_nothing : HasCauses g it it result
    causes_nothing = record {
      later = omega arith;
      disk = λ now. absurd (no_other Disk refl now);
      quiet = λ _. refl;
      corrupt = λ now. absurd (no_other Corrupt refl now);
      closed = λ first. ((λ now. absurd (no_other (Closed first) refl now)), (λ was. absurd (let never : ⊥ = cc in never)));
      closes = unclosed ∙ sym (left_open T fault of_length) ∙ ap (λ (r : Result T KvFault). closed_by r None) (sym answered) ∙ ap (closed_by result) (sym unclosed);
    }
