-- Pages of a kind that lead from one to the next.
use Rattle.std.proofs.Common.{◌≡◌, ◌⊎◌, inl, inr, ℕ, ◌+◌, ◌<◌, ◌≤◌, List, [], ◌∷◌, ◌++◌, length, Some, refl, sym, ap, subst, ◌∙◌, arith, length-append}
use Rattle.std.specs.Prelude.{slice_get, slice_set}
use Rattle.std.proofs.lemmas.Bool.{cases_lt}
use Rattle.std.proofs.lemmas.List.{length-set}
use Rattle.std.proofs.lemmas.Option.{same_Some, slice_get_within}
use Rattle.uq_page.specs.Numbers.{times}
use Rattle.uq_page.specs.NumberLaws.{times-append, times_of_one, times_self}
use Rattle.uq_page.specs.RowLaws.{get_last, get_longer, get_set_other, get_set_same}
use Rattle.uq_chain.specs.Path.{Along, IsPath}

-- one path behind another
pub path_then : (Is : List ℕ → ℕ → Type 0) (pages : List (List ℕ)) (head mid last : ℕ) (path more : List ℕ) → IsPath Is pages head path mid → IsPath Is pages mid more last → IsPath Is pages head (path ++ more) last
path_then Is pages head mid last [] more first second = let P : ℕ → Type 0 = λ h. IsPath Is pages h more last in subst P (sym first) second
path_then Is pages head mid last (n ∷ path) more first second = record {
  is = first.is;
  page = first.page;
  next = first.next;
  there = first.there;
  kind = first.kind;
  rest = path_then Is pages first.next mid last path more first.rest second;
}

-- a path over pages of the kind, which were such before
pub path_before : (Is : List ℕ → ℕ → Type 0) (before after : List (List ℕ)) (head last : ℕ) (path : List ℕ)
    → ((n next : ℕ) (page : List ℕ) → slice_get after n ≡ Some page → Is page next → slice_get before n ≡ Some page) → IsPath Is after head path last → IsPath Is before head path last
path_before Is before after head last [] none leads = leads
path_before Is before after head last (n ∷ path) none leads = record {
  is = leads.is;
  page = leads.page;
  next = leads.next;
  there = none n leads.next leads.page leads.there leads.kind;
  kind = leads.kind;
  rest = path_before Is before after leads.next last path none leads.rest;
}

-- nothing is done
pub along_none : (Is : List ℕ → ℕ → Type 0) (pages : List (List ℕ)) (head : ℕ) → Along Is pages pages head head
along_none Is pages head = record { path = []; leads = refl; others = λ n within apart. refl; none = λ n next page there kind. there; longer = omega arith }

-- one thing after another
pub along_then : (Is : List ℕ → ℕ → Type 0) (a b c : List (List ℕ)) (head mid last : ℕ) → Along Is a b head mid → Along Is b c mid last → Along Is a c head last
along_then Is a b c head mid last first second =
    let up = first.longer in
    let up' = second.longer in
    record {
      path = first.path ++ second.path;
      leads = path_then Is a head mid last first.path second.path first.leads (path_before Is a b mid last second.path first.none second.leads);
      others = λ n within apart.
          let sum = times-append n first.path second.path in
          second.others n (omega arith) (omega arith) ∙ first.others n within (omega arith);
      none = λ n next page there kind. first.none n next page (second.none n next page there kind) kind;
      longer = omega arith;
    }

-- the first page of the path is read, and stays
pub along_read : (Is : List ℕ → ℕ → Type 0) (pages : List (List ℕ)) (head next : ℕ) (page : List ℕ) → slice_get pages head ≡ Some page → Is page next → Along Is pages pages head next
along_read Is pages head next page there kind = record {
  path = head ∷ [];
  leads = record { is = refl; page = page; next = next; there = there; kind = kind; rest = refl };
  others = λ n within apart. refl;
  none = λ n next page there kind. there;
  longer = omega arith;
}

-- and is made one of another kind
pub along_set : (Is : List ℕ → ℕ → Type 0) (pages : List (List ℕ)) (head next : ℕ) (page new : List ℕ) → slice_get pages head ≡ Some page → Is page next
    → ((n : ℕ) → Is new n → ⊥) → Along Is pages (slice_set pages head new) head next
along_set Is pages head next page new there kind other =
    let long = length-set pages head new in
    let within = slice_get_within pages head page there in
    record {
      path = head ∷ [];
      leads = record { is = refl; page = page; next = next; there = there; kind = kind; rest = refl };
      others = λ n inside apart. get_set_other pages head n new (λ same. let here : times n (head ∷ []) ≡ 1 = ap (λ k. times n (k ∷ [])) (sym same) ∙ times_self n in absurd (omega arith));
      none = λ n at it now is. elim (times_of_one n head) [
        | inl same ↦ let P : ℕ → Type 0 = λ k. slice_get (slice_set pages head new) k ≡ Some it in
            let made = same_Some new it (sym (get_set_same pages head new within) ∙ subst P (sym same.0) now) in
            absurd (other at (subst (λ (xs : List ℕ). Is xs at) (sym made) is))
        | inr unlike ↦ sym (get_set_other pages head n new (λ same. unlike.0 (sym same))) ∙ now
      ];
      longer = omega arith;
    }

-- a page of another kind is appended
pub along_grown : (Is : List ℕ → ℕ → Type 0) (pages : List (List ℕ)) (head : ℕ) (new : List ℕ) → ((n : ℕ) → Is new n → ⊥) → Along Is pages (pages ++ new ∷ []) head head
along_grown Is pages head new other =
    let long = length-append pages (new ∷ []) in
    record {
      path = [];
      leads = refl;
      others = λ n within apart. get_longer pages (new ∷ []) n within;
      none = λ n at it now is.
          let within = slice_get_within (pages ++ new ∷ []) n it now in
          by_cases n at it now is (cases_lt n (length pages)) (omega arith);
      longer = omega arith;
    }
  where
    by_cases : (n at : ℕ) (it : List ℕ) → slice_get (pages ++ new ∷ []) n ≡ Some it → Is it at → (n < length pages) ⊎ (length pages ≤ n) → n < length pages + 1 → slice_get pages n ≡ Some it
    by_cases n at it now is (inl within) high = sym (get_longer pages (new ∷ []) n within) ∙ now
    by_cases n at it now is (inr past) high =
        let last : n ≡ length pages = omega arith in
        let made = same_Some new it (sym (get_last pages new) ∙ ap (slice_get (pages ++ new ∷ [])) (sym last) ∙ now) in
        absurd (other at (subst (λ (xs : List ℕ). Is xs at) (sym made) is))
