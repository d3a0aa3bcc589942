-- Walks over the keys of a map by an order, past those that are not the user's, and how many keys are left.
use Rattle.std.proofs.Common.{◌≡◌, ℕ, zero, suc, ◌+◌, ◌≤◌, Bool, true, false, cond, List, [], ◌∷◌, length, Option, Some, None, is_some, refl, sym, ap, ◌∙◌, arith}
use Rattle.std.specs.Ordering.{eq_by_cmp, is_lt, is_eq, nat_cmp, ordering_reverse, ordering_then}
use Rattle.std.specs.Cmp.{Equal-is, IsTotalOrder, back_total, nat_cmp_total, on_total, then_total, tied_itself}
use Rattle.std.specs.Cmp.Lexicographic.{nat_list_cmp_total, slice_cmp}
use Rattle.std.specs.FinMap.{IsAntisymmetric, contains_key, empty, entries, get-empty, get-entries, len, len-entries, nat_cmp-IsAntisymmetric, slice_cmp-IsAntisymmetric}
use Rattle.std.specs.FinMap.Entries.{find}
use Rattle.std.specs.declared.cmp.Ordering.{Ordering}
use Rattle.std.specs.declared.cmp.Ordering.TheVariants.{Less, Equal, Greater}
use Rattle.std.proofs.lemmas.Bool.{false≢true}
use Rattle.uq_hash.specs.Map.{Entry}
use Rattle.uq_hash.specs.Walk.{GivesFirst, GivesLast, HasNone}
use Rattle.uq_hash.specs.WalkOrder.{walk_cmp, walk_rank}
use Rattle.uq_kv.specs.Stored.{Stored}
use Rattle.uq_kv.specs.Users.{IsDownward, IsOfKeys, IsUpward, is_of_keys, walk_start}

-- the walk order, and the same the other way round
abbrev pub up : List ℕ → List ℕ → Ordering
up = walk_cmp walk_start

abbrev pub down : List ℕ → List ℕ → Ordering
down a b = walk_cmp walk_start b a

pub total : IsTotalOrder up
total = then_total (on_total (walk_rank walk_start) nat_cmp_total) nat_list_cmp_total

pub total_down : IsTotalOrder down
total_down = back_total total

bytes_same : IsAntisymmetric (slice_cmp nat_cmp)
bytes_same = slice_cmp-IsAntisymmetric nat_cmp-IsAntisymmetric

-- only a key itself is neither before it nor behind it
abbrev pub IsTied : (List ℕ → List ℕ → Ordering) → Type 0
IsTied cmp = (a b : List ℕ) → cmp a b ≡ Equal → a ≡ b

pub tied_up : IsTied up
tied_up a b is = bytes_same a b (by_rank (nat_cmp (walk_rank walk_start a) (walk_rank walk_start b)) (slice_cmp nat_cmp a b) is)
  where
    by_rank : (r s : Ordering) → ordering_then r s ≡ Equal → s ≡ Equal
    by_rank Less s is = absurd (cc)
    by_rank Equal s is = is
    by_rank Greater s is = absurd (cc)

pub tied_down : IsTied down
tied_down a b is = sym (tied_up b a is)

-- ---- what a walk knows, by the order in which it goes

module _ (cmp : List ℕ → List ℕ → Ordering) where
  -- of the keys for which P holds, the first that such a walk meets
  pub record IsMet (stored : Stored) (P : List ℕ → Type 0) (key : List ℕ) : Type 0 where
    pub there : contains_key stored key ≡ true
    pub is : P key
    pub first : (other : List ℕ) → contains_key stored other ≡ true → P other → cmp key other ≡ Greater → ⊥

  abbrev pub Meets : Stored → (List ℕ → Type 0) → Option (List ℕ) → Type 0
  Meets stored P None = HasNone stored P
  Meets stored P (Some key) = IsMet stored P key

  -- with a key those behind it are meant too
  abbrev pub IsOnward : (List ℕ → Bool) → Type 0
  IsOnward Q = (a b : List ℕ) → Q a ≡ true → cmp a b ≡ Less → Q b ≡ true

  -- it is at a key, and no key of the user that is meant lies before that
  pub record OnKey (stored : Stored) (Q : List ℕ → Bool) (key : List ℕ) : Type 0 where
    pub there : contains_key stored key ≡ true
    pub is : Q key ≡ true
    pub before : (other : List ℕ) → contains_key stored other ≡ true → Q other ≡ true → IsOfKeys other → cmp key other ≡ Greater → ⊥

  abbrev pub Walking : Stored → (List ℕ → Bool) → Option (List ℕ) → Type 0
  Walking stored Q None = HasNone stored (λ key. (Q key ≡ true) × IsOfKeys key)
  Walking stored Q (Some key) = OnKey stored Q key

  -- whether an entry does not lie before a key, as a number
  pub on_from : List ℕ → List ℕ → ℕ
  on_from s key = cond (is_lt (cmp key s)) 0 1

  -- of these entries, how many do not lie before a key
  pub from_on : List ℕ → List Entry → ℕ
  from_on s [] = 0
  from_on s (e ∷ es) = on_from s e.0 + from_on s es

  -- behind the first step the key is there, and those from it on are not more than are left
  pub record HasFew (stored : Stored) (s : List ℕ) (steps : ℕ) : Type 0 where
    pub there : 1 ≤ steps → contains_key stored s ≡ true
    pub left : steps + from_on s (entries stored) ≤ len stored + 1

  abbrev pub Few : Stored → Option (List ℕ) → ℕ → Type 0
  Few stored None steps = steps ≤ len stored + 1
  Few stored (Some s) steps = HasFew stored s steps

at_most : (b : Bool) → cond b 0 1 ≤ 1
at_most true = omega arith
at_most false = omega arith

not_less : (r : Ordering) → is_eq r ≡ true → is_lt r ≡ false
not_less Less is = absurd (false≢true is)
not_less Equal is = refl
not_less Greater is = absurd (false≢true is)

-- a key is among the entries
among : (stored : Stored) (s : List ℕ) → contains_key stored s ≡ true → is_some (find (slice_cmp nat_cmp) s (entries stored)) ≡ true
among stored s there = ap is_some (sym (get-entries stored s)) ∙ there

module _ (cmp : List ℕ → List ℕ → Ordering) (order : IsTotalOrder cmp) (tied : IsTied cmp) where
  from_few : (s : List ℕ) (es : List Entry) → from_on cmp s es ≤ length es
  unfolding from_on on_from
  from_few s [] = omega arith
  from_few s (e ∷ es) = let rest = from_few s es in let one = at_most (is_lt (cmp e.0 s)) in omega arith

  -- where a key lies before another one, no more entries lie from the other one on
  on_step : (s t key : List ℕ) → cmp s t ≡ Less → on_from cmp t key ≤ on_from cmp s key
  unfolding on_from
  on_step s t key less = by_order (cmp key s) refl
    where
      by_order : (r : Ordering) → cmp key s ≡ r → cond (is_lt (cmp key t)) 0 1 ≤ cond (is_lt r) 0 1
      by_order Less is = let gone : ◌≡◌ {A = ℕ} (cond (is_lt (cmp key t)) 0 1) 0 = ap (λ (r : Ordering). cond (is_lt r) 0 1) (order.trans key s t is less) in omega (arith, gone)
      by_order Equal is = at_most (is_lt (cmp key t))
      by_order Greater is = at_most (is_lt (cmp key t))

  no_more : (s t : List ℕ) (es : List Entry) → cmp s t ≡ Less → from_on cmp t es ≤ from_on cmp s es
  unfolding from_on
  no_more s t [] less = omega arith
  no_more s t (e ∷ es) less = let rest = no_more s t es less in let one = on_step s t e.0 less in omega arith

  -- and fewer, where the first one is among them
  here_on : (s key : List ℕ) → s ≡ key → on_from cmp s key ≡ 1
  unfolding on_from
  here_on s key same = ap (λ k. cond (is_lt (cmp k s)) 0 1) (sym same) ∙ ap (λ b. cond b 0 1) (not_less (cmp s s) (ap is_eq (tied_itself order s)))

  gone_on : (s t key : List ℕ) → s ≡ key → cmp s t ≡ Less → on_from cmp t key ≡ 0
  unfolding on_from
  gone_on s t key same less = ap (λ k. cond (is_lt (cmp k t)) 0 1) (sym same) ∙ ap (λ r. cond (is_lt r) 0 1) less

  fewer : (s t : List ℕ) (es : List Entry) → cmp s t ≡ Less → is_some (find (slice_cmp nat_cmp) s es) ≡ true → from_on cmp t es + 1 ≤ from_on cmp s es
  unfolding from_on
  fewer s t [] less there = absurd (false≢true there)
  fewer s t (e ∷ es) less there = by_tie (eq_by_cmp (slice_cmp nat_cmp) s e.0) refl there (fewer s t es less)
    where
      by_tie : (b : Bool) → eq_by_cmp (slice_cmp nat_cmp) s e.0 ≡ b → is_some (cond (eq_by_cmp (slice_cmp nat_cmp) s e.0) (Some e.1) (find (slice_cmp nat_cmp) s es)) ≡ true
          → (is_some (find (slice_cmp nat_cmp) s es) ≡ true → from_on cmp t es + 1 ≤ from_on cmp s es)
          → (on_from cmp t e.0 + from_on cmp t es) + 1 ≤ on_from cmp s e.0 + from_on cmp s es
      by_tie true tie there rest =
          let same = bytes_same s e.0 ((Equal-is (slice_cmp nat_cmp s e.0)).0 tie) in
          let one = here_on s e.0 same in
          let none = gone_on s t e.0 same less in
          let more = no_more s t es less in
          omega arith
      by_tie false tie there rest =
          let more = rest (ap (λ b. is_some (cond b (Some e.1) (find (slice_cmp nat_cmp) s es))) (sym tie) ∙ there) in
          let one = on_step s t e.0 less in
          omega arith

  from_some : (s : List ℕ) (es : List Entry) → is_some (find (slice_cmp nat_cmp) s es) ≡ true → 1 ≤ from_on cmp s es
  unfolding from_on
  from_some s [] there = absurd (false≢true there)
  from_some s (e ∷ es) there = by_tie (eq_by_cmp (slice_cmp nat_cmp) s e.0) refl there (from_some s es)
    where
      by_tie : (b : Bool) → eq_by_cmp (slice_cmp nat_cmp) s e.0 ≡ b → is_some (cond (eq_by_cmp (slice_cmp nat_cmp) s e.0) (Some e.1) (find (slice_cmp nat_cmp) s es)) ≡ true
          → (is_some (find (slice_cmp nat_cmp) s es) ≡ true → 1 ≤ from_on cmp s es) → 1 ≤ on_from cmp s e.0 + from_on cmp s es
      by_tie true tie there rest = let one = here_on s e.0 (bytes_same s e.0 ((Equal-is (slice_cmp nat_cmp s e.0)).0 tie)) in omega arith
      by_tie false tie there rest = let more = rest (ap (λ b. is_some (cond b (Some e.1) (find (slice_cmp nat_cmp) s es))) (sym tie) ∙ there) in omega arith

  -- ---- how many steps it makes

  pub few_start : (stored : Stored) (start : Option (List ℕ)) → Few cmp stored start 0
  few_start stored None = omega arith
  few_start stored (Some s) = record {
    there = λ some. absurd (omega arith);
    left = let few = from_few s (entries stored) in let all = len-entries stored in omega arith;
  }

  pub few_on : (stored : Stored) (s : List ℕ) (steps : ℕ) (next : Option (List ℕ)) → HasFew cmp stored s steps → Meets cmp stored (λ other. cmp s other ≡ Less) next → Few cmp stored next (steps + 1)
  few_on stored s zero None so none = omega arith
  few_on stored s zero (Some t) so first = record {
    there = λ some. first.there;
    left = let few = from_few t (entries stored) in let all = len-entries stored in omega arith;
  }
  few_on stored s (suc n) None so none = let some = from_some s (entries stored) (among stored s (so.there (omega arith))) in let left = so.left in omega arith
  few_on stored s (suc n) (Some t) so first = record {
    there = λ some. first.there;
    left = let less = fewer s t (entries stored) first.is (among stored s (so.there (omega arith))) in let left = so.left in omega arith;
  }

  pub few_ends : (stored : Stored) (at : Option (List ℕ)) (steps : ℕ) → Few cmp stored at steps → steps ≤ len stored + 1
  few_ends stored None steps so = so
  few_ends stored (Some s) steps so = let left = so.left in omega arith

  -- ---- where it goes

  pub walking_start : (stored : Stored) (Q : List ℕ → Bool) (start : Option (List ℕ)) → Meets cmp stored (λ key. Q key ≡ true) start → Walking cmp stored Q start
  walking_start stored Q None none = λ other there both. none other there both.0
  walking_start stored Q (Some s) first = record {
    there = first.there;
    is = first.is;
    before = λ other there q users. first.first other there q;
  }

  -- what lies behind a key that is not the user's
  behind_it : (stored : Stored) (Q : List ℕ → Bool) (s : List ℕ) → OnKey cmp stored Q s → is_of_keys s ≡ false → (other : List ℕ) → contains_key stored other ≡ true → Q other ≡ true → IsOfKeys other
      → cmp s other ≡ Less
  behind_it stored Q s so unlike other there q users =
      elim (cmp s other) as (λ r. cmp s other ≡ r → r ≡ Less) [
        | Less ↦ λ is. refl
        | Equal ↦ λ is. absurd (false≢true (sym unlike ∙ ap is_of_keys (tied s other is) ∙ users))
        | Greater ↦ λ is. absurd (so.before other there q users is)
      ] refl

  pub walking_on : (stored : Stored) (Q : List ℕ → Bool) (s : List ℕ) (next : Option (List ℕ)) → IsOnward cmp Q → OnKey cmp stored Q s → is_of_keys s ≡ false
      → Meets cmp stored (λ other. cmp s other ≡ Less) next → Walking cmp stored Q next
  walking_on stored Q s None on so unlike none = λ other there both. none other there (behind_it stored Q s so unlike other there both.0 both.1)
  walking_on stored Q s (Some t) on so unlike first = record {
    there = first.there;
    is = on s t so.is first.is;
    before = λ other there q users. first.first other there (behind_it stored Q s so unlike other there q users);
  }

  -- where it ends
  pub walking_found : (stored : Stored) (Q : List ℕ → Bool) (s : List ℕ) → OnKey cmp stored Q s → IsOfKeys s → IsMet cmp stored (λ key. (Q key ≡ true) × IsOfKeys key) s
  walking_found stored Q s so users = record { there = so.there; is = (so.is, users); first = λ other there both. so.before other there both.0 both.1 }

-- ---- the first and the last keys are what the walks meet

turned : (a b : List ℕ) (r : Ordering) → up a b ≡ r → up b a ≡ ordering_reverse r
turned a b r is = total.antisymm b a ∙ ap ordering_reverse is

pub meets_up : (stored : Stored) (P : List ℕ → Type 0) (found : Option (List ℕ)) → GivesFirst walk_start stored P found → Meets up stored P found
meets_up stored P None none = none
meets_up stored P (Some key) first = record { there = first.there; is = first.is; first = first.first }

pub up_meets : (stored : Stored) (P : List ℕ → Type 0) (found : Option (List ℕ)) → Meets up stored P found → GivesFirst walk_start stored P found
up_meets stored P None none = none
up_meets stored P (Some key) first = record { there = first.there; is = first.is; first = first.first }

pub meets_down : (stored : Stored) (P : List ℕ → Type 0) (found : Option (List ℕ)) → GivesLast walk_start stored P found → Meets down stored P found
meets_down stored P None none = none
meets_down stored P (Some key) last = record { there = last.there; is = last.is; first = λ other there is behind. last.last other there is (turned other key Greater behind) }

pub down_meets : (stored : Stored) (P : List ℕ → Type 0) (found : Option (List ℕ)) → Meets down stored P found → GivesLast walk_start stored P found
down_meets stored P None none = none
down_meets stored P (Some key) met = record { there = met.there; is = met.is; last = λ other there is behind. met.first other there is (turned key other Less behind) }

-- with a key those behind it are meant too, the other way round
pub downward : (Q : List ℕ → Bool) → IsDownward Q → IsOnward down Q
downward Q is a b q less = is b a q less

-- ---- the same keys by other words

pub first_as : (stored : Stored) (P P' : List ℕ → Type 0) (found : Option (List ℕ)) → ((key : List ℕ) → P key → P' key) → ((key : List ℕ) → P' key → P key) → GivesFirst walk_start stored P found → GivesFirst walk_start stored P' found
first_as stored P P' None there back none = λ key among is. none key among (back key is)
first_as stored P P' (Some s) there back first = record { there = first.there; is = there s first.is; first = λ other among is. first.first other among (back other is) }

pub last_as : (stored : Stored) (P P' : List ℕ → Type 0) (found : Option (List ℕ)) → ((key : List ℕ) → P key → P' key) → ((key : List ℕ) → P' key → P key) → GivesLast walk_start stored P found → GivesLast walk_start stored P' found
last_as stored P P' None there back none = λ key among is. none key among (back key is)
last_as stored P P' (Some s) there back last = record { there = last.there; is = there s last.is; last = λ other among is. last.last other among (back other is) }

-- a map without a key has none of them
pub none_empty : (P : List ℕ → Type 0) → HasNone empty P
none_empty P key there is = false≢true (sym (ap is_some (get-empty (slice_cmp nat_cmp) key)) ∙ there)

pub less_is : (s other : List ℕ) → is_lt (up s other) ≡ true → up s other ≡ Less
less_is s other is = by_order (up s other) is
  where
    by_order : (r : Ordering) → is_lt r ≡ true → r ≡ Less
    by_order Less is = refl
    by_order Equal is = absurd (false≢true is)
    by_order Greater is = absurd (false≢true is)

-- those behind a key, and those before it
pub behind_up : (s : List ℕ) → IsUpward (λ other. is_lt (up s other))
behind_up s a b less behind = ap is_lt (total.trans s a b (less_is s a less) behind)

pub before_down : (s : List ℕ) → IsDownward (λ other. is_lt (up other s))
before_down s a b less behind = ap is_lt (total.trans a b s behind (less_is b s less))
