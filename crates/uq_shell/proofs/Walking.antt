-- The keys that a cursor finds are those of the definitions.
use Rattle.std.proofs.Common.{◌≡◌, ◌⊎◌, ℕ, Bool, true, false, not, ◌||◌, ◌&&◌, if◌then◌else◌, List, [], ◌∷◌, Option, Some, None, filter, inl, inr, refl, sym, ap, ◌∙◌}
use Rattle.std.specs.Ordering.{nat_cmp, is_eq, eq_by_cmp, ordering_reverse, ordering_then}
use Rattle.std.specs.Cmp.{IsTotalOrder, Equal-is, nat_cmp_total, on_total, then_total, tied_itself}
use Rattle.std.specs.Cmp.Lexicographic.{slice_cmp, nat_list_cmp_total}
use Rattle.std.specs.FinMap.{IsAntisymmetric, contains_key, contains_key-keys, keys, nat_cmp-IsAntisymmetric, slice_cmp-IsAntisymmetric}
use Rattle.std.specs.List.{list_all, list_any}
use Rattle.std.specs.declared.cmp.Ordering.{Ordering}
use Rattle.std.specs.declared.cmp.Ordering.TheVariants.{Less, Equal, Greater}
use Rattle.uq_hash.specs.Walk.{GivesFirst, GivesLast}
use Rattle.uq_hash.specs.WalkOrder.{walk_cmp, walk_rank}
use Rattle.uq_kv.specs.Stored.{Stored}
use Rattle.uq_kv.specs.Users.{FirstOf, IsOfKeys, LastOf, NextOf, PrevOf, is_of_keys, walk_start}
use Rattle.uq_shell.specs.Moves.{FoundBy, place_by}
use Rattle.uq_shell.specs.Walks.{first_with, greatest, is_before, is_less, least, users}
use Rattle.uq_shell.specs.declared.cursor.Move.{Move}
use Rattle.uq_shell.specs.declared.cursor.Move.TheVariants.{First, Last, Next, Prev}

-- ---- the order

total : IsTotalOrder (walk_cmp walk_start)
total = then_total (on_total (walk_rank walk_start) nat_cmp_total) nat_list_cmp_total

same_bytes : IsAntisymmetric (slice_cmp nat_cmp)
same_bytes = slice_cmp-IsAntisymmetric nat_cmp-IsAntisymmetric

-- only the same keys tie
same : (a b : List ℕ) → walk_cmp walk_start a b ≡ Equal → a ≡ b
same a b is = by (nat_cmp (walk_rank walk_start a) (walk_rank walk_start b)) is
  where
    by : (r : Ordering) → ordering_then r (slice_cmp nat_cmp a b) ≡ Equal → a ≡ b
    by Less e = absurd (cc)
    by Equal e = same_bytes a b e
    by Greater e = absurd (cc)

turned : (a b : List ℕ) → walk_cmp walk_start a b ≡ Less → walk_cmp walk_start b a ≡ Greater
turned a b is = total.antisymm b a ∙ ap ordering_reverse is

less_is : (r : Ordering) → is_less r ≡ true → r ≡ Less
less_is Less is = refl
less_is Equal is = absurd (cc)
less_is Greater is = absurd (cc)

-- neither less nor greater
tie : (r : Ordering) → (r ≡ Greater → ⊥) → not (is_less r) ≡ true → r ≡ Equal
tie Less greater less = absurd (cc)
tie Equal greater less = refl
tie Greater greater less = absurd (greater refl)

not_less : (r : Ordering) → (r ≡ Less → ⊥) → not (is_less r) ≡ true
not_less Less less = absurd (less refl)
not_less Equal less = refl
not_less Greater less = refl

-- ---- members of lists

abbrev IsIn : List ℕ → List (List ℕ) → Type 0
IsIn key [] = ⊥
IsIn key (x ∷ xs) = (key ≡ x) ⊎ IsIn key xs

in_any : (key : List ℕ) (xs : List (List ℕ)) → list_any (eq_by_cmp (slice_cmp nat_cmp) key) xs ≡ true → IsIn key xs
in_any key [] is = absurd (cc)
in_any key (x ∷ xs) is = by (is_eq (slice_cmp nat_cmp key x)) refl is (λ any. in_any key xs any)
  where
    by : (b : Bool) → is_eq (slice_cmp nat_cmp key x) ≡ b → (b || list_any (eq_by_cmp (slice_cmp nat_cmp) key) xs) ≡ true
        → (list_any (eq_by_cmp (slice_cmp nat_cmp) key) xs ≡ true → IsIn key xs) → IsIn key (x ∷ xs)
    by true e any behind = inl (same_bytes key x ((Equal-is (slice_cmp nat_cmp key x)).0 e))
    by false e any behind = inr (behind any)

or_true : (a : Bool) {b : Bool} → b ≡ true → (a || b) ≡ true
or_true true is = refl
or_true false is = is

any_in : (key : List ℕ) (xs : List (List ℕ)) → IsIn key xs → list_any (eq_by_cmp (slice_cmp nat_cmp) key) xs ≡ true
any_in key [] there = absurd there
any_in key (x ∷ xs) (inl e) =
    ap (λ (b : Bool). b || list_any (eq_by_cmp (slice_cmp nat_cmp) key) xs)
    (ap (λ (y : List ℕ). is_eq (slice_cmp nat_cmp key y)) (sym e) ∙ ap is_eq (tied_itself nat_list_cmp_total key))
any_in key (x ∷ xs) (inr there) = or_true (is_eq (slice_cmp nat_cmp key x)) (any_in key xs there)

in_filter : (test : List ℕ → Bool) (key : List ℕ) (xs : List (List ℕ)) → IsIn key xs → test key ≡ true → IsIn key (filter test xs)
in_filter test key [] there is = there
in_filter test key (x ∷ xs) there is = by (test x) refl there (λ behind. in_filter test key xs behind is)
  where
    by : (b : Bool) → test x ≡ b → IsIn key (x ∷ xs) → (IsIn key xs → IsIn key (filter test xs)) → IsIn key (if b then x ∷ filter test xs else filter test xs)
    by true e (inl here) rest = inl here
    by true e (inr behind) rest = inr (rest behind)
    by false e (inl here) rest = absurd (let differ : true ≡ false = sym is ∙ ap test here ∙ e in cc)
    by false e (inr behind) rest = rest behind

filter_in : (test : List ℕ → Bool) (key : List ℕ) (xs : List (List ℕ)) → IsIn key (filter test xs) → IsIn key xs × (test key ≡ true)
filter_in test key [] there = absurd there
filter_in test key (x ∷ xs) there = by (test x) refl there (λ behind. filter_in test key xs behind)
  where
    by : (b : Bool) → test x ≡ b → IsIn key (if b then x ∷ filter test xs else filter test xs) → (IsIn key (filter test xs) → IsIn key xs × (test key ≡ true))
        → IsIn key (x ∷ xs) × (test key ≡ true)
    by true e (inl here) rest = (inl here, ap test here ∙ e)
    by true e (inr behind) rest = let both = rest behind in (inr both.0, both.1)
    by false e behind rest = let both = rest behind in (inr both.0, both.1)

all_of : (f : List ℕ → Bool) (xs : List (List ℕ)) → ((other : List ℕ) → IsIn other xs → f other ≡ true) → list_all f xs ≡ true
all_of f [] each = refl
all_of f (x ∷ xs) each = ap (λ (b : Bool). b && list_all f xs) (each x (inl refl)) ∙ all_of f xs (λ other there. each other (inr there))

each_of : (f : List ℕ → Bool) (xs : List (List ℕ)) (other : List ℕ) → list_all f xs ≡ true → IsIn other xs → f other ≡ true
each_of f [] other all there = absurd there
each_of f (x ∷ xs) other all there = by (f x) refl all there (λ rest behind. each_of f xs other rest behind)
  where
    by : (b : Bool) → f x ≡ b → (b && list_all f xs) ≡ true → IsIn other (x ∷ xs) → (list_all f xs ≡ true → IsIn other xs → f other ≡ true) → f other ≡ true
    by true e rest (inl here) each = ap f here ∙ e
    by true e rest (inr behind) each = each rest behind
    by false e rest there each = absurd (cc)

-- the only one for which it holds is the first
only_first : (test : List ℕ → Bool) (key : List ℕ) (xs : List (List ℕ)) → IsIn key xs → test key ≡ true → ((other : List ℕ) → IsIn other xs → test other ≡ true → other ≡ key) → first_with test xs ≡ Some key
only_first test key [] there is one = absurd there
only_first test key (x ∷ xs) there is one = by (test x) refl there (λ behind. only_first test key xs behind is (λ other inside. one other (inr inside)))
  where
    by : (b : Bool) → test x ≡ b → IsIn key (x ∷ xs) → (IsIn key xs → first_with test xs ≡ Some key) → (if b then Some x else first_with test xs) ≡ Some key
    by true e at rest = ap (λ (y : List ℕ). Some y) (one x (inl refl) e)
    by false e (inl here) rest = absurd (let differ : true ≡ false = sym is ∙ ap test here ∙ e in cc)
    by false e (inr behind) rest = rest behind

none_first : (test : List ℕ → Bool) (xs : List (List ℕ)) → ((key : List ℕ) → IsIn key xs → ⊥) → first_with test xs ≡ None
none_first test [] none = refl
none_first test (x ∷ xs) none = absurd (none x (inl refl))

-- ---- the least and the greatest of a list

least_is : (key : List ℕ) (them : List (List ℕ)) → IsIn key them → ((other : List ℕ) → IsIn other them → walk_cmp walk_start key other ≡ Greater → ⊥) → least them ≡ Some key
least_is key them there first =
    only_first (λ it. list_all (λ other. not (is_before other it)) them) key them there
    (all_of (λ other. not (is_before other key)) them (λ other inside. not_less (walk_cmp walk_start other key) (λ less. first other inside (turned other key less))))
    (λ other inside all. sym (same key other (tie (walk_cmp walk_start key other) (first other inside) (each_of (λ it. not (is_before it other)) them key all there))))

greatest_is : (key : List ℕ) (them : List (List ℕ)) → IsIn key them → ((other : List ℕ) → IsIn other them → walk_cmp walk_start key other ≡ Less → ⊥) → greatest them ≡ Some key
greatest_is key them there last =
    only_first (λ it. list_all (λ other. not (is_before it other)) them) key them there
    (all_of (λ other. not (is_before key other)) them (λ other inside. not_less (walk_cmp walk_start key other) (last other inside)))
    (λ other inside all. same other key (tie (walk_cmp walk_start other key)
    (λ greater. last other inside (total.antisymm key other ∙ ap ordering_reverse greater)) (each_of (λ it. not (is_before other it)) them key all there)))

-- ---- among the keys of a map

module _ (m : Stored) (P : List ℕ → Type 0) (test : List ℕ → Bool) (to : (key : List ℕ) → P key → test key ≡ true) (from : (key : List ℕ) → test key ≡ true → P key) where
  abbrev them : List (List ℕ)
  them = filter test (keys m)

  inside : (key : List ℕ) → contains_key m key ≡ true → P key → IsIn key them
  inside key there is = in_filter test key (keys m) (in_any key (keys m) (sym (contains_key-keys m key) ∙ there)) (to key is)

  outside : (key : List ℕ) → IsIn key them → (contains_key m key ≡ true) × P key
  outside key there = let both = filter_in test key (keys m) there in (contains_key-keys m key ∙ any_in key (keys m) both.0, from key both.1)

  gives_least : (found : Option (List ℕ)) → GivesFirst walk_start m P found → found ≡ least them
  gives_least None none = sym (none_first _ them (λ key there. let both = outside key there in none key both.0 both.1))
  gives_least (Some key) is =
      sym (least_is key them (inside key is.there is.is) (λ other there greater. let both = outside other there in is.first other both.0 both.1 greater))

  gives_greatest : (found : Option (List ℕ)) → GivesLast walk_start m P found → found ≡ greatest them
  gives_greatest None none = sym (none_first _ them (λ key there. let both = outside key there in none key both.0 both.1))
  gives_greatest (Some key) is =
      sym (greatest_is key them (inside key is.there is.is) (λ other there less. let both = outside other there in is.last other both.0 both.1 less))

-- ---- the four

and_of : (a b : Bool) → a ≡ true → b ≡ true → (a && b) ≡ true
and_of true true p q = refl
and_of true false p q = q
and_of false b p q = p

both_of : (a b : Bool) → (a && b) ≡ true → (a ≡ true) × (b ≡ true)
both_of true true is = (refl, refl)
both_of true false is = absurd (cc)
both_of false b is = absurd (cc)

first_found : (stored : Stored) (found : Option (List ℕ)) → FirstOf stored found → found ≡ least (users (λ _. true) stored)
first_found stored found is = gives_least stored IsOfKeys (λ key. true && is_of_keys key) (λ key of. of) (λ key of. of) found is

last_found : (stored : Stored) (found : Option (List ℕ)) → LastOf stored found → found ≡ greatest (users (λ _. true) stored)
last_found stored found is = gives_greatest stored IsOfKeys (λ key. true && is_of_keys key) (λ key of. of) (λ key of. of) found is

next_found : (at : List ℕ) (stored : Stored) (found : Option (List ℕ)) → NextOf at stored found → found ≡ least (users (λ other. is_before at other) stored)
next_found at stored found is =
    gives_least stored (λ other. (walk_cmp walk_start at other ≡ Less) × IsOfKeys other) (λ key. is_before at key && is_of_keys key)
    (λ key of. and_of (is_before at key) (is_of_keys key) (ap is_less of.0) of.1)
    (λ key of. let both = both_of (is_before at key) (is_of_keys key) of in (less_is (walk_cmp walk_start at key) both.0, both.1)) found is

prev_found : (at : List ℕ) (stored : Stored) (found : Option (List ℕ)) → PrevOf at stored found → found ≡ greatest (users (λ other. is_before other at) stored)
prev_found at stored found is =
    gives_greatest stored (λ other. (walk_cmp walk_start other at ≡ Less) × IsOfKeys other) (λ key. is_before key at && is_of_keys key)
    (λ key of. and_of (is_before key at) (is_of_keys key) (ap is_less of.0) of.1)
    (λ key of. let both = both_of (is_before key at) (is_of_keys key) of in (less_is (walk_cmp walk_start key at) both.0, both.1)) found is

-- what the store finds for a move is where the cursor is meant to go
pub found_is : (to : Move) (at : Option (List ℕ)) (stored : Stored) (found : Option (List ℕ)) → FoundBy to at stored found → found ≡ place_by to at stored
found_is First at stored found is = first_found stored found is
found_is Last at stored found is = last_found stored found is
found_is Next None stored found is = is
found_is Next (Some key) stored found is = next_found key stored found is
found_is Prev None stored found is = is
found_is Prev (Some key) stored found is = prev_found key stored found is

-- and a key that is there
pub found_there : (to : Move) (at : Option (List ℕ)) (stored : Stored) (key : List ℕ) → FoundBy to at stored (Some key) → contains_key stored key ≡ true
found_there First at stored key is = is.there
found_there Last at stored key is = is.there
found_there Next None stored key is = absurd (cc)
found_there Next (Some from) stored key is = is.there
found_there Prev None stored key is = absurd (cc)
found_there Prev (Some from) stored key is = is.there
