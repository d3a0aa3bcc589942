-- One more name in a map of variables and their slots.
use Rattle.std.proofs.Common.{◌≡◌, ℕ, zero, suc, ◌+◌, ◌<◌, List, [], ◌∷◌, ◌++◌, length, Some, None, refl, sym, ap, ◌∙◌, subst, arith, true≢false}
use Rattle.std.specs.Prelude.{Bool, true, false, cond, nat_eq, if◌then◌else◌, position}
use Rattle.std.specs.BTreeMap.{insert_entry, is_at}
use Rattle.std.specs.Cmp.Lexicographic.{slice_cmp}
use Rattle.std.specs.List.{position_from}
use Rattle.std.specs.Map.{lookup}
use Rattle.std.specs.Ordering.{is_eq, match_ordering, nat_cmp}
use Rattle.std.specs.Str.{bytes_eq}
use Rattle.std.specs.declared.cmp.Ordering.{Ordering}
use Rattle.std.specs.declared.cmp.Ordering.TheVariants.{Less, Equal, Greater}
use Rattle.std.proofs.lemmas.Bool.{false_from_ne_true}
use Rattle.std.proofs.lemmas.Iterator.Adapters.{position_from-zero}
use Rattle.std.proofs.lemmas.List.{length_push}
use Rattle.std.proofs.lemmas.Map.Text.{is_eq-slice_cmp}
use Rattle.std.proofs.lemmas.Option.{none-some}
use Rattle.std.proofs.lemmas.Slice.Eq.{bytes_eq-Decides}
use Rattle.uq_value.specs.Data.{Bytes}
use Rattle.jx9_compile.specs.Names.{slot_in, name_at, names_below, names_of, AreBelow, AreSlots}

-- ---- places of names

position_is : (p : Bytes → Bool) (xs : List Bytes) → position p xs ≡ position_from p 0 xs
position_is p xs = position_from-zero p xs

other_pushed : (p : Bytes → Bool) (i : ℕ) (xs : List Bytes) (y : Bytes) → p y ≡ false → position_from p i (xs ++ y ∷ []) ≡ position_from p i xs
other_pushed p i [] y h = ap (λ b. cond b (Some i) None) h
other_pushed p i (x ∷ xs) y h = ap (λ r. cond (p x) (Some i) r) (other_pushed p (i + 1) xs y h)

first_pushed : (p : Bytes → Bool) (i : ℕ) (xs : List Bytes) (y : Bytes) → position_from p i xs ≡ None → p y ≡ true → position_from p i (xs ++ y ∷ []) ≡ Some (i + length xs)
first_pushed p i [] y none h = ap (λ b. cond b (Some i) None) h ∙ ap Some (omega arith)
first_pushed p i (x ∷ xs) y none h = go (p x) none (λ e. first_pushed p (i + 1) xs y e h)
  where
    go : (b : Bool) → cond b (Some i) (position_from p (i + 1) xs) ≡ None → (position_from p (i + 1) xs ≡ None → position_from p (i + 1) (xs ++ y ∷ []) ≡ Some (i + 1 + length xs))
        → cond b (Some i) (position_from p (i + 1) (xs ++ y ∷ [])) ≡ Some (i + suc (length xs))
    go true e more = absurd (none-some i (sym e))
    go false e more = more e ∙ ap Some (omega arith)

-- ---- the names of the slots

-- the entry comes into the list, behind entries of other names
data Inserted {K : Type 0} (bytes : K → Bytes) (k : K) (v : ℕ) : List (K × ℕ) → List (K × ℕ) → Type 0 where
  here : {es : List (K × ℕ)} → Inserted bytes k v es ((k, v) ∷ es)
  later : {es es' : List (K × ℕ)} (e : K × ℕ) → bytes_eq (bytes k) (bytes e.0) ≡ false → Inserted bytes k v es es' → Inserted bytes k v (e ∷ es) (e ∷ es')

module _ {K : Type 0} (bytes : K → Bytes) where
  pub length_names : (es : List (K × ℕ)) (n : ℕ) → length (names_below bytes es n) ≡ n
  length_names es zero = refl
  length_names es (suc n) = omega (arith, length_push (names_below bytes es n) (name_at bytes es n), length_names es n)

  pub found_by : (name : Bytes) (es : List (K × ℕ)) → lookup (is_at (λ k. slice_cmp nat_cmp name (bytes k))) es ≡ slot_in bytes es name
  found_by name [] = refl
  found_by name (e ∷ es) =
      ap (λ r. cond (is_eq (slice_cmp nat_cmp name (bytes e.0))) (Some e.1) r) (found_by name es)
      ∙ ap (λ b. cond b (Some e.1) (slot_in bytes es name)) (is_eq-slice_cmp name (bytes e.0))

  inserted : (k : K) (v : ℕ) (es : List (K × ℕ)) → slot_in bytes es (bytes k) ≡ None → Inserted bytes k v es (insert_entry (λ x y. slice_cmp nat_cmp (bytes x) (bytes y)) es k v)
  inserted k v [] none = here
  inserted k v (e ∷ es) none = go (slice_cmp nat_cmp (bytes k) (bytes e.0)) (is_eq-slice_cmp (bytes k) (bytes e.0)) none (λ h. inserted k v es h)
    where
      go : (o : Ordering) → is_eq o ≡ bytes_eq (bytes k) (bytes e.0) → cond (bytes_eq (bytes k) (bytes e.0)) (Some e.1) (slot_in bytes es (bytes k)) ≡ None
          → (slot_in bytes es (bytes k) ≡ None → Inserted bytes k v es (insert_entry (λ x y. slice_cmp nat_cmp (bytes x) (bytes y)) es k v))
          → Inserted bytes k v (e ∷ es) (match_ordering o ((k, v) ∷ e ∷ es) ((e.0, v) ∷ es) (e ∷ insert_entry (λ x y. slice_cmp nat_cmp (bytes x) (bytes y)) es k v))
      go Less same none more = here
      go Equal same none more = absurd (none-some e.1 (sym (subst (λ b. cond b (Some e.1) (slot_in bytes es (bytes k)) ≡ None) (sym same) none)))
      go Greater same none more = later e (sym same) (more (subst (λ b. cond b (Some e.1) (slot_in bytes es (bytes k)) ≡ None) (sym same) none))

  longer : {k : K} {v : ℕ} {es es' : List (K × ℕ)} → Inserted bytes k v es es' → length es' ≡ suc (length es)
  longer here = refl
  longer (later e apart rest) = ap suc (longer rest)

  below_more : (n : ℕ) (es : List (K × ℕ)) → AreBelow n es → AreBelow (suc n) es
  below_more n [] b = tt
  below_more n (e ∷ es) b = (omega (arith, b.0), below_more n es b.1)

  below_inserted : {k : K} {v : ℕ} {es es' : List (K × ℕ)} → Inserted bytes k v es es' → AreBelow v es → AreBelow (suc v) es'
  below_inserted {v = v} (here {es = es}) b = (omega arith, below_more v es b)
  below_inserted {v = v} (later e apart rest) b = (omega (arith, b.0), below_inserted rest b.1)

  other_name : {k : K} {v : ℕ} {es es' : List (K × ℕ)} → Inserted bytes k v es es' → (slot : ℕ) → nat_eq v slot ≡ false → name_at bytes es' slot ≡ name_at bytes es slot
  other_name {k = k} (here {es = es}) slot h = ap (λ b. if b then bytes k else name_at bytes es slot) h
  other_name (later e apart rest) slot h = ap (λ n. if nat_eq e.1 slot then bytes e.0 else n) (other_name rest slot h)

  apart_below : (v slot : ℕ) → slot < v → nat_eq v slot ≡ false
  apart_below v slot less = grind arith

  apart_above : (v slot : ℕ) → v < slot → nat_eq v slot ≡ false
  apart_above v slot less = grind arith

  same_slot : (v : ℕ) → nat_eq v v ≡ true
  same_slot v = grind arith

  new_name : {k : K} {v : ℕ} {es es' : List (K × ℕ)} → Inserted bytes k v es es' → AreBelow v es → name_at bytes es' v ≡ bytes k
  new_name {k = k} {v = v} (here {es = es}) b = ap (λ t. if t then bytes k else name_at bytes es v) (same_slot v)
  new_name {v = v} (later {es' = es'} e apart rest) b =
      ap (λ t. if t then bytes e.0 else name_at bytes es' v) (apart_above e.1 v b.0) ∙ new_name rest b.1

  same_names : (es es' : List (K × ℕ)) (n : ℕ) → ((slot : ℕ) → slot < n → name_at bytes es' slot ≡ name_at bytes es slot) → names_below bytes es' n ≡ names_below bytes es n
  same_names es es' zero same = refl
  same_names es es' (suc n) same =
      ap (λ ns. ns ++ name_at bytes es' n ∷ []) (same_names es es' n (λ slot less. same slot (omega (arith, less))))
      ∙ ap (λ name. names_below bytes es n ++ name ∷ []) (same n (omega arith))

  module _ {k : K} {es es' : List (K × ℕ)} (i : Inserted bytes k (length es) es es') (s : AreSlots bytes es) where
    names_more : names_of bytes es' ≡ names_of bytes es ++ bytes k ∷ []
    names_more =
        ap (λ n. names_below bytes es' n) (longer i)
        ∙ ap (λ ns. ns ++ name_at bytes es' (length es) ∷ []) (same_names es es' (length es) (λ slot less. other_name i slot (apart_below (length es) slot less)))
        ∙ ap (λ name. names_of bytes es ++ name ∷ []) (new_name i s.below)

  -- the look-up of a name among the entries with one more
  slot_inserted : {k : K} {v : ℕ} {es es' : List (K × ℕ)} → Inserted bytes k v es es' → (name : Bytes)
      → slot_in bytes es' name ≡ cond (bytes_eq name (bytes k)) (Some v) (slot_in bytes es name)
  slot_inserted here name = refl
  slot_inserted {k = k} {v = v} (later {es = es} e apart rest) name =
      ap (λ r. cond (bytes_eq name (bytes e.0)) (Some e.1) r) (slot_inserted rest name)
      ∙ go (bytes_eq name (bytes e.0)) refl (bytes_eq name (bytes k)) refl
    where
      go : (b : Bool) → bytes_eq name (bytes e.0) ≡ b → (c : Bool) → bytes_eq name (bytes k) ≡ c
          → cond b (Some e.1) (cond c (Some v) (slot_in bytes es name)) ≡ cond c (Some v) (cond b (Some e.1) (slot_in bytes es name))
      go true f true g =
          absurd (true≢false (sym f ∙ ap (λ n. bytes_eq n (bytes e.0)) ((bytes_eq-Decides name (bytes k)).0 g) ∙ apart))
      go true f false g = refl
      go false f c g = refl

  module _ (k : K) (v : ℕ) (name : Bytes) (es es' : List (K × ℕ)) (names : List Bytes) (of_key : bytes k ≡ name) (next : v ≡ length es)
      (is : es' ≡ insert_entry (λ x y. slice_cmp nat_cmp (bytes x) (bytes y)) es k v) (seen : names_of bytes es ≡ names) (s : AreSlots bytes es)
      (none : position (λ n. bytes_eq n name) names ≡ None) where
    absent : position (λ n. bytes_eq n (bytes k)) (names_of bytes es) ≡ None
    absent = ap (λ ns. position (λ n. bytes_eq n (bytes k)) ns) seen ∙ ap (λ x. position (λ n. bytes_eq n x) names) of_key ∙ none

    put : Inserted bytes k (length es) es es'
    put =
        subst (λ l. Inserted bytes k (length es) es l) (sym is)
        (subst (λ n. Inserted bytes k n es (insert_entry (λ x y. slice_cmp nat_cmp (bytes x) (bytes y)) es k v)) next (inserted k v es (s.found (bytes k) ∙ absent)))

    pub name_added : names_of bytes es' ≡ names ++ name ∷ []
    name_added = names_more put s ∙ ap (λ ns. ns ++ bytes k ∷ []) seen ∙ ap (λ x. names ++ x ∷ []) of_key

    found_added : (other : Bytes) → slot_in bytes es' other ≡ position (λ n. bytes_eq n other) (names_of bytes es')
    found_added other =
        slot_inserted put other ∙ go (bytes_eq other (bytes k)) refl
        ∙ sym (position_is (λ n. bytes_eq n other) (names_of bytes es ++ bytes k ∷ []))
        ∙ ap (λ ns. position (λ n. bytes_eq n other) ns) (sym (names_more put s))
      where
        p : Bytes → Bool
        p n = bytes_eq n other

        same_bytes : bytes_eq other (bytes k) ≡ true → other ≡ bytes k
        same_bytes e = (bytes_eq-Decides other (bytes k)).0 e

        turned : (b : Bool) → bytes_eq other (bytes k) ≡ b → bytes_eq (bytes k) other ≡ b
        turned true e = (bytes_eq-Decides (bytes k) other).1 (sym (same_bytes e))
        turned false e = false_from_ne_true (bytes_eq (bytes k) other)
            (λ t. true≢false (sym ((bytes_eq-Decides other (bytes k)).1 (sym ((bytes_eq-Decides (bytes k) other).0 t))) ∙ e))

        go : (b : Bool) → bytes_eq other (bytes k) ≡ b
            → cond b (Some (length es)) (slot_in bytes es other) ≡ position_from (λ n. bytes_eq n other) 0 (names_of bytes es ++ bytes k ∷ [])
        go true e =
            sym (first_pushed p 0 (names_of bytes es) (bytes k)
            (sym (position_is p (names_of bytes es)) ∙ ap (λ x. position (λ n. bytes_eq n x) (names_of bytes es)) (same_bytes e) ∙ absent) (turned true e)
            ∙ ap Some (omega (arith, length_names es (length es))))
        go false e =
            s.found other ∙ position_is p (names_of bytes es) ∙ sym (other_pushed p 0 (names_of bytes es) (bytes k) (turned false e))

    pub slots_added : AreSlots bytes es'
    slots_added = record {
      below = subst (λ n. AreBelow n es') (sym (longer put)) (below_inserted put s.below);
      found = found_added;
    }
