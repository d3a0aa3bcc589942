-- One part of the compiler after another.
use Rattle.std.proofs.Common.{◌≡◌, ℕ, zero, suc, ◌+◌, ◌<◌, ◌≤◌, List, [], ◌∷◌, ◌++◌, length, get_or, take, Option, Some, None, refl, sym, ap, ◌∙◌, subst, arith, length-append, length-set, true≢false}
use Rattle.std.specs.Prelude.{Bool, true, false, not, cond, IsNone, slice_get, slice_set, position}
use Rattle.std.specs.List.{position_or_len}
use Rattle.std.specs.Str.{bytes_eq}
use Rattle.std.proofs.lemmas.Bool.{ltb-false, false_from_ne_true}
use Rattle.std.proofs.lemmas.List.{take_more}
use Rattle.std.proofs.lemmas.List.Quantifiers.{position-Some}
use Rattle.std.proofs.lemmas.Option.{same_Some, slice_get_within, slice_get-get_or}
use Rattle.std.proofs.lemmas.Slice.Eq.{bytes_eq-Decides}
use Rattle.uq_value.specs.Data.{Bytes}
use Rattle.jx9_syntax.specs.declared.expression.Expr.{Expr}
use Rattle.jx9_syntax.specs.declared.expression.Link.{Link}
use Rattle.jx9_syntax.specs.declared.parts.Part.{Part}
use Rattle.jx9_syntax.specs.declared.statement.Statement.{Statement}
use Rattle.jx9_compile.specs.Emitted.{Loop}
use Rattle.jx9_compile.specs.Emits.{IsSame, Stands, IsOp, IsSlot, AreParts, IsExpr, AreValues, AreLinks, IsEffect, AreEffects, ArePrints, loop_of, IsStatement, IsSequence, IsTurn, Held, nothing_held, piece_held, AreHeld, Emits, IsHeld, IsSet}
use Rattle.jx9_compile.specs.Holes.{Misses}
use Rattle.jx9_compile.specs.Slots.{IsAbsent, AreDistinct, KeepsSlots}
use Rattle.jx9_compile.specs.declared.emitting.Emitter.{Emitter}
use Rattle.jx9_compile.specs.declared.op.Op.{Op}
use Rattle.jx9_compile.proofs.Carried.{Carries, WaysOf, parts_carried, expr_carried, values_carried, links_carried, prints_carried, effect_carried, effects_carried, statement_carried, sequence_carried}
use Rattle.jx9_compile.proofs.Places.{slice_get-front, slice_get-seam, slice_get-set_other, slice_get-set_same}

pub same_slots : (names : List Bytes) → KeepsSlots names names
same_slots names = record { slot = λ i name h. h }

-- one more op
pub puts : (old new : Emitter) (op : Op) → new.ops ≡ old.ops ++ op ∷ [] → new.names ≡ old.names → Emits old new (IsOp op)
puts old new op more same = record {
  ops = record { same = λ i a b. ap (λ l. slice_get l i) more ∙ slice_get-front old.ops (op ∷ []) i b };
  longer = omega (arith, ap length more, length-append old.ops (op ∷ []));
  names = subst (λ n. KeepsSlots old.names n) (sym same) (same_slots old.names);
  distinct = λ d. subst AreDistinct (sym same) d;
  added = (ap (λ l. slice_get l (length old.ops)) more ∙ slice_get-seam old.ops op [], ap length more ∙ length-append old.ops (op ∷ []));
}

-- what goes on to stand where the same ops stand
abbrev pub Stable : Stands → Type 0
Stable Is = (ops ops' : List Op) (names names' : List Bytes) (at to : ℕ) → Is ops names at to → IsSame ops ops' at to → KeepsSlots names names' → Is ops' names' at to

abbrev pub Then : Stands → Stands → Stands
Then P Q ops names at to = (mid : ℕ) × P ops names at mid × Q ops names mid to

pub narrow : {ops ops' : List Op} {at to : ℕ} → IsSame ops ops' at to → (from end : ℕ) → at ≤ from → end ≤ to → IsSame ops ops' from end
narrow s from end a b = record { same = λ i x y. s.same i (omega (arith, a, x)) (omega (arith, b, y)) }

pub emits_then : (a b c : Emitter) (P Q : Stands) → Stable P → Emits a b P → Emits b c Q → Emits a c (Then P Q)
emits_then a b c P Q stable p q = record {
  ops = record { same = λ i x y. q.ops.same i x (omega (arith, y, p.longer)) ∙ p.ops.same i x y };
  longer = omega (arith, p.longer, q.longer);
  names = record { slot = λ i name h. q.names.slot i name (p.names.slot i name h) };
  distinct = λ d. q.distinct (p.distinct d);
  added = (length b.ops, stable b.ops c.ops b.names c.names (length a.ops) (length b.ops) p.added (narrow q.ops (length a.ops) (length b.ops) (omega arith) (omega arith)) q.names, q.added);
}

pub emits_as : (a b : Emitter) (P Q : Stands) → ((ops : List Op) (names : List Bytes) (at to : ℕ) → P ops names at to → Q ops names at to) → Emits a b P → Emits a b Q
emits_as a b P Q weaker p = record { ops = p.ops; longer = p.longer; names = p.names; distinct = p.distinct; added = weaker b.ops b.names (length a.ops) (length b.ops) p.added }

-- the same, at the places that were added alone
pub emits_here : (a b : Emitter) (P Q : Stands) → (P b.ops b.names (length a.ops) (length b.ops) → Q b.ops b.names (length a.ops) (length b.ops)) → Emits a b P → Emits a b Q
emits_here a b P Q weaker p = record { ops = p.ops; longer = p.longer; names = p.names; distinct = p.distinct; added = weaker p.added }

-- another name of what is left
pub emits_same : (a b c : Emitter) (P : Stands) → c ≡ b → Emits a b P → Emits a c P
emits_same a b c P same p = subst (λ x. Emits a x P) (sym same) p

-- nothing
pub emits_nothing : (a : Emitter) (P : Stands) → P a.ops a.names (length a.ops) (length a.ops) → Emits a a P
emits_nothing a P p = record { ops = record { same = λ j x y. refl }; longer = omega arith; names = same_slots a.names; distinct = λ d. d; added = p }

-- one more of the items that a loop goes over
pub one_more : {A : Type 0} (P : List A → Type 0) (xs : List A) (i : ℕ) (x : A) → i < length xs → x ≡ get_or xs i x → P (take i xs ++ x ∷ []) → P (take (i + 1) xs)
one_more P xs i x within is h = subst P (sym (take_more xs i x within ∙ ap (λ y. take i xs ++ y ∷ []) (sym is))) h

-- ---- slots

equal_bytes : (xs ys : Bytes) → bytes_eq xs ys ≡ true → xs ≡ ys
equal_bytes xs ys h = (bytes_eq-Decides xs ys).0 h

bytes_eq_same : (xs : Bytes) → bytes_eq xs xs ≡ true
bytes_eq_same xs = (bytes_eq-Decides xs xs).1 refl

bytes_eq_other : (xs ys : Bytes) → bytes_eq xs ys ≡ false → bytes_eq ys xs ≡ false
bytes_eq_other xs ys h = false_from_ne_true (bytes_eq ys xs) (λ t. true≢false (sym (bytes_eq_same xs) ∙ ap (λ q. bytes_eq xs q) (sym (equal_bytes ys xs t)) ∙ h))

found_at : (name : Bytes) (names : List Bytes) (i : ℕ) → position (λ n. bytes_eq n name) names ≡ Some i → slice_get names i ≡ Some name
found_at name names i h =
    let found = position-Some (λ n. bytes_eq n name) names i [] h in
    slice_get-get_or names i [] found.0 ∙ ap Some (equal_bytes _ _ found.1)

some_or_none : (b : Bool) (m : ℕ) → cond b (Some m) None ≡ None → b ≡ false
some_or_none true m h = absurd (true≢false (subst (λ o. IsNone o) (sym h) refl))
some_or_none false m h = refl

past : (names : List Bytes) (p : Bytes → Bool) → position p names ≡ None → length names ≤ position_or_len p names
past names p h = let l = ltb-false (position_or_len p names) (length names) (some_or_none _ _ h) in omega (arith, l)

absent_past : (name : Bytes) (names : List Bytes) → length names ≤ position_or_len (λ n. bytes_eq n name) names → IsAbsent name names
absent_past name [] h = tt
absent_past name (n ∷ ns) h = go (bytes_eq n name) refl h (λ l. absent_past name ns l)
  where
    go : (b : Bool) → bytes_eq n name ≡ b → suc (length ns) ≤ cond (not b) (1 + position_or_len (λ m. bytes_eq m name) ns) 0
        → (length ns ≤ position_or_len (λ m. bytes_eq m name) ns → IsAbsent name ns) → IsAbsent name (n ∷ ns)
    go true e l more = absurd (omega (arith, l))
    go false e l more = (e, bytes_eq_other n name e, more (omega (arith, l)))

appended : (name : Bytes) (names : List Bytes) → IsAbsent name names → AreDistinct names → AreDistinct (names ++ name ∷ [])
appended name [] a d = (bytes_eq_same name, tt, tt)
appended name (n ∷ ns) a d = (d.0, absent_more ns d.1, appended name ns a.2 d.2)
  where
    absent_more : (ms : List Bytes) → IsAbsent n ms → IsAbsent n (ms ++ name ∷ [])
    absent_more [] h = (a.1, a.0, tt)
    absent_more (m ∷ ms) h = (h.0, h.1, absent_more ms h.2)

pub slot_found : (a : Emitter) (name bs : Bytes) (r : Option ℕ) (slot : ℕ) → bs ≡ name → r ≡ position (λ n. bytes_eq n bs) a.names → r ≡ Some slot → Emits a a (IsSlot name slot)
slot_found a name bs r slot f g h = emits_nothing a (IsSlot name slot) (
  found_at name a.names slot (subst (λ x. position (λ n. bytes_eq n x) a.names ≡ Some slot) f (sym g ∙ h)),
  refl,
)

pub slot_added : (a b : Emitter) (name bs : Bytes) (r : Option ℕ) (slot : ℕ) → bs ≡ name → r ≡ position (λ n. bytes_eq n bs) a.names → r ≡ None
    → b.names ≡ a.names ++ bs ∷ [] → b.ops ≡ a.ops → slot ≡ length a.names → Emits a b (IsSlot name slot)
slot_added a b name bs r slot f g h put same is = record {
  ops = record { same = λ j x y. ap (λ l. slice_get l j) same };
  longer = omega (arith, ap length same);
  names = record { slot = λ i n g. ap (λ l. slice_get l i) more ∙ slice_get-front a.names (name ∷ []) i (slice_get_within a.names i n g) ∙ g };
  distinct = λ d. subst AreDistinct (sym more) (appended name a.names (absent_past name a.names (past a.names _ (subst (λ x. position (λ n. bytes_eq n x) a.names ≡ None) f (sym g ∙ h)))) d);
  added = (subst (λ k. slice_get b.names k ≡ Some name) (sym is) (ap (λ l. slice_get l (length a.names)) more ∙ slice_get-seam a.names name []), ap length same);
}
  where
    more : b.names ≡ a.names ++ name ∷ []
    more = put ∙ ap (λ x. a.names ++ x ∷ []) f

-- ---- what is stable

pub carries_same : {ops ops' : List Op} {at to : ℕ} (most : ℕ) → IsSame ops ops' at to → Carries ops ops' most at to
carries_same most s = record { other = λ i op a b h k. s.same i a b ∙ h; jump = λ i n a b h k. s.same i a b ∙ h }

pub op_stable : (op : Op) → Stable (IsOp op)
op_stable op ops ops' names names' at to h s k = (s.same at (omega arith) (omega (arith, h.1)) ∙ h.0, h.1)

pub slot_stable : (name : Bytes) (slot : ℕ) → Stable (IsSlot name slot)
slot_stable name slot ops ops' names names' at to h s k = (k.slot slot name h.0, h.1)

pub parts_stable : (ps : List Part) → Stable (AreParts ps)
parts_stable ps ops ops' names names' at to h s k = parts_carried to k h (carries_same to s)

pub expr_stable : (e : Expr) → Stable (IsExpr e)
expr_stable e ops ops' names names' at to h s k clean = expr_carried to k (h clean) (carries_same to s) (omega arith)

pub values_stable : (es : List Expr) → Stable (AreValues es)
values_stable es ops ops' names names' at to h s k clean = values_carried to k (h clean) (carries_same to s) (omega arith)

pub links_stable : (line : ℕ) (links : List Link) → Stable (AreLinks line links)
links_stable line links ops ops' names names' at to h s k clean = links_carried to k (h clean) (carries_same to s) (omega arith)

pub prints_stable : (es : List Expr) → Stable (ArePrints es)
prints_stable es ops ops' names names' at to h s k clean = prints_carried to k (h clean) (carries_same to s) (omega arith)

pub effect_stable : (e : Expr) → Stable (IsEffect e)
effect_stable e ops ops' names names' at to h s k clean = effect_carried to k (h clean) (carries_same to s) (omega arith)

pub effects_stable : (es : List Expr) → Stable (AreEffects es)
effects_stable es ops ops' names names' at to h s k clean = effects_carried to k (h clean) (carries_same to s) (omega arith)

pub ways_same : (ops ops' : List Op) (loop : Option Loop) (at to : ℕ) → IsSame ops ops' at to → WaysOf ops ops' loop loop at to
ways_same ops ops' None at to s = tt
ways_same ops ops' (Some l) at to s = record {
  after = λ i x y h. s.same i x y ∙ h;
  again = λ i x y h. s.same i x y ∙ h;
  ahead = λ i y h. h;
}

pub statement_stable : (around : Option ℕ) (t : Statement) → Stable (IsStatement around t)
statement_stable around t ops ops' names names' at to h s k clean =
    statement_carried to k (loop_of around) (h clean) (ways_same ops ops' (loop_of around) at to s) (carries_same to s) (omega arith)

pub sequence_stable : (around : Option ℕ) (ts : List Statement) → Stable (IsSequence around ts)
sequence_stable around ts ops ops' names names' at to h s k clean =
    sequence_carried to k (loop_of around) (h clean) (ways_same ops ops' (loop_of around) at to s) (carries_same to s) (omega arith)

pub turn_stable : (again : ℕ) (body : Statement) → Stable (IsTurn again body)
turn_stable again body ops ops' names names' at to h s k = (
  h.0,
  h.1,
  h.2,
  s.same h.0 h.1 (omega (arith, h.2)) ∙ h.3,
  λ clean. statement_carried h.0 k (Some (record { after = to; again = again })) (h.4 clean)
      (ways_same ops ops' (Some (record { after = to; again = again })) at h.0 (narrow s at h.0 (omega arith) (omega (arith, h.2)))) (carries_same h.0 (narrow s at h.0 (omega arith) (omega (arith, h.2)))) (omega arith),
)

-- ---- a place that was held and is known now

-- an op that names the place up to which something stands behind it
abbrev pub Ahead : (ℕ → Op) → Stands → Stands
Ahead f Q ops names at to = (slice_get ops at ≡ Some (f to)) × (at < to) × Q ops names (at + 1) to

pub ahead_stable : (f : ℕ → Op) (Q : Stands) → Stable Q → Stable (Ahead f Q)
ahead_stable f Q stable ops ops' names names' at to h s k = (
  s.same at (omega arith) h.1 ∙ h.0,
  h.1,
  stable ops ops' names names' (at + 1) to h.2 (narrow s (at + 1) to (omega arith) (omega arith)) k,
)

module _ (b c d d' : Emitter) (f : ℕ → Op) (at n : ℕ) (Q : Stands) (stable : Stable Q) (h : IsHeld b c at) (q : Emits c d Q) (end : n ≡ length d.ops) (s : IsSet at (f n) d d') where
  long : length d'.ops ≡ length d.ops
  long = ap length s.ops ∙ length-set d.ops at (f n)

  kept : (i : ℕ) → (at ≡ i → ⊥) → slice_get d'.ops i ≡ slice_get d.ops i
  kept i apart = ap (λ l. slice_get l i) s.ops ∙ slice_get-set_other d.ops at i (f n) apart

  names : KeepsSlots d.names d'.names
  names = subst (λ ns. KeepsSlots d.names ns) (sym s.names) (same_slots d.names)

  op_there : slice_get d'.ops (length b.ops) ≡ Some (f (length d'.ops))
  op_there =
      ap (λ l. slice_get l (length b.ops)) s.ops ∙ ap (λ k. slice_get (slice_set d.ops k (f n)) (length b.ops)) h.place
      ∙ slice_get-set_same d.ops (length b.ops) (f n) (omega (arith, h.put.added.1, q.longer)) ∙ ap (λ k. Some (f k)) (end ∙ sym long)

  after_there : Q d'.ops d'.names (length b.ops + 1) (length d'.ops)
  after_there =
      subst (λ k. Q d'.ops d'.names k (length d'.ops)) h.put.added.1
      (subst (λ k. Q d'.ops d'.names (length c.ops) k) (sym long)
      (stable d.ops d'.ops d.names d'.names (length c.ops) (length d.ops) q.added
      (record { same = λ i x y. kept i (λ e. absurd (omega (arith, e, x, h.place, h.put.added.1))) }) names))

  pub filled_in : Emits b d' (Ahead f Q)
  filled_in = record {
    ops = record { same = λ i x y. kept i (λ e. absurd (omega (arith, e, y, h.place))) ∙ q.ops.same i x (omega (arith, y, h.put.longer)) ∙ h.put.ops.same i x y };
    longer = omega (arith, h.put.longer, q.longer, long);
    names = record { slot = λ i name g. names.slot i name (q.names.slot i name (h.put.names.slot i name g)) };
    distinct = λ y. subst AreDistinct (sym s.names) (q.distinct (h.put.distinct y));
    added = (op_there, omega (arith, h.put.added.1, q.longer, long), after_there);
  }

-- ---- pieces with held places

module _ {A : Type 0} (Is : A → Stands) where
  pub held_rises : {ops : List Op} {names : List Bytes} {at : ℕ} {xs : List A} {ps : List ℕ} {to : ℕ} → Held Is ops names at xs ps to → at ≤ to
  held_rises nothing_held = omega arith
  held_rises (piece_held a xs ps low d ds) = omega (arith, low, held_rises ds)

  pub held_between : {ops : List Op} {names : List Bytes} {at : ℕ} {xs : List A} {ps : List ℕ} {to : ℕ} → Held Is ops names at xs ps to
      → (j p : ℕ) → slice_get ps j ≡ Some p → (at ≤ p) × (p < to)
  held_between nothing_held j p h = absurd (omega (arith, slice_get_within [] j p h))
  held_between (piece_held a xs ps low d ds) zero p h = (omega (arith, low, same_Some _ p h), omega (arith, held_rises ds, same_Some _ p h))
  held_between (piece_held a xs ps low d ds) (suc j) p h = let more = held_between ds j p h in (omega (arith, low, more.0), more.1)

  held_carried : {ops ops' : List Op} {names names' : List Bytes} → ((a : A) → Stable (Is a)) → KeepsSlots names names' → {at : ℕ} {xs : List A} {ps : List ℕ} {to : ℕ}
      → Held Is ops names at xs ps to → IsSame ops ops' at to → Held Is ops' names' at xs ps to
  held_carried stable k nothing_held s = nothing_held
  held_carried {ops = ops} {ops' = ops'} {names = names} {names' = names'} stable k (piece_held {at = at} {p = p} {to = to} a xs ps low d ds) s =
      piece_held a xs ps low (stable a ops ops' names names' at p d (narrow s at p (omega arith) (omega (arith, held_rises ds))) k)
      (held_carried stable k ds (narrow s (p + 1) to (omega (arith, low)) (omega arith)))

  pub held_stable : ((a : A) → Stable (Is a)) → (xs : List A) (ps : List ℕ) → Stable (AreHeld Is xs ps)
  held_stable stable xs ps ops ops' ns ns' at to h s k = held_carried stable k h s

  held_snoc : {ops : List Op} {names : List Bytes} {at : ℕ} {xs : List A} {ps : List ℕ} {mid : ℕ} → Held Is ops names at xs ps mid → (a : A) (p : ℕ) → mid ≤ p → Is a ops names mid p
      → Held Is ops names at (xs ++ a ∷ []) (ps ++ p ∷ []) (p + 1)
  held_snoc nothing_held a p low d = piece_held a [] [] low d nothing_held
  held_snoc (piece_held b bs qs low' d' ds) a p low d = piece_held b (bs ++ a ∷ []) (qs ++ p ∷ []) low' d' (held_snoc ds a p low d)

  -- nothing stands in a place that is held
  pub held_misses : {ops : List Op} {names : List Bytes} {at : ℕ} {xs : List A} {ps : List ℕ} {to : ℕ} → Held Is ops names at xs ps to → (i : ℕ) → i < at → Misses i ps
  held_misses nothing_held i less = tt
  held_misses (piece_held a xs ps low d ds) i less = ((λ e. absurd (omega (arith, low, e, less))), held_misses ds i (omega (arith, low, less)))

  pub no_pieces : (a : Emitter) (ps : List ℕ) → ps ≡ [] → Emits a a (AreHeld Is [] ps)
  no_pieces a ps none = subst (λ qs. Emits a a (AreHeld Is [] qs)) (sym none) (emits_nothing a (AreHeld Is [] []) nothing_held)

  pub pieces_go_on : ((a : A) → Stable (Is a)) → (a b c d : Emitter) (all : List A) (i : ℕ) (x : A) (ps ps' : List ℕ) (p : ℕ) → i < length all → x ≡ get_or all i x
      → Emits a b (AreHeld Is (take i all) ps) → Emits b c (Is x) → IsHeld c d p → ps' ≡ ps ++ p ∷ [] → Emits a d (AreHeld Is (take (i + 1) all) ps')
  pieces_go_on stable a b c d all i x ps ps' p within is q r h more =
      let bd = emits_then b c d _ _ (stable x) r h.put in
      let ad = emits_then a b d _ _ (held_stable stable (take i all) ps) q bd in
      let front : Held Is d.ops d.names (length a.ops) (take i all) ps (length b.ops) =
      held_stable stable (take i all) ps b.ops d.ops b.names d.names (length a.ops) (length b.ops) q.added (narrow bd.ops (length a.ops) (length b.ops) (omega arith) (omega arith)) bd.names in
      let last : Is x d.ops d.names (length b.ops) (length c.ops) =
      stable x c.ops d.ops c.names d.names (length b.ops) (length c.ops) r.added (narrow h.put.ops (length b.ops) (length c.ops) (omega arith) (omega arith)) h.put.names in
      one_more (λ xs. Emits a d (AreHeld Is xs ps')) all i x within is
      (subst (λ qs. Emits a d (AreHeld Is (take i all ++ x ∷ []) qs)) (sym more)
      (record {
        ops = ad.ops;
        longer = ad.longer;
        names = ad.names;
        distinct = ad.distinct;
        added = subst (λ k. Held Is d.ops d.names (length a.ops) (take i all ++ x ∷ []) (ps ++ p ∷ []) k) (sym (h.put.added.1 ∙ ap (λ k. k + 1) (sym h.place)))
            (held_snoc front x p (omega (arith, r.longer, h.place)) (subst (λ k. Is x d.ops d.names (length b.ops) k) (sym h.place) last));
      }))
