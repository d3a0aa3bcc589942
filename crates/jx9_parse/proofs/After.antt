-- What stands behind something that was read, and makes a tree with it.
use Rattle.std.proofs.Common.{◌≡◌, ℕ, Bool, true, false, IsTrue, cond, ◌⊎◌, inl, inr, List, [], ◌++◌, Ok, Err, refl, sym, ap, subst, ◌∙◌}
use Rattle.jx9_syntax.specs.Grammar.{code, Rule, second}
use Rattle.jx9_syntax.specs.Making.{Making, mapped, then_made}
use Rattle.jx9_syntax.specs.Words.{Nothing, Map, Then}
use Rattle.jx9_parse.specs.Reading.{Tokens, State, Read, Reader, ◌>>=◌, next_in}
use Rattle.jx9_parse.proofs.Unplaced.{Found}
use Rattle.jx9_parse.proofs.Laws.{Off, Told, told_nothing, told_then, told_chosen, told_stuck, told_map, bind_id}
use Rattle.jx9_parse.proofs.Sets.{In, Begin, apart, within, within_in, in_left, in_right, begin_as, off, begins_in, begins_as, next_no, next_not}
use Rattle.jx9_parse.proofs.Placed.{made_at, at_state, then_runs, map_runs, behind_runs}
use Rattle.jx9_parse.proofs.Parts.{Part, Tail, Guard, Or, told_cond, cond_runs, part_or_tail}

pub record After {A B : Type 0} (M : Making A → Rule B) (more begins : List ℕ) (run : A → Reader B) : Type 0 where
  pub reads : Making A → Tokens → Found (Making B)
  pub told : (x : Making A) (ts : Tokens) → Told (M x) (λ _. In more) ts (reads x ts)
  pub runs : (s : State) (x : Making A) (ts : Tokens) → run (made_at s x ts).0 (made_at s x ts).1 ≡ at_state s (reads x ts)
  pub starts : (x : Making A) (w : Tokens) (m : Making B) → M x w m → (w ≡ []) ⊎ Begin begins w
  pub some : (x : Making A) → (w : Tokens) × (m : Making B) × M x w m

-- what is never empty and takes one level of nesting
pub record GuardAfter {A B : Type 0} (room : Bool) (M : Making A → Rule B) (more begins : List ℕ) (run : A → Reader B) : Type 0 where
  pub inner : List ℕ
  pub after : IsTrue room → After M more inner run
  pub empty : room ≡ false → (x : Making A) (w : Tokens) (m : Making B) → M x w m → ⊥
  pub full : (x : Making A) (w : Tokens) (m : Making B) → M x w m → Begin begins w

-- ---- from parts

pub after_nothing : {A : Type 0} → After {A = A} {B = A} (λ x. Nothing x) [] [] (λ a s. Ok (a, s))
after_nothing = record {
  reads = λ x ts. Ok (x, ts);
  told = λ x ts. told_nothing x (λ _. In []) ts;
  runs = λ s x ts. refl;
  starts = λ x w m is. inl is.is_word;
  some = λ x. ([], x, record { is_word = refl; is_value = refl });
}

pub as_tail : {B : Type 0} {K : Rule B} {ms bs : List ℕ} {k : Reader B} → Part K ms bs k → Tail K ms bs k
as_tail l = record { reads = l.reads; told = l.told; runs = l.runs; starts = λ w m is. inr (l.starts w m is); some = l.some }

pub guard_starts : {B : Type 0} {K : Rule B} {ms bs : List ℕ} {k : Reader B} → (room : Bool) → Guard room K ms bs k → (w : Tokens) (m : Making B) → K w m → Begin bs w
guard_starts true l w m is = (l.part refl).starts w m is
guard_starts false l w m is = absurd (l.empty refl w m is)

module _ {A B C : Type 0} {K : Rule B} {ms bs : List ℕ} {k : Reader B} where
  pub after_tail : (f : A → B → C) → Tail K ms bs k → After (λ x. Map K (then_made f x)) ms bs (λ a s. k s >>= λ y. Ok (f a y.0, y.1))
  after_tail f l = record {
    reads = λ x ts. l.reads ts >>= λ y. Ok (then_made f x y.0, y.1);
    told = λ x ts. told_map K (then_made f x) (λ _. In ms) (λ _. In ms) (λ _ t i. i) ts (l.reads ts) (l.told ts);
    runs = λ s x ts. ap (λ (z : Read B). z >>= λ y. Ok (f (made_at s x ts).0 y.0, y.1)) (l.runs (made_at s x ts).1) ∙ behind_runs f s x ts (l.reads ts);
    starts = λ x w m is. l.starts w is.value is.is_word;
    some = λ x. let a = l.some in (a.0, then_made f x a.1, record { value = a.1; is_word = a.2; is_value = refl });
  }

  pub guard_after : (room : Bool) (f : A → B → C) → Guard room K ms bs k → GuardAfter room (λ x. Map K (then_made f x)) ms bs (λ a s. k s >>= λ y. Ok (f a y.0, y.1))
  guard_after room f l = record {
    inner = bs;
    after = λ h. let p = l.part h in record {
      reads = λ x ts. p.reads ts >>= λ y. Ok (then_made f x y.0, y.1);
      told = λ x ts. told_map K (then_made f x) (λ _. In ms) (λ _. In ms) (λ _ t i. i) ts (p.reads ts) (p.told ts);
      runs = λ s x ts. ap (λ (z : Read B). z >>= λ y. Ok (f (made_at s x ts).0 y.0, y.1)) (p.runs (made_at s x ts).1) ∙ behind_runs f s x ts (p.reads ts);
      starts = λ x w m is. inr (p.starts w is.value is.is_word);
      some = λ x. let a = p.some in (a.0, then_made f x a.1, record { value = a.1; is_word = a.2; is_value = refl });
    };
    empty = λ h x w m is. l.empty h w is.value is.is_word;
    full = λ x w m is. guard_starts room l w is.value is.is_word;
  }

begin_both : (bs cs : List ℕ) (w u v : Tokens) → w ≡ u ++ v → (u ≡ []) ⊎ Begin bs u → (v ≡ []) ⊎ Begin cs v → (w ≡ []) ⊎ Begin (bs ++ cs) w
begin_both bs cs w u v e (inr s) other = inr (begin_as bs (bs ++ cs) (λ c i. in_left bs cs c i) w (s.0, s.1 ++ v, e ∙ ap (λ (z : Tokens). z ++ v) s.2, s.3))
begin_both bs cs w u v e (inl f) (inl g) = inl (e ∙ ap (λ (z : Tokens). z ++ v) f ∙ g)
begin_both bs cs w u v e (inl f) (inr s) = inr (begin_as cs (bs ++ cs) (λ c i. in_right bs cs c i) w (s.0, s.1, e ∙ ap (λ (z : Tokens). z ++ v) f ∙ s.2, s.3))

-- ---- more behind it

module _ {A B C : Type 0} {M : Making A → Rule B} {ms bs : List ℕ} {q : A → Reader B} where
  pub after_map : (f : B → C) → After M ms bs q → After (λ x. Map (M x) (mapped f)) ms bs (λ a s. q a s >>= λ y. Ok (f y.0, y.1))
  after_map f m = record {
    reads = λ x ts. m.reads x ts >>= λ y. Ok (mapped f y.0, y.1);
    told = λ x ts. told_map (M x) (mapped f) (λ _. In ms) (λ _. In ms) (λ _ t i. i) ts (m.reads x ts) (m.told x ts);
    runs = λ s x ts. map_runs f s (q (made_at s x ts).0 (made_at s x ts).1) (m.reads x ts) (m.runs s x ts);
    starts = λ x w c is. m.starts x w is.value is.is_word;
    some = λ x. let a = m.some x in (a.0, mapped f a.1, record { value = a.1; is_word = a.2; is_value = refl });
  }

  pub after_then : {K : Rule C} {ns cs : List ℕ} {k : Reader C} {D : Type 0} (f : B → C → D) → After M ms bs q → Tail K ns cs k → apart ms cs ≡ true
      → After (λ x. Then (M x) (λ _. K) (then_made f)) (ms ++ ns) (bs ++ cs) (λ a s. q a s >>= λ y. k y.1 >>= λ z. Ok (f y.0 z.0, z.1))
  after_then {K} {ns} {cs} {k} {D} f m l h = record {
    reads = λ x ts. m.reads x ts >>= λ y. l.reads y.1 >>= λ z. Ok (then_made f y.0 z.0, z.1);
    told = λ x ts. told_then (M x) (λ _. K) (then_made f) (λ _. In ms) (λ _ _. In ns) (λ _. In (ms ++ ns)) (λ _ b w v is far. part_or_tail ms ns cs w v h (l.starts w b is) far)
        (λ _ _ t i. in_right ms ns (code t) i) (λ _. l.some) ts (m.reads x ts) (λ y. l.reads y.1) (m.told x ts) (λ y is. l.told y.1);
    runs = λ s x ts. then_runs f s (q (made_at s x ts).0 (made_at s x ts).1) (m.reads x ts) (m.runs s x ts) k l.reads l.runs;
    starts = λ x w c is. begin_both bs cs w is.front is.back is.parts (m.starts x is.front is.left is.is_left) (l.starts is.back is.right is.is_right);
    some = λ x. let a = m.some x in let b = l.some in
        (a.0 ++ b.0, then_made f a.1 b.1, record { front = a.0; back = b.0; left = a.1; right = b.1; parts = refl; is_left = a.2; is_right = b.2; is_value = refl });
  }

pub same_bind : {A B : Type 0} (o : Found A) (p : A × Tokens → Found B) → (o >>= λ x. p x >>= λ y. Ok (y.0, y.1)) ≡ (o >>= p)
same_bind (Ok x) p = bind_id (p x)
same_bind (Err ts) p = refl

next_runs : {B C : Type 0} (k : B → Reader C) → (s : State) (r : Read B) (o : Found (Making B)) → r ≡ at_state s o → (p : Making B → Tokens → Found (Making C)) → ((s : State) (x : Making B) (ts : Tokens) → k (made_at s x ts).0 (made_at s x ts).1 ≡ at_state s (p x ts))
    → (r >>= λ y. k y.0 y.1) ≡ at_state s (o >>= λ y. p y.0 y.1)
next_runs {B} {C} k s r o e p same = ap (λ (z : Read B). z >>= λ y. k y.0 y.1) e ∙ by o
  where
    by : (o : Found (Making B)) → (at_state s o >>= λ y. k y.0 y.1) ≡ at_state s (o >>= λ y. p y.0 y.1)
    by (Ok y) = same s y.0 y.1
    by (Err ts) = refl

module _ {A B C : Type 0} {M : Making A → Rule B} {N : Making B → Rule C} {ms ns bs cs : List ℕ} {q : A → Reader B} {k : B → Reader C} where
  pub after_after : After M ms bs q → After N ns cs k → apart ms cs ≡ true → After (λ x. Then (M x) N second) (ms ++ ns) (bs ++ cs) (λ a s. q a s >>= λ y. k y.0 y.1)
  after_after m n h = record {
    reads = λ x ts. m.reads x ts >>= λ y. n.reads y.0 y.1;
    told = λ x ts. subst (λ (z : Found (Making C)). Told (Then (M x) N second) (λ _. In (ms ++ ns)) ts z) (same_bind (m.reads x ts) (λ y. n.reads y.0 y.1))
        (told_then (M x) N second (λ _. In ms) (λ _ _. In ns) (λ _. In (ms ++ ns)) (λ a b w v is far. part_or_tail ms ns cs w v h (n.starts a w b is) far)
        (λ _ _ t i. in_right ms ns (code t) i) n.some ts (m.reads x ts) (λ y. n.reads y.0 y.1) (m.told x ts) (λ y is. n.told y.0 y.1));
    runs = λ s x ts. next_runs k s (q (made_at s x ts).0 (made_at s x ts).1) (m.reads x ts) (m.runs s x ts) n.reads n.runs;
    starts = λ x w c is. begin_both bs cs w is.front is.back is.parts (m.starts x is.front is.left is.is_left) (n.starts is.left is.back is.right is.is_right);
    some = λ x. let a = m.some x in let b = n.some a.1 in
        (a.0 ++ b.0, b.1, record { front = a.0; back = b.0; left = a.1; right = b.1; parts = refl; is_left = a.2; is_right = b.2; is_value = refl });
  }

-- a part, and what stands behind it
module _ {A B : Type 0} {L : Rule A} {N : Making A → Rule B} {ms ns bs cs : List ℕ} {r : Reader A} {k : A → Reader B} where
  pub part_after : Part L ms bs r → After N ns cs k → apart ms cs ≡ true → Part (Then L N second) (ms ++ ns) bs (λ s. r s >>= λ y. k y.0 y.1)
  part_after l n h = record {
    reads = λ ts. l.reads ts >>= λ y. n.reads y.0 y.1;
    told = λ ts. subst (λ (z : Found (Making B)). Told (Then L N second) (λ _. In (ms ++ ns)) ts z) (same_bind (l.reads ts) (λ y. n.reads y.0 y.1))
        (told_then L N second (λ _. In ms) (λ _ _. In ns) (λ _. In (ms ++ ns)) (λ a b w v is far. part_or_tail ms ns cs w v h (n.starts a w b is) far)
        (λ _ _ t i. in_right ms ns (code t) i) n.some ts (l.reads ts) (λ y. n.reads y.0 y.1) (l.told ts) (λ y is. n.told y.0 y.1));
    runs = λ s. next_runs k s (r s) (l.reads s.tokens) (l.runs s) n.reads n.runs;
    starts = λ w c is. let b = l.starts is.front is.left is.is_left in (b.0, b.1 ++ is.back, is.parts ∙ ap (λ (u : Tokens). u ++ is.back) b.2, b.3);
    some = let a = l.some in let b = n.some a.1 in
        (a.0 ++ b.0, b.1, record { front = a.0; back = b.0; left = a.1; right = b.1; parts = refl; is_left = a.2; is_right = b.2; is_value = refl });
  }

-- ---- another rule with the same words, more tokens

pub after_as : {A B : Type 0} {M K : Making A → Rule B} {ms bs : List ℕ} {q : A → Reader B} (ns cs : List ℕ) → within ms ns ≡ true → within bs cs ≡ true
    → ((x : Making A) (w : Tokens) (m : Making B) → M x w m → K x w m) → ((x : Making A) (w : Tokens) (m : Making B) → K x w m → M x w m) → After M ms bs q → After K ns cs q
after_as {M = M} {K = K} {ms = ms} {bs = bs} ns cs h g into back l = record {
  reads = l.reads;
  told = λ x ts. told_chosen (M x) (K x) (λ _. In ms) (λ _. In ns) ts (l.reads x ts) (into x) (λ w m is. inl (back x w m is)) (λ _ t i. within_in ms ns h (code t) i) (l.told x ts);
  runs = l.runs;
  starts = λ x w m is. elim (l.starts x w m (back x w m is)) [ inl e ↦ inl e | inr s ↦ inr (begin_as bs cs (within_in bs cs g) w s) ];
  some = λ x. let a = l.some x in (a.0, a.1, into x a.0 a.1 a.2);
}

-- ---- a choice, by the next token

abbrev pub OrAfter : {A B : Type 0} → (Making A → Rule B) → (Making A → Rule B) → Making A → Rule B
OrAfter M N x = Or (M x) (N x)

module _ {A B : Type 0} {M N : Making A → Rule B} {ms bs cs : List ℕ} {q k : A → Reader B} where
  -- the first stands where the next token is one with which it begins; a word of the second may be empty
  pub after_or : (room : Bool) → GuardAfter room M ms bs q → After N ms cs k → apart bs cs ≡ true → within bs ms ≡ true
      → After (OrAfter M N) ms (bs ++ cs) (λ a s. cond (next_in bs s.tokens) (cond room (q a s) (Err s.tokens)) (k a s))
  after_or true l n h g = let m = l.after refl in record {
    reads = λ x ts. cond (next_in bs ts) (m.reads x ts) (n.reads x ts);
    told = λ x ts. told_cond (OrAfter M N x) (λ _. In ms) ts (next_in bs ts) (m.reads x ts) (n.reads x ts)
        (λ e. told_chosen (M x) (OrAfter M N x) (λ _. In ms) (λ _. In ms) ts (m.reads x ts) (λ w a is. inl is) (as_first x ts e) (λ a t i. i) (m.told x ts))
        (λ e. told_chosen (N x) (OrAfter M N x) (λ _. In ms) (λ _. In ms) ts (n.reads x ts) (λ w a is. inr is) (as_second x ts e) (λ a t i. i) (n.told x ts));
    runs = λ s x ts. let p = made_at s x ts in cond_runs s (next_in bs ts) (q p.0 p.1) (k p.0 p.1) (m.reads x ts) (n.reads x ts) (m.runs s x ts) (n.runs s x ts);
    starts = λ x w a is. begin x w a is;
    some = λ x. let a = n.some x in (a.0, a.1, inr a.2);
  }
    where
      off_second : (x : Making A) (ts : Tokens) → next_in bs ts ≡ true → (w : Tokens) (a : Making B) → (w ≡ []) ⊎ Begin cs w → Off (In ms) ts w
      off_second x ts e w a (inl f) = subst (λ (u : Tokens). Off (In ms) ts u) (sym f) (begins_as bs ms (within_in bs ms g) ts (begins_in bs ts e))
      off_second x ts e w a (inr s) = off cs (In ms) ts w (next_no bs cs h ts e) s

      as_first : (x : Making A) (ts : Tokens) → next_in bs ts ≡ true → (w : Tokens) (a : Making B) → OrAfter M N x w a → M x w a ⊎ Off (In ms) ts w
      as_first x ts e w a (inl is) = inl is
      as_first x ts e w a (inr is) = inr (off_second x ts e w a (n.starts x w a is))

      as_second : (x : Making A) (ts : Tokens) → next_in bs ts ≡ false → (w : Tokens) (a : Making B) → OrAfter M N x w a → N x w a ⊎ Off (In ms) ts w
      as_second x ts e w a (inl is) = inr (off bs (In ms) ts w (next_not bs ts e) (l.full x w a is))
      as_second x ts e w a (inr is) = inl is

      begin : (x : Making A) (w : Tokens) (a : Making B) → OrAfter M N x w a → (w ≡ []) ⊎ Begin (bs ++ cs) w
      begin x w a (inl is) = inr (begin_as bs (bs ++ cs) (λ c i. in_left bs cs c i) w (l.full x w a is))
      begin x w a (inr is) = elim (n.starts x w a is) [ inl e ↦ inl e | inr s ↦ inr (begin_as cs (bs ++ cs) (λ c i. in_right bs cs c i) w s) ]
  after_or false l n h g = record {
    reads = λ x ts. cond (next_in bs ts) (Err ts) (n.reads x ts);
    told = λ x ts. told_cond (OrAfter M N x) (λ _. In ms) ts (next_in bs ts) (Err ts) (n.reads x ts)
        (λ e. let a = n.some x in told_stuck (OrAfter M N x) (λ _. In ms) ts a.0 a.1 (inr a.2) (no_word x ts e))
        (λ e. told_chosen (N x) (OrAfter M N x) (λ _. In ms) (λ _. In ms) ts (n.reads x ts) (λ w a is. inr is) (as_second x ts) (λ a t i. i) (n.told x ts));
    runs = λ s x ts. let p = made_at s x ts in cond_runs s (next_in bs ts) (Err ts) (k p.0 p.1) (Err ts) (n.reads x ts) refl (n.runs s x ts);
    starts = λ x w a is. begin x w a is;
    some = λ x. let a = n.some x in (a.0, a.1, inr a.2);
  }
    where
      off_second : (x : Making A) (ts : Tokens) → next_in bs ts ≡ true → (w : Tokens) (a : Making B) → (w ≡ []) ⊎ Begin cs w → Off (In ms) ts w
      off_second x ts e w a (inl f) = subst (λ (u : Tokens). Off (In ms) ts u) (sym f) (begins_as bs ms (within_in bs ms g) ts (begins_in bs ts e))
      off_second x ts e w a (inr s) = off cs (In ms) ts w (next_no bs cs h ts e) s

      no_word : (x : Making A) (ts : Tokens) → next_in bs ts ≡ true → (w : Tokens) (a : Making B) → OrAfter M N x w a → Off (In ms) ts w
      no_word x ts e w a (inl is) = absurd (l.empty refl x w a is)
      no_word x ts e w a (inr is) = off_second x ts e w a (n.starts x w a is)

      as_second : (x : Making A) (ts : Tokens) (w : Tokens) (a : Making B) → OrAfter M N x w a → N x w a ⊎ Off (In ms) ts w
      as_second x ts w a (inl is) = absurd (l.empty refl x w a is)
      as_second x ts w a (inr is) = inl is

      begin : (x : Making A) (w : Tokens) (a : Making B) → OrAfter M N x w a → (w ≡ []) ⊎ Begin (bs ++ cs) w
      begin x w a (inl is) = absurd (l.empty refl x w a is)
      begin x w a (inr is) = elim (n.starts x w a is) [ inl e ↦ inl e | inr s ↦ inr (begin_as cs (bs ++ cs) (λ c i. in_right bs cs c i) w s) ]
