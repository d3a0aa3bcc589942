-- Statements that may end open, with an `if` that has no `else`: only where one does, it goes on with `else` or `elseif`.
use Rattle.std.proofs.Common.{◌≡◌, ℕ, Bool, true, false, IsTrue, cond, ◌⊎◌, inl, inr, List, [], ◌∷◌, ◌++◌, Ok, Err, refl, sym, ap, subst, ◌∙◌}
use Rattle.jx9_syntax.specs.Grammar.{Rule, Seq}
use Rattle.jx9_syntax.specs.Making.{Making, mapped, then_made}
use Rattle.jx9_syntax.specs.Words.{Language, Map, Then}
use Rattle.jx9_syntax.specs.declared.token.Token.{Token}
use Rattle.jx9_parse.specs.Reading.{Tokens, State, Reader, ◌>>=◌, member, next_in, then_read, map_read, guarded, choose}
use Rattle.jx9_parse.proofs.Unplaced.{Found}
use Rattle.jx9_parse.proofs.Laws.{Set, Off, Told, told_then, told_chosen, told_stuck, told_map}
use Rattle.jx9_parse.proofs.Sets.{In, Begin, apart, in_left, in_right, begin_as, begin_then, off, parted_by, next_no, next_not, false_true}
use Rattle.jx9_parse.proofs.Placed.{at_state, then_runs, map_runs}
use Rattle.jx9_parse.proofs.Parts.{Part, Guard, Or, told_cond, cond_runs}

-- the value with the mark whether it is open
abbrev pub Marked : {A : Type 0} → (Bool → Rule A) → Language (Bool × Making A)
Marked S w x = S x.0 w x.1

abbrev pub else_words : List ℕ
else_words = 38 ∷ 39 ∷ []

abbrev pub more_of : Bool → List ℕ
more_of is_open = cond is_open else_words []

abbrev pub open_more : {A : Type 0} → Bool × Making A → Set
open_more x = In (more_of x.0)

abbrev pub unmarked : {A : Type 0} → Found (Bool × Making A) → Found (Making A)
unmarked o = o >>= λ x. Ok (x.0.1, x.1)

-- an open one was read only where neither is next
abbrev pub IsLongest : {A : Type 0} → Found (Bool × Making A) → Type 0
IsLongest (Ok x) = next_in else_words x.1 ≡ true → x.0.0 ≡ false
IsLongest (Err ts) = Unit {0}

pub record Open {A : Type 0} (S : Bool → Rule A) (begins : List ℕ) (run : Reader A) : Type 0 where
  pub reads : Tokens → Found (Bool × Making A)
  pub told : (ts : Tokens) → Told (Marked S) open_more ts (reads ts)
  pub runs : (s : State) → run s ≡ at_state s (unmarked (reads s.tokens))
  pub starts : (is_open : Bool) (w : Tokens) (m : Making A) → S is_open w m → Begin begins w
  pub some : (w : Tokens) × (x : Bool × Making A) × Marked S w x
  pub longest : (ts : Tokens) → IsLongest (reads ts)

-- what takes one level of nesting
pub record GuardOpen {A : Type 0} (room : Bool) (S : Bool → Rule A) (begins : List ℕ) (run : Reader A) : Type 0 where
  pub inner : IsTrue room → Open S begins run
  pub empty : room ≡ false → (is_open : Bool) (w : Tokens) (m : Making A) → S is_open w m → ⊥

-- ---- behind a part

abbrev pub with_mark : {A B C : Type 0} → (A → B → C) → Making A → Bool × Making B → Bool × Making C
with_mark f x y = (y.0, then_made f x y.1)

abbrev pub behind_marked : {A B C : Type 0} → (A → B → C) → Making A → Found (Bool × Making B) → Found (Bool × Making C)
behind_marked f x o = o >>= λ y. Ok (with_mark f x y.0, y.1)

pub behind_longest : {A B C : Type 0} (f : A → B → C) (x : Making A) (o : Found (Bool × Making B)) → IsLongest o → IsLongest (behind_marked f x o)
behind_longest f x (Ok y) h = h
behind_longest f x (Err ts) h = h

pub behind_unmarked : {A B C : Type 0} (f : A → B → C) (x : Making A) (o : Found (Bool × Making B)) → (unmarked o >>= λ y. Ok (then_made f x y.0, y.1)) ≡ unmarked (behind_marked f x o)
behind_unmarked f x (Ok y) = refl
behind_unmarked f x (Err ts) = refl

module _ {A B C : Type 0} {L : Rule A} {S : Bool → Rule B} {ms bs cs : List ℕ} {r : Reader A} {q : Reader B} where
  pub open_then : (f : A → B → C) → Part L ms bs r → Open S cs q → apart ms cs ≡ true → Open (λ is_open. Seq f L (S is_open)) bs (then_read f r q)
  open_then f l m h = record {
    reads = λ ts. l.reads ts >>= λ x. behind_marked f x.0 (m.reads x.1);
    told = λ ts. told_chosen (Then L (λ _. Marked S) (with_mark f)) (Marked (λ is_open. Seq f L (S is_open))) open_more open_more ts (l.reads ts >>= λ x. behind_marked f x.0 (m.reads x.1)) into (λ w x is. inl (back w x is)) (λ _ t i. i)
        (told_then L (λ _. Marked S) (with_mark f) (λ _. In ms) (λ _. open_more) open_more (λ _ y w v is far. parted_by cs ms (In (more_of y.0)) h w v (m.starts y.0 w y.1 is) far) (λ _ _ t i. i) (λ _. m.some)
        ts (l.reads ts) (λ x. m.reads x.1) (l.told ts) (λ x is. m.told x.1));
    runs = λ s. then_runs f s (r s) (l.reads s.tokens) (l.runs s) q (λ ts. unmarked (m.reads ts)) m.runs ∙ ap (at_state s) (regroup (l.reads s.tokens));
    starts = λ is_open. begin_then L (λ _. S is_open) (then_made f) bs l.starts;
    some = let a = l.some in let b = m.some in
        (a.0 ++ b.0, with_mark f a.1 b.1, record { front = a.0; back = b.0; left = a.1; right = b.1.1; parts = refl; is_left = a.2; is_right = b.2; is_value = refl });
    longest = λ ts. last (l.reads ts);
  }
    where
      into : (w : Tokens) (x : Bool × Making C) → Then L (λ _. Marked S) (with_mark f) w x → Seq f L (S x.0) w x.1
      into w x is = subst (λ (y : Bool × Making C). Seq f L (S y.0) w y.1) (sym is.is_value)
          (record { front = is.front; back = is.back; left = is.left; right = is.right.1; parts = is.parts; is_left = is.is_left; is_right = is.is_right; is_value = refl })

      back : (w : Tokens) (x : Bool × Making C) → Seq f L (S x.0) w x.1 → Then L (λ _. Marked S) (with_mark f) w x
      back w x is = record { front = is.front; back = is.back; left = is.left; right = (x.0, is.right); parts = is.parts; is_left = is.is_left; is_right = is.is_right; is_value = ap (λ (m : Making C). (x.0, m)) is.is_value }

      regroup : (o : Found (Making A)) → (o >>= λ x. unmarked (m.reads x.1) >>= λ y. Ok (then_made f x.0 y.0, y.1)) ≡ unmarked (o >>= λ x. behind_marked f x.0 (m.reads x.1))
      regroup (Ok x) = behind_unmarked f x.0 (m.reads x.1)
      regroup (Err ts) = refl

      last : (o : Found (Making A)) → IsLongest (o >>= λ x. behind_marked f x.0 (m.reads x.1))
      last (Ok x) = behind_longest f x.0 (m.reads x.1) (m.longest x.1)
      last (Err ts) = tt

-- ---- another tree, and the same words

abbrev mapped_mark : {A B : Type 0} → (A → B) → Bool × Making A → Bool × Making B
mapped_mark f x = (x.0, mapped f x.1)

module _ {A B : Type 0} {S : Bool → Rule A} {bs : List ℕ} {q : Reader A} where
  pub open_map : (f : A → B) → Open S bs q → Open (λ is_open. Map (S is_open) (mapped f)) bs (map_read f q)
  open_map f m = record {
    reads = λ ts. m.reads ts >>= λ x. Ok (mapped_mark f x.0, x.1);
    told = λ ts. told_chosen (Map (Marked S) (mapped_mark f)) (Marked (λ is_open. Map (S is_open) (mapped f))) open_more open_more ts (m.reads ts >>= λ x. Ok (mapped_mark f x.0, x.1)) into (λ w x is. inl (back w x is)) (λ _ t i. i)
        (told_map (Marked S) (mapped_mark f) open_more open_more (λ _ t i. i) ts (m.reads ts) (m.told ts));
    runs = λ s. map_runs f s (q s) (unmarked (m.reads s.tokens)) (m.runs s) ∙ ap (at_state s) (regroup (m.reads s.tokens));
    starts = λ is_open w x is. m.starts is_open w is.value is.is_word;
    some = let a = m.some in (a.0, mapped_mark f a.1, record { value = a.1.1; is_word = a.2; is_value = refl });
    longest = λ ts. last (m.reads ts) (m.longest ts);
  }
    where
      into : (w : Tokens) (x : Bool × Making B) → Map (Marked S) (mapped_mark f) w x → Map (S x.0) (mapped f) w x.1
      into w x is = subst (λ (y : Bool × Making B). Map (S y.0) (mapped f) w y.1) (sym is.is_value) (record { value = is.value.1; is_word = is.is_word; is_value = refl })

      back : (w : Tokens) (x : Bool × Making B) → Map (S x.0) (mapped f) w x.1 → Map (Marked S) (mapped_mark f) w x
      back w x is = record { value = (x.0, is.value); is_word = is.is_word; is_value = ap (λ (m : Making B). (x.0, m)) is.is_value }

      regroup : (o : Found (Bool × Making A)) → (unmarked o >>= λ x. Ok (mapped f x.0, x.1)) ≡ unmarked (o >>= λ x. Ok (mapped_mark f x.0, x.1))
      regroup (Ok x) = refl
      regroup (Err ts) = refl

      last : (o : Found (Bool × Making A)) → IsLongest o → IsLongest (o >>= λ x. Ok (mapped_mark f x.0, x.1))
      last (Ok x) h = h
      last (Err ts) h = h

pub open_as : {A : Type 0} {S K : Bool → Rule A} {bs : List ℕ} {q : Reader A} (cs : List ℕ) → ((c : ℕ) → member c bs ≡ true → member c cs ≡ true) → ((is_open : Bool) (w : Tokens) (m : Making A) → S is_open w m → K is_open w m)
    → ((is_open : Bool) (w : Tokens) (m : Making A) → K is_open w m → S is_open w m) → Open S bs q → Open K cs q
open_as {S = S} {K = K} {bs = bs} cs h into back m = record {
  reads = m.reads;
  told = λ ts. told_chosen (Marked S) (Marked K) open_more open_more ts (m.reads ts) (λ w x is. into x.0 w x.1 is) (λ w x is. inl (back x.0 w x.1 is)) (λ _ t i. i) (m.told ts);
  runs = m.runs;
  starts = λ is_open w x is. begin_as bs cs h w (m.starts is_open w x (back is_open w x is));
  some = let a = m.some in (a.0, a.1, into a.1.0 a.0 a.1.1 a.2);
  longest = m.longest;
}

-- ---- what ends with a sign of its own

abbrev pub Closed : {A : Type 0} → Rule A → Bool → Rule A
Closed L is_open w m = (is_open ≡ false) × L w m

pub open_closed : {A : Type 0} {L : Rule A} {bs : List ℕ} {r : Reader A} → Part L [] bs r → Open (Closed L) bs r
open_closed {A} {L} {bs} {r} l = record {
  reads = λ ts. l.reads ts >>= λ x. Ok ((false, x.0), x.1);
  told = λ ts. told_chosen (Map L shut) (Marked (Closed L)) open_more open_more ts (l.reads ts >>= λ x. Ok ((false, x.0), x.1)) into (λ w x is. inl (back w x is)) (λ _ t i. i)
      (told_map L shut (λ _. In []) open_more (λ _ t i. i) ts (l.reads ts) (l.told ts));
  runs = λ s. l.runs s ∙ ap (at_state s) (same (l.reads s.tokens));
  starts = λ is_open w m is. l.starts w m is.1;
  some = let a = l.some in (a.0, (false, a.1), (refl, a.2));
  longest = λ ts. last (l.reads ts);
}
  where
    shut : Making A → Bool × Making A
    shut m = (false, m)

    into : (w : Tokens) (x : Bool × Making A) → Map L shut w x → Closed L x.0 w x.1
    into w x is = subst (λ (y : Bool × Making A). Closed L y.0 w y.1) (sym is.is_value) (refl, is.is_word)

    back : (w : Tokens) (x : Bool × Making A) → Closed L x.0 w x.1 → Map L shut w x
    back w x is = record { value = x.1; is_word = is.1; is_value = ap (λ (b : Bool). (b, x.1)) is.0 }

    same : (o : Found (Making A)) → o ≡ unmarked (o >>= λ x. Ok ((false, x.0), x.1))
    same (Ok x) = refl
    same (Err ts) = refl

    last : (o : Found (Making A)) → IsLongest (o >>= λ x. Ok ((false, x.0), x.1))
    last (Ok x) = λ h. refl
    last (Err ts) = tt

-- ---- a choice, by the next token

abbrev pub OrOpen : {A : Type 0} → (Bool → Rule A) → (Bool → Rule A) → Bool → Rule A
OrOpen S T is_open = Or (S is_open) (T is_open)

cond_unmarked : {A : Type 0} (b : Bool) (o p : Found (Bool × Making A)) → cond b (unmarked o) (unmarked p) ≡ unmarked (cond b o p)
cond_unmarked true o p = refl
cond_unmarked false o p = refl

cond_longest : {A : Type 0} (b : Bool) (o p : Found (Bool × Making A)) → IsLongest o → IsLongest p → IsLongest (cond b o p)
cond_longest true o p h g = h
cond_longest false o p h g = g

module _ {A : Type 0} {S T : Bool → Rule A} {bs cs : List ℕ} {r q : Reader A} where
  pub open_or : (room : Bool) → GuardOpen room S bs r → Open T cs q → apart bs cs ≡ true → Open (OrOpen S T) (bs ++ cs) (choose bs (guarded room r) q)
  open_or true l m h = let p = l.inner refl in record {
    reads = λ ts. cond (next_in bs ts) (p.reads ts) (m.reads ts);
    told = λ ts. told_cond (Marked (OrOpen S T)) open_more ts (next_in bs ts) (p.reads ts) (m.reads ts)
        (λ g. told_chosen (Marked S) (Marked (OrOpen S T)) open_more open_more ts (p.reads ts) (λ w x is. inl is) (as_first ts g) (λ _ t i. i) (p.told ts))
        (λ g. told_chosen (Marked T) (Marked (OrOpen S T)) open_more open_more ts (m.reads ts) (λ w x is. inr is) (as_second ts g p) (λ _ t i. i) (m.told ts));
    runs = λ s. cond_runs s (next_in bs s.tokens) (r s) (q s) (unmarked (p.reads s.tokens)) (unmarked (m.reads s.tokens)) (p.runs s) (m.runs s) ∙ ap (at_state s) (cond_unmarked (next_in bs s.tokens) (p.reads s.tokens) (m.reads s.tokens));
    starts = λ is_open w a is. begin p is_open w a is;
    some = let a = m.some in (a.0, a.1, inr a.2);
    longest = λ ts. cond_longest (next_in bs ts) (p.reads ts) (m.reads ts) (p.longest ts) (m.longest ts);
  }
    where
      as_first : (ts : Tokens) → next_in bs ts ≡ true → (w : Tokens) (x : Bool × Making A) → Marked (OrOpen S T) w x → Marked S w x ⊎ Off (open_more x) ts w
      as_first ts g w x (inl is) = inl is
      as_first ts g w x (inr is) = inr (off cs (open_more x) ts w (next_no bs cs h ts g) (m.starts x.0 w x.1 is))

      as_second : (ts : Tokens) → next_in bs ts ≡ false → Open S bs r → (w : Tokens) (x : Bool × Making A) → Marked (OrOpen S T) w x → Marked T w x ⊎ Off (open_more x) ts w
      as_second ts g p w x (inl is) = inr (off bs (open_more x) ts w (next_not bs ts g) (p.starts x.0 w x.1 is))
      as_second ts g p w x (inr is) = inl is

      begin : Open S bs r → (is_open : Bool) (w : Tokens) (a : Making A) → OrOpen S T is_open w a → Begin (bs ++ cs) w
      begin p is_open w a (inl is) = begin_as bs (bs ++ cs) (λ c i. in_left bs cs c i) w (p.starts is_open w a is)
      begin p is_open w a (inr is) = begin_as cs (bs ++ cs) (λ c i. in_right bs cs c i) w (m.starts is_open w a is)
  open_or false l m h = record {
    reads = λ ts. cond (next_in bs ts) (Err ts) (m.reads ts);
    told = λ ts. told_cond (Marked (OrOpen S T)) open_more ts (next_in bs ts) (Err ts) (m.reads ts)
        (λ g. let a = m.some in told_stuck (Marked (OrOpen S T)) open_more ts a.0 a.1 (inr a.2) (no_word ts g))
        (λ g. told_chosen (Marked T) (Marked (OrOpen S T)) open_more open_more ts (m.reads ts) (λ w x is. inr is) (as_second ts) (λ _ t i. i) (m.told ts));
    runs = λ s. cond_runs s (next_in bs s.tokens) (Err s.tokens) (q s) (Err s.tokens) (unmarked (m.reads s.tokens)) refl (m.runs s) ∙ ap (at_state s) (cond_unmarked (next_in bs s.tokens) (Err s.tokens) (m.reads s.tokens));
    starts = λ is_open w a is. begin is_open w a is;
    some = let a = m.some in (a.0, a.1, inr a.2);
    longest = λ ts. cond_longest (next_in bs ts) (Err ts) (m.reads ts) tt (m.longest ts);
  }
    where
      no_word : (ts : Tokens) → next_in bs ts ≡ true → (w : Tokens) (x : Bool × Making A) → Marked (OrOpen S T) w x → Off (open_more x) ts w
      no_word ts g w x (inl is) = absurd (l.empty refl x.0 w x.1 is)
      no_word ts g w x (inr is) = off cs (open_more x) ts w (next_no bs cs h ts g) (m.starts x.0 w x.1 is)

      as_second : (ts : Tokens) (w : Tokens) (x : Bool × Making A) → Marked (OrOpen S T) w x → Marked T w x ⊎ Off (open_more x) ts w
      as_second ts w x (inl is) = absurd (l.empty refl x.0 w x.1 is)
      as_second ts w x (inr is) = inl is

      begin : (is_open : Bool) (w : Tokens) (a : Making A) → OrOpen S T is_open w a → Begin (bs ++ cs) w
      begin is_open w a (inl is) = absurd (l.empty refl is_open w a is)
      begin is_open w a (inr is) = begin_as cs (bs ++ cs) (λ c i. in_right bs cs c i) w (m.starts is_open w a is)

-- ---- open or not

abbrev Either : {A : Type 0} → (Bool → Rule A) → Rule A
Either S w m = (is_open : Bool) × S is_open w m

module _ {A : Type 0} {S : Bool → Rule A} {bs : List ℕ} {q : Reader A} where
  pub part_any : Open S bs q → Part (λ w m. (is_open : Bool) × S is_open w m) else_words bs q
  part_any m = record {
    reads = λ ts. unmarked (m.reads ts);
    told = λ ts. told_chosen (Map (Marked S) (λ x. x.1)) (Either S) (λ _. In else_words) (λ _. In else_words) ts (unmarked (m.reads ts)) into (λ w x is. inl (back w x is)) (λ _ t i. i)
        (told_map (Marked S) (λ x. x.1) open_more (λ _. In else_words) (λ x t i. wider x.0 t i) ts (m.reads ts) (m.told ts));
    runs = m.runs;
    starts = λ w x is. m.starts is.0 w x is.1;
    some = let a = m.some in (a.0, a.1.1, (a.1.0, a.2));
  }
    where
      wider : (b : Bool) (t : Token) → In (more_of b) t → In else_words t
      wider true t i = i
      wider false t i = absurd (false_true i)

      into : (w : Tokens) (x : Making A) → Map (Marked S) (λ x. x.1) w x → Either S w x
      into w x is = (is.value.0, subst (λ (y : Making A). S is.value.0 w y) (sym is.is_value) is.is_word)

      back : (w : Tokens) (x : Making A) → Either S w x → Map (Marked S) (λ x. x.1) w x
      back w x is = record { value = (is.0, x); is_word = is.1; is_value = refl }

  pub guard_any : {room : Bool} → GuardOpen room S bs q → Guard room (λ w m. (is_open : Bool) × S is_open w m) else_words bs q
  guard_any l = record { part = λ h. part_any (l.inner h); empty = λ h w m is. l.empty h is.0 w m is.1 }
