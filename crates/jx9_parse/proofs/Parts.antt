-- Parts of the grammar: what a word begins with, with what it may go on, that there is one, and what reading tells of it.
use Rattle.std.proofs.Common.{◌≡◌, ℕ, suc, Bool, true, false, IsTrue, cond, ◌⊎◌, inl, inr, List, [], ◌∷◌, ◌++◌, length, Option, Some, None, Ok, Err, refl, sym, ap, subst, ◌∙◌, append-nil}
use Rattle.jx9_syntax.specs.Grammar.{code, Rule, Seq}
use Rattle.jx9_syntax.specs.Making.{Making, Made, mapped, then_made, lambda_made}
use Rattle.jx9_syntax.specs.Words.{Language, One, Map}
use Rattle.jx9_syntax.specs.declared.program.Function.{Function}
use Rattle.jx9_syntax.specs.declared.token.Token.{Token}
use Rattle.jx9_parse.specs.Reading.{Tokens, State, Read, Reader, ◌>>=◌, next_in, one_told, one_of, one, then_read, map_read, guarded, choose, reserved, lambda_read}
use Rattle.jx9_parse.proofs.Unplaced.{Found}
use Rattle.jx9_parse.proofs.Unplaced as unplaced
use Rattle.jx9_parse.proofs.Laws.{Set, Begins, Off, Told, told_one, told_then, told_chosen, told_stuck, told_map}
use Rattle.jx9_parse.proofs.Sets.{In, Begin, apart, within, false_true, within_in, in_left, in_right, begin_as, begin_then, off, parted_by, begins_as, next_no, next_not}
use Rattle.jx9_parse.proofs.Placed.{at_state, then_runs, map_runs, lambda_runs}

-- no word is empty
pub record Part {A : Type 0} (L : Rule A) (more begins : List ℕ) (run : Reader A) : Type 0 where
  pub reads : Tokens → Found (Making A)
  pub told : (ts : Tokens) → Told L (λ _. In more) ts (reads ts)
  pub runs : (s : State) → run s ≡ at_state s (reads s.tokens)
  pub starts : (w : Tokens) (m : Making A) → L w m → Begin begins w
  pub some : (w : Tokens) × (m : Making A) × L w m

-- a word may be empty
pub record Tail {A : Type 0} (L : Rule A) (more begins : List ℕ) (run : Reader A) : Type 0 where
  pub reads : Tokens → Found (Making A)
  pub told : (ts : Tokens) → Told L (λ _. In more) ts (reads ts)
  pub runs : (s : State) → run s ≡ at_state s (reads s.tokens)
  pub starts : (w : Tokens) (m : Making A) → L w m → (w ≡ []) ⊎ Begin begins w
  pub some : (w : Tokens) × (m : Making A) × L w m

-- what takes one level of nesting: with no room there is no word
pub record Guard {A : Type 0} (room : Bool) (L : Rule A) (more begins : List ℕ) (run : Reader A) : Type 0 where
  pub part : IsTrue room → Part L more begins run
  pub empty : room ≡ false → (w : Tokens) (m : Making A) → L w m → ⊥

-- ---- one token

-- the test tells of tokens with these numbers, and what it tells is made of one token
pub record Tells {A : Type 0} (test : Token → Option (Making A)) (begins : List ℕ) : Type 0 where
  pub numbers : (t : Token) (m : Making A) → test t ≡ Some m → In begins t
  pub single : (t : Token) (m : Making A) → test t ≡ Some m → (n l : ℕ) → m n l ≡ record { made = (m n l).made; next = suc n; lambdas = [] }

pub part_one : {A : Type 0} (test : Token → Option (Making A)) (begins : List ℕ) → Tells test begins → (z : Token) (m : Making A) → test z ≡ Some m → Part (One test) [] begins (one test)
part_one {A} test begins tells z m is = record {
  reads = unplaced.one test;
  told = λ ts. told_one test (λ _. In []) ts z m is;
  runs = λ s. run s s.tokens;
  starts = λ w a word. (word.token, [], word.is_word, tells.numbers word.token a word.tells);
  some = (z ∷ [], m, record { token = z; is_word = refl; tells = is });
}
  where
    by : (s : State) (t : Token) (ts : Tokens) (o : Option (Making A)) → test t ≡ o → one_told o s t ts ≡ at_state s (unplaced.at_option o t ts)
    by s t ts None e = refl
    by s t ts (Some a) e =
        let made = (a s.number (suc (length s.lambdas))).made in
        sym (ap (λ (x : Made A). Ok (made, record { tokens = ts; number = x.next; lambdas = s.lambdas ++ x.lambdas })) (tells.single t a e s.number (suc (length s.lambdas)))
        ∙ ap (λ (ls : List Function). Ok (made, record { tokens = ts; number = suc s.number; lambdas = ls })) (append-nil s.lambdas))

    run : (s : State) (ts : Tokens) → one_of test s ts ≡ at_state s (unplaced.one test ts)
    run s [] = refl
    run s (t ∷ ts) = by s t ts (test t) refl

-- ---- one behind the other

pub part_or_tail : (ms ns cs : List ℕ) (w v : Tokens) → apart ms cs ≡ true → (w ≡ []) ⊎ Begin cs w → Begins (In ms) (w ++ v) → Begins (In (ms ++ ns)) v
part_or_tail ms ns cs w v h (inl e) far = begins_as ms (ms ++ ns) (λ c i. in_left ms ns c i) v (subst (λ (u : Tokens). Begins (In ms) (u ++ v)) e far)
part_or_tail ms ns cs w v h (inr s) far = parted_by cs ms (In (ms ++ ns)) h w v s far

module _ {A B C : Type 0} {L : Rule A} {M : Rule B} {ms ns bs cs : List ℕ} {r : Reader A} {q : Reader B} where
  pub part_then : (f : A → B → C) → Part L ms bs r → Part M ns cs q → apart ms cs ≡ true → Part (Seq f L M) ns bs (then_read f r q)
  part_then f l m h = record {
    reads = λ ts. l.reads ts >>= λ x. m.reads x.1 >>= λ y. Ok (then_made f x.0 y.0, y.1);
    told = λ ts. told_then L (λ _. M) (then_made f) (λ _. In ms) (λ _ _. In ns) (λ _. In ns) (λ _ b w v is far. parted_by cs ms (In ns) h w v (m.starts w b is) far) (λ _ _ t g. g) (λ _. m.some)
        ts (l.reads ts) (λ x. m.reads x.1) (l.told ts) (λ x is. m.told x.1);
    runs = λ s. then_runs f s (r s) (l.reads s.tokens) (l.runs s) q m.reads m.runs;
    starts = begin_then L (λ _. M) (then_made f) bs l.starts;
    some = let a = l.some in let b = m.some in
        (a.0 ++ b.0, then_made f a.1 b.1, record { front = a.0; back = b.0; left = a.1; right = b.1; parts = refl; is_left = a.2; is_right = b.2; is_value = refl });
  }

  pub part_tail : (f : A → B → C) → Part L ms bs r → Tail M ns cs q → apart ms cs ≡ true → Part (Seq f L M) (ms ++ ns) bs (then_read f r q)
  part_tail f l m h = record {
    reads = λ ts. l.reads ts >>= λ x. m.reads x.1 >>= λ y. Ok (then_made f x.0 y.0, y.1);
    told = λ ts. told_then L (λ _. M) (then_made f) (λ _. In ms) (λ _ _. In ns) (λ _. In (ms ++ ns)) (λ _ b w v is far. part_or_tail ms ns cs w v h (m.starts w b is) far) (λ _ _ t g. in_right ms ns (code t) g) (λ _. m.some)
        ts (l.reads ts) (λ x. m.reads x.1) (l.told ts) (λ x is. m.told x.1);
    runs = λ s. then_runs f s (r s) (l.reads s.tokens) (l.runs s) q m.reads m.runs;
    starts = begin_then L (λ _. M) (then_made f) bs l.starts;
    some = let a = l.some in let b = m.some in
        (a.0 ++ b.0, then_made f a.1 b.1, record { front = a.0; back = b.0; left = a.1; right = b.1; parts = refl; is_left = a.2; is_right = b.2; is_value = refl });
  }

  pub tail_part : (f : A → B → C) → Tail L ms bs r → Part M ns cs q → apart ms cs ≡ true → Part (Seq f L M) ns (bs ++ cs) (then_read f r q)
  tail_part f l m h = record {
    reads = λ ts. l.reads ts >>= λ x. m.reads x.1 >>= λ y. Ok (then_made f x.0 y.0, y.1);
    told = λ ts. told_then L (λ _. M) (then_made f) (λ _. In ms) (λ _ _. In ns) (λ _. In ns) (λ _ b w v is far. parted_by cs ms (In ns) h w v (m.starts w b is) far) (λ _ _ t g. g) (λ _. m.some)
        ts (l.reads ts) (λ x. m.reads x.1) (l.told ts) (λ x is. m.told x.1);
    runs = λ s. then_runs f s (r s) (l.reads s.tokens) (l.runs s) q m.reads m.runs;
    starts = λ w c is. begin w c is (l.starts is.front is.left is.is_left);
    some = let a = l.some in let b = m.some in
        (a.0 ++ b.0, then_made f a.1 b.1, record { front = a.0; back = b.0; left = a.1; right = b.1; parts = refl; is_left = a.2; is_right = b.2; is_value = refl });
  }
    where
      begin : (w : Tokens) (c : Making C) (is : Seq f L M w c) → (is.front ≡ []) ⊎ Begin bs is.front → Begin (bs ++ cs) w
      begin w c is (inl e) = begin_as cs (bs ++ cs) (λ d i. in_right bs cs d i) w
          (subst (λ (u : Tokens). Begin cs u) (sym (is.parts ∙ ap (λ (u : Tokens). u ++ is.back) e)) (m.starts is.back is.right is.is_right))
      begin w c is (inr s) = begin_as bs (bs ++ cs) (λ d i. in_left bs cs d i) w (s.0, s.1 ++ is.back, is.parts ∙ ap (λ (u : Tokens). u ++ is.back) s.2, s.3)

-- ---- another tree, more tokens, another rule with the same words

pub part_map : {A B : Type 0} {L : Rule A} {ms bs : List ℕ} {r : Reader A} (f : A → B) → Part L ms bs r → Part (Map L (mapped f)) ms bs (map_read f r)
part_map {L = L} {ms = ms} {r = r} f l = record {
  reads = λ ts. l.reads ts >>= λ x. Ok (mapped f x.0, x.1);
  told = λ ts. told_map L (mapped f) (λ _. In ms) (λ _. In ms) (λ a t g. g) ts (l.reads ts) (l.told ts);
  runs = λ s. map_runs f s (r s) (l.reads s.tokens) (l.runs s);
  starts = λ w c is. l.starts w is.value is.is_word;
  some = let a = l.some in (a.0, mapped f a.1, record { value = a.1; is_word = a.2; is_value = refl });
}

pub tail_map : {A B : Type 0} {L : Rule A} {ms bs : List ℕ} {r : Reader A} (f : A → B) → Tail L ms bs r → Tail (Map L (mapped f)) ms bs (map_read f r)
tail_map {L = L} {ms = ms} {r = r} f l = record {
  reads = λ ts. l.reads ts >>= λ x. Ok (mapped f x.0, x.1);
  told = λ ts. told_map L (mapped f) (λ _. In ms) (λ _. In ms) (λ a t g. g) ts (l.reads ts) (l.told ts);
  runs = λ s. map_runs f s (r s) (l.reads s.tokens) (l.runs s);
  starts = λ w c is. l.starts w is.value is.is_word;
  some = let a = l.some in (a.0, mapped f a.1, record { value = a.1; is_word = a.2; is_value = refl });
}

pub part_as : {A : Type 0} {L K : Rule A} {ms bs : List ℕ} {r : Reader A} (ns cs : List ℕ) → within ms ns ≡ true → within bs cs ≡ true → ((w : Tokens) (m : Making A) → L w m → K w m) → ((w : Tokens) (m : Making A) → K w m → L w m) → Part L ms bs r → Part K ns cs r
part_as {L = L} {K = K} {ms = ms} {bs = bs} ns cs h g into back l = record {
  reads = l.reads;
  told = λ ts. told_chosen L K (λ _. In ms) (λ _. In ns) ts (l.reads ts) into (λ w m is. inl (back w m is)) (λ _ t i. within_in ms ns h (code t) i) (l.told ts);
  runs = l.runs;
  starts = λ w m is. begin_as bs cs (within_in bs cs g) w (l.starts w m (back w m is));
  some = let a = l.some in (a.0, a.1, into a.0 a.1 a.2);
}

pub tail_as : {A : Type 0} {L K : Rule A} {ms bs : List ℕ} {r : Reader A} (ns cs : List ℕ) → within ms ns ≡ true → within bs cs ≡ true → ((w : Tokens) (m : Making A) → L w m → K w m) → ((w : Tokens) (m : Making A) → K w m → L w m) → Tail L ms bs r → Tail K ns cs r
tail_as {A = A} {L = L} {K = K} {ms = ms} {bs = bs} ns cs h g into back l = record {
  reads = l.reads;
  told = λ ts. told_chosen L K (λ _. In ms) (λ _. In ns) ts (l.reads ts) into (λ w m is. inl (back w m is)) (λ _ t i. within_in ms ns h (code t) i) (l.told ts);
  runs = l.runs;
  starts = λ w m is. begin w (l.starts w m (back w m is));
  some = let a = l.some in (a.0, a.1, into a.0 a.1 a.2);
}
  where
    begin : (w : Tokens) → (w ≡ []) ⊎ Begin bs w → (w ≡ []) ⊎ Begin cs w
    begin w (inl e) = inl e
    begin w (inr s) = inr (begin_as bs cs (within_in bs cs g) w s)

-- ---- what takes room

pub guard_as : {A : Type 0} {room : Bool} {L K : Rule A} {ms bs : List ℕ} {r : Reader A} → ((w : Tokens) (m : Making A) → L w m → K w m) → ((w : Tokens) (m : Making A) → K w m → L w m) → Guard room L ms bs r → Guard room K ms bs r
guard_as {ms = ms} {bs = bs} into back l = record {
  part = λ h. let p = l.part h in record {
    reads = p.reads;
    told = λ ts. told_chosen _ _ (λ _. In ms) (λ _. In ms) ts (p.reads ts) into (λ w m is. inl (back w m is)) (λ _ t i. i) (p.told ts);
    runs = p.runs;
    starts = λ w m is. p.starts w m (back w m is);
    some = let a = p.some in (a.0, a.1, into a.0 a.1 a.2);
  };
  empty = λ h w m is. l.empty h w m (back w m is);
}

pub guard_map : {A B : Type 0} {room : Bool} {L : Rule A} {ms bs : List ℕ} {r : Reader A} (f : A → B) → Guard room L ms bs r → Guard room (Map L (mapped f)) ms bs (map_read f r)
guard_map f l = record { part = λ h. part_map f (l.part h); empty = λ h w m is. l.empty h w is.value is.is_word }

module _ {A B C : Type 0} {room : Bool} {L : Rule A} {M : Rule B} {ms ns bs cs : List ℕ} {r : Reader A} {q : Reader B} where
  pub guard_left : (f : A → B → C) → Guard room L ms bs r → Part M ns cs q → apart ms cs ≡ true → Guard room (Seq f L M) ns bs (then_read f r q)
  guard_left f l m h = record { part = λ g. part_then f (l.part g) m h; empty = λ g w c is. l.empty g is.front is.left is.is_left }

  pub guard_right : (f : A → B → C) → Part L ms bs r → Guard room M ns cs q → apart ms cs ≡ true → Guard room (Seq f L M) ns bs (then_read f r q)
  guard_right f l m h = record { part = λ g. part_then f l (m.part g) h; empty = λ g w c is. m.empty g is.back is.right is.is_right }

  pub guard_tail : (f : A → B → C) → Guard room L ms bs r → Tail M ns cs q → apart ms cs ≡ true → Guard room (Seq f L M) (ms ++ ns) bs (then_read f r q)
  guard_tail f l m h = record { part = λ g. part_tail f (l.part g) m h; empty = λ g w c is. l.empty g is.front is.left is.is_left }

-- ---- a choice, by the next token

abbrev pub Or : {A : Type 0} → Rule A → Rule A → Rule A
Or L M w m = L w m ⊎ M w m

pub told_cond : {A : Type 0} (L : Language A) (more : A → Set) (ts : Tokens) (b : Bool) (r q : Found A) → (b ≡ true → Told L more ts r) → (b ≡ false → Told L more ts q) → Told L more ts (cond b r q)
told_cond L more ts true r q this other = this refl
told_cond L more ts false r q this other = other refl

pub cond_runs : {A : Type 0} (s : State) (b : Bool) (r q : Read A) (o p : Found (Making A)) → r ≡ at_state s o → q ≡ at_state s p → cond b r q ≡ at_state s (cond b o p)
cond_runs s true r q o p e f = e
cond_runs s false r q o p e f = f

module _ {A : Type 0} {L M : Rule A} {ms bs cs : List ℕ} {r q : Reader A} where
  -- the first stands where the next token is one with which it begins
  pub part_or : (room : Bool) → Guard room L ms bs r → Part M ms cs q → apart bs cs ≡ true → Part (Or L M) ms (bs ++ cs) (choose bs (guarded room r) q)
  part_or true l m h = let p = l.part refl in record {
    reads = λ ts. cond (next_in bs ts) (p.reads ts) (m.reads ts);
    told = λ ts. told_cond (Or L M) (λ _. In ms) ts (next_in bs ts) (p.reads ts) (m.reads ts)
        (λ g. told_chosen L (Or L M) (λ _. In ms) (λ _. In ms) ts (p.reads ts) (λ w a is. inl is) (as_first ts g) (λ a t i. i) (p.told ts))
        (λ g. told_chosen M (Or L M) (λ _. In ms) (λ _. In ms) ts (m.reads ts) (λ w a is. inr is) (as_second ts g p) (λ a t i. i) (m.told ts));
    runs = λ s. cond_runs s (next_in bs s.tokens) (r s) (q s) (p.reads s.tokens) (m.reads s.tokens) (p.runs s) (m.runs s);
    starts = λ w a is. begin p w a is;
    some = let a = m.some in (a.0, a.1, inr a.2);
  }
    where
      as_first : (ts : Tokens) → next_in bs ts ≡ true → (w : Tokens) (a : Making A) → Or L M w a → L w a ⊎ Off (In ms) ts w
      as_first ts g w a (inl is) = inl is
      as_first ts g w a (inr is) = inr (off cs (In ms) ts w (next_no bs cs h ts g) (m.starts w a is))

      as_second : (ts : Tokens) → next_in bs ts ≡ false → Part L ms bs r → (w : Tokens) (a : Making A) → Or L M w a → M w a ⊎ Off (In ms) ts w
      as_second ts g p w a (inl is) = inr (off bs (In ms) ts w (next_not bs ts g) (p.starts w a is))
      as_second ts g p w a (inr is) = inl is

      begin : Part L ms bs r → (w : Tokens) (a : Making A) → Or L M w a → Begin (bs ++ cs) w
      begin p w a (inl is) = begin_as bs (bs ++ cs) (λ c i. in_left bs cs c i) w (p.starts w a is)
      begin p w a (inr is) = begin_as cs (bs ++ cs) (λ c i. in_right bs cs c i) w (m.starts w a is)
  part_or false l m h = record {
    reads = λ ts. cond (next_in bs ts) (Err ts) (m.reads ts);
    told = λ ts. told_cond (Or L M) (λ _. In ms) ts (next_in bs ts) (Err ts) (m.reads ts)
        (λ g. let a = m.some in told_stuck (Or L M) (λ _. In ms) ts a.0 a.1 (inr a.2) (no_word ts g))
        (λ g. told_chosen M (Or L M) (λ _. In ms) (λ _. In ms) ts (m.reads ts) (λ w a is. inr is) (as_second ts) (λ a t i. i) (m.told ts));
    runs = λ s. cond_runs s (next_in bs s.tokens) (Err s.tokens) (q s) (Err s.tokens) (m.reads s.tokens) refl (m.runs s);
    starts = λ w a is. begin w a is;
    some = let a = m.some in (a.0, a.1, inr a.2);
  }
    where
      no_word : (ts : Tokens) → next_in bs ts ≡ true → (w : Tokens) (a : Making A) → Or L M w a → Off (In ms) ts w
      no_word ts g w a (inl is) = absurd (l.empty refl w a is)
      no_word ts g w a (inr is) = off cs (In ms) ts w (next_no bs cs h ts g) (m.starts w a is)

      as_second : (ts w : Tokens) (a : Making A) → Or L M w a → M w a ⊎ Off (In ms) ts w
      as_second ts w a (inl is) = absurd (l.empty refl w a is)
      as_second ts w a (inr is) = inl is

      begin : (w : Tokens) (a : Making A) → Or L M w a → Begin (bs ++ cs) w
      begin w a (inl is) = absurd (l.empty refl w a is)
      begin w a (inr is) = begin_as cs (bs ++ cs) (λ c i. in_right bs cs c i) w (m.starts w a is)

-- what takes no room
pub free : {A : Type 0} {L : Rule A} {ms bs : List ℕ} {r : Reader A} → Part L ms bs r → Guard true L ms bs r
free l = record { part = λ h. l; empty = λ h. absurd (false_true (sym h)) }

-- ---- lambdas

pub part_lambda : {A B : Type 0} {L : Rule A} {ms bs : List ℕ} {r : Reader A} (f : A → ℕ → B) (g : A → Function) → Part L ms bs r → Part (Map L (lambda_made f g)) ms bs (lambda_read f g r)
part_lambda {L = L} {ms = ms} {r = r} f g l = record {
  reads = λ ts. l.reads ts >>= λ x. Ok (lambda_made f g x.0, x.1);
  told = λ ts. told_map L (lambda_made f g) (λ _. In ms) (λ _. In ms) (λ a t i. i) ts (l.reads ts) (l.told ts);
  runs = λ s. lambda_runs f g s (r (reserved s)) (l.reads s.tokens) (l.runs (reserved s));
  starts = λ w c is. l.starts w is.value is.is_word;
  some = let a = l.some in (a.0, lambda_made f g a.1, record { value = a.1; is_word = a.2; is_value = refl });
}

pub guard_lambda : {A B : Type 0} {room : Bool} {L : Rule A} {ms bs : List ℕ} {r : Reader A} (f : A → ℕ → B) (g : A → Function) → Guard room L ms bs r → Guard room (Map L (lambda_made f g)) ms bs (lambda_read f g r)
guard_lambda f g l = record { part = λ h. part_lambda f g (l.part h); empty = λ h w m is. l.empty h w is.value is.is_word }
