-- What a reader tells of a language, and how that is put together.
use Rattle.std.proofs.Common.{◌≡◌, ℕ, zero, suc, ◌≤◌, Bool, true, false, IsTrue, cond, ◌⊎◌, inl, inr, List, [], ◌∷◌, ◌++◌, length, Option, Some, None, Ok, Err, refl, sym, ap, subst, ◌∙◌, append_assoc, arith}
use Rattle.std.proofs.lemmas.List.{length-append}
use Rattle.jx9_syntax.specs.declared.token.Token.{Token}
use Rattle.jx9_syntax.specs.Words.{Language, One, Nothing, Map, Then, Many}
use Rattle.jx9_parse.specs.Reading.{Tokens, ◌>>=◌}
use Rattle.jx9_parse.proofs.Unplaced.{Found, at_option, one, many_within}

abbrev pub Set : Type 1
Set = Token → Type 0

-- the next token is one of these; the end never is
abbrev pub Begins : Set → Tokens → Type 0
Begins more [] = ⊥
Begins more (t ∷ ts) = more t

-- the next token is the same, or both are at the end
abbrev pub SameNext : Tokens → Tokens → Type 0
SameNext [] [] = Unit {0}
SameNext [] (y ∷ ys) = ⊥
SameNext (t ∷ ts) [] = ⊥
SameNext (t ∷ ts) (y ∷ ys) = t ≡ y

pub record Finds {A : Type 0} (L : Language A) (more : A → Set) (ts rest : Tokens) (a : A) : Type 0 where
  pub used : Tokens
  pub split : ts ≡ used ++ rest
  pub reads : L used a
  pub only : (x u v : Tokens) (b : A) → SameNext rest x → used ++ x ≡ u ++ v → L u b → Begins (more b) v ⊎ ((v ≡ x) × (b ≡ a))

pub record Stops {A : Type 0} (L : Language A) (more : A → Set) (ts rest : Tokens) : Type 0 where
  pub seen : Tokens
  pub split : ts ≡ seen ++ rest
  pub open_end : (w : Tokens) × (a : A) × L (seen ++ w) a
  pub dead : (x u v : Tokens) (b : A) → SameNext rest x → seen ++ x ≡ u ++ v → L u b → Begins (more b) v

abbrev pub Told : {A : Type 0} → Language A → (A → Set) → Tokens → Found A → Type 0
Told L more ts (Ok x) = Finds L more ts x.1 x.0
Told L more ts (Err rest) = Stops L more ts rest

-- ---- lists

pub cons_is : (t y : Token) (ts ys : Tokens) → t ∷ ts ≡ y ∷ ys → (t ≡ y) × (ts ≡ ys)
cons_is t y ts ys e = (cc, cc)

pub empty_or : (ts : Tokens) → (ts ≡ []) ⊎ ((t : Token) × (more : Tokens) × (ts ≡ t ∷ more))
empty_or [] = inl refl
empty_or (t ∷ ts) = inr (t, ts, refl)

-- what comes behind the same front
pub next_past : (seen rest x : Tokens) → SameNext rest x → SameNext (seen ++ rest) (seen ++ x)
next_past [] rest x same = same
next_past (t ∷ seen) rest x same = refl

pub next_self : (ts : Tokens) → SameNext ts ts
next_self [] = tt
next_self (t ∷ ts) = refl

pub begins_same : (more : Set) (ts x : Tokens) → SameNext ts x → Begins more ts → Begins more x
begins_same more [] x same b = absurd b
begins_same more (t ∷ ts) [] same b = absurd same
begins_same more (t ∷ ts) (y ∷ ys) same b = subst more same b

-- ---- one token

some_is : {A : Type 0} (a b : A) → ◌≡◌ {A = Option A} (Some a) (Some b) → b ≡ a
some_is a b e = cc

told_test : {A : Type 0} (test : Token → Option A) (more : A → Set) (t : Token) (ts : Tokens) (z : Token) (c : A) → test z ≡ Some c
    → (o : Option A) → test t ≡ o → Told (One test) more (t ∷ ts) (at_option o t ts)
told_test test more t ts z c is (Some a) e = record {
  used = t ∷ [];
  split = refl;
  reads = record { token = t; is_word = refl; tells = e };
  only = λ x u v b same eq word.
      let both = cons_is t word.token x v (eq ∙ ap (λ (w : Tokens). w ++ v) word.is_word) in
      inr (sym both.1, some_is a b (sym e ∙ ap test both.0 ∙ word.tells));
}
told_test {A = A} test more t ts z c is None e = record {
  seen = [];
  split = refl;
  open_end = (z ∷ [], c, record { token = z; is_word = refl; tells = is });
  dead = λ x u v b same eq word. absurd (dead_here x v b same word.token (eq ∙ ap (λ (w : Tokens). w ++ v) word.is_word) word.tells);
}
  where
    dead_here : (x v : Tokens) (b : A) → SameNext (t ∷ ts) x → (y : Token) → x ≡ y ∷ v → test y ≡ Some b → ⊥
    dead_here [] v b same y eq tells = absurd same
    dead_here (y' ∷ x) v b same y eq tells =
        let both = cons_is y' y x v eq in
        let n : ◌≡◌ {A = Option A} None (Some b) = sym e ∙ ap test (same ∙ both.0) ∙ tells in
        absurd cc

pub told_one : {A : Type 0} (test : Token → Option A) (more : A → Set) (ts : Tokens) (z : Token) (c : A) → test z ≡ Some c → Told (One test) more ts (one test ts)
told_one test more [] z c is = record {
  seen = [];
  split = refl;
  open_end = (z ∷ [], c, record { token = z; is_word = refl; tells = is });
  dead = λ x u v b same eq word. absurd (at_end x v same word.token (eq ∙ ap (λ (w : Tokens). w ++ v) word.is_word));
}
  where
    at_end : (x v : Tokens) → SameNext [] x → (y : Token) → x ≡ y ∷ v → ⊥
    at_end [] v same y eq = absurd cc
    at_end (z ∷ zs) v same y eq = absurd same
told_one test more (t ∷ ts) z c is = told_test test more t ts z c is (test t) refl

-- ---- no token

pub told_nothing : {A : Type 0} (a : A) (more : A → Set) (ts : Tokens) → Told (Nothing a) more ts (Ok (a, ts))
told_nothing a more ts = record {
  used = [];
  split = refl;
  reads = record { is_word = refl; is_value = refl };
  only = λ x u v b same eq word. inr (sym (eq ∙ ap (λ (w : Tokens). w ++ v) word.is_word), word.is_value);
}

-- ---- one behind the other

module _ {A B C : Type 0} (L : Language A) (M : A → Language B) (f : A → B → C) (before : A → Set) (after : A → B → Set) (more : C → Set)
    (parted : (a : A) (b : B) (word v : Tokens) → M a word b → Begins (before a) (word ++ v) → Begins (more (f a b)) v)
    (wider : (a : A) (b : B) (t : Token) → after a b t → more (f a b) t) where
  told_far : (word : Tokens) (c : C) (is : Then L M f word c) (v : Tokens) → Begins (before is.left) (is.back ++ v) → Begins (more c) v
  told_far word c is v far = subst (λ (r : C). Begins (more r) v) (sym is.is_value) (parted is.left is.right is.back v is.is_right far)

  widen : (a : A) (b : B) (v : Tokens) → Begins (after a b) v → Begins (more (f a b)) v
  widen a b [] h = h
  widen a b (t ∷ v) h = wider a b t h

  told_end : (word : Tokens) (c : C) (is : Then L M f word c) (a : A) (v : Tokens) → is.left ≡ a → Begins (after a is.right) v → Begins (more c) v
  told_end word c is a v e far = subst (λ (r : C). Begins (more r) v) (ap (λ (l : A). f l is.right) (sym e) ∙ sym is.is_value) (widen a is.right v far)

  told_second : (ts rest : Tokens) (a : A) → Finds L before ts rest a → (s : Found B) → Told (M a) (after a) rest s
      → Told (Then L M f) more ts (s >>= λ y. Ok (f a y.0, y.1))
  told_second ts rest a first (Ok y) second = record {
    used = first.used ++ second.used;
    split = first.split ∙ ap (λ (w : Tokens). first.used ++ w) second.split ∙ sym (append_assoc first.used second.used y.1);
    reads = record { front = first.used; back = second.used; left = a; right = y.0; parts = refl; is_left = first.reads; is_right = second.reads; is_value = refl };
    only = λ x u v b same eq word.
        let w = second.used ++ x in
        let here : SameNext rest w = subst (λ (r : Tokens). SameNext r w) (sym second.split) (next_past second.used y.1 x same) in
        let split : first.used ++ w ≡ word.front ++ (word.back ++ v) =
        sym (append_assoc first.used second.used x) ∙ eq ∙ ap (λ (r : Tokens). r ++ v) word.parts ∙ append_assoc word.front word.back v in
        elim (first.only w word.front (word.back ++ v) word.left here split word.is_left) [
          | inl far ↦ inl (told_far u b word v far)
          | inr (tail, is) ↦
              elim (second.only x word.back v word.right same (sym tail) (subst (λ (l : A). M l word.back word.right) is word.is_right)) [
                | inl far ↦ inl (told_end u b word a v is far)
                | inr (end, is_right) ↦ inr (end, word.is_value ∙ ap (λ (l : A). f l word.right) is ∙ ap (λ (r : B). f a r) is_right)
              ]
        ];
  }
  told_second ts rest a first (Err stop) second = record {
    seen = first.used ++ second.seen;
    split = first.split ∙ ap (λ (w : Tokens). first.used ++ w) second.split ∙ sym (append_assoc first.used second.seen stop);
    open_end = let o = second.open_end in
        (o.0, f a o.1, record { front = first.used; back = second.seen ++ o.0; left = a; right = o.1; parts = append_assoc first.used second.seen o.0; is_left = first.reads; is_right = o.2; is_value = refl });
    dead = λ x u v b same eq word.
        let w = second.seen ++ x in
        let here : SameNext rest w = subst (λ (r : Tokens). SameNext r w) (sym second.split) (next_past second.seen stop x same) in
        let split : first.used ++ w ≡ word.front ++ (word.back ++ v) =
        sym (append_assoc first.used second.seen x) ∙ eq ∙ ap (λ (r : Tokens). r ++ v) word.parts ∙ append_assoc word.front word.back v in
        elim (first.only w word.front (word.back ++ v) word.left here split word.is_left) [
          | inl far ↦ told_far u b word v far
          | inr (tail, is) ↦ told_end u b word a v is (second.dead x word.back v word.right same (sym tail) (subst (λ (l : A). M l word.back word.right) is word.is_right))
        ];
  }

  pub told_then : (some : (a : A) → (w : Tokens) × (b : B) × M a w b) (ts : Tokens) (r : Found A) (s : A × Tokens → Found B)
      → Told L before ts r → ((x : A × Tokens) → r ≡ Ok x → Told (M x.0) (after x.0) x.1 (s x))
      → Told (Then L M f) more ts (r >>= λ x. s x >>= λ y. Ok (f x.0 y.0, y.1))
  told_then some ts (Ok x) s first second = told_second ts x.1 x.0 first (s x) (second x refl)
  told_then some ts (Err rest) s first second = record {
    seen = first.seen;
    split = first.split;
    open_end = let o = first.open_end in let m = some o.1 in
        (o.0 ++ m.0, f o.1 m.1, record { front = first.seen ++ o.0; back = m.0; left = o.1; right = m.1; parts = sym (append_assoc first.seen o.0 m.0); is_left = o.2; is_right = m.2; is_value = refl });
    dead = λ x u v b same eq word.
        let split : first.seen ++ x ≡ word.front ++ (word.back ++ v) =
        eq ∙ ap (λ (r : Tokens). r ++ v) word.parts ∙ append_assoc word.front word.back v in
        told_far u b word v (first.dead x word.front (word.back ++ v) word.left same split word.is_left);
  }

-- ---- a choice, by the next token

-- no word here: another token is next, or the word is empty and the next token belongs to a longer one
abbrev pub Off : Set → Tokens → Tokens → Type 0
Off more ts [] = Begins more ts
Off more ts (y ∷ word) = SameNext ts (y ∷ word) → ⊥

off_dead : (more : Set) (ts rest seen x u v : Tokens) → ts ≡ seen ++ rest → SameNext rest x → seen ++ x ≡ u ++ v → Off more ts u → Begins more v
off_dead more ts rest seen x [] v split same eq off =
    let next : SameNext ts (seen ++ x) = subst (λ (r : Tokens). SameNext r (seen ++ x)) (sym split) (next_past seen rest x same) in
    subst (λ (r : Tokens). Begins more r) eq (begins_same more ts (seen ++ x) next off)
off_dead more ts rest seen x (y ∷ u) v split same eq off =
    let next : SameNext ts (seen ++ x) = subst (λ (r : Tokens). SameNext r (seen ++ x)) (sym split) (next_past seen rest x same) in
    let at : SameNext ts (y ∷ (u ++ v)) = subst (λ (r : Tokens). SameNext ts r) eq next in
    absurd (off (again ts at))
  where
    again : (ts : Tokens) → SameNext ts (y ∷ (u ++ v)) → SameNext ts (y ∷ u)
    again [] s = absurd s
    again (t ∷ ts) s = s

module _ {A : Type 0} (L K : Language A) (less more : A → Set) where
  -- L is all of K that can stand here
  pub told_chosen : (ts : Tokens) (r : Found A) → ((w : Tokens) (a : A) → L w a → K w a) → ((w : Tokens) (a : A) → K w a → L w a ⊎ Off (more a) ts w)
      → ((a : A) (t : Token) → less a t → more a t) → Told L less ts r → Told K more ts r
  told_chosen ts (Ok y) into back wider told = record {
    used = told.used;
    split = told.split;
    reads = into told.used y.0 told.reads;
    only = λ x u v b same eq word.
        elim (back u b word) [
          | inl is ↦ elim (told.only x u v b same eq is) [ inl far ↦ inl (widened b v far) | inr all ↦ inr all ]
          | inr off ↦ inl (off_dead (more b) ts y.1 told.used x u v told.split same eq off)
        ];
  }
    where
      widened : (c : A) (v : Tokens) → Begins (less c) v → Begins (more c) v
      widened c [] h = h
      widened c (t ∷ v) h = wider c t h
  told_chosen ts (Err rest) into back wider told = record {
    seen = told.seen;
    split = told.split;
    open_end = let o = told.open_end in (o.0, o.1, into (told.seen ++ o.0) o.1 o.2);
    dead = λ x u v b same eq word.
        elim (back u b word) [
          | inl is ↦ widened b v (told.dead x u v b same eq is)
          | inr off ↦ off_dead (more b) ts rest told.seen x u v told.split same eq off
        ];
  }
    where
      widened : (c : A) (v : Tokens) → Begins (less c) v → Begins (more c) v
      widened c [] h = h
      widened c (t ∷ v) h = wider c t h

-- no word begins here
pub told_stuck : {A : Type 0} (K : Language A) (more : A → Set) (ts : Tokens) → (w : Tokens) (a : A) → K w a → ((w : Tokens) (a : A) → K w a → Off (more a) ts w) → Told K more ts (Err ts)
told_stuck K more ts w a is off = record {
  seen = [];
  split = refl;
  open_end = (w, a, is);
  dead = λ x u v b same eq word. off_dead (more b) ts ts [] x u v refl same eq (off u b word);
}

-- ---- another value

pub told_map : {A B : Type 0} (L : Language A) (f : A → B) (less : A → Set) (more : B → Set) → ((a : A) (t : Token) → less a t → more (f a) t)
    → (ts : Tokens) (r : Found A) → Told L less ts r → Told (Map L f) more ts (r >>= λ x. Ok (f x.0, x.1))
told_map {A = A} {B = B} L f less more wider ts (Ok y) told = record {
  used = told.used;
  split = told.split;
  reads = record { value = y.0; is_word = told.reads; is_value = refl };
  only = λ x u v b same eq word.
      elim (told.only x u v word.value same eq word.is_word) [
        | inl far ↦ inl (subst (λ (r : B). Begins (more r) v) (sym word.is_value) (widened word.value v far))
        | inr (end, is) ↦ inr (end, word.is_value ∙ ap f is)
      ];
}
  where
    widened : (c : A) (v : Tokens) → Begins (less c) v → Begins (more (f c)) v
    widened c [] h = h
    widened c (t ∷ v) h = wider c t h
told_map {A = A} {B = B} L f less more wider ts (Err rest) told = record {
  seen = told.seen;
  split = told.split;
  open_end = let o = told.open_end in (o.0, f o.1, record { value = o.1; is_word = o.2; is_value = refl });
  dead = λ x u v b same eq word. subst (λ (r : B). Begins (more r) v) (sym word.is_value) (widened word.value v (told.dead x u v word.value same eq word.is_word));
}
  where
    widened : (c : A) (v : Tokens) → Begins (less c) v → Begins (more (f c)) v
    widened c [] h = h
    widened c (t ∷ v) h = wider c t h

-- ---- words one behind the other

append_longer : (n : ℕ) (t : Token) (used rest ts : Tokens) → ts ≡ t ∷ (used ++ rest) → length ts ≤ suc n → length rest ≤ n
append_longer n t used rest ts e h =
    let a : length ts ≡ length (t ∷ (used ++ rest)) = ap length e in
    omega (arith, a, length-append used rest)

module _ {A : Type 0} (L : Language A) (less : A → Set) (ready : Token → Bool) (r : Tokens → Found A)
    (begins : (w : Tokens) (a : A) → L w a → (t : Token) × (more : Tokens) × (w ≡ t ∷ more) × IsTrue (ready t))
    (apart : (a : A) (t : Token) → IsTrue (ready t) → less a t → ⊥)
    (told : (t : Token) (ts : Tokens) → IsTrue (ready t) → Told L less (t ∷ ts) (r (t ∷ ts))) where
  abbrev pub many_more : List A → Set
  many_more items t = IsTrue (ready t) ⊎ ((a : A) × less a t)

  pub many_parted : (a : A) (items : List A) (word v : Tokens) → Many L word items → Begins (less a) (word ++ v) → Begins (many_more items) v
  many_parted a [] word v e far = at_end v (subst (λ (w : Tokens). Begins (less a) (w ++ v)) e far)
    where
      at_end : (v : Tokens) → Begins (less a) v → Begins (many_more []) v
      at_end [] h = h
      at_end (t ∷ v) h = inr (a, h)
  many_parted a (b ∷ others) word v is far =
      let first = begins is.0 b is.3 in
      let e : word ++ v ≡ first.0 ∷ ((first.1 ++ is.1) ++ v) = ap (λ (w : Tokens). w ++ v) (is.2 ∙ ap (λ (w : Tokens). w ++ is.1) first.2) in
      absurd (apart a first.0 first.3 (subst (λ (w : Tokens). Begins (less a) w) e far))

  many_stops : (t : Token) (ts : Tokens) → ready t ≡ false → Told (Many L) many_more (t ∷ ts) (Ok ([], t ∷ ts))
  many_stops t ts fails = told_chosen (Nothing []) (Many L) many_more many_more (t ∷ ts) (Ok ([], t ∷ ts)) (λ w a is. into w a is) back (λ a t h. h) (told_nothing [] many_more (t ∷ ts))
    where
      into : (w : Tokens) (items : List A) → Nothing [] w items → Many L w items
      into w items is = subst (λ (i : List A). Many L w i) (sym is.is_value) is.is_word

      back : (w : Tokens) (items : List A) → Many L w items → Nothing [] w items ⊎ Off (many_more items) (t ∷ ts) w
      back w [] is = inl (record { is_word = is; is_value = refl })
      back w (b ∷ others) is =
          let first = begins is.0 b is.3 in
          inr (subst (λ (u : Tokens). Off (many_more (b ∷ others)) (t ∷ ts) u) (sym (is.2 ∙ ap (λ (u : Tokens). u ++ is.1) first.2))
          (λ same. absurd (refused same first.3)))
        where
          refused : {y : Token} → t ≡ y → IsTrue (ready y) → ⊥
          refused e holds = let b : false ≡ true = sym fails ∙ ap ready e ∙ holds in absurd cc

  pub many_end : Told (Many L) many_more [] (Ok ([], []))
  many_end = told_chosen (Nothing []) (Many L) many_more many_more [] (Ok ([], [])) (λ w a is. into w a is) back (λ a t h. h) (told_nothing [] many_more [])
    where
      into : (w : Tokens) (items : List A) → Nothing [] w items → Many L w items
      into w items is = subst (λ (i : List A). Many L w i) (sym is.is_value) is.is_word

      back : (w : Tokens) (items : List A) → Many L w items → Nothing [] w items ⊎ Off (many_more items) [] w
      back w [] is = inl (record { is_word = is; is_value = refl })
      back w (b ∷ others) is =
          let first = begins is.0 b is.3 in
          inr (subst (λ (u : Tokens). Off (many_more (b ∷ others)) [] u) (sym (is.2 ∙ ap (λ (u : Tokens). u ++ is.1) first.2)) (λ same. same))

  many_goes : (t : Token) (ts : Tokens) (s : A × Tokens → Found (List A)) → IsTrue (ready t) → ((x : A × Tokens) → r (t ∷ ts) ≡ Ok x → Told (Many L) many_more x.1 (s x))
      → Told (Many L) many_more (t ∷ ts) (r (t ∷ ts) >>= λ x. s x >>= λ y. Ok (x.0 ∷ y.0, y.1))
  many_goes t ts s holds rest =
      told_chosen (Then L (λ _. Many L) ◌∷◌) (Many L) many_more many_more (t ∷ ts) (r (t ∷ ts) >>= λ x. s x >>= λ y. Ok (x.0 ∷ y.0, y.1)) into back (λ a t h. h)
      (told_then L (λ _. Many L) ◌∷◌ less (λ _. many_more) many_more many_parted (λ a b t h. h) (λ a. ([], [], refl)) (t ∷ ts) (r (t ∷ ts)) s (told t ts holds) rest)
    where
      into : (w : Tokens) (items : List A) → Then L (λ _. Many L) ◌∷◌ w items → Many L w items
      into w items is = subst (λ (i : List A). Many L w i) (sym is.is_value) (is.front, is.back, is.parts, is.is_left, is.is_right)

      back : (w : Tokens) (items : List A) → Many L w items → Then L (λ _. Many L) ◌∷◌ w items ⊎ Off (many_more items) (t ∷ ts) w
      back w [] is = inr (subst (λ (u : Tokens). Off (many_more []) (t ∷ ts) u) (sym is) (inl holds))
      back w (b ∷ others) is = inl (record { front = is.0; back = is.1; left = b; right = others; parts = is.2; is_left = is.3; is_right = is.4; is_value = refl })

  shorter : (n : ℕ) (t : Token) (ts : Tokens) → IsTrue (ready t) → length (t ∷ ts) ≤ suc n → (x : A × Tokens) → r (t ∷ ts) ≡ Ok x → length x.1 ≤ n
  shorter n t ts holds fits x is =
      let found : Finds L less (t ∷ ts) x.1 x.0 = subst (λ (q : Found A). Told L less (t ∷ ts) q) is (told t ts holds) in
      let first = begins found.used x.0 found.reads in
      append_longer n first.0 first.1 x.1 (t ∷ ts) (found.split ∙ ap (λ (w : Tokens). w ++ x.1) first.2) fits

  many_by : (n : ℕ) (t : Token) (ts : Tokens) → length (t ∷ ts) ≤ suc n → ((x : A × Tokens) → length x.1 ≤ n → Told (Many L) many_more x.1 (many_within ready r n x.1)) → (b : Bool) → ready t ≡ b
      → Told (Many L) many_more (t ∷ ts) (cond b (r (t ∷ ts) >>= λ x. many_within ready r n x.1 >>= λ y. Ok (x.0 ∷ y.0, y.1)) (Ok ([], t ∷ ts)))
  many_by n t ts fits rest true holds = many_goes t ts (λ x. many_within ready r n x.1) holds (λ x is. rest x (shorter n t ts holds fits x is))
  many_by n t ts fits rest false fails = many_stops t ts fails

  pub told_many_within : (n : ℕ) (ts : Tokens) → length ts ≤ n → Told (Many L) many_more ts (many_within ready r n ts)
  told_many_within zero [] fits = many_end
  told_many_within zero (t ∷ ts) fits = absurd (omega (arith, fits))
  told_many_within (suc n) [] fits = many_end
  told_many_within (suc n) (t ∷ ts) fits = many_by n t ts fits (λ x h. told_many_within n x.1 h) (ready t) refl

pub told_wider : {A : Type 0} (L : Language A) (less more : A → Set) → ((a : A) (t : Token) → less a t → more a t) → (ts : Tokens) (r : Found A) → Told L less ts r → Told L more ts r
told_wider L less more wider ts r told = told_chosen L L less more ts r (λ w a h. h) (λ w a h. inl h) wider told

pub bind_id : {A : Type 0} (r : Found A) → (r >>= λ y. Ok (y.0, y.1)) ≡ r
bind_id (Ok y) = refl
bind_id (Err e) = refl

abbrev pub none : {A : Type 0} → A → Set
none a t = ⊥

pub begins_none : (ts : Tokens) → Begins (λ t. ⊥) ts → ⊥
begins_none [] h = h
begins_none (t ∷ ts) h = h
