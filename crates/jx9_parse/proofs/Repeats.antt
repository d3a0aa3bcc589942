-- None or more, and none or one.
use Rattle.std.proofs.Common.{◌≡◌, ℕ, zero, suc, Bool, true, false, IsTrue, cond, ◌⊎◌, inl, inr, List, [], ◌∷◌, ◌++◌, length, Option, Some, None, Ok, Err, refl, sym, ap, subst, ◌∙◌, arith}
use Rattle.jx9_syntax.specs.Grammar.{code, Rule, Repeat, Perhaps, without, with_one}
use Rattle.jx9_syntax.specs.Making.{Making, nothing, mapped, then_made, all_made}
use Rattle.jx9_syntax.specs.Words.{Nothing, Map, Many}
use Rattle.jx9_syntax.specs.declared.token.Token.{Token}
use Rattle.jx9_parse.specs.Reading.{Tokens, State, Read, Reader, ◌>>=◌, member, next_in, many_within, many, guarded, perhaps}
use Rattle.jx9_parse.proofs.Unplaced.{Found}
use Rattle.jx9_parse.proofs.Unplaced as unplaced
use Rattle.jx9_parse.proofs.Laws.{Begins, Off, Told, told_nothing, told_chosen, told_stuck, told_map, told_many_within, many_more}
use Rattle.jx9_parse.proofs.Sets.{In, Begin, false_true, apart, apart_no, in_left, in_right, off, begins_in, begins_as, next_not}
use Rattle.jx9_parse.proofs.Placed.{at_state, then_runs, map_runs, nothing_runs}
use Rattle.jx9_parse.proofs.Parts.{Part, Tail, Guard, told_cond, cond_runs}

-- ---- none or more

abbrev joined_all : {A : Type 0} → Found (List (Making A)) → Found (Making (List A))
joined_all z = z >>= λ x. Ok (all_made x.0, x.1)

abbrev gathered : {A : Type 0} → Found (Making A) → (Tokens → Found (List (Making A))) → Found (List (Making A))
gathered o p = o >>= λ x. p x.1 >>= λ y. Ok (x.0 ∷ y.0, y.1)

abbrev gathered_made : {A : Type 0} → Found (Making A) → (Tokens → Found (Making (List A))) → Found (Making (List A))
gathered_made o p = o >>= λ x. p x.1 >>= λ y. Ok (then_made ◌∷◌ x.0 y.0, y.1)

regroup : {A : Type 0} (o : Found (Making A)) (p : Tokens → Found (List (Making A))) → gathered_made o (λ ts. joined_all (p ts)) ≡ joined_all (gathered o p)
regroup (Err ts) p = refl
regroup {A} (Ok x) p = by (p x.1)
  where
    by : (z : Found (List (Making A))) → gathered_made (Ok x) (λ ts. joined_all z) ≡ joined_all (gathered (Ok x) (λ ts. z))
    by (Ok z) = refl
    by (Err ts) = refl

module _ {A : Type 0} {L : Rule A} {ms bs : List ℕ} {r : Reader A} (l : Part L ms bs r) where
  abbrev ready : Token → Bool
  ready t = member (code t) bs

  abbrev items_within : ℕ → Tokens → Found (List (Making A))
  items_within = unplaced.many_within ready l.reads

  abbrev all_within : ℕ → Tokens → Found (Making (List A))
  all_within n ts = joined_all (items_within n ts)

  many_by : (n : ℕ) (s : State) → ((s : State) → many_within bs r n s ≡ at_state s (all_within n s.tokens)) → (b : Bool)
      → cond b (r s >>= λ x. many_within bs r n x.1 >>= λ y. Ok (x.0 ∷ y.0, y.1)) (Ok ([], s)) ≡ at_state s (joined_all (cond b (gathered (l.reads s.tokens) (items_within n)) (Ok ([], s.tokens))))
  many_by n s rest true = then_runs ◌∷◌ s (r s) (l.reads s.tokens) (l.runs s) (many_within bs r n) (all_within n) rest
      ∙ ap (at_state s) (regroup (l.reads s.tokens) (items_within n))
  many_by n s rest false = nothing_runs [] s

  many_runs : (n : ℕ) (s : State) → many_within bs r n s ≡ at_state s (all_within n s.tokens)
  many_runs zero s = nothing_runs [] s
  many_runs (suc n) s = many_by n s (λ u. many_runs n u) (next_in bs s.tokens)

  pub tail_many : apart ms bs ≡ true → Tail (Repeat L) (ms ++ bs) bs (many bs r)
  tail_many h = record {
    reads = λ ts. all_within (length ts) ts;
    told = λ ts. told_map (Many L) all_made (many_more L (λ _. In ms) ready l.reads l.starts not_more tells) (λ _. In (ms ++ bs)) wider ts (items_within (length ts) ts)
        (told_many_within L (λ _. In ms) ready l.reads l.starts not_more tells (length ts) ts (omega arith));
    runs = λ s. many_runs (length s.tokens) s;
    starts = λ w m is. begin w is.value is.is_word;
    some = ([], nothing [], record { value = []; is_word = refl; is_value = refl });
  }
    where
      not_more : (a : Making A) (t : Token) → IsTrue (ready t) → In ms t → ⊥
      not_more a t i j = apart_no ms bs h (code t) j i

      tells : (t : Token) (ts : Tokens) → IsTrue (ready t) → Told L (λ _. In ms) (t ∷ ts) (l.reads (t ∷ ts))
      tells t ts i = l.told (t ∷ ts)

      wider : (items : List (Making A)) (t : Token) → IsTrue (ready t) ⊎ ((a : Making A) × In ms t) → In (ms ++ bs) t
      wider items t (inl i) = in_right ms bs (code t) i
      wider items t (inr i) = in_left ms bs (code t) i.1

      begin : (w : Tokens) (items : List (Making A)) → Many L w items → (w ≡ []) ⊎ Begin bs w
      begin w [] is = inl is
      begin w (a ∷ items) is = let s = l.starts is.0 a is.3 in inr (s.0, s.1 ++ is.1, is.2 ∙ ap (λ (u : Tokens). u ++ is.1) s.2, s.3)

-- ---- none or one

no_one : {A : Type 0} (L : Rule A) → Perhaps L [] (nothing None)
no_one L = without (record { is_word = refl; is_value = refl })

here : (ms bs : List ℕ) (ts : Tokens) → next_in bs ts ≡ true → Begins (In (ms ++ bs)) ts
here ms bs ts g = begins_as bs (ms ++ bs) (λ c i. in_right ms bs c i) ts (begins_in bs ts g)

module _ {A : Type 0} {L : Rule A} {ms bs : List ℕ} {r : Reader A} where
  pub tail_perhaps : (room : Bool) → Guard room L ms bs r → Tail (Perhaps L) (ms ++ bs) bs (perhaps bs (guarded room r))
  tail_perhaps true l = let p = l.part refl in record {
    reads = λ ts. cond (next_in bs ts) (p.reads ts >>= λ x. Ok (mapped Some x.0, x.1)) (Ok (nothing None, ts));
    told = λ ts. told_cond (Perhaps L) (λ _. In (ms ++ bs)) ts (next_in bs ts) (p.reads ts >>= λ x. Ok (mapped Some x.0, x.1)) (Ok (nothing None, ts))
        (λ g. told_chosen (Map L (mapped Some)) (Perhaps L) (λ _. In ms) (λ _. In (ms ++ bs)) ts (p.reads ts >>= λ x. Ok (mapped Some x.0, x.1)) (λ w a is. with_one is) (as_one ts g) (λ _ t i. in_left ms bs (code t) i)
        (told_map L (mapped Some) (λ _. In ms) (λ _. In ms) (λ _ t i. i) ts (p.reads ts) (p.told ts)))
        (λ g. told_chosen (Nothing (nothing None)) (Perhaps L) (λ _. In (ms ++ bs)) (λ _. In (ms ++ bs)) ts (Ok (nothing None, ts)) (λ w a is. without is) (as_none ts g p) (λ _ t i. i)
        (told_nothing (nothing None) (λ _. In (ms ++ bs)) ts));
    runs = λ s. cond_runs s (next_in bs s.tokens) (r s >>= λ x. Ok (Some x.0, x.1)) (Ok (None, s)) (p.reads s.tokens >>= λ x. Ok (mapped Some x.0, x.1)) (Ok (nothing None, s.tokens))
        (map_runs Some s (r s) (p.reads s.tokens) (p.runs s)) (nothing_runs None s);
    starts = λ w a is. begin p w a is;
    some = ([], nothing None, no_one L);
  }
    where
      as_one : (ts : Tokens) → next_in bs ts ≡ true → (w : Tokens) (a : Making (Option A)) → Perhaps L w a → Map L (mapped Some) w a ⊎ Off (In (ms ++ bs)) ts w
      as_one ts g w a (without is) = inr (subst (λ (u : Tokens). Off (In (ms ++ bs)) ts u) (sym is.is_word) (here ms bs ts g))
      as_one ts g w a (with_one is) = inl is

      as_none : (ts : Tokens) → next_in bs ts ≡ false → Part L ms bs r → (w : Tokens) (a : Making (Option A)) → Perhaps L w a → Nothing (nothing None) w a ⊎ Off (In (ms ++ bs)) ts w
      as_none ts g p w a (without is) = inl is
      as_none ts g p w a (with_one is) = inr (off bs (In (ms ++ bs)) ts w (next_not bs ts g) (p.starts w is.value is.is_word))

      begin : Part L ms bs r → (w : Tokens) (a : Making (Option A)) → Perhaps L w a → (w ≡ []) ⊎ Begin bs w
      begin p w a (without is) = inl is.is_word
      begin p w a (with_one is) = inr (p.starts w is.value is.is_word)
  tail_perhaps false l = record {
    reads = λ ts. cond (next_in bs ts) (Err ts) (Ok (nothing None, ts));
    told = λ ts. told_cond (Perhaps L) (λ _. In (ms ++ bs)) ts (next_in bs ts) (Err ts) (Ok (nothing None, ts))
        (λ g. told_stuck (Perhaps L) (λ _. In (ms ++ bs)) ts [] (nothing None) (no_one L) (no_word ts g))
        (λ g. told_chosen (Nothing (nothing None)) (Perhaps L) (λ _. In (ms ++ bs)) (λ _. In (ms ++ bs)) ts (Ok (nothing None, ts)) (λ w a is. without is) (as_none ts) (λ _ t i. i)
        (told_nothing (nothing None) (λ _. In (ms ++ bs)) ts));
    runs = λ s. cond_runs s (next_in bs s.tokens) (Err s.tokens) (Ok (None, s)) (Err s.tokens) (Ok (nothing None, s.tokens)) refl (nothing_runs None s);
    starts = λ w a is. begin w a is;
    some = ([], nothing None, no_one L);
  }
    where
      no_word : (ts : Tokens) → next_in bs ts ≡ true → (w : Tokens) (a : Making (Option A)) → Perhaps L w a → Off (In (ms ++ bs)) ts w
      no_word ts g w a (without is) = subst (λ (u : Tokens). Off (In (ms ++ bs)) ts u) (sym is.is_word) (here ms bs ts g)
      no_word ts g w a (with_one is) = absurd (l.empty refl w is.value is.is_word)

      as_none : (ts : Tokens) (w : Tokens) (a : Making (Option A)) → Perhaps L w a → Nothing (nothing None) w a ⊎ Off (In (ms ++ bs)) ts w
      as_none ts w a (without is) = inl is
      as_none ts w a (with_one is) = absurd (l.empty refl w is.value is.is_word)

      begin : (w : Tokens) (a : Making (Option A)) → Perhaps L w a → (w ≡ []) ⊎ Begin bs w
      begin w a (without is) = inl is.is_word
      begin w a (with_one is) = absurd (l.empty refl w is.value is.is_word)

-- ---- none or more of what takes room

module _ {A : Type 0} {L : Rule A} {ms bs : List ℕ} {r : Reader A} where
  pub tail_many_by : (room : Bool) → Guard room L ms bs r → apart ms bs ≡ true → Tail (Repeat L) (ms ++ bs) bs (many bs (guarded room r))
  tail_many_by true l h = tail_many (l.part refl) h
  tail_many_by false l h = record {
    reads = stopped;
    told = λ ts. told_cond (Repeat L) (λ _. In (ms ++ bs)) ts (next_in bs ts) (Err ts) (Ok (nothing [], ts))
        (λ g. told_stuck (Repeat L) (λ _. In (ms ++ bs)) ts [] (nothing []) (record { value = []; is_word = refl; is_value = refl }) (λ w m is. no_word ts g w m (only_empty w m is)))
        (λ g. told_chosen (Nothing (nothing [])) (Repeat L) (λ _. In (ms ++ bs)) (λ _. In (ms ++ bs)) ts (Ok (nothing [], ts)) (λ w m is. record { value = []; is_word = is.is_word; is_value = is.is_value })
        (λ w m is. inl (only_empty w m is)) (λ _ t i. i) (told_nothing (nothing []) (λ _. In (ms ++ bs)) ts));
    runs = λ s. stop_runs (length s.tokens) s (some_left s.tokens);
    starts = λ w m is. inl (only_empty w m is).is_word;
    some = ([], nothing [], record { value = []; is_word = refl; is_value = refl });
  }
    where
      stopped : Tokens → Found (Making (List A))
      stopped ts = cond (next_in bs ts) (Err ts) (Ok (nothing [], ts))

      no_items : (w : Tokens) (m : Making (List A)) (items : List (Making A)) → Many L w items → m ≡ all_made items → Nothing (nothing []) w m
      no_items w m [] is e = record { is_word = is; is_value = e }
      no_items w m (a ∷ items) is e = absurd (l.empty refl is.0 a is.3)

      only_empty : (w : Tokens) (m : Making (List A)) → Repeat L w m → Nothing (nothing []) w m
      only_empty w m is = no_items w m is.value is.is_word is.is_value

      no_word : (ts : Tokens) → next_in bs ts ≡ true → (w : Tokens) (m : Making (List A)) → Nothing (nothing []) w m → Off (In (ms ++ bs)) ts w
      no_word ts g w m is = subst (λ (u : Tokens). Off (In (ms ++ bs)) ts u) (sym is.is_word) (here ms bs ts g)

      some_left : (ts : Tokens) → next_in bs ts ≡ true → length ts ≡ 0 → ⊥
      some_left [] g e = false_true g
      some_left (t ∷ ts) g e = let f : length (t ∷ ts) ≡ 0 = e in omega (arith, f)

      none_left : (s : State) (b : Bool) → (b ≡ true → ⊥) → ◌≡◌ {A = Read (List A)} (Ok ([], s)) (at_state s (cond b (Err s.tokens) (Ok (nothing [], s.tokens))))
      none_left s true h = absurd (h refl)
      none_left s false h = nothing_runs [] s

      stop_runs : (n : ℕ) (s : State) → (next_in bs s.tokens ≡ true → n ≡ 0 → ⊥) → many_within bs (guarded false r) n s ≡ at_state s (stopped s.tokens)
      stop_runs zero s h = none_left s (next_in bs s.tokens) (λ g. h g refl)
      stop_runs (suc n) s h = cond_runs s (next_in bs s.tokens) (Err s.tokens) (Ok ([], s)) (Err s.tokens) (Ok (nothing [], s.tokens)) refl (nothing_runs [] s)
