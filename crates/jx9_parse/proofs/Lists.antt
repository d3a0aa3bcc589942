-- Items up to a closing sign, with commas between them and perhaps one behind the last.
use Rattle.std.proofs.Common.{◌≡◌, ℕ, zero, suc, ◌<◌, Bool, true, false, cond, ◌⊎◌, inl, inr, List, [], ◌∷◌, ◌++◌, length, Ok, Err, refl, ap, subst, ◌∙◌, arith}
use Rattle.std.proofs.lemmas.List.{length-append}
use Rattle.jx9_syntax.specs.Grammar.{Rule, second, is_sign, sign_code, Listed, BehindItem, no_item, an_item, last_item, comma_behind}
use Rattle.jx9_syntax.specs.Making.{Making, mapped, then_made}
use Rattle.jx9_syntax.specs.Words.{One, Map, Then}
use Rattle.jx9_syntax.specs.declared.sign.Sign.{Sign}
use Rattle.jx9_syntax.specs.declared.sign.Sign.TheVariants as sign
use Rattle.jx9_parse.specs.Reading.{Tokens, State, Reader, ◌>>=◌, next_in, one, before, map_read, then_read, guarded, behind_item, listed_within, listed}
use Rattle.jx9_parse.proofs.Unplaced.{Found}
use Rattle.jx9_parse.proofs.Laws.{Begins, Off, Finds, Told, told_then, told_chosen, told_stuck}
use Rattle.jx9_parse.proofs.Sets.{In, Begin, false_true, apart, in_left, in_right, begin_as, off, parted_by, next_no, next_not}
use Rattle.jx9_parse.proofs.Placed.{at_state, then_runs}
use Rattle.jx9_parse.proofs.Parts.{Part, Guard, told_cond, cond_runs, part_map}
use Rattle.jx9_parse.proofs.Singles.{part_sign}

-- each word of a part is of a token at least
pub part_shorter : {A : Type 0} {L : Rule A} {ms bs : List ℕ} {r : Reader A} (l : Part L ms bs r) (ts : Tokens) (x : Making A × Tokens) → l.reads ts ≡ Ok x → length x.1 < length ts
part_shorter {A} {L} {ms} l ts x is =
    let found : Finds L (λ _. In ms) ts x.1 x.0 = subst (λ (q : Found (Making A)). Told L (λ _. In ms) ts q) is (l.told ts) in
    let s = l.starts found.used x.0 found.reads in
    let split : ts ≡ s.0 ∷ (s.1 ++ x.1) = found.split ∙ ap (λ (w : Tokens). w ++ x.1) s.2 in
    let count : length ts ≡ length (s.0 ∷ (s.1 ++ x.1)) = ap length split in
    omega (arith, count, length-append s.1 x.1)

module _ {A : Type 0} (close : Sign) (L : Rule A) where
  abbrev Close : Rule (List A)
  Close = Map (One (is_sign close)) (mapped (λ s. []))

  closing : Part Close [] (sign_code close ∷ []) (map_read (λ s. []) (one (is_sign close)))
  closing = part_map (λ s. []) (part_sign close)

  the_comma : Part (One (is_sign sign.Comma)) [] (33 ∷ []) (one (is_sign sign.Comma))
  the_comma = part_sign sign.Comma

  -- a comma and what is listed behind it
  abbrev Comma : Rule (List A)
  Comma = Then (One (is_sign sign.Comma)) (λ _. Listed close L) (then_made second)

  into_comma : (w : Tokens) (m : Making (List A)) → Comma w m → BehindItem close L w m
  into_comma w m is = comma_behind is.front is.back is.left is.right is.parts is.is_left is.is_right is.is_value

  comma_begins : (w : Tokens) (m : Making (List A)) → Comma w m → Begin (33 ∷ []) w
  comma_begins w m is = let s = the_comma.starts is.front is.left is.is_left in (s.0, s.1 ++ is.back, is.parts ∙ ap (λ (u : Tokens). u ++ is.back) s.2, s.3)

  behind_cases : (w : Tokens) (m : Making (List A)) → BehindItem close L w m → Comma w m ⊎ Close w m
  behind_cases w m (last_item is) = inr is
  behind_cases w m (comma_behind front back s others parts is_left is_right is_value) =
      inl (record { front = front; back = back; left = s; right = others; parts = parts; is_left = is_left; is_right = is_right; is_value = is_value })

  -- an item and what is behind it
  abbrev Items : Rule (List A)
  Items = Then L (λ _. BehindItem close L) (then_made ◌∷◌)

  listed_cases : (w : Tokens) (m : Making (List A)) → Listed close L w m → Close w m ⊎ Items w m
  listed_cases w m (no_item is) = inl is
  listed_cases w m (an_item front back a others parts is_left is_right is_value) =
      inr (record { front = front; back = back; left = a; right = others; parts = parts; is_left = is_left; is_right = is_right; is_value = is_value })

  into_items : (w : Tokens) (m : Making (List A)) → Items w m → Listed close L w m
  into_items w m is = an_item is.front is.back is.left is.right is.parts is.is_left is.is_right is.is_value

  a_close : (w : Tokens) × (m : Making (List A)) × Close w m
  a_close = closing.some

  behind_begins : (w : Tokens) (m : Making (List A)) → BehindItem close L w m → Begin (33 ∷ sign_code close ∷ []) w
  behind_begins w m is = elim (behind_cases w m is) [
    | inl c ↦ begin_as (33 ∷ []) (33 ∷ sign_code close ∷ []) (λ d i. in_left (33 ∷ []) (sign_code close ∷ []) d i) w (comma_begins w m c)
    | inr c ↦ begin_as (sign_code close ∷ []) (33 ∷ sign_code close ∷ []) (λ d i. in_right (33 ∷ []) (sign_code close ∷ []) d i) w (closing.starts w m c)
  ]

  abbrev behind_reads : (Tokens → Found (Making (List A))) → Tokens → Found (Making (List A))
  behind_reads q ts = cond (next_in (33 ∷ []) ts) (the_comma.reads ts >>= λ x. q x.1 >>= λ y. Ok (then_made second x.0 y.0, y.1)) (closing.reads ts)

  abbrev items_reads : (Tokens → Found (Making A)) → (Tokens → Found (Making (List A))) → Tokens → Found (Making (List A))
  items_reads p q ts = p ts >>= λ x. behind_reads q x.1 >>= λ y. Ok (then_made ◌∷◌ x.0 y.0, y.1)

  abbrev all_reads : (Tokens → Found (Making A)) → ℕ → Tokens → Found (Making (List A))
  all_reads p zero ts = Err ts
  all_reads p (suc n) ts = cond (next_in (sign_code close ∷ []) ts) (closing.reads ts) (items_reads p (all_reads p n) ts)

  nothing_more : (ts : Tokens) → Begins (In []) ts → ⊥
  nothing_more [] h = h
  nothing_more (t ∷ ts) h = false_true h

  told_behind : apart (33 ∷ []) (sign_code close ∷ []) ≡ true → (ts : Tokens) (q : Tokens → Found (Making (List A))) → ((us : Tokens) → length us < length ts → Told (Listed close L) (λ _. In []) us (q us))
      → Told (BehindItem close L) (λ _. In []) ts (behind_reads q ts)
  told_behind h ts q rest = told_cond (BehindItem close L) (λ _. In []) ts (next_in (33 ∷ []) ts) (the_comma.reads ts >>= λ x. q x.1 >>= λ y. Ok (then_made second x.0 y.0, y.1)) (closing.reads ts)
      (λ g. told_chosen Comma (BehindItem close L) (λ _. In []) (λ _. In []) ts (the_comma.reads ts >>= λ x. q x.1 >>= λ y. Ok (then_made second x.0 y.0, y.1)) into_comma (as_comma g) (λ _ t i. i)
      (told_then (One (is_sign sign.Comma)) (λ _. Listed close L) (then_made second) (λ _. In []) (λ _ _. In []) (λ _. In []) (λ _ _ w v _ far. absurd (nothing_more (w ++ v) far)) (λ _ _ t i. i)
      (λ _. let c = a_close in (c.0, c.1, no_item c.2)) ts (the_comma.reads ts) (λ x. q x.1) (the_comma.told ts) (λ x is. rest x.1 (part_shorter the_comma ts x is))))
      (λ g. told_chosen Close (BehindItem close L) (λ _. In []) (λ _. In []) ts (closing.reads ts) (λ w m is. last_item is) (as_close g) (λ _ t i. i) (closing.told ts))
    where
      as_comma : next_in (33 ∷ []) ts ≡ true → (w : Tokens) (m : Making (List A)) → BehindItem close L w m → Comma w m ⊎ Off (In []) ts w
      as_comma g w m is = elim (behind_cases w m is) [
        | inl c ↦ inl c
        | inr c ↦ inr (off (sign_code close ∷ []) (In []) ts w (next_no (33 ∷ []) (sign_code close ∷ []) h ts g) (closing.starts w m c))
      ]

      as_close : next_in (33 ∷ []) ts ≡ false → (w : Tokens) (m : Making (List A)) → BehindItem close L w m → Close w m ⊎ Off (In []) ts w
      as_close g w m is = elim (behind_cases w m is) [
        | inl c ↦ inr (off (33 ∷ []) (In []) ts w (next_not (33 ∷ []) ts g) (comma_begins w m c))
        | inr c ↦ inl c
      ]

  all_runs : (r : Reader A) (p : Tokens → Found (Making A)) → ((s : State) → r s ≡ at_state s (p s.tokens)) → (n : ℕ) (s : State) → listed_within close r n s ≡ at_state s (all_reads p n s.tokens)
  all_runs r p same zero s = refl
  all_runs r p same (suc n) s = step (λ u. all_runs r p same n u)
    where
      behind : ((u : State) → listed_within close r n u ≡ at_state u (all_reads p n u.tokens)) → (u : State) → behind_item close (listed_within close r n) u ≡ at_state u (behind_reads (all_reads p n) u.tokens)
      behind rest u = cond_runs u (next_in (33 ∷ []) u.tokens) (before (is_sign sign.Comma) (listed_within close r n) u) (map_read (λ s. []) (one (is_sign close)) u)
          (the_comma.reads u.tokens >>= λ x. all_reads p n x.1 >>= λ y. Ok (then_made second x.0 y.0, y.1)) (closing.reads u.tokens)
          (then_runs second u (one (is_sign sign.Comma) u) (the_comma.reads u.tokens) (the_comma.runs u) (listed_within close r n) (all_reads p n) rest) (closing.runs u)

      step : ((u : State) → listed_within close r n u ≡ at_state u (all_reads p n u.tokens)) → listed_within close r (suc n) s ≡ at_state s (all_reads p (suc n) s.tokens)
      step rest = cond_runs s (next_in (sign_code close ∷ []) s.tokens) (map_read (λ s. []) (one (is_sign close)) s) (then_read ◌∷◌ r (behind_item close (listed_within close r n)) s)
          (closing.reads s.tokens) (items_reads p (all_reads p n) s.tokens) (closing.runs s)
          (then_runs ◌∷◌ s (r s) (p s.tokens) (same s) (behind_item close (listed_within close r n)) (behind_reads (all_reads p n)) (behind rest))

  module _ (ms bs : List ℕ) (r : Reader A) (h : apart (33 ∷ []) (sign_code close ∷ []) ≡ true) (g : apart ms (33 ∷ sign_code close ∷ []) ≡ true) (f : apart (sign_code close ∷ []) bs ≡ true) where
    -- the closing sign is not next
    as_close : (ts : Tokens) → next_in (sign_code close ∷ []) ts ≡ true → ((w : Tokens) (m : Making A) → L w m → Begin bs w) → (w : Tokens) (m : Making (List A)) → Listed close L w m → Close w m ⊎ Off (In []) ts w
    as_close ts e starts w m is = elim (listed_cases w m is) [
      | inl c ↦ inl c
      | inr c ↦ let s = starts c.front c.left c.is_left in
          inr (off bs (In []) ts w (next_no (sign_code close ∷ []) bs f ts e) (s.0, s.1 ++ c.back, c.parts ∙ ap (λ (u : Tokens). u ++ c.back) s.2, s.3))
    ]

    as_items : (ts : Tokens) → next_in (sign_code close ∷ []) ts ≡ false → (w : Tokens) (m : Making (List A)) → Listed close L w m → Items w m ⊎ Off (In []) ts w
    as_items ts e w m is = elim (listed_cases w m is) [
      | inl c ↦ inr (off (sign_code close ∷ []) (In []) ts w (next_not (sign_code close ∷ []) ts e) (closing.starts w m c))
      | inr c ↦ inl c
    ]

    told_listed : (l : Part L ms bs r) (n : ℕ) (ts : Tokens) → length ts < n → Told (Listed close L) (λ _. In []) ts (all_reads l.reads n ts)
    told_listed l zero ts fits = absurd (omega (arith, fits))
    told_listed l (suc n) ts fits = step (λ us lt. told_listed l n us (omega (arith, lt, fits)))
      where
        step : ((us : Tokens) → length us < length ts → Told (Listed close L) (λ _. In []) us (all_reads l.reads n us)) → Told (Listed close L) (λ _. In []) ts (all_reads l.reads (suc n) ts)
        step rest = told_cond (Listed close L) (λ _. In []) ts (next_in (sign_code close ∷ []) ts) (closing.reads ts) (items_reads l.reads (all_reads l.reads n) ts)
            (λ e. told_chosen Close (Listed close L) (λ _. In []) (λ _. In []) ts (closing.reads ts) (λ w m is. no_item is) (as_close ts e l.starts) (λ _ t i. i) (closing.told ts))
            (λ e. told_chosen Items (Listed close L) (λ _. In []) (λ _. In []) ts (items_reads l.reads (all_reads l.reads n) ts) into_items (as_items ts e) (λ _ t i. i)
            (told_then L (λ _. BehindItem close L) (then_made ◌∷◌) (λ _. In ms) (λ _ _. In []) (λ _. In [])
            (λ _ b w v is far. parted_by (33 ∷ sign_code close ∷ []) ms (In []) g w v (behind_begins w b is) far) (λ _ _ t i. i) (λ _. let c = a_close in (c.0, c.1, last_item c.2))
            ts (l.reads ts) (λ x. behind_reads (all_reads l.reads n) x.1) (l.told ts)
            (λ x is. told_behind h x.1 (all_reads l.reads n) (λ us lt. let d : length x.1 < length ts = part_shorter l ts x is in rest us (omega (arith, lt, d))))))

    told_none : ((w : Tokens) (m : Making A) → L w m → ⊥) → (n : ℕ) (ts : Tokens) → Told (Listed close L) (λ _. In []) ts (all_reads (λ us. Err us) (suc n) ts)
    told_none empty n ts = told_cond (Listed close L) (λ _. In []) ts (next_in (sign_code close ∷ []) ts) (closing.reads ts) (Err ts)
        (λ e. told_chosen Close (Listed close L) (λ _. In []) (λ _. In []) ts (closing.reads ts) (λ w m is. no_item is) (as_close ts e (λ w m is. absurd (empty w m is))) (λ _ t i. i) (closing.told ts))
        (λ e. let c = a_close in told_stuck (Listed close L) (λ _. In []) ts c.0 c.1 (no_item c.2)
        (λ w m is. elim (as_items ts e w m is) [ inl i ↦ absurd (empty i.front i.left i.is_left) | inr o ↦ o ]))

    listed_begins : ((w : Tokens) (m : Making A) → L w m → Begin bs w) → (w : Tokens) (m : Making (List A)) → Listed close L w m → Begin (sign_code close ∷ bs) w
    listed_begins starts w m is = elim (listed_cases w m is) [
      | inl c ↦ begin_as (sign_code close ∷ []) (sign_code close ∷ bs) (λ d i. in_left (sign_code close ∷ []) bs d i) w (closing.starts w m c)
      | inr c ↦ let s = starts c.front c.left c.is_left in
          begin_as bs (sign_code close ∷ bs) (λ d i. in_right (sign_code close ∷ []) bs d i) w (s.0, s.1 ++ c.back, c.parts ∙ ap (λ (u : Tokens). u ++ c.back) s.2, s.3)
    ]

    pub part_listed : (room : Bool) → Guard room L ms bs r → Part (Listed close L) [] (sign_code close ∷ bs) (listed close (guarded room r))
    part_listed true l = let p = l.part refl in record {
      reads = λ ts. all_reads p.reads (suc (length ts)) ts;
      told = λ ts. told_listed p (suc (length ts)) ts (omega arith);
      runs = λ s. all_runs r p.reads p.runs (suc (length s.tokens)) s;
      starts = listed_begins p.starts;
      some = let c = a_close in (c.0, c.1, no_item c.2);
    }
    part_listed false l = record {
      reads = λ ts. all_reads (λ us. Err us) (suc (length ts)) ts;
      told = λ ts. told_none (l.empty refl) (length ts) ts;
      runs = λ s. all_runs (λ u. Err u.tokens) (λ us. Err us) (λ u. refl) (suc (length s.tokens)) s;
      starts = listed_begins (λ w m is. absurd (l.empty refl w m is));
      some = let c = a_close in (c.0, c.1, no_item c.2);
    }
