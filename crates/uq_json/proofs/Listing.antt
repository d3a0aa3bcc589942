-- Reading what stands between brackets.
use Rattle.std.proofs.Common.{◌≡◌, ◌≢◌, ℕ, zero, suc, ◌<◌, ◌≤◌, Bool, true, false, cond, eqb, ◌⊎◌, inl, inr, List, [], ◌∷◌, ◌++◌, length, drop, Ok, Err, refl, sym, ap, subst, ◌∙◌, append_assoc, length-append, arith}
use Rattle.std.proofs.lemmas.Bool.{eqb-true, eq-eqb, ne_eqb}
use Rattle.uq_value.specs.Data.{Bytes}
use Rattle.uq_json.specs.Grammar.{Language, is_blank, Listed, Bracketed, none, some}
use Rattle.uq_json.specs.Internal.Reading.{Read, ◌>>=◌, is_next, skip_blanks, others_at, listed_within, bracketed_at}
use Rattle.uq_json.specs.declared.error.JsonFault.TheVariants.{NotJson, TooDeep}
use Rattle.uq_json.proofs.Steps.{bind_ok, bind_err, chosen, if_true, if_false, Takes, no_ok}
use Rattle.uq_json.proofs.Deep.{Deep, Ends, blanks_of, blanks_split, are_blanks, skip_past, skip_none, opening_not_blank, same_next}

-- what may stand behind one of them, or at their end
pub record IsClose (close : ℕ) : Type 0 where
  pub no_comma : close ≢ 0x2c
  pub ends : (cs : Bytes) → Ends (close ∷ cs)
  pub no_blank : is_blank close ≡ false
  pub no_list : close ≢ 0x5b
  pub no_object : close ≢ 0x7b

comma_ends : (cs : Bytes) → Ends (0x2c ∷ cs)
comma_ends cs = (refl, refl)

module _ {A : Type 0} (L : Language A) (r : Bytes → Read A) (close : ℕ) (is_close : IsClose close)
    (takes : (ts : Bytes) (x : A × Bytes) → r ts ≡ Ok x → Takes L ts x)
    (again : (w : Bytes) (a : A) (rest : Bytes) → L w a → Ends rest → r (w ++ rest) ≡ Ok (a, rest)) where
  -- ---- what is read is spelled so

  others_take : (more : Bytes → Read (List A)) → ((ts : Bytes) (y : List A × Bytes) → more ts ≡ Ok y → Takes (Listed L close) ts y) → (first : Bytes) (a : A) → L first a
      → (ts : Bytes) (x : List A × Bytes) → others_at close more a ts ≡ Ok x → Takes (Listed L close) (first ++ ts) x
  others_take more more_takes first a reads [] x e = absurd (no_ok NotJson x e)
  others_take more more_takes first a reads (c ∷ cs) x e =
      elim (chosen (eqb c 0x2c) (more cs >>= λ y. Ok (a ∷ y.0, y.1)) (cond (eqb c close) (Ok (a ∷ [], cs)) (Err NotJson)) (Ok x) e) [
        | inl both ↦
            let found = bind_ok (more cs) (λ y. Ok (a ∷ y.0, y.1)) x both.1 in
            let y = found.0 in
            let e2 : ◌≡◌ {A = Read (List A)} (Ok (a ∷ y.0, y.1)) (Ok x) = found.2 in
            let all : a ∷ y.0 ≡ x.0 = cc in
            let rest : y.1 ≡ x.1 = cc in
            let others = more_takes cs y found.1 in
            record {
              used = first ++ 0x2c ∷ others.used;
              split = ap (λ (n : ℕ). first ++ n ∷ cs) (eqb-true c 0x2c both.0) ∙ ap (λ (w : Bytes). first ++ 0x2c ∷ w) (others.split ∙ ap (λ (w : Bytes). others.used ++ w) rest) ∙ sym (append_assoc first (0x2c ∷ others.used) x.1);
              reads = subst (λ (xs : List A). Listed L close (first ++ 0x2c ∷ others.used) xs) all (first, 0x2c ∷ others.used, refl, reads, inr (others.used, refl, others.reads));
            }
        | inr both ↦ elim (chosen (eqb c close) (Ok (a ∷ [], cs)) (Err NotJson) (Ok x) both.1) [
          | inl closed ↦
              let e2 : ◌≡◌ {A = Read (List A)} (Ok (a ∷ [], cs)) (Ok x) = closed.1 in
              let all : a ∷ [] ≡ x.0 = cc in
              let rest : cs ≡ x.1 = cc in
              record {
                used = first ++ close ∷ [];
                split = ap (λ (n : ℕ). first ++ n ∷ cs) (eqb-true c close closed.0) ∙ ap (λ (w : Bytes). first ++ close ∷ w) rest ∙ sym (append_assoc first (close ∷ []) x.1);
                reads = subst (λ (xs : List A). Listed L close (first ++ close ∷ []) xs) all (first, close ∷ [], refl, reads, inl (refl, refl));
              }
          | inr open' ↦ absurd (no_ok NotJson x open'.1)
        ]
      ]

  pub listed_take : (n : ℕ) (ts : Bytes) (x : List A × Bytes) → listed_within r close n ts ≡ Ok x → Takes (Listed L close) ts x
  listed_take zero ts x e = absurd (no_ok NotJson x e)
  listed_take (suc n) ts x e =
      let found = bind_ok (r ts) (λ y. others_at close (listed_within r close n) y.0 y.1) x e in
      let y = found.0 in
      let one = takes ts y found.1 in
      subst (λ (w : Bytes). Takes (Listed L close) w x) (sym one.split) (others_take (listed_within r close n) (listed_take n) one.used y.0 one.reads y.1 x found.2)

  pub bracketed_take : (opening : ℕ) (ts : Bytes) (x : List A × Bytes) → bracketed_at r close ts ≡ Ok x → Takes (Bracketed L opening close) (opening ∷ ts) x
  bracketed_take opening ts x e =
      elim (chosen (is_next close (skip_blanks ts)) (Ok ([], drop 1 (skip_blanks ts))) (listed_within r close (suc (length ts)) ts) (Ok x) e) [
        | inl both ↦
            let e2 : ◌≡◌ {A = Read (List A)} (Ok ([], drop 1 (skip_blanks ts))) (Ok x) = both.1 in
            let nothing : [] ≡ x.0 = cc in
            let rest : drop 1 (skip_blanks ts) ≡ x.1 = cc in
            let shown : skip_blanks ts ≡ close ∷ x.1 = next_shown (skip_blanks ts) both.0 ∙ ap (λ (w : Bytes). close ∷ w) rest in
            record {
              used = opening ∷ (blanks_of ts ++ close ∷ []);
              split = ap (λ (w : Bytes). opening ∷ w) (blanks_split ts ∙ ap (λ (w : Bytes). blanks_of ts ++ w) shown ∙ sym (append_assoc (blanks_of ts) (close ∷ []) x.1));
              reads = none (blanks_of ts) refl (are_blanks ts) (sym nothing);
            }
        | inr both ↦
            let taken = listed_take (suc (length ts)) ts x both.1 in
            record { used = opening ∷ taken.used; split = ap (λ (w : Bytes). opening ∷ w) taken.split; reads = some taken.used refl taken.reads }
      ]
    where
      next_shown : (w : Bytes) → is_next close w ≡ true → w ≡ close ∷ drop 1 w
      next_shown [] e = absurd (cc)
      next_shown (c ∷ cs) e = ap (λ (n : ℕ). n ∷ cs) (eqb-true c close e)

  -- ---- what is spelled so is read

  one_read : (n : ℕ) (front back : Bytes) (a : A) → L front a → Ends back → listed_within r close (suc n) (front ++ back) ≡ others_at close (listed_within r close n) a back
  one_read n front back a is end = ap (λ (q : Read A). q >>= λ x. others_at close (listed_within r close n) x.0 x.1) (again front a back is end)

  comma_read : (more : Bytes → Read (List A)) (a : A) (cs : Bytes) → others_at close more a (0x2c ∷ cs) ≡ (more cs >>= λ y. Ok (a ∷ y.0, y.1))
  comma_read more a cs = refl

  close_read : (more : Bytes → Read (List A)) (a : A) (cs : Bytes) → others_at close more a (close ∷ cs) ≡ Ok (a ∷ [], cs)
  close_read more a cs = if_false (eqb close 0x2c) (more cs >>= λ y. Ok (a ∷ y.0, y.1)) (cond (eqb close close) (Ok (a ∷ [], cs)) (Err NotJson)) (ne_eqb close 0x2c is_close.no_comma)
      ∙ if_true (eqb close close) (Ok (a ∷ [], cs)) (Err NotJson) (eq-eqb close close refl)

  pub listed_again : (n : ℕ) (w : Bytes) (xs : List A) (rest : Bytes) → Listed L close w xs → length w ≤ n → listed_within r close n (w ++ rest) ≡ Ok (xs, rest)
  listed_again n w [] rest is fits = absurd is
  listed_again zero w (a ∷ others) rest (front, back, parts, first, inl (closed, no_others)) fits =
      let count : length w ≡ length (front ++ back) = ap length parts in
      let more : length back ≡ 1 = ap length closed in
      absurd (omega (arith, count, more, length-append front back))
  listed_again zero w (a ∷ others) rest (front, back, parts, first, inr (tail, comma, more)) fits =
      let count : length w ≡ length (front ++ back) = ap length parts in
      let some' : length back ≡ length (0x2c ∷ tail) = ap length comma in
      absurd (omega (arith, count, some', length-append front back))
  listed_again (suc n) w (a ∷ others) rest (front, back, parts, first, inl (closed, no_others)) fits =
      ap (λ (v : Bytes). listed_within r close (suc n) (v ++ rest)) (parts ∙ ap (λ (v : Bytes). front ++ v) closed)
      ∙ ap (listed_within r close (suc n)) (append_assoc front (close ∷ []) rest)
      ∙ one_read n front (close ∷ rest) a first (is_close.ends rest)
      ∙ close_read (listed_within r close n) a rest
      ∙ ap (λ (xs : List A). Ok (a ∷ xs, rest)) (sym no_others)
  listed_again (suc n) w (a ∷ others) rest (front, back, parts, first, inr (tail, comma, more)) fits =
      let count : length w ≡ length (front ++ back) = ap length parts in
      let some' : length back ≡ length (0x2c ∷ tail) = ap length comma in
      ap (λ (v : Bytes). listed_within r close (suc n) (v ++ rest)) (parts ∙ ap (λ (v : Bytes). front ++ v) comma)
      ∙ ap (listed_within r close (suc n)) (append_assoc front (0x2c ∷ tail) rest)
      ∙ one_read n front (0x2c ∷ (tail ++ rest)) a first (comma_ends (tail ++ rest))
      ∙ ap (λ (q : Read (List A)). q >>= λ y. Ok (a ∷ y.0, y.1)) (listed_again n tail others rest more (omega (arith, count, some', length-append front back, fits)))

  pub bracketed_again : (opening : ℕ) (w : Bytes) (xs : List A) (rest : Bytes) → ((v : Bytes) (a : A) (tail : Bytes) → L v a → is_next close (skip_blanks (v ++ tail)) ≡ false)
      → Bracketed L opening close (opening ∷ w) xs → bracketed_at r close (w ++ rest) ≡ Ok (xs, rest)
  bracketed_again opening w xs rest begins (none blanks is are nothing) =
      let body : w ≡ blanks ++ close ∷ [] = ap (drop 1) is in
      let shown : skip_blanks (w ++ rest) ≡ close ∷ rest = ap (λ (v : Bytes). skip_blanks (v ++ rest)) body ∙ ap skip_blanks (append_assoc blanks (close ∷ []) rest) ∙ skip_past blanks (close ∷ rest) are ∙ skip_none close rest is_close.no_blank in
      if_true (is_next close (skip_blanks (w ++ rest))) (Ok ([], drop 1 (skip_blanks (w ++ rest)))) (listed_within r close (suc (length (w ++ rest))) (w ++ rest)) (ap (is_next close) shown ∙ eq-eqb close close refl)
      ∙ ap (λ (v : Bytes). Ok ([], drop 1 v)) shown ∙ ap (λ (ys : List A). Ok (ys, rest)) (sym nothing)
  bracketed_again opening w xs rest begins (some body is listed) =
      let same : w ≡ body = ap (drop 1) is in
      let listed' : Listed L close w xs = subst (λ (v : Bytes). Listed L close v xs) (sym same) listed in
      if_false (is_next close (skip_blanks (w ++ rest))) (Ok ([], drop 1 (skip_blanks (w ++ rest)))) (listed_within r close (suc (length (w ++ rest))) (w ++ rest)) (first_apart xs listed')
      ∙ listed_again (suc (length (w ++ rest))) w xs rest listed' (omega (arith, length-append w rest))
    where
      first_apart : (ys : List A) → Listed L close w ys → is_next close (skip_blanks (w ++ rest)) ≡ false
      first_apart [] listed = absurd listed
      first_apart (a ∷ others) (front, back, parts, first, more) = ap (λ (v : Bytes). is_next close (skip_blanks (v ++ rest))) parts ∙ ap (λ (v : Bytes). is_next close (skip_blanks v)) (append_assoc front back rest) ∙ begins front a (back ++ rest) first

  -- ---- a bracket too many

  module _ (more : Language A) (wider : (w : Bytes) (a : A) → L w a → more w a)
      (deep : (ts : Bytes) → r ts ≡ Err TooDeep → Deep L more (λ seen opening. (x : Bytes) → r (seen ++ opening ∷ x) ≡ Err TooDeep) ts) where
    abbrev pub ListedStops : Bytes → ℕ → Type 0
    ListedStops seen opening = (n : ℕ) (x : Bytes) → length seen < n → listed_within r close n (seen ++ opening ∷ x) ≡ Err TooDeep

    first_stops : (m : ℕ) (seen : Bytes) (opening : ℕ) (x : Bytes) → length seen < m → r (seen ++ opening ∷ x) ≡ Err TooDeep → listed_within r close m (seen ++ opening ∷ x) ≡ Err TooDeep
    first_stops zero seen opening x h e = absurd (omega (arith, h))
    first_stops (suc m) seen opening x h e = ap (λ (q : Read A). q >>= λ y. others_at close (listed_within r close m) y.0 y.1) e

    deep_first : (ts : Bytes) → r ts ≡ Err TooDeep → Deep (Listed L close) (Listed more close) ListedStops ts
    deep_first ts e =
        let d = deep ts e in
        let w = d.within in
        let b = d.beyond in
        record {
          seen = d.seen;
          opening = d.opening;
          after = d.after;
          split = d.split;
          is_opening = d.is_opening;
          stops = λ m x h. first_stops m d.seen d.opening x h (d.stops x);
          within = (w.0 ++ close ∷ [], w.1 ∷ [], (d.seen ++ w.0, close ∷ [], sym (append_assoc d.seen w.0 (close ∷ [])), w.2, inl (refl, refl)));
          beyond = (b.0 ++ close ∷ [], b.1 ∷ [], (d.seen ++ d.opening ∷ b.0, close ∷ [], sym (append_assoc d.seen (d.opening ∷ b.0) (close ∷ [])), b.2, inl (refl, refl)));
        }

    later_stops : (m : ℕ) (front seen : Bytes) (a : A) (opening : ℕ) (x : Bytes) → L front a → length (front ++ 0x2c ∷ seen) < m → ListedStops seen opening → listed_within r close m ((front ++ 0x2c ∷ seen) ++ opening ∷ x) ≡ Err TooDeep
    later_stops zero front seen a opening x reads h stops = absurd (omega (arith, h))
    later_stops (suc m) front seen a opening x reads h stops =
        ap (listed_within r close (suc m)) (append_assoc front (0x2c ∷ seen) (opening ∷ x))
        ∙ one_read m front (0x2c ∷ (seen ++ opening ∷ x)) a reads (comma_ends (seen ++ opening ∷ x))
        ∙ ap (λ (q : Read (List A)). q >>= λ y. Ok (a ∷ y.0, y.1)) (stops m x (omega (arith, h, length-append front (0x2c ∷ seen))))

    deep_later : (front : Bytes) (a : A) (cs : Bytes) → L front a → Deep (Listed L close) (Listed more close) ListedStops cs → Deep (Listed L close) (Listed more close) ListedStops (front ++ 0x2c ∷ cs)
    deep_later front a cs reads d =
        let w = d.within in
        let b = d.beyond in
        record {
          seen = front ++ 0x2c ∷ d.seen;
          opening = d.opening;
          after = d.after;
          split = ap (λ (v : Bytes). front ++ 0x2c ∷ v) d.split ∙ sym (append_assoc front (0x2c ∷ d.seen) (d.opening ∷ d.after));
          is_opening = d.is_opening;
          stops = λ m x h. later_stops m front d.seen a d.opening x reads h d.stops;
          within = (w.0, a ∷ w.1, (front, 0x2c ∷ (d.seen ++ w.0), append_assoc front (0x2c ∷ d.seen) w.0, reads, inr (d.seen ++ w.0, refl, w.2)));
          beyond = (b.0, a ∷ b.1, (front, 0x2c ∷ (d.seen ++ d.opening ∷ b.0), append_assoc front (0x2c ∷ d.seen) (d.opening ∷ b.0), wider front a reads, inr (d.seen ++ d.opening ∷ b.0, refl, b.2)));
        }

    others_deep : (n : ℕ) (a : A) (ts : Bytes) → others_at close (listed_within r close n) a ts ≡ Err TooDeep → (cs : Bytes) × (ts ≡ 0x2c ∷ cs) × (listed_within r close n cs ≡ Err TooDeep)
    others_deep n a [] e = absurd (cc)
    others_deep n a (c ∷ cs) e =
        elim (chosen (eqb c 0x2c) (listed_within r close n cs >>= λ y. Ok (a ∷ y.0, y.1)) (cond (eqb c close) (Ok (a ∷ [], cs)) (Err NotJson)) (Err TooDeep) e) [
          | inl both ↦ elim (bind_err (listed_within r close n cs) (λ y. Ok (a ∷ y.0, y.1)) TooDeep both.1) [
            | inl is ↦ (cs, ap (λ (k : ℕ). k ∷ cs) (eqb-true c 0x2c both.0), is)
            | inr (x, is, no') ↦ absurd (ok_no (a ∷ x.0, x.1) no')
          ]
          | inr both ↦ absurd (closed_no (eqb c close) both.1)
        ]
      where
        ok_no : (x : List A × Bytes) → ◌≡◌ {A = Read (List A)} (Ok x) (Err TooDeep) → ⊥
        ok_no x e = cc

        closed_no : (b : Bool) → ◌≡◌ {A = Read (List A)} (cond b (Ok (a ∷ [], cs)) (Err NotJson)) (Err TooDeep) → ⊥
        closed_no true e = cc
        closed_no false e = cc

    pub deep_listed : (n : ℕ) (ts : Bytes) → listed_within r close n ts ≡ Err TooDeep → Deep (Listed L close) (Listed more close) ListedStops ts
    deep_listed zero ts e = absurd (cc)
    deep_listed (suc n) ts e = deep_by n ts (deep_listed n) (bind_err (r ts) (λ y. others_at close (listed_within r close n) y.0 y.1) TooDeep e)
      where
        deep_by : (n : ℕ) (ts : Bytes) → ((cs : Bytes) → listed_within r close n cs ≡ Err TooDeep → Deep (Listed L close) (Listed more close) ListedStops cs)
            → (r ts ≡ Err TooDeep) ⊎ ((x : A × Bytes) × (r ts ≡ Ok x) × (others_at close (listed_within r close n) x.0 x.1 ≡ Err TooDeep)) → Deep (Listed L close) (Listed more close) ListedStops ts
        deep_by n ts later (inl is) = deep_first ts is
        deep_by n ts later (inr (x, is, behind)) =
            let one = takes ts x is in
            let next = others_deep n x.0 x.1 behind in
            subst (Deep (Listed L close) (Listed more close) ListedStops) (sym (one.split ∙ ap (λ (v : Bytes). one.used ++ v) next.1)) (deep_later one.used x.0 next.0 one.reads (later next.0 next.2))

    -- what stands behind the opening bracket
    abbrev pub Behind : ℕ → Language A → Language (List A)
    Behind opening K w xs = Bracketed K opening close (opening ∷ w) xs

    abbrev pub BracketedStops : Bytes → ℕ → Type 0
    BracketedStops seen opening = (x : Bytes) → bracketed_at r close (seen ++ opening ∷ x) ≡ Err TooDeep

    pub deep_bracketed : (bracket : ℕ) (ts : Bytes) → bracketed_at r close ts ≡ Err TooDeep → Deep (Behind bracket L) (Behind bracket more) BracketedStops ts
    deep_bracketed bracket ts e =
        elim (chosen (is_next close (skip_blanks ts)) (Ok ([], drop 1 (skip_blanks ts))) (listed_within r close (suc (length ts)) ts) (Err TooDeep) e) [
          | inl both ↦ absurd (ok_no (drop 1 (skip_blanks ts)) both.1)
          | inr both ↦
              let d = deep_listed (suc (length ts)) ts both.1 in
              let w = d.within in
              let b = d.beyond in
              record {
                seen = d.seen;
                opening = d.opening;
                after = d.after;
                split = d.split;
                is_opening = d.is_opening;
                stops = λ x. if_false (is_next close (skip_blanks (d.seen ++ d.opening ∷ x))) (Ok ([], drop 1 (skip_blanks (d.seen ++ d.opening ∷ x)))) (listed_within r close (suc (length (d.seen ++ d.opening ∷ x))) (d.seen ++ d.opening ∷ x))
                    (same_next close d.seen d.opening x d.after (opening_not_blank d.opening d.is_opening) ∙ ap (λ (v : Bytes). is_next close (skip_blanks v)) (sym d.split) ∙ both.0)
                    ∙ d.stops (suc (length (d.seen ++ d.opening ∷ x))) x (omega (arith, length-append d.seen (d.opening ∷ x)));
                within = (w.0, w.1, some (d.seen ++ w.0) refl w.2);
                beyond = (b.0, b.1, some (d.seen ++ d.opening ∷ b.0) refl b.2);
              }
        ]
      where
        ok_no : (rest : Bytes) → ◌≡◌ {A = Read (List A)} (Ok ([], rest)) (Err TooDeep) → ⊥
        ok_no rest e = cc
