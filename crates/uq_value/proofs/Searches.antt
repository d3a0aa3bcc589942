-- What one comparison says of a row of entries, and of blocks.
use Rattle.std.proofs.Common.{◌≡◌, ◌<◌, ◌≤◌, ◌-◌, ℕ, zero, suc, refl, ap, sym, ◌∙◌, arith, subst, Bool, true, false, List, [], ◌∷◌, ◌++◌, length, get_or, take, drop, Vec, slice_get, Some, None, ◌⊎◌, inl, inr, nat_lt}
use Rattle.std.proofs.Math.Seq.{take-length}
use Rattle.std.proofs.lemmas.Bool.Decides.{nat_tests}
use Rattle.std.specs.List.{AllByRecursion as Every}
use Rattle.std.specs.declared.alloc.Global.{Global}
use Rattle.uq_value.specs.Data.{Bytes, IsDistinct}
use Rattle.uq_value.specs.Internal.NameOrder.{key, is_before}
use Rattle.uq_value.specs.Internal.Blocks.{Blocks, entries, label, front, rest, AllBefore, AllBehind, AllWithin, NoneBefore, Ascending, HasKey, IsSorted, IsFilled, SplitsBlocks, Splits, IsMissing}
use Rattle.uq_value.specs.Internal.Names.{IsFound}
use Rattle.uq_value.specs.declared.blocks.Entry.{Entry}
use Rattle.uq_value.proofs.Keys.{before-trans, before-itself, before-not, before-other}
use Rattle.uq_value.proofs.Rows.{every-get, every-append, every-first, every-last, every-weaker, take-all, every-block, front-every, rest-every, halves, any-default}
use Rattle.uq_value.proofs.NamePlaces.{place-at}

module _ (ns : List Bytes) where
  -- the parts of a row that rises
  pub record Parts (xs ys : List Entry) : Type 0 where
    pub first : Ascending ns xs
    pub last : Ascending ns ys
    pub across : Every (λ e. AllBehind ns (label ns e) ys) xs

  pub parts : (xs ys : List Entry) → Ascending ns (xs ++ ys) → Parts xs ys
  parts [] ys h = record { first = tt; last = h; across = tt }
  parts (x ∷ xs) ys h =
      let o : Parts xs ys = parts xs ys h.1 in
      record { first = (every-first _ xs ys h.0, o.first); last = o.last; across = (every-last _ xs ys h.0, o.across) }

  pub joined : (xs ys : List Entry) → Parts xs ys → Ascending ns (xs ++ ys)
  joined [] ys o = o.last
  joined (x ∷ xs) ys o = (every-append _ xs ys o.first.0 o.across.0, joined xs ys (record { first = o.first.1; last = o.last; across = o.across.1 }))

module _ (ns : List Bytes) (k : List ℕ) where
  pub take-before : (es : List Entry) (i : ℕ) (d : Entry) → Ascending ns es → i < length es → is_before (label ns (get_or es i d)) k ≡ true → AllBefore ns k (take (suc i) es)
  take-before [] i d a h b = absurd (omega arith)
  take-before (e ∷ es) zero d a h b = (b, tt)
  take-before (e ∷ es) (suc i) d a h b =
      let inside : i < length es = omega (arith, h) in
      (before-trans (label ns e) (label ns (get_or es i d)) k (every-get (λ f. is_before (label ns e) (label ns f) ≡ true) es i d inside a.0) b, take-before es i d a.1 inside b)

  pub drop-none : (es : List Entry) (i : ℕ) (d : Entry) → Ascending ns es → i < length es → is_before (label ns (get_or es i d)) k ≡ false → NoneBefore ns k (drop i es)
  drop-none [] i d a h b = absurd (omega arith)
  drop-none (e ∷ es) zero d a h b = (b, every-weaker (λ f. is_before (label ns e) (label ns f) ≡ true) (λ f. is_before (label ns f) k ≡ false) (λ f g. before-not (label ns e) (label ns f) k b g) es a.0)
  drop-none (e ∷ es) (suc i) d a h b = drop-none es i d a.1 (omega (arith, h)) b

  pub all-before : (es : List Entry) (d : Entry) → Ascending ns es → 0 < length es → is_before (label ns (get_or es (length es - 1) d)) k ≡ true → AllBefore ns k es
  all-before es d a h b = subst (λ fs. AllBefore ns k fs) (take-all es h) (take-before es (length es - 1) d a (omega (arith, h)) b)

  pub blocks-take : (bs : Blocks) (i : ℕ) (b : Vec Entry Global) (d : Entry) → Ascending ns (entries bs) → IsFilled bs → i < length bs → is_before (label ns (get_or (get_or bs i b).items (length (get_or bs i b).items - 1) d)) k ≡ true → AllBefore ns k (entries (take (suc i) bs))
  blocks-take [] i b d a f h t = absurd (omega arith)
  blocks-take (c ∷ bs) zero b d a f h t = every-append _ c.items [] (all-before c.items d (parts ns c.items (entries bs) a).first f.0 t) tt
  blocks-take (c ∷ bs) (suc i) b d a f h t =
      let inside : i < length bs = omega (arith, h) in
      let o : Parts ns c.items (entries bs) = parts ns c.items (entries bs) a in
      let filled : 0 < length (get_or bs i b).items = every-get (λ x. 0 < length x.items) bs i b inside f.1 in
      every-append _ c.items (entries (take (suc i) bs))
      (every-weaker (λ e. AllBehind ns (label ns e) (entries bs)) (λ e. is_before (label ns e) k ≡ true)
      (λ e g. before-trans (label ns e) (label ns (get_or (get_or bs i b).items (length (get_or bs i b).items - 1) d)) k
      (every-get (λ x. is_before (label ns e) (label ns x) ≡ true) (get_or bs i b).items (length (get_or bs i b).items - 1) d (omega (arith, filled)) (every-block (λ x. is_before (label ns e) (label ns x) ≡ true) bs i b inside g)) t)
      c.items o.across)
      (blocks-take bs i b d o.last f.1 inside t)

  pub blocks-drop : (bs : Blocks) (i : ℕ) (b : Vec Entry Global) (d : Entry) → Ascending ns (entries bs) → IsFilled bs → i < length bs → is_before (label ns (get_or (get_or bs i b).items (length (get_or bs i b).items - 1) d)) k ≡ false → NoneBefore ns k (entries (drop (suc i) bs))
  blocks-drop [] i b d a f h t = absurd (omega arith)
  blocks-drop (c ∷ bs) zero b d a f h t =
      let o : Parts ns c.items (entries bs) = parts ns c.items (entries bs) a in
      let filled : 0 < length c.items = f.0 in
      every-weaker (λ x. is_before (label ns (get_or c.items (length c.items - 1) d)) (label ns x) ≡ true) (λ x. is_before (label ns x) k ≡ false)
      (λ x g. before-not (label ns (get_or c.items (length c.items - 1) d)) (label ns x) k t g) (entries bs)
      (every-get (λ e. AllBehind ns (label ns e) (entries bs)) c.items (length c.items - 1) d (omega (arith, filled)) o.across)
  blocks-drop (c ∷ bs) (suc i) b d a f h t = blocks-drop bs i b d (parts ns c.items (entries bs) a).last f.1 (omega (arith, h)) t

  -- ---- the whole search

  pub block-rises : (bs : Blocks) (i : ℕ) (b : Vec Entry Global) → i < length bs → Ascending ns (entries bs) → Ascending ns (get_or bs i b).items
  block-rises [] i b h a = absurd (omega arith)
  block-rises (c ∷ bs) zero b h a = (parts ns c.items (entries bs) a).first
  block-rises (c ∷ bs) (suc i) b h a = block-rises bs i b (omega (arith, h)) (parts ns c.items (entries bs) a).last

  inner-within : (es : List Entry) (at : ℕ) (d : Entry) → at ≤ length es → 0 < length es → AllBefore ns k (take at es) → is_before (label ns (get_or es (length es - 1) d)) k ≡ false → at < length es
  inner-within es at d h f a t = split (nat_lt at (length es)) refl
    where
      split : (b : Bool) → nat_lt at (length es) ≡ b → at < length es
      split true e = grind (arith, nat_tests)
      split false e = absurd (
          let n : at ≡ length es = grind (arith, nat_tests) in
          let all : AllBefore ns k es = subst (λ fs. AllBefore ns k fs) (ap (λ i. take i es) n ∙ take-length es) a in
          let x : is_before (label ns (get_or es (length es - 1) d)) k ≡ true = every-get (λ f. is_before (label ns f) k ≡ true) es (length es - 1) d (omega (arith, f)) all in cc)

  pub split-end : (bs : Blocks) (block : ℕ) → SplitsBlocks ns k bs block → block ≡ length bs → Splits ns k bs block 0
  split-end bs block o e = record {
    place = record { block_within = o.within; at_within = λ b h. omega arith };
    inner = λ b h. absurd (omega (arith, h, e));
    front_before = front-every _ bs block 0 o.front_before (λ b h. absurd (omega (arith, h, e)));
    rest_not = rest-every _ bs block 0 (λ b h. absurd (omega (arith, h, e))) (λ h. absurd (omega (arith, h, e)));
  }

  module _ (bs : Blocks) (block at : ℕ) (v : Vec Entry Global) (i : IsSorted ns bs) (o : SplitsBlocks ns k bs block) (h : block < length bs) (v-is : v ≡ get_or bs block v) (m : at ≤ length v.items) (x : AllBefore ns k (take at v.items)) (y : NoneBefore ns k (drop at v.items)) where
    same : (b : Vec Entry Global) → get_or bs block b ≡ v
    same b = any-default bs block b v h ∙ sym v-is

    filled : 0 < length v.items
    filled = subst (λ u. 0 < length u.items) (same v) (every-get (λ u. 0 < length u.items) bs block v h i.filled)

    at-inside : (e : Entry) → at < length v.items
    at-inside e = inner-within v.items at e m filled x (subst (λ u. is_before (label ns (get_or u.items (length u.items - 1) e)) k ≡ false) (same v) (o.next_not v e h))

    pub split-at : (e : Entry) → Splits ns k bs block at
    split-at e = record {
      place = record { block_within = o.within; at_within = λ b g. subst (λ u. at ≤ length u.items) (sym (same b)) m };
      inner = λ b g. subst (λ u. at < length u.items) (sym (same b)) (at-inside e);
      front_before = front-every _ bs block at o.front_before (λ b g. subst (λ u. AllBefore ns k (take at u.items)) (sym (same b)) x);
      rest_not = rest-every _ bs block at (λ b g. subst (λ u. NoneBefore ns k (drop at u.items)) (sym (same b)) y) (λ g. blocks-drop bs block v e i.ascending i.filled h (o.next_not v e h));
    }

-- ---- what was searched

one-behind : (ns : List Bytes) (k : List ℕ) (e : Entry) (es : List Entry) → is_before k (label ns e) ≡ true → Ascending ns (e ∷ es) → AllBehind ns k (e ∷ es)
one-behind ns k e es h a = (h, every-weaker (λ f. is_before (label ns e) (label ns f) ≡ true) (λ f. is_before k (label ns f) ≡ true) (λ f g. before-trans k (label ns e) (label ns f) h g) es a.0)

none-behind : (ns : List Bytes) (k : List ℕ) (es : List Entry) → AllBehind ns k es → HasKey ns k es → ⊥
none-behind ns k [] a h = h
none-behind ns k (e ∷ es) a h = elim h as (λ x. ⊥) [ inl p ↦ (let x : is_before k k ≡ true = subst (λ l. is_before k l ≡ true) p a.0 in let y : is_before k k ≡ false = before-itself k in cc) | inr q ↦ none-behind ns k es a.1 q ]

none-before : (ns : List Bytes) (k : List ℕ) (es : List Entry) → AllBefore ns k es → HasKey ns k es → ⊥
none-before ns k [] a h = h
none-before ns k (e ∷ es) a h = elim h as (λ x. ⊥) [ inl p ↦ (let x : is_before k k ≡ true = subst (λ l. is_before l k ≡ true) p a.0 in let y : is_before k k ≡ false = before-itself k in cc) | inr q ↦ none-before ns k es a.1 q ]

pub has-split : (ns : List Bytes) (k : List ℕ) (xs ys : List Entry) → HasKey ns k (xs ++ ys) → HasKey ns k xs ⊎ HasKey ns k ys
has-split ns k [] ys h = inr h
has-split ns k (x ∷ xs) ys h = elim h as (λ z. HasKey ns k (x ∷ xs) ⊎ HasKey ns k ys) [ inl p ↦ inl (inl p) | inr q ↦ elim (has-split ns k xs ys q) as (λ z. HasKey ns k (x ∷ xs) ⊎ HasKey ns k ys) [ inl p ↦ inl (inr p) | inr r ↦ inr r ] ]

module _ (ns : List Bytes) (name : Bytes) (bs : Blocks) (block at : ℕ) (i : IsSorted ns bs) (s : Splits ns (key name) bs block at) where
  missing-where : AllBehind ns (key name) (rest bs block at) → IsMissing ns name bs block at
  missing-where b = record {
    lacks = λ h. elim (has-split ns (key name) (front bs block at) (rest bs block at) (subst (λ es. HasKey ns (key name) es) (sym (halves bs block at)) h)) as (λ z. ⊥)
        [ inl p ↦ none-before ns (key name) (front bs block at) s.front_before p | inr q ↦ none-behind ns (key name) (rest bs block at) b q ];
    belongs = record { place = s.place; front_before = s.front_before; rest_behind = b };
  }

  rest-rises : Ascending ns (rest bs block at)
  rest-rises = (parts ns (front bs block at) (rest bs block at) (subst (λ es. Ascending ns es) (sym (halves bs block at)) i.ascending)).last

  behind-head : (es : List Entry) (e : Entry) → slice_get es 0 ≡ Some e → Ascending ns es → NoneBefore ns (key name) es → (label ns e ≡ key name → ⊥) → AllBehind ns (key name) es
  behind-head [] e h a n d = tt
  behind-head (f ∷ es) e h a n d =
      let same : f ≡ e = cc in
      one-behind ns (key name) f es (before-other (label ns f) (key name) n.0 (λ p. d (subst (λ g. label ns g ≡ key name) same p))) a

  pub missing-other : (e : Entry) → slice_get (rest bs block at) 0 ≡ Some e → (label ns e ≡ key name → ⊥) → IsMissing ns name bs block at
  missing-other e h d = missing-where (behind-head (rest bs block at) e h rest-rises s.rest_not d)

  behind-none : (es : List Entry) → slice_get es 0 ≡ None → AllBehind ns (key name) es
  behind-none [] h = tt
  behind-none (e ∷ es) h = absurd (cc)

  pub missing-end : slice_get (rest bs block at) 0 ≡ None → IsMissing ns name bs block at
  missing-end h = missing-where (behind-none (rest bs block at) h)

  head-within : (es : List Entry) (e : Entry) → slice_get es 0 ≡ Some e → AllWithin ns es → e.at < length ns
  head-within [] e h w = absurd (cc)
  head-within (f ∷ es) e h w = let same : f ≡ e = cc in subst (λ g. g.at < length ns) same w.0

  pub entry-within : (e : Entry) → slice_get (rest bs block at) 0 ≡ Some e → e.at < length ns
  entry-within e h = head-within (rest bs block at) e h (every-last _ (front bs block at) (rest bs block at) (subst (λ es. AllWithin ns es) (sym (halves bs block at)) i.within))

  pub found : (e : Entry) → IsDistinct ns → slice_get (rest bs block at) 0 ≡ Some e → label ns e ≡ key name → IsFound ns name e.at
  found e d h l = let w : e.at < length ns = entry-within e h in let n : get_or ns e.at [] ≡ name = cc in record { within = w; place = place-at ns name e.at d w n }
