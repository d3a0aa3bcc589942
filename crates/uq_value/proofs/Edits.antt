-- Blocks to which an entry is added, or of which one is cut in two.
use Rattle.std.proofs.Common.{◌≡◌, ◌<◌, ◌≤◌, ◌+◌, ℕ, zero, suc, refl, ap, sym, ◌∙◌, arith, subst, Bool, true, false, List, [], ◌∷◌, ◌++◌, length, length-append, get_or, take, drop, set, map, Vec, append_assoc, append-nil, ◌⊎◌, inl, inr}
use Rattle.std.proofs.Math.ListN.{get_or-append}
use Rattle.std.proofs.Math.Seq.{get_or-append_seam}
use Rattle.std.proofs.lemmas.List.{take-append-drop}
use Rattle.std.specs.List.{AllByRecursion as Every, flat_map}
use Rattle.std.specs.declared.alloc.Global.{Global}
use Rattle.uq_value.specs.Data.{Bytes}
use Rattle.uq_value.specs.Internal.NameOrder.{key, digest, is_before}
use Rattle.uq_value.specs.Internal.Blocks.{Blocks, entries, label, front, rest, AllBefore, AllBehind, AllWithin, Ascending, HasKey, IsSorted, IsFilled, Belongs, Enters, SameEntries}
use Rattle.uq_value.specs.declared.blocks.Entry.{Entry}
use Rattle.uq_value.proofs.Rows.{every-append, every-first, every-last, every-weaker, halves, rest-end}
use Rattle.uq_value.proofs.Searches.{Parts, parts, joined, has-split}

-- ---- entries

pub entries-insert : (bs : Blocks) (i at : ℕ) (b c : Vec Entry Global) (e : Entry) → i < length bs → c.items ≡ take at (get_or bs i b).items ++ e ∷ drop at (get_or bs i b).items → entries (set bs i c) ≡ front bs i at ++ e ∷ rest bs i at
entries-insert [] i at b c e h p = absurd (omega arith)
entries-insert (x ∷ bs) zero at b c e h p = ap (λ es. es ++ entries bs) p ∙ append_assoc (take at x.items) (e ∷ drop at x.items) (entries bs)
entries-insert (x ∷ bs) (suc i) at b c e h p = ap (λ es. x.items ++ es) (entries-insert bs i at b c e (omega (arith, h)) p) ∙ sym (append_assoc x.items (front bs i at) (e ∷ rest bs i at))

pub entries-same : (bs : Blocks) (i : ℕ) (b c : Vec Entry Global) → i < length bs → c.items ≡ (get_or bs i b).items → entries (set bs i c) ≡ entries bs
entries-same [] i b c h p = absurd (omega arith)
entries-same (x ∷ bs) zero b c h p = ap (λ es. es ++ entries bs) p
entries-same (x ∷ bs) (suc i) b c h p = ap (λ es. x.items ++ es) (entries-same bs i b c (omega (arith, h)) p)

pub entries-push : (bs : Blocks) (i : ℕ) (b c : Vec Entry Global) (e : Entry) → i + 1 ≡ length bs → c.items ≡ (get_or bs i b).items ++ e ∷ [] → entries (set bs i c) ≡ entries bs ++ e ∷ []
entries-push [] i b c e h p = absurd (omega (arith, h))
entries-push (x ∷ []) zero b c e h p = append-nil c.items ∙ p ∙ ap (λ es. es ++ e ∷ []) (sym (append-nil x.items))
entries-push (x ∷ y ∷ bs) zero b c e h p = absurd (omega (arith, h))
entries-push (x ∷ bs) (suc i) b c e h p = ap (λ es. x.items ++ es) (entries-push bs i b c e (omega (arith, h)) p) ∙ sym (append_assoc x.items (entries bs) (e ∷ []))

pub entries-block : (bs : Blocks) (b : Vec Entry Global) → entries (bs ++ b ∷ []) ≡ entries bs ++ b.items
entries-block [] b = append-nil b.items
entries-block (x ∷ bs) b = ap (λ es. x.items ++ es) (entries-block bs b) ∙ sym (append_assoc x.items (entries bs) b.items)

pub entries-cut : (bs : Blocks) (i n half : ℕ) (b lower upper : Vec Entry Global) → i < length bs → n ≡ suc i → lower.items ≡ take half (get_or (take n bs ++ upper ∷ drop n bs) i b).items → upper.items ≡ drop half (get_or bs i b).items → entries (set (take n bs ++ upper ∷ drop n bs) i lower) ≡ entries bs
entries-cut [] i n half b lower upper h e p q = absurd (omega arith)
entries-cut (x ∷ bs) zero n half b lower upper h e p q =
    rw e (ap (λ es. es ++ (upper.items ++ entries bs)) (rw e at p) ∙ ap (λ es. take half x.items ++ (es ++ entries bs)) q
    ∙ sym (append_assoc (take half x.items) (drop half x.items) (entries bs)) ∙ ap (λ es. es ++ entries bs) (take-append-drop half x.items))
entries-cut (x ∷ bs) (suc i) n half b lower upper h e p q = rw e (ap (λ es. x.items ++ es) (entries-cut bs i (suc i) half b lower upper (omega (arith, h)) refl (rw e at p) q))

-- ---- no block is empty

pub filled-set : (bs : Blocks) (i : ℕ) (c : Vec Entry Global) → 0 < length c.items → IsFilled bs → IsFilled (set bs i c)
filled-set [] i c h f = f
filled-set (x ∷ bs) zero c h f = (h, f.1)
filled-set (x ∷ bs) (suc i) c h f = (f.0, filled-set bs i c h f.1)

pub filled-insert : (bs : Blocks) (n : ℕ) (c : Vec Entry Global) → 0 < length c.items → IsFilled bs → IsFilled (take n bs ++ c ∷ drop n bs)
filled-insert bs zero c h f = (h, f)
filled-insert [] (suc n) c h f = (h, tt)
filled-insert (x ∷ bs) (suc n) c h f = (f.0, filled-insert bs n c h f.1)

-- ---- an index with one name more

module _ (ns : List Bytes) where
  first-has : (k : List ℕ) (xs ys : List Entry) → HasKey ns k xs → HasKey ns k (xs ++ ys)
  first-has k [] ys h = absurd h
  first-has k (x ∷ xs) ys h = elim h as (λ z. HasKey ns k (x ∷ (xs ++ ys))) [ inl p ↦ inl p | inr q ↦ inr (first-has k xs ys q) ]

  last-has : (k : List ℕ) (xs ys : List Entry) → HasKey ns k ys → HasKey ns k (xs ++ ys)
  last-has k [] ys h = h
  last-has k (x ∷ xs) ys h = inr (last-has k xs ys h)

  insert-has : (k : List ℕ) (e : Entry) (xs ys : List Entry) → HasKey ns k (xs ++ ys) → HasKey ns k (xs ++ e ∷ ys)
  insert-has k e xs ys h = elim (has-split ns k xs ys h) as (λ z. HasKey ns k (xs ++ e ∷ ys)) [ inl p ↦ first-has k xs (e ∷ ys) p | inr q ↦ last-has k xs (e ∷ ys) (inr q) ]

label-same : (ns : List Bytes) (name : Bytes) (e : Entry) → e.at < length ns → label (ns ++ name ∷ []) e ≡ label ns e
label-same ns name e h = ap (λ n. e.digest ∷ n) (get_or-append ns (name ∷ []) [] e.at h)

module _ (ns : List Bytes) (name : Bytes) where
  behind-same : (k : List ℕ) (es : List Entry) → AllWithin ns es → AllBehind ns k es → AllBehind (ns ++ name ∷ []) k es
  behind-same k [] w a = tt
  behind-same k (e ∷ es) w a = (subst (λ l. is_before k l ≡ true) (sym (label-same ns name e w.0)) a.0, behind-same k es w.1 a.1)

  pub rises-same : (es : List Entry) → AllWithin ns es → Ascending ns es → Ascending (ns ++ name ∷ []) es
  rises-same [] w a = tt
  rises-same (e ∷ es) w a = (subst (λ l. AllBehind (ns ++ name ∷ []) l es) (sym (label-same ns name e w.0)) (behind-same (label ns e) es w.1 a.0), rises-same es w.1 a.1)

  pub within-more : (es : List Entry) → AllWithin ns es → AllWithin (ns ++ name ∷ []) es
  within-more es w = every-weaker (λ e. e.at < length ns) (λ e. e.at < length (ns ++ name ∷ [])) (λ e h. omega (arith, h, length-append ns (name ∷ []))) es w

  pub has-same : (k : List ℕ) (es : List Entry) → AllWithin ns es → HasKey ns k es → HasKey (ns ++ name ∷ []) k es
  has-same k [] w h = h
  has-same k (e ∷ es) w h = elim h as (λ x. HasKey (ns ++ name ∷ []) k (e ∷ es)) [ inl p ↦ inl (label-same ns name e w.0 ∙ p) | inr q ↦ inr (has-same k es w.1 q) ]

  extended-rises : (e : Entry) (xs ys : List Entry) → label (ns ++ name ∷ []) e ≡ key name → AllWithin ns (xs ++ ys) → Ascending ns (xs ++ ys) → AllBefore ns (key name) xs → AllBehind ns (key name) ys → Ascending (ns ++ name ∷ []) (xs ++ e ∷ ys)
  extended-rises e xs ys l w a b c =
      let o : Parts (ns ++ name ∷ []) xs ys = parts (ns ++ name ∷ []) xs ys (rises-same (xs ++ ys) w a) in
      joined (ns ++ name ∷ []) xs (e ∷ ys) (record {
        first = o.first;
        last = (subst (λ k. AllBehind (ns ++ name ∷ []) k ys) (sym l) (behind-same (key name) ys (every-last _ xs ys w) c), o.last);
        across = across xs (every-first _ xs ys w) b o.across;
      })
    where
      across : (zs : List Entry) → AllWithin ns zs → AllBefore ns (key name) zs → Every (λ f. AllBehind (ns ++ name ∷ []) (label (ns ++ name ∷ []) f) ys) zs → Every (λ f. AllBehind (ns ++ name ∷ []) (label (ns ++ name ∷ []) f) (e ∷ ys)) zs
      across [] v d r = tt
      across (z ∷ zs) v d r = (((ap (λ k. is_before k (label (ns ++ name ∷ []) e)) (label-same ns name z v.0) ∙ ap (λ k. is_before (label ns z) k) l) ∙ d.0, r.0), across zs v.1 d.1 r.1)

  module _ (bs after : Blocks) (block at : ℕ) (e : Entry) (i : IsSorted ns bs) (b : Belongs ns name bs block at) (d : e.digest ≡ digest name) (p : e.at ≡ length ns) (now : entries after ≡ front bs block at ++ e ∷ rest bs block at) (f : IsFilled after) where
    label-is : label (ns ++ name ∷ []) e ≡ key name
    label-is = ap (λ j. e.digest ∷ get_or (ns ++ name ∷ []) j []) p ∙ ap (λ n. e.digest ∷ n) (get_or-append_seam ns name [] []) ∙ ap (λ h. h ∷ name) d

    all-within : AllWithin ns (front bs block at ++ rest bs block at)
    all-within = subst (λ es. AllWithin ns es) (sym (halves bs block at)) i.within

    pub extended : Enters ns name bs after
    extended = record {
      sorted = record {
        within = subst (λ es. AllWithin (ns ++ name ∷ []) es) (sym now) (
            let w : AllWithin (ns ++ name ∷ []) (front bs block at ++ rest bs block at) = within-more (front bs block at ++ rest bs block at) all-within in
            every-append _ (front bs block at) (e ∷ rest bs block at) (every-first _ (front bs block at) (rest bs block at) w) (omega (arith, p, length-append ns (name ∷ [])), every-last _ (front bs block at) (rest bs block at) w));
        ascending = subst (λ es. Ascending (ns ++ name ∷ []) es) (sym now) (extended-rises e (front bs block at) (rest bs block at) label-is
            all-within (subst (λ es. Ascending ns es) (sym (halves bs block at)) i.ascending) b.front_before b.rest_behind);
        filled = f;
      };
      keeps = λ k h. subst (λ es. HasKey (ns ++ name ∷ []) k es) (sym now)
          (insert-has (ns ++ name ∷ []) k e (front bs block at) (rest bs block at) (has-same k (front bs block at ++ rest bs block at) all-within (subst (λ es. HasKey ns k es) (sym (halves bs block at)) h)));
      has = subst (λ es. HasKey (ns ++ name ∷ []) (key name) es) (sym now) (last-has (ns ++ name ∷ []) (key name) (front bs block at) (e ∷ rest bs block at) (inl label-is));
    }

  -- blocks to which nothing comes
  pub sorted-more : (bs : Blocks) → IsSorted ns bs → IsSorted (ns ++ name ∷ []) bs
  sorted-more bs i = record { within = within-more (entries bs) i.within; ascending = rises-same (entries bs) i.within i.ascending; filled = i.filled }

-- the same entries cut in another way
pub kept : (ns : List Bytes) (bs after : Blocks) → IsSorted ns bs → SameEntries bs after → IsSorted ns after
kept ns bs after i e = record {
  within = subst (λ es. AllWithin ns es) (sym e.same) i.within;
  ascending = subst (λ es. Ascending ns es) (sym e.same) i.ascending;
  filled = e.filled;
}

pub no-blocks : (ns : List Bytes) (bs : Blocks) → bs ≡ [] → IsSorted ns bs
no-blocks ns bs e = rw e (record { within = tt; ascending = tt; filled = tt })

-- an entry behind all others
pub at-end : (bs : Blocks) (block at : ℕ) (e : Entry) → length bs ≤ block → entries bs ++ e ∷ [] ≡ front bs block at ++ e ∷ rest bs block at
at-end bs block at e h =
    let r : rest bs block at ≡ [] = rest-end bs block at h in
    let f : front bs block at ≡ entries bs = sym (append-nil (front bs block at)) ∙ ap (λ es. front bs block at ++ es) (sym r) ∙ halves bs block at in
    ap (λ es. es ++ e ∷ []) (sym f) ∙ ap (λ es. front bs block at ++ e ∷ es) (sym r)

-- ---- a copy

rows : Blocks → List (List Entry)
rows bs = map (λ b. b.items) bs

entries-rows : (bs : Blocks) → entries bs ≡ flat_map (λ es. es) (rows bs)
unfolding rows
entries-rows [] = refl
entries-rows (b ∷ bs) = ap (λ es. b.items ++ es) (entries-rows bs)

filled-rows : (bs : Blocks) → IsFilled bs → Every (λ es. 0 < length es) (rows bs)
unfolding rows
filled-rows [] f = tt
filled-rows (b ∷ bs) f = (f.0, filled-rows bs f.1)

rows-filled : (bs : Blocks) → Every (λ es. 0 < length es) (rows bs) → IsFilled bs
unfolding rows
rows-filled [] f = tt
rows-filled (b ∷ bs) f = (f.0, rows-filled bs f.1)

pub copied : (bs after : Blocks) → map (λ b. b.items) after ≡ map (λ b. b.items) bs → IsFilled bs → SameEntries bs after
unfolding rows
copied bs after e f = record {
  same = entries-rows after ∙ ap (λ xs. flat_map (λ es. es) xs) e ∙ sym (entries-rows bs);
  filled = rows-filled after (subst (λ xs. Every (λ es. 0 < length es) xs) (sym e) (filled-rows bs f));
}
