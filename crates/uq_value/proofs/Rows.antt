-- What holds of each entry of a row and of blocks.
use Rattle.std.proofs.Common.{◌≡◌, ◌<◌, ◌≤◌, ◌-◌, ◌+◌, ℕ, zero, suc, refl, ap, sym, ◌∙◌, arith, List, [], ◌∷◌, ◌++◌, length, get_or, take, drop, drop-cons, length-drop, map, add-one, Vec, append_assoc, slice_get, Some, Result, Ok, Err, OnErr, OnOk}
use Rattle.std.proofs.Math.Seq.{take-length, take-suc}
use Rattle.std.proofs.lemmas.List.{take-append-drop, map-append}
use Rattle.std.specs.List.{AllByRecursion as Every}
use Rattle.std.specs.declared.alloc.Global.{Global}
use Rattle.uq_value.specs.Internal.Blocks.{Blocks, entries, front, rest}
use Rattle.uq_value.specs.declared.blocks.Entry.{Entry}

module _ {X : Type 0} (P : X → Type 0) where
  pub every-get : (xs : List X) (i : ℕ) (d : X) → i < length xs → Every P xs → P (get_or xs i d)
  every-get [] i d h e = absurd (omega arith)
  every-get (x ∷ xs) zero d h e = e.0
  every-get (x ∷ xs) (suc i) d h e = every-get xs i d (omega arith) e.1

  pub every-append : (xs ys : List X) → Every P xs → Every P ys → Every P (xs ++ ys)
  every-append [] ys e f = f
  every-append (x ∷ xs) ys e f = (e.0, every-append xs ys e.1 f)

  pub every-first : (xs ys : List X) → Every P (xs ++ ys) → Every P xs
  every-first [] ys e = tt
  every-first (x ∷ xs) ys e = (e.0, every-first xs ys e.1)

  pub every-last : (xs ys : List X) → Every P (xs ++ ys) → Every P ys
  every-last [] ys e = e
  every-last (x ∷ xs) ys e = every-last xs ys e.1

  pub every-weaker : (Q : X → Type 0) → ((x : X) → P x → Q x) → (xs : List X) → Every P xs → Every Q xs
  every-weaker Q f [] e = tt
  every-weaker Q f (x ∷ xs) e = (f x e.0, every-weaker Q f xs e.1)

pub take-all : {X : Type 0} (xs : List X) → 0 < length xs → take (suc (length xs - 1)) xs ≡ xs
take-all xs h = let e : suc (length xs - 1) ≡ length xs = omega (arith, h) in ap (λ n. take n xs) e ∙ take-length xs

-- ---- blocks

module _ (P : Entry → Type 0) where
  pub every-block : (bs : Blocks) (i : ℕ) (b : Vec Entry Global) → i < length bs → Every P (entries bs) → Every P (get_or bs i b).items
  every-block [] i b h e = absurd (omega arith)
  every-block (c ∷ bs) zero b h e = every-first P c.items (entries bs) e
  every-block (c ∷ bs) (suc i) b h e = every-block bs i b (omega arith) (every-last P c.items (entries bs) e)

  pub front-every : (bs : Blocks) (block at : ℕ) → Every P (entries (take block bs)) → ((b : Vec Entry Global) → block < length bs → Every P (take at (get_or bs block b).items)) → Every P (front bs block at)
  front-every [] block at e f = tt
  front-every (c ∷ bs) zero at e f = f c (omega arith)
  front-every (c ∷ bs) (suc block) at e f =
      every-append P c.items (front bs block at) (every-first P c.items (entries (take block bs)) e) (front-every bs block at (every-last P c.items (entries (take block bs)) e) (λ b h. f b (omega (arith, h))))

  pub rest-every : (bs : Blocks) (block at : ℕ) → ((b : Vec Entry Global) → block < length bs → Every P (drop at (get_or bs block b).items)) → (block < length bs → Every P (entries (drop (suc block) bs))) → Every P (rest bs block at)
  rest-every [] block at e f = tt
  rest-every (c ∷ bs) zero at e f = every-append P (drop at c.items) (entries bs) (e c (omega arith)) (f (omega arith))
  rest-every (c ∷ bs) (suc block) at e f = rest-every bs block at (λ b h. e b (omega (arith, h))) (λ h. f (omega (arith, h)))

-- a place cuts the entries in two
pub halves : (bs : Blocks) (block at : ℕ) → front bs block at ++ rest bs block at ≡ entries bs
halves [] block at = refl
halves (b ∷ bs) zero at = sym (append_assoc (take at b.items) (drop at b.items) (entries bs)) ∙ ap (λ es. es ++ entries bs) (take-append-drop at b.items)
halves (b ∷ bs) (suc block) at = append_assoc b.items (front bs block at) (rest bs block at) ∙ ap (λ es. b.items ++ es) (halves bs block at)

-- the item at a place is the same whatever stands for none
pub any-default : {X : Type 0} (xs : List X) (i : ℕ) (d e : X) → i < length xs → get_or xs i d ≡ get_or xs i e
any-default [] i d e h = absurd (omega arith)
any-default (x ∷ xs) zero d e h = refl
any-default (x ∷ xs) (suc i) d e h = any-default xs i d e (omega (arith, h))

pub rest-end : (bs : Blocks) (block at : ℕ) → length bs ≤ block → rest bs block at ≡ []
rest-end [] block at h = refl
rest-end (b ∷ bs) zero at h = absurd (omega (arith, h))
rest-end (b ∷ bs) (suc block) at h = rest-end bs block at (omega (arith, h))

pub rest-head : (bs : Blocks) (block at : ℕ) (b : Vec Entry Global) (e : Entry) → block < length bs → at < length (get_or bs block b).items → slice_get (rest bs block at) 0 ≡ Some (get_or (get_or bs block b).items at e)
rest-head [] block at b e h k = absurd (omega arith)
rest-head (c ∷ bs) zero at b e h k = ap (λ es. slice_get (es ++ entries bs) 0) (drop-cons c.items at e k)
rest-head (c ∷ bs) (suc block) at b e h k = rest-head bs block at b e (omega (arith, h)) k

-- ---- outcomes

pub on-err : {A E : Type 0} (r : Result A E) (X : Type 0) → X → OnErr r X
on-err (Ok a) X x = tt
on-err (Err e) X x = x

pub on-err-then : {A E : Type 0} (r : Result A E) (X Y : Type 0) → (X → Y) → OnErr r X → OnErr r Y
on-err-then (Ok a) X Y f x = tt
on-err-then (Err e) X Y f x = f x

pub on-ok : {A E : Type 0} (r : Result A E) (X Y : Type 0) → (X → Y) → OnOk r X → OnOk r Y
on-ok (Ok a) X Y f x = f x
on-ok (Err e) X Y f x = tt

pub take-rest : {X : Type 0} (n : ℕ) (xs : List X) → take (length xs - n) (drop n xs) ≡ drop n xs
take-rest n xs = ap (λ k. take k (drop n xs)) (sym (length-drop n xs)) ∙ take-length (drop n xs)

pub map-more : {X Y : Type 0} (g : X → Y) (xs : List X) (i : ℕ) (x : X) → x ≡ get_or xs i x → i < length xs → map g (take (i + 1) xs) ≡ map g (take i xs) ++ g x ∷ []
map-more g xs i x e h =
    ap (λ n. map g (take n xs)) (add-one i) ∙ ap (λ ys. map g ys) (take-suc xs i x h) ∙ map-append g (take i xs) (get_or xs i x ∷ []) ∙ ap (λ y. map g (take i xs) ++ g y ∷ []) (sym e)

pub take-past : {X : Type 0} (xs : List X) (n : ℕ) → length xs ≤ n → take n xs ≡ xs
take-past [] zero h = refl
take-past [] (suc n) h = refl
take-past (x ∷ xs) zero h = absurd (omega (arith, h))
take-past (x ∷ xs) (suc n) h = ap (λ ys. x ∷ ys) (take-past xs n (omega (arith, h)))
