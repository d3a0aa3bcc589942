-- The depths of the parts of a list or object, one for one.
use Rattle.std.proofs.Common.{◌≡◌, ◌<◌, ◌≤◌, ◌+◌, max, ℕ, zero, suc, refl, ap, sym, ◌∙◌, arith, List, [], ◌∷◌, map, length, get_or, set}
use Rattle.std.proofs.lemmas.List.{length-map, map-set, get_or-map}
use Rattle.std.specs.List.{All}
use Rattle.uq_value.specs.Data.{items_of, members_of}
use Rattle.uq_value.specs.Depth.{items_depth, members_depth}
use Rattle.uq_value.specs.Plain.{plain, depth}
use Rattle.uq_value.specs.Internal.Kept.{plain_member}
use Rattle.uq_value.specs.Internal.Names.{member_depth}
use Rattle.uq_value.specs.Internal.Tally.{deepest_of}
use Rattle.uq_value.specs.Internal.Beside.{depth_of, CountsAre, Mends}
use Rattle.uq_value.specs.declared.kept.Kept.{Kept}
use Rattle.uq_value.specs.declared.value.Value.{Value}
use Rattle.uq_value.specs.declared.object.Member.{Member}

pub items-deepest : (vs : List Value) → items_depth (items_of (map plain vs)) ≡ deepest_of (map depth vs)
items-deepest [] = refl
items-deepest (v ∷ vs) = ap (λ n. max (depth v) n) (items-deepest vs)

pub members-deepest : (ms : List Member) → members_depth (members_of (map plain_member ms)) ≡ deepest_of (map member_depth ms)
members-deepest [] = refl
members-deepest (m ∷ ms) = ap (λ n. max (depth m.value) n) (members-deepest ms)

module _ {A : Type 0} (g : A → ℕ) where
  pub all-below : (xs : List A) (n : ℕ) → deepest_of (map g xs) < n → All (λ x. g x < n) xs
  all-below [] n h = λ k d i. absurd (omega (arith, i))
  all-below (x ∷ xs) n h = at (all-below xs n (omega (arith, h)))
    where
      at : All (λ y. g y < n) xs → (k : ℕ) (d : A) → k < length (x ∷ xs) → g (get_or (x ∷ xs) k d) < n
      at r zero d i = omega (arith, h)
      at r (suc k) d i = r k d (omega (arith, i))

  pub deepest-below : (xs : List A) (n : ℕ) → 0 < n → All (λ x. g x < n) xs → deepest_of (map g xs) < n
  deepest-below [] n z h = z
  deepest-below (x ∷ xs) n z h = omega (arith, h 0 x (omega arith), deepest-below xs n z (λ k d i. h (suc k) d (omega (arith, i))))

  pub part-within : (xs : List A) (i : ℕ) (d : A) → i < length xs → g (get_or xs i d) ≤ deepest_of (map g xs)
  part-within [] i d h = absurd (omega (arith, h))
  part-within (x ∷ xs) zero d h = omega arith
  part-within (x ∷ xs) (suc i) d h = omega (arith, part-within xs i d (omega (arith, h)))

  -- the part at a place is another one now
  pub mended : (old new : Kept) (xs : List A) (at : ℕ) (x y : A) → at < length xs → x ≡ get_or xs at x → Mends old new (g x) (g y) (map g (set xs at y)) → CountsAre old (map g xs) → depth_of old ≡ 1 + deepest_of (map g xs)
      → (depth_of new ≡ 1 + deepest_of (map g (set xs at y))) × CountsAre new (map g (set xs at y))
  mended old new xs at x y h e m c d =
      m (map g xs) at (omega (arith, h, length-map xs g)) (get_or-map g xs at x 0 h ∙ ap g (sym e)) (sym (map-set g xs at y)) (d, c)
