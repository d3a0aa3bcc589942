-- Lists of events, one behind the other.
use Rattle.std.proofs.Common.{◌≡◌, ℕ, suc, ◌-◌, List, [], ◌∷◌, ◌++◌, Option, Some, None, refl, sym, ◌∙◌, ap, arith, length, append_assoc, take}
use Rattle.std.specs.Prelude.{slice_get}
use Rattle.uq_value.specs.Data.{Bytes}
use Rattle.uq_outside.specs.Streams.{Grows}
use Rattle.uq_model.specs.Store.{Store}
use Rattle.jx9_meaning.specs.Laws.{last_saved}
use Rattle.jx9_meaning.specs.World.{Event, Out, Commit, Host}
use Rattle.jx9_vm.specs.Events.{bytes_in, bytes_of, last_in}
use Rattle.jx9_vm.specs.Step.{IsFront}

last_at : (x : ℕ) (xs : List ℕ) → slice_get (x ∷ xs) (length xs) ≡ last_in (Some x) xs
last_at x [] = refl
last_at x (y ∷ ys) = last_at y ys

less_one : (n : ℕ) → suc n - 1 ≡ n
less_one n = omega arith

pub last_is : (before : Option ℕ) (bs : List ℕ) (b : ℕ) → Some b ≡ slice_get bs (length bs - 1) → Some b ≡ last_in before bs
last_is before [] b h = absurd (let f : ⊥ = cc in f)
last_is before (x ∷ xs) b h = h ∙ ap (slice_get (x ∷ xs)) (less_one (length xs)) ∙ last_at x xs

pub bytes_append : (xs ys : List Event) → bytes_of (xs ++ ys) ≡ bytes_of xs ++ bytes_of ys
bytes_append [] ys = refl
bytes_append (x ∷ xs) ys = ap (λ bs. bytes_in x ++ bs) (bytes_append xs ys) ∙ sym (append_assoc (bytes_in x) (bytes_of xs) (bytes_of ys))

pub last_append : (before : Option ℕ) (xs ys : Bytes) → last_in before (xs ++ ys) ≡ last_in (last_in before xs) ys
last_append before [] ys = refl
last_append before (x ∷ xs) ys = last_append (Some x) xs ys

pub saved_append : (store : Store) (xs ys : List Event) → last_saved store (xs ++ ys) ≡ last_saved (last_saved store xs) ys
saved_append store [] ys = refl
saved_append store (Out bytes ∷ xs) ys = saved_append store xs ys
saved_append store (Commit saved ∷ xs) ys = saved_append saved xs ys
saved_append store (Host name vs ∷ xs) ys = saved_append store xs ys

pub nothing_more : {A : Type 0} (xs : List A) → xs ++ [] ≡ xs
nothing_more [] = refl
nothing_more (x ∷ xs) = ap (λ ys. x ∷ ys) (nothing_more xs)

pub grows_not : (w : Option Bytes) → Grows [] w w
grows_not None = tt
grows_not (Some bs) = sym (nothing_more bs)

pub grows_on : (a b : Bytes) (w v u : Option Bytes) → Grows a w v → Grows b v u → Grows (a ++ b) w u
grows_on a b None None None g h = tt
grows_on a b None None (Some z) g h = absurd h
grows_on a b None (Some y) u g h = absurd g
grows_on a b (Some x) None u g h = absurd g
grows_on a b (Some x) (Some y) None g h = absurd h
grows_on a b (Some x) (Some y) (Some z) g h = h ∙ ap (λ t. t ++ b) g ∙ append_assoc x a b

-- nothing of what is under way
pub grows_no_more : (a b : Bytes) (w v : Option Bytes) → Grows a w v → Grows (a ++ take 0 b) w v
grows_no_more a b None None g = tt
grows_no_more a b None (Some y) g = absurd g
grows_no_more a b (Some x) None g = absurd g
grows_no_more a b (Some x) (Some y) g = g ∙ ap (λ t. x ++ t) (sym (nothing_more a))

-- ---- fronts

pub front_itself : (es : List Event) → IsFront es es
front_itself es = ([], sym (nothing_more es))

pub front_on : (es fs gs : List Event) → IsFront es fs → IsFront fs gs → IsFront es gs
front_on es fs gs f g = (f.0 ++ g.0, g.1 ∙ ap (λ x. x ++ g.0) f.1 ∙ append_assoc es f.0 g.0)
