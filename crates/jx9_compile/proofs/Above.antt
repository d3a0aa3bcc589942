-- Values on the stack.
use Rattle.std.proofs.Common.{◌≡◌, suc, List, [], ◌∷◌, ◌++◌, length, refl, sym, ap, ◌∙◌}
use Rattle.std.specs.Prelude.{take, drop, reverse}
use Rattle.std.proofs.lemmas.List.{append_assoc, reverse-append, reverse-reverse, length-reverse, take_at, drop_at}
use Rattle.uq_value.specs.declared.value.Value.{Value}
use Rattle.jx9_meaning.specs.Meaning.{Meaning, ◌>>=◌, pure, each}
use Rattle.jx9_meaning.specs.World.{State}
use Rattle.jx9_compile.specs.Run.{arguments}
use Rattle.jx9_compile.proofs.Leads.{above, Holds, holds_then, holds_map}

above_is : (vs xs : List Value) → above vs xs ≡ reverse vs ++ xs
above_is [] xs = refl
above_is (v ∷ vs) xs = above_is vs (v ∷ xs) ∙ sym (append_assoc (reverse vs) (v ∷ []) xs) ∙ ap (λ l. l ++ xs) (sym (reverse-append (v ∷ []) vs))

pub arguments_are : (vs xs : List Value) → arguments (length vs) (above vs xs) ≡ vs
arguments_are vs xs =
    ap (λ l. reverse (take (length vs) l)) (above_is vs xs)
    ∙ ap reverse (take_at (reverse vs) xs (length vs) (length-reverse vs)) ∙ reverse-reverse vs

pub under : (vs xs : List Value) → drop (length vs) (above vs xs) ≡ xs
under vs xs = ap (λ l. drop (length vs) l) (above_is vs xs) ∙ drop_at (reverse vs) xs (length vs) (length-reverse vs)

-- as many values as there are
pub each_length : {A B : Type 0} (f : A → Meaning B) (l : List A) (s : State) → Holds (λ vs. length vs ≡ length l) (each f l s)
each_length f [] s = refl
each_length f (a ∷ l) s =
    holds_then (λ vs. length vs ≡ length (a ∷ l)) (f a s) (λ b. each f l >>= (λ bs. pure (b ∷ bs)))
    (λ b t. holds_map (λ bs. length bs ≡ length l) (λ bs. length bs ≡ length (a ∷ l)) (each f l t) (λ bs. b ∷ bs) (λ bs h. ap suc h) (each_length f l t))
