-- One entry of the table of heights.
use Rattle.std.proofs.Common.{◌≡◌, ℕ, ◌+◌, ◌^◌, ◌<◌, ◌≤◌, List, Some, None, refl, sym, arith}
use Rattle.std.specs.Prelude.{Bool, true, false, if◌then◌else◌}
use Rattle.std.proofs.lemmas.Bool.{eqb-true, eqb-false}
use Rattle.std.proofs.lemmas.Option.{none-some, same_Some}
use Rattle.jx9_compile.specs.Assembled.{HasTwoHeights}
use Rattle.jx9_compile.specs.Heights.{seen_after, as_high, seen_with, Covers, IsSound, spare, IsBounded, IsSmall}
use Rattle.jx9_compile.specs.Shape.{puts, takes}
use Rattle.jx9_compile.specs.declared.heights.Seen.{Seen}
use Rattle.jx9_compile.specs.declared.heights.Seen.TheVariants.{Unseen, Once, Twice}
use Rattle.jx9_compile.specs.declared.op.Op.{Op}

-- behind an op the heights that are known are known
pub covers_after : (s : Seen) (op : Op) (put taken : ℕ) → Covers s put taken → Covers (seen_after s op) (put + puts op) (taken + takes op)
covers_after Unseen op put taken h = h
covers_after (Once g) op put taken h = omega arith
covers_after Twice op put taken h = tt

pub small_from : (n still : ℕ) (s : Seen) → n < 2 ^ 32 → IsBounded n still s → IsSmall s
small_from n still Unseen few h = tt
small_from n still (Once g) few h = omega arith
small_from n still Twice few h = tt

pub bounded_less : (n still still' : ℕ) (s : Seen) → still' ≤ still → IsBounded n still s → IsBounded n still' s
bounded_less n still still' Unseen less h = tt
bounded_less n still still' (Once g) less h = omega arith
bounded_less n still still' Twice less h = tt

-- Where nothing more is known, the heights were known already.
pub nothing_more : (known s : Seen) → seen_with known s ≡ None → (put taken : ℕ) → Covers s put taken → Covers known put taken
nothing_more known Unseen e put taken h = absurd h
nothing_more Unseen (Once g) e put taken h = absurd (none-some (Once g) (sym e))
nothing_more (Once k) (Once g) e put taken h = by_test (as_high k g) refl e
  where
    by_test : (b : Bool) → as_high k g ≡ b → (if b then None else Some Twice) ≡ None → k.put + taken ≡ put + k.taken
    by_test true i e = omega (arith, eqb-true (k.put + g.taken) (g.put + k.taken) i)
    by_test false i e = absurd (none-some Twice (sym e))
nothing_more Twice (Once g) e put taken h = tt
nothing_more Unseen Twice e put taken h = absurd (none-some Twice (sym e))
nothing_more (Once k) Twice e put taken h = absurd (none-some Twice (sym e))
nothing_more Twice Twice e put taken h = tt

-- what is more than what was known, and than what comes besides
pub record IsMore (known s more : Seen) : Type 0 where
  pub keeps : (put taken : ℕ) → Covers known put taken → Covers more put taken
  pub takes_in : (put taken : ℕ) → Covers s put taken → Covers more put taken
  pub sound : (ops : List Op) (at : ℕ) → IsSound ops at known → IsSound ops at s → IsSound ops at more
  pub bounded : (n still : ℕ) → IsBounded n still known → IsBounded n still s → IsBounded n still more
  pub less : spare more + 1 ≤ spare known

to_two : (known s : Seen) → ((ops : List Op) (at : ℕ) → IsSound ops at known → IsSound ops at s → HasTwoHeights ops at) → 1 ≤ spare known
    → (more : Seen) → Twice ≡ more → IsMore known s more
to_two known s two less more e = rw (sym e) (record {
  keeps = λ put taken h. tt;
  takes_in = λ put taken h. tt;
  sound = two;
  bounded = λ n still h g. tt;
  less = omega arith;
})

pub is_more : (known s more : Seen) → seen_with known s ≡ Some more → IsMore known s more
is_more known Unseen more e = absurd (none-some more e)
is_more Unseen (Once g) more e = rw (sym (same_Some (Once g) more e)) (record {
  keeps = λ put taken h. absurd h;
  takes_in = λ put taken h. h;
  sound = λ ops at h g. g;
  bounded = λ n still h g. g;
  less = omega arith;
})
is_more (Once k) (Once g) more e = by_test (as_high k g) refl e
  where
    by_test : (b : Bool) → as_high k g ≡ b → (if b then None else Some Twice) ≡ Some more → IsMore (Once k) (Once g) more
    by_test true i e = absurd (none-some more e)
    by_test false i e =
        to_two (Once k) (Once g) (λ ops at one other. record {
          put = k.put;
          taken = k.taken;
          put' = g.put;
          taken' = g.taken;
          one = one;
          other = other;
          apart = eqb-false (k.put + g.taken) (g.put + k.taken) i;
        }) (omega arith) more (same_Some Twice more e)
is_more Twice (Once g) more e = absurd (none-some more e)
is_more Unseen Twice more e = to_two Unseen Twice (λ ops at h g. g) (omega arith) more (same_Some Twice more e)
is_more (Once k) Twice more e = to_two (Once k) Twice (λ ops at h g. g) (omega arith) more (same_Some Twice more e)
is_more Twice Twice more e = absurd (none-some more e)
