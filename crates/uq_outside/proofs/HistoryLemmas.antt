-- What the history of a disk in memory says of its stops, beyond the laws of `Disk`.
use Rattle.std.specs.Prelude.{◌≡◌, ℕ, ◌+◌, ◌<◌, ◌≤◌, Bool, true, false, nat_le, cond, List, [], ◌∷◌, ◌++◌, length, take, reverse}
use Rattle.std.proofs.Common.{get_or, inl, inr, ⊎_elim, arith, sym, ap, ◌∙◌, subst, refl}
use Rattle.std.proofs.lemmas.List.{take_more, reverse-append}
use Rattle.std.proofs.lemmas.Bool.Decides.{nat_tests}
use Rattle.uq_outside.specs.Files.{Files, Torn, Cut, InFile}
use Rattle.uq_outside.specs.Stops.{Elapses}
use Rattle.uq_outside.specs.declared.fault.FileNo.{FileNo}
use Rattle.uq_outside.specs.declared.fault.FileNo.TheVariants.{Main, Journal}
use Rattle.uq_outside.specs.declared.history.Change.{Change}
use Rattle.uq_outside.specs.declared.history.Change.TheVariants.{Wrote, Shortened, Synced}
use Rattle.uq_outside.specs.declared.history.PastCall.{PastCall}
use Rattle.uq_outside.specs.History.{held, Leaves, MayLeave, LeftSince, until}

-- a write that is not done is one of its outcomes
pub torn_same : (at n : ℕ) (old : List ℕ) → Torn at n old old
torn_same at n old = record { no_shorter = omega arith; no_longer = omega arith; same = λ i lt out. refl }

-- so is a cut that is not done
pub cut_same : (len : ℕ) (old : List ℕ) → Cut len old old
cut_same len old = record { no_shorter = omega arith; no_longer = omega arith; same = λ i lt low. refl }

-- one call more that changes nothing
pub elapses_still : (start start2 : Files) (calls calls2 : List PastCall) (before now : ℕ) → start2 ≡ start → calls2 ≡ calls → before ≤ now → Elapses before now (LeftSince start calls) (LeftSince start2 calls2) (MayLeave start2 calls2)
elapses_still start start2 calls calls2 before now same none on =
    subst (λ (s : Files). Elapses before now (LeftSince start calls) (LeftSince s calls2) (MayLeave s calls2)) (sym same)
    (subst (λ (l : List PastCall). Elapses before now (LeftSince start calls) (LeftSince start l) (MayLeave start l)) (sym none)
    (record { later = on; nothing_else = λ t files le since. inl since; keeps = λ t files le since. since }))

-- one call more that changes or settles a file
pub elapses_made : (start start2 : Files) (call : PastCall) (calls calls2 : List PastCall) (before now : ℕ) → start2 ≡ start → calls2 ≡ call ∷ calls → before < call.number → before ≤ now → Elapses before now (LeftSince start calls) (LeftSince start2 calls2) (MayLeave start2 calls2)
elapses_made start start2 call calls calls2 before now same one later on =
    subst (λ (s : Files). Elapses before now (LeftSince start calls) (LeftSince s calls2) (MayLeave s calls2)) (sym same)
    (subst (λ (l : List PastCall). Elapses before now (LeftSince start calls) (LeftSince start l) (MayLeave start l)) (sym one)
    (record {
      later = on;
      nothing_else = λ t files le since. ⊎_elim (λ now. inr now) (λ then. inl then.1) since;
      keeps = λ t files le since. inr (omega (arith, le, later), since);
    }))

-- the main file of one, and the journal of another
abbrev pub mix : Files → Files → Files
mix a b = record { main = a.main; journal = b.journal }

-- a step of each of two outcomes is one of their mix
both_steps : (file : FileNo) (step : List ℕ → List ℕ → Type 0) (was_a was_b a b : Files) → InFile file step was_a a → InFile file step was_b b → InFile file step (mix was_a was_b) (mix a b)
both_steps Main step was_a was_b a b one two = record { here = one.here; other = λ i. record { main = a.main; journal = (two.other i).journal } }
both_steps Journal step was_a was_b a b one two = record { here = two.here; other = λ i. record { main = (one.other i).main; journal = b.journal } }

-- a change keeps the outcomes independent
mixed_change : (change : Change) (was : Files) (Before : Files → Type 0) → ((a b : Files) → Before a → Before b → Before (mix a b)) → (a b : Files) → Leaves change was Before a → Leaves change was Before b → Leaves change was Before (mix a b)
mixed_change (Wrote file at bytes) was Before mixes a b one two = (mix one.0 two.0, mixes one.0 two.0 one.1 two.1, both_steps file (Torn at (length bytes.items)) one.0 two.0 a b one.2 two.2)
mixed_change (Shortened file len) was Before mixes a b one two = (mix one.0 two.0, mixes one.0 two.0 one.1 two.1, both_steps file (Cut len) one.0 two.0 a b one.2 two.2)
mixed_change (Synced Main) was Before mixes a b one two = (mixes a b one.0 two.0, one.1)
mixed_change (Synced Journal) was Before mixes a b one two = (mixes a b one.0 two.0, two.1)

-- the outcomes of the two files are independent
pub mixed : (start : Files) (calls : List PastCall) (a b : Files) → MayLeave start calls a → MayLeave start calls b → MayLeave start calls (mix a b)
mixed start [] a b one two = λ i. record { main = (one i).main; journal = (two i).journal }
mixed start (call ∷ earlier) a b one two = mixed_change call.change (held start earlier) (MayLeave start earlier) (mixed start earlier) a b one two

-- what the calls up to t leave is left since t
pub until_since : (start : Files) (calls : List PastCall) (t : ℕ) (files : Files) → MayLeave start (until t calls) files → LeftSince start calls t files
until_since start [] t files left = left
until_since start (call ∷ earlier) t files left =
    let by : (b : Bool) → nat_le call.number t ≡ b → MayLeave start (cond b (call ∷ earlier) (until t earlier)) files → LeftSince start (call ∷ earlier) t files = elim [ true ↦ λ is may. inl may | false ↦ λ is may. inr (grind (arith, nat_tests), until_since start earlier t files may) ] in
    by (nat_le call.number t) refl left

-- one call more, the newest first
pub reverse_more : (calls : List PastCall) (call : PastCall) → reverse (calls ++ call ∷ []) ≡ call ∷ reverse calls
reverse_more calls call = reverse-append calls (call ∷ [])

-- the front of a history that ends with this call
pub reverse_front : (calls : List PastCall) (i : ℕ) (call : PastCall) → i < length calls → call ≡ get_or calls i call → reverse (take (i + 1) calls) ≡ call ∷ reverse (take i calls)
reverse_front calls i call lt is = ap reverse (take_more calls i call lt ∙ ap (λ (c : PastCall). take i calls ++ c ∷ []) (sym is)) ∙ reverse_more (take i calls) call
