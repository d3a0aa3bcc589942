-- The branches of an `if`: each `else` and `elseif` belongs to the nearest `if` that can have it.
use Rattle.std.proofs.Common.{◌≡◌, ℕ, zero, suc, ◌<◌, Bool, true, false, cond, eqb, ◌⊎◌, inl, inr, List, [], ◌∷◌, ◌++◌, length, Option, codes, Ok, Err, refl, sym, ap, subst, ◌∙◌, arith}
use Rattle.std.proofs.lemmas.List.{length-append}
use Rattle.jx9_syntax.specs.Grammar.{code, Rule, Seq, Before, Spot, is_word, second, with_branch, no_branch, otherwise, Statements, IsBranches, BehindBranch, a_branch, no_else, with_else, with_elseif}
use Rattle.jx9_syntax.specs.Making.{Making, nothing, mapped, then_made}
use Rattle.jx9_syntax.specs.Words.{One, Nothing, Map, Then}
use Rattle.jx9_syntax.specs.declared.statement.Branch.{Branch}
use Rattle.jx9_syntax.specs.declared.statement.Statement.{Statement}
use Rattle.jx9_parse.specs.Reading.{Tokens, State, Reader, ◌>>=◌, member, next_in, one, before, map_read, then_read, choose}
use Rattle.jx9_parse.proofs.Unplaced.{Found}
use Rattle.jx9_parse.proofs.Laws.{Begins, Off, Finds, Told, told_nothing, told_then, told_chosen}
use Rattle.jx9_parse.proofs.Sets.{In, Begin, false_true, apart, within_in, off, begins_in, begins_as, next_no, next_not}
use Rattle.jx9_parse.proofs.Placed.{at_state, then_runs, nothing_runs}
use Rattle.jx9_parse.proofs.Parts.{Part, told_cond, cond_runs}
use Rattle.jx9_parse.proofs.Opens.{Marked, else_words, more_of, open_more, unmarked, IsLongest, Open, with_mark, behind_marked, behind_longest, behind_unmarked, open_then, open_map}
use Rattle.jx9_parse.proofs.Lists.{part_shorter}
use Rattle.jx9_parse.proofs.Singles.{part_word}

abbrev pub Branched : Type 0
Branched = List Branch × Option Statement

-- each word of an open rule is of a token at least
pub open_shorter : {A : Type 0} {S : Bool → Rule A} {bs : List ℕ} {q : Reader A} (m : Open S bs q) (ts : Tokens) (x : (Bool × Making A) × Tokens) → m.reads ts ≡ Ok x → length x.1 < length ts
open_shorter {A} {S} m ts x is =
    let found : Finds (Marked S) open_more ts x.1 x.0 = subst (λ (o : Found (Bool × Making A)). Told (Marked S) open_more ts o) is (m.told ts) in
    let s = m.starts x.0.0 found.used x.0.1 found.reads in
    let split : ts ≡ s.0 ∷ (s.1 ++ x.1) = found.split ∙ ap (λ (w : Tokens). w ++ x.1) s.2 in
    let count : length ts ≡ length (s.0 ∷ (s.1 ++ x.1)) = ap length split in
    omega (arith, count, length-append s.1 x.1)

module _ {B : Bool → Rule Branch} {S : Statements} {bs cs : List ℕ} {branch : Reader Branch} {statement : Reader Statement} (b : Open B bs branch) (t : Open S cs statement) (h : apart else_words bs ≡ true) where
  abbrev All : Bool → Rule Branched
  All = IsBranches B S

  abbrev Behind : Bool → Bool → Rule Branched
  Behind first_open is_open = BehindBranch B S is_open first_open

  abbrev BehindMarked : Bool × Making Branch → (w : Tokens) → Bool × Making Branched → Type 0
  BehindMarked f = Marked (Behind f.0)

  else_word : Part (One (is_word (codes "else"))) [] (38 ∷ []) (one (is_word (codes "else")))
  else_word = part_word 38 (codes "else") refl

  elseif_word : Part (One (is_word (codes "elseif"))) [] (39 ∷ []) (one (is_word (codes "elseif")))
  elseif_word = part_word 39 (codes "elseif") refl

  at_else : Open (λ is_open. Map (Before (is_word (codes "else")) (S is_open)) (mapped otherwise)) (38 ∷ []) (map_read otherwise (before (is_word (codes "else")) statement))
  at_else = open_map otherwise (open_then second else_word t refl)

  abbrev Elseif : Bool → Rule Branched
  Elseif is_open = Seq second (One (is_word (codes "elseif"))) (All is_open)

  abbrev ElseifMarked : (w : Tokens) → Bool × Making Branched → Type 0
  ElseifMarked = Then (One (is_word (codes "elseif"))) (λ _. Marked All) (with_mark second)

  -- a branch and what is behind it
  abbrev BranchMarked : (w : Tokens) → Bool × Making Branched → Type 0
  BranchMarked = Then (Marked B) BehindMarked (λ x y. with_mark with_branch x.1 y)

  into_all : (w : Tokens) (x : Bool × Making Branched) → BranchMarked w x → Marked All w x
  into_all w x is = subst (λ (y : Bool × Making Branched). All y.0 w y.1) (sym is.is_value) (a_branch is.left.0 is.front is.back is.left.1 is.right.1 is.parts is.is_left is.is_right refl)

  from_all : (w : Tokens) (x : Bool × Making Branched) → Marked All w x → BranchMarked w x
  from_all w x (a_branch first_open front back m others parts is_left is_right is_value) =
      record { front = front; back = back; left = (first_open, m); right = (x.0, others); parts = parts; is_left = is_left; is_right = is_right; is_value = ap (λ (n : Making Branched). (x.0, n)) is_value }

  into_elseif : (f : Bool × Making Branch) → f.0 ≡ false → (w : Tokens) (x : Bool × Making Branched) → ElseifMarked w x → BehindMarked f w x
  into_elseif f shut w x is = subst (λ (y : Bool × Making Branched). BehindMarked f w y) (sym is.is_value) (with_elseif is.front is.back is.left is.right.1 shut is.parts is.is_left is.is_right refl)

  elseif_begins : (w : Tokens) (x : Bool × Making Branched) → ElseifMarked w x → Begin (39 ∷ []) w
  elseif_begins w x is = let s = elseif_word.starts is.front is.left is.is_left in (s.0, s.1 ++ is.back, is.parts ∙ ap (λ (u : Tokens). u ++ is.back) s.2, s.3)

  abbrev NoElse : (w : Tokens) → Bool × Making Branched → Type 0
  NoElse = Nothing (true, nothing no_branch)

  -- one of the three
  behind_cases : (f : Bool × Making Branch) (w : Tokens) (x : Bool × Making Branched) → BehindMarked f w x → NoElse w x ⊎ ((f.0 ≡ false) × (Marked (λ is_open. Map (Before (is_word (codes "else")) (S is_open)) (mapped otherwise)) w x ⊎ ElseifMarked w x))
  behind_cases f w x (no_else e is) = inl (record { is_word = is.is_word; is_value = ap (λ (c : Bool). (c, x.1)) e ∙ ap (λ (m : Making Branched). (true, m)) is.is_value })
  behind_cases f w x (with_else shut is) = inr (shut, inl is)
  behind_cases f w x (with_elseif front back s others shut parts is_left is_right is_value) =
      inr (shut, inr (record { front = front; back = back; left = s; right = (x.0, others); parts = parts; is_left = is_left; is_right = is_right; is_value = ap (λ (m : Making Branched). (x.0, m)) is_value }))

  nothing_behind : (f : Bool × Making Branch) (w : Tokens) (x : Bool × Making Branched) → NoElse w x → BehindMarked f w x
  nothing_behind f w x is = subst (λ (y : Bool × Making Branched). BehindMarked f w y) (sym is.is_value) (no_else refl (record { is_word = is.is_word; is_value = refl }))

  some_behind : (f : Bool × Making Branch) → (w : Tokens) × (x : Bool × Making Branched) × BehindMarked f w x
  some_behind f = ([], (true, nothing no_branch), no_else refl (record { is_word = refl; is_value = refl }))

  abbrev Next : Type 0
  Next = Tokens → Found (Bool × Making Branched)

  abbrev elseif_reads : Next → Next
  elseif_reads rest ts = elseif_word.reads ts >>= λ x. behind_marked second x.0 (rest x.1)

  abbrev behind_reads : Next → Next
  behind_reads rest ts = cond (next_in (38 ∷ []) ts) (at_else.reads ts) (cond (next_in (39 ∷ []) ts) (elseif_reads rest ts) (Ok ((true, nothing no_branch), ts)))

  abbrev branch_reads : Next → Next
  branch_reads rest ts = b.reads ts >>= λ x. behind_marked with_branch x.0.1 (behind_reads rest x.1)

  abbrev all_reads : ℕ → Next
  all_reads zero ts = Err ts
  all_reads (suc n) ts = branch_reads (all_reads n) ts

  -- ---- what reading tells

  off_nothing : (ds : List ℕ) (ts w : Tokens) (x : Bool × Making Branched) → ((c : ℕ) → member c ds ≡ true → member c else_words ≡ true) → next_in ds ts ≡ true → NoElse w x → Off (open_more x) ts w
  off_nothing ds ts w x sub e is =
      subst (λ (u : Tokens). Off (open_more x) ts u) (sym is.is_word)
      (subst (λ (y : Bool × Making Branched). Begins (open_more y) ts) (sym is.is_value) (begins_as ds else_words sub ts (begins_in ds ts e)))

  else_begins : (w : Tokens) (x : Bool × Making Branched) → Marked (λ is_open. Map (Before (is_word (codes "else")) (S is_open)) (mapped otherwise)) w x → Begin (38 ∷ []) w
  else_begins w x is = at_else.starts x.0 w x.1 is

  as_else : (f : Bool × Making Branch) (ts : Tokens) → next_in (38 ∷ []) ts ≡ true → (w : Tokens) (x : Bool × Making Branched) → BehindMarked f w x
      → Marked (λ is_open. Map (Before (is_word (codes "else")) (S is_open)) (mapped otherwise)) w x ⊎ Off (open_more x) ts w
  as_else f ts e w x is = elim (behind_cases f w x is) [
    | inl c ↦ inr (off_nothing (38 ∷ []) ts w x (within_in (38 ∷ []) else_words refl) e c)
    | inr (shut, inl c) ↦ inl c
    | inr (shut, inr c) ↦ inr (off (39 ∷ []) (open_more x) ts w (next_no (38 ∷ []) (39 ∷ []) refl ts e) (elseif_begins w x c))
  ]

  as_elseif : (f : Bool × Making Branch) (ts : Tokens) → next_in (39 ∷ []) ts ≡ true → (w : Tokens) (x : Bool × Making Branched) → BehindMarked f w x → ElseifMarked w x ⊎ Off (open_more x) ts w
  as_elseif f ts e w x is = elim (behind_cases f w x is) [
    | inl c ↦ inr (off_nothing (39 ∷ []) ts w x (within_in (39 ∷ []) else_words refl) e c)
    | inr (shut, inl c) ↦ inr (off (38 ∷ []) (open_more x) ts w (next_no (39 ∷ []) (38 ∷ []) refl ts e) (else_begins w x c))
    | inr (shut, inr c) ↦ inl c
  ]

  as_nothing : (f : Bool × Making Branch) (ts : Tokens) → next_in (38 ∷ []) ts ≡ false → next_in (39 ∷ []) ts ≡ false → (w : Tokens) (x : Bool × Making Branched) → BehindMarked f w x → NoElse w x ⊎ Off (open_more x) ts w
  as_nothing f ts e g w x is = elim (behind_cases f w x is) [
    | inl c ↦ inl c
    | inr (shut, inl c) ↦ inr (off (38 ∷ []) (open_more x) ts w (next_not (38 ∷ []) ts e) (else_begins w x c))
    | inr (shut, inr c) ↦ inr (off (39 ∷ []) (open_more x) ts w (next_not (39 ∷ []) ts g) (elseif_begins w x c))
  ]

  -- it is one of the two
  next_else : (ds : List ℕ) (ts : Tokens) → ((c : ℕ) → member c ds ≡ true → member c else_words ≡ true) → next_in ds ts ≡ true → next_in else_words ts ≡ true
  next_else ds [] sub e = absurd (false_true e)
  next_else ds (u ∷ ts) sub e = sub (code u) e

  told_behind : (f : Bool × Making Branch) (rest : Next) (ts : Tokens) → (next_in else_words ts ≡ true → f.0 ≡ false) → ((us : Tokens) → length us < length ts → Told (Marked All) open_more us (rest us))
      → Told (BehindMarked f) open_more ts (behind_reads rest ts)
  told_behind f rest ts shut more = told_cond (BehindMarked f) open_more ts (next_in (38 ∷ []) ts) (at_else.reads ts) (cond (next_in (39 ∷ []) ts) (elseif_reads rest ts) (Ok ((true, nothing no_branch), ts)))
      (λ e. told_chosen (Marked (λ is_open. Map (Before (is_word (codes "else")) (S is_open)) (mapped otherwise))) (BehindMarked f) open_more open_more ts (at_else.reads ts)
      (λ w x is. with_else (shut (next_else (38 ∷ []) ts (within_in (38 ∷ []) else_words refl) e)) is) (as_else f ts e) (λ _ t i. i) (at_else.told ts))
      (λ e. told_cond (BehindMarked f) open_more ts (next_in (39 ∷ []) ts) (elseif_reads rest ts) (Ok ((true, nothing no_branch), ts))
      (λ g. told_chosen ElseifMarked (BehindMarked f) open_more open_more ts (elseif_reads rest ts) (into_elseif f (shut (next_else (39 ∷ []) ts (within_in (39 ∷ []) else_words refl) g))) (as_elseif f ts g) (λ _ t i. i)
      (told_then (One (is_word (codes "elseif"))) (λ _. Marked All) (with_mark second) (λ _. In []) (λ _. open_more) open_more (λ _ y w v is far. absurd (nothing_more (w ++ v) far)) (λ _ _ t i. i) (λ _. some_all)
      ts (elseif_word.reads ts) (λ x. rest x.1) (elseif_word.told ts) (λ x is. more x.1 (part_shorter elseif_word ts x is))))
      (λ g. told_chosen NoElse (BehindMarked f) open_more open_more ts (Ok ((true, nothing no_branch), ts)) (nothing_behind f) (as_nothing f ts e g) (λ _ t i. i) (told_nothing (true, nothing no_branch) open_more ts)))
    where
      nothing_more : (ts : Tokens) → Begins (In []) ts → ⊥
      nothing_more [] g = g
      nothing_more (u ∷ ts) g = false_true g

      some_all : (w : Tokens) × (x : Bool × Making Branched) × Marked All w x
      some_all = let a = b.some in let c = some_behind a.1 in
          (a.0 ++ c.0, with_mark with_branch a.1.1 c.1, a_branch a.1.0 a.0 c.0 a.1.1 c.1.1 refl a.2 c.2 refl)

  -- with an open branch nothing is behind it
  parted : (f : Bool × Making Branch) (x : Bool × Making Branched) (w v : Tokens) → BehindMarked f w x → Begins (open_more f) (w ++ v) → Begins (open_more (with_mark with_branch f.1 x)) v
  parted f x w v is far = elim (behind_cases f w x is) [
    | inl c ↦ subst (λ (y : Bool × Making Branched). Begins (open_more (with_mark with_branch f.1 y)) v) (sym c.is_value) (wider f.0 v (subst (λ (u : Tokens). Begins (open_more f) (u ++ v)) c.is_word far))
    | inr (shut, c) ↦ absurd (none (w ++ v) (subst (λ (o : Bool). Begins (In (more_of o)) (w ++ v)) shut far))
  ]
    where
      wider : (o : Bool) (v : Tokens) → Begins (In (more_of o)) v → Begins (In else_words) v
      wider true v g = g
      wider false [] g = g
      wider false (u ∷ v) g = absurd (false_true g)

      none : (ts : Tokens) → Begins (In []) ts → ⊥
      none [] g = g
      none (u ∷ ts) g = false_true g

  closed_before : (ts : Tokens) (x : (Bool × Making Branch) × Tokens) → b.reads ts ≡ Ok x → next_in else_words x.1 ≡ true → x.0.0 ≡ false
  closed_before ts x is = subst IsLongest is (b.longest ts)

  told_all : (n : ℕ) (ts : Tokens) → length ts < n → Told (Marked All) open_more ts (all_reads n ts)
  told_all zero ts fits = absurd (omega (arith, fits))
  told_all (suc n) ts fits = step (λ us lt. told_all n us (omega (arith, lt, fits)))
    where
      step : ((us : Tokens) → length us < length ts → Told (Marked All) open_more us (all_reads n us)) → Told (Marked All) open_more ts (all_reads (suc n) ts)
      step more = told_chosen BranchMarked (Marked All) open_more open_more ts (all_reads (suc n) ts) into_all (λ w x is. inl (from_all w x is)) (λ _ t i. i)
          (told_then (Marked B) BehindMarked (λ x y. with_mark with_branch x.1 y) open_more (λ _. open_more) open_more parted (λ _ _ t i. i) some_behind ts (b.reads ts) (λ x. behind_reads (all_reads n) x.1) (b.told ts)
          (λ x is. told_behind x.0 (all_reads n) x.1 (closed_before ts x is) (λ us lt. let d : length x.1 < length ts = open_shorter b ts x is in more us (omega (arith, lt, d)))))

  -- ---- an open one was read only where neither is next

  last_word : (ts : Tokens) → next_in (38 ∷ []) ts ≡ false → next_in (39 ∷ []) ts ≡ false → next_in else_words ts ≡ true → true ≡ false
  last_word [] e g i = sym i
  last_word (u ∷ ts) e g i = by (eqb (code u) 38) e i
    where
      by : (o : Bool) → cond o true false ≡ false → cond o true (member (code u) (39 ∷ [])) ≡ true → true ≡ false
      by true e i = e
      by false e i = sym i ∙ g

  behind_last : (rest : Next) (ts : Tokens) → ((us : Tokens) → IsLongest (rest us)) → IsLongest (behind_reads rest ts)
  behind_last rest ts more = by (next_in (38 ∷ []) ts) refl
    where
      elseif_last : (o : Found (Making Spot)) → IsLongest (o >>= λ x. behind_marked second x.0 (rest x.1))
      elseif_last (Ok x) = behind_longest second x.0 (rest x.1) (more x.1)
      elseif_last (Err us) = tt

      other : next_in (38 ∷ []) ts ≡ false → (c : Bool) → next_in (39 ∷ []) ts ≡ c → IsLongest (cond c (elseif_reads rest ts) (Ok ((true, nothing no_branch), ts)))
      other e true g = elseif_last (elseif_word.reads ts)
      other e false g = last_word ts e g

      by : (c : Bool) → next_in (38 ∷ []) ts ≡ c → IsLongest (cond c (at_else.reads ts) (cond (next_in (39 ∷ []) ts) (elseif_reads rest ts) (Ok ((true, nothing no_branch), ts))))
      by true e = at_else.longest ts
      by false e = other e (next_in (39 ∷ []) ts) refl

  all_last : (n : ℕ) (ts : Tokens) → IsLongest (all_reads n ts)
  all_last zero ts = tt
  all_last (suc n) ts = by (λ us. all_last n us) (b.reads ts)
    where
      by : ((us : Tokens) → IsLongest (all_reads n us)) → (o : Found (Bool × Making Branch)) → IsLongest (o >>= λ x. behind_marked with_branch x.0.1 (behind_reads (all_reads n) x.1))
      by more (Ok x) = behind_longest with_branch x.0.1 (behind_reads (all_reads n) x.1) (behind_last (all_reads n) x.1 more)
      by more (Err us) = tt

  -- ---- reading at a place

  abbrev pub behind_branch : Reader Branched → Reader Branched
  behind_branch rest = choose (38 ∷ []) (map_read otherwise (before (is_word (codes "else")) statement)) (choose (39 ∷ []) (before (is_word (codes "elseif")) rest) (λ s. Ok (no_branch, s)))

  abbrev pub within : ℕ → Reader Branched
  within zero s = Err s.tokens
  within (suc n) s = then_read with_branch branch (behind_branch (within n)) s

  unmarked_cond : (c : Bool) (o p : Found (Bool × Making Branched)) → cond c (unmarked o) (unmarked p) ≡ unmarked (cond c o p)
  unmarked_cond true o p = refl
  unmarked_cond false o p = refl

  runs_behind : (k : Reader Branched) (rest : Next) → ((s : State) → k s ≡ at_state s (unmarked (rest s.tokens))) → (s : State) → behind_branch k s ≡ at_state s (unmarked (behind_reads rest s.tokens))
  runs_behind k rest same s = let ts = s.tokens in
      cond_runs s (next_in (38 ∷ []) ts) (map_read otherwise (before (is_word (codes "else")) statement) s) (cond (next_in (39 ∷ []) ts) (before (is_word (codes "elseif")) k s) (Ok (no_branch, s)))
      (unmarked (at_else.reads ts)) (cond (next_in (39 ∷ []) ts) (unmarked (elseif_reads rest ts)) (Ok (nothing no_branch, ts))) (at_else.runs s)
      (cond_runs s (next_in (39 ∷ []) ts) (before (is_word (codes "elseif")) k s) (Ok (no_branch, s)) (unmarked (elseif_reads rest ts)) (Ok (nothing no_branch, ts))
      (then_runs second s (one (is_word (codes "elseif")) s) (elseif_word.reads ts) (elseif_word.runs s) k (λ us. unmarked (rest us)) same ∙ ap (at_state s) (regroup (elseif_word.reads ts))) (nothing_runs no_branch s))
      ∙ ap (at_state s) (ap (λ (o : Found (Making Branched)). cond (next_in (38 ∷ []) ts) (unmarked (at_else.reads ts)) o) (unmarked_cond (next_in (39 ∷ []) ts) (elseif_reads rest ts) (Ok ((true, nothing no_branch), ts)))
      ∙ unmarked_cond (next_in (38 ∷ []) ts) (at_else.reads ts) (cond (next_in (39 ∷ []) ts) (elseif_reads rest ts) (Ok ((true, nothing no_branch), ts))))
    where
      regroup : (o : Found (Making Spot)) → (o >>= λ x. unmarked (rest x.1) >>= λ y. Ok (then_made second x.0 y.0, y.1)) ≡ unmarked (o >>= λ x. behind_marked second x.0 (rest x.1))
      regroup (Ok x) = behind_unmarked second x.0 (rest x.1)
      regroup (Err us) = refl

  runs_all : (n : ℕ) (s : State) → within n s ≡ at_state s (unmarked (all_reads n s.tokens))
  runs_all zero s = refl
  runs_all (suc n) s = step (λ u. runs_all n u)
    where
      regroup : (o : Found (Bool × Making Branch)) → (unmarked o >>= λ x. unmarked (behind_reads (all_reads n) x.1) >>= λ y. Ok (then_made with_branch x.0 y.0, y.1)) ≡ unmarked (o >>= λ x. behind_marked with_branch x.0.1 (behind_reads (all_reads n) x.1))
      regroup (Ok x) = behind_unmarked with_branch x.0.1 (behind_reads (all_reads n) x.1)
      regroup (Err us) = refl

      step : ((u : State) → within n u ≡ at_state u (unmarked (all_reads n u.tokens))) → within (suc n) s ≡ at_state s (unmarked (all_reads (suc n) s.tokens))
      step same = then_runs with_branch s (branch s) (unmarked (b.reads s.tokens)) (b.runs s) (behind_branch (within n)) (λ us. unmarked (behind_reads (all_reads n) us)) (runs_behind (within n) (all_reads n) same)
          ∙ ap (at_state s) (regroup (b.reads s.tokens))

  pub the_branches : Open All bs (λ s. within (suc (length s.tokens)) s)
  the_branches = record {
    reads = λ ts. all_reads (suc (length ts)) ts;
    told = λ ts. told_all (suc (length ts)) ts (omega arith);
    runs = λ s. runs_all (suc (length s.tokens)) s;
    starts = λ is_open w m is. begin is_open w m is;
    some = let a = b.some in let c = some_behind a.1 in (a.0 ++ c.0, with_mark with_branch a.1.1 c.1, a_branch a.1.0 a.0 c.0 a.1.1 c.1.1 refl a.2 c.2 refl);
    longest = λ ts. all_last (suc (length ts)) ts;
  }
    where
      begin : (is_open : Bool) (w : Tokens) (m : Making Branched) → All is_open w m → Begin bs w
      begin is_open w m (a_branch first_open front back x others parts is_left is_right is_value) =
          let s = b.starts first_open front x is_left in (s.0, s.1 ++ back, parts ∙ ap (λ (u : Tokens). u ++ back) s.2, s.3)
