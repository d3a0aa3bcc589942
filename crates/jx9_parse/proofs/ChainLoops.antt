-- Chains are read by one loop over levels, with the chains that are open.
use Rattle.std.proofs.Common.{◌≡◌, ℕ, zero, suc, ◌+◌, ◌-◌, ◌*◌, ◌≤◌, ◌<◌, Bool, true, false, if◌then◌else◌, List, [], ◌∷◌, ◌++◌, length, Option, Some, None, Ok, Err, refl, sym, ap, subst, ◌∙◌, append_assoc, append-nil, add-one, arith}
use Rattle.std.proofs.lemmas.Bool.{ne_eqb, eq-eqb}
use Rattle.jx9_syntax.specs.Grammar.{pair, Operator, operator, chain}
use Rattle.jx9_syntax.specs.declared.expression.Expr.{Expr}
use Rattle.jx9_parse.specs.Answers.{Stops}
use Rattle.jx9_parse.specs.Chains.{operators, tail, level, link, OpenChain, take_open, first_operand, ties_with, closed, opened}
use Rattle.jx9_parse.specs.Levels as levels
use Rattle.jx9_parse.specs.Reading.{State, Read, Reader, ◌>>=◌, next_in, one, many}
use Rattle.jx9_parse.specs.declared.parser.Parser.{Parser}
use Rattle.jx9_parse.specs.declared.stop.Stop.{Stop}
use Rattle.jx9_parse.specs.declared.stop.Stop.TheVariants as stop
use Rattle.jx9_parse.proofs.ChainLaws.{the_link}
use Rattle.jx9_parse.proofs.Loops.{Shrinks, part_shrinks, one_shrinks, many_done, many_is}
use Rattle.jx9_parse.proofs.RoomLaws.{room}
use Rattle.jx9_parse.proofs.Unaries.{the_unary}

abbrev Taken : Type 0
Taken = Option OpenChain × List OpenChain

-- nothing is open up to a level
abbrev IsAbove : ℕ → List OpenChain → Type 0
IsAbove m cs = (j : ℕ) → j ≤ m → take_open j cs ≡ (None, cs)

none_is_above : (m : ℕ) → IsAbove m []
none_is_above m j h = refl

one_is_above : (m : ℕ) (c : OpenChain) (cs : List OpenChain) → m < c.level → IsAbove m (c ∷ cs)
one_is_above m c cs lt j h = ap (λ (b : Bool). if b then (Some c, cs) else (None, c ∷ cs)) (ne_eqb c.level j (λ e. omega (arith, e, lt, h)))

is_taken : (n : ℕ) (c : OpenChain) (cs : List OpenChain) → c.level ≡ n → take_open n (c ∷ cs) ≡ (Some c, cs)
is_taken n c cs h = ap (λ (b : Bool). if b then (Some c, cs) else (None, c ∷ cs)) (eq-eqb c.level n h)

module _ (un : Reader Expr) where
  -- what is read of the d levels above n, where e is an operand of level n and these chains are open
  unfoldable pub climb : ℕ → ℕ → List OpenChain → Expr → Reader Expr
  climb zero n cs e s = Ok (e, s)
  climb (suc d) n cs e s =
      many (operators (suc n)) (link un n) s >>= λ y. climb d (suc n) (take_open (suc n) cs).1 (chain (first_operand (take_open (suc n) cs).0 e) (ties_with (take_open (suc n) cs).0 e ++ y.0)) y.1

  abbrev behind : ℕ → ℕ → Taken → Expr → Read (List (Operator × Expr)) → Read Expr
  behind d n t e o = o >>= λ y. climb d n t.1 (chain (first_operand t.0 e) (ties_with t.0 e ++ y.0)) y.1

  climb_is : (d n : ℕ) (cs : List OpenChain) (e : Expr) (s : State) → climb (suc d) n cs e s ≡ behind d (suc n) (take_open (suc n) cs) e (many (operators (suc n)) (link un n) s)
  unfolding climb
  climb_is d n cs e s = refl

  climb_ends : (n : ℕ) (cs : List OpenChain) (e : Expr) (s : State) → climb 0 n cs e s ≡ Ok (e, s)
  unfolding climb
  climb_ends n cs e s = refl

  -- a chain of these
  abbrev made : Expr → Read (List (Operator × Expr)) → Read Expr
  made e o = o >>= λ z. Ok (chain e z.0, z.1)

  abbrev ended : ℕ → Expr × State → Read Expr
  ended n y = made y.0 (many (operators (suc n)) (link un n) y.1)

  tail_is : (n : ℕ) (e : Expr) (s : State) → tail un (suc n) e s ≡ (tail un n e s >>= ended n)
  unfolding tail
  tail_is n e s = refl

  tail_ends : (e : Expr) (s : State) → tail un 0 e s ≡ Ok (e, s)
  unfolding tail
  tail_ends e s = refl

  -- the levels where nothing is open
  climb_up : (m d t : ℕ) (cs : List OpenChain) (e : Expr) (s : State) → t ≡ m + d → IsAbove m cs → climb t 0 cs e s ≡ (tail un m e s >>= λ y. climb d m cs y.0 y.1)
  climb_up zero d t cs e s h above = let e1 : t ≡ d = omega (arith, h) in ap (λ (j : ℕ). climb j 0 cs e s) e1 ∙ sym (ap (λ (o : Read Expr). o >>= λ y. climb d 0 cs y.0 y.1) (tail_ends e s))
  climb_up (suc m) d t cs e s h above =
      climb_up m (suc d) t cs e s (omega (arith, h)) (λ j l. above j (omega (arith, l)))
      ∙ by (tail un m e s)
      ∙ sym (ap (λ (o : Read Expr). o >>= λ y. climb d (suc m) cs y.0 y.1) (tail_is m e s))
    where
      by_ties : (y : Expr) (o : Read (List (Operator × Expr))) → (o >>= λ z. climb d (suc m) cs (chain y z.0) z.1) ≡ (made y o >>= λ w. climb d (suc m) cs w.0 w.1)
      by_ties y (Ok z) = refl
      by_ties y (Err ts) = refl

      by : (o : Read Expr) → (o >>= λ y. climb (suc d) m cs y.0 y.1) ≡ ((o >>= ended m) >>= λ w. climb d (suc m) cs w.0 w.1)
      by (Ok y) = climb_is d m cs y.0 y.1 ∙ ap (λ (t : Taken). behind d (suc m) t y.0 (many (operators (suc m)) (link un m) y.1)) (above (suc m) (omega arith)) ∙ by_ties y.0 (many (operators (suc m)) (link un m) y.1)
      by (Err ts) = refl

  climb_all : (n : ℕ) (e : Expr) (s : State) → climb n 0 [] e s ≡ tail un n e s
  climb_all n e s = climb_up n 0 n [] e s (omega arith) (none_is_above n) ∙ by (tail un n e s)
    where
      by : (o : Read Expr) → (o >>= λ y. climb 0 n [] y.0 y.1) ≡ o
      by (Ok y) = climb_ends n [] y.0 y.1
      by (Err ts) = refl

  -- ---- an operator is next: what is read of it and behind it

  abbrev with_operand : Operator → Read Expr → Read (Operator × Expr)
  with_operand o z = z >>= λ b. Ok (pair o b.0, b.1)

  abbrev with_others : ℕ → Read (Operator × Expr) → Read (List (Operator × Expr))
  with_others n z = z >>= λ x. many (operators (suc n)) (link un n) x.1 >>= λ y. Ok (x.0 ∷ y.0, y.1)

  abbrev turn : ℕ → Read Operator → Read (List (Operator × Expr))
  turn n o = with_others n (o >>= λ a. with_operand a.0 (level un n a.1))

  abbrev behind_operand : ℕ → Operator → Read Expr → Read (List (Operator × Expr))
  behind_operand n o z = with_others n (with_operand o z)

  rejoined : (d n : ℕ) (t : Taken) (e : Expr) (o : Operator) (b : Expr) (z : Read (List (Operator × Expr))) → behind d (suc n) t e (z >>= λ y. Ok (pair o b ∷ y.0, y.1)) ≡ behind d (suc n) (Some (opened (suc n) o t.0 e), t.1) b z
  rejoined d n t e o b (Ok y) = ap (λ (ties : List (Operator × Expr)). climb d (suc n) t.1 (chain (first_operand t.0 e) ties) y.1) (sym (append_assoc (ties_with t.0 e) (pair o b ∷ []) y.0))
  rejoined d n t e o b (Err ts) = refl

  reopened : (d n : ℕ) (t : Taken) (e : Expr) (o : Operator) (z : Read Expr) → behind d (suc n) t e (behind_operand n o z) ≡ (z >>= λ y. climb (suc d) n (opened (suc n) o t.0 e ∷ t.1) y.0 y.1)
  reopened d n t e o (Ok b) =
      rejoined d n t e o b.0 (many (operators (suc n)) (link un n) b.1)
      ∙ sym (ap (λ (u : Taken). behind d (suc n) u b.0 (many (operators (suc n)) (link un n) b.1)) (is_taken (suc n) (opened (suc n) o t.0 e) t.1 refl))
      ∙ sym (climb_is d n (opened (suc n) o t.0 e ∷ t.1) b.0 b.1)
  reopened d n t e o (Err ts) = refl

  -- e is an operand of level n, these chains are open, and what is still to be read makes `total`
  abbrev pub IsRead : Read Expr → ℕ → List OpenChain → Expr → State → Type 0
  IsRead total n cs e s = climb (7 - n) n cs e s ≡ total

  pub loop_starts : (cs : List OpenChain) (e : Expr) (s : State) → cs ≡ [] → IsRead (tail un 7 e s) 0 cs e s
  loop_starts cs e s h = ap (λ (os : List OpenChain). climb (7 - 0) 0 os e s) h ∙ climb_all (7 - 0) e s

  pub loop_ends : (total : Read Expr) (n : ℕ) (cs : List OpenChain) (e : Expr) (s : State) → 7 ≤ n → IsRead total n cs e s → total ≡ Ok (e, s)
  loop_ends total n cs e s h so_far = let e1 : 7 - n ≡ 0 = omega (arith, h) in sym so_far ∙ ap (λ (j : ℕ). climb j n cs e s) e1 ∙ climb_ends n cs e s

  as_suc : (total : Read Expr) (n : ℕ) (cs : List OpenChain) (e : Expr) (s : State) → n < 7 → IsRead total n cs e s → climb (suc (6 - n)) n cs e s ≡ total
  as_suc total n cs e s h so_far = let e1 : suc (6 - n) ≡ 7 - n = omega (arith, h) in ap (λ (j : ℕ). climb j n cs e s) e1 ∙ so_far

-- where an operator and its operand take a token at least
module _ (un : Reader Expr) (shrinks : (n : ℕ) → n < 7 → Shrinks (link un n)) where
  -- no operator of the level is next
  climb_closes : (d n : ℕ) (cs : List OpenChain) (e : Expr) (s : State) → n < 7 → next_in (operators (suc n)) s.tokens ≡ false
      → climb un (suc d) n cs e s ≡ climb un d (suc n) (take_open (suc n) cs).1 (closed (take_open (suc n) cs).0 e) s
  climb_closes d n cs e s h next =
      climb_is un d n cs e s ∙ ap (behind un d (suc n) (take_open (suc n) cs) e) (many_done (operators (suc n)) (link un n) (shrinks n h) s next)
      ∙ ap (λ (ties : List (Operator × Expr)). climb un d (suc n) (take_open (suc n) cs).1 (chain (first_operand (take_open (suc n) cs).0 e) ties) s) (append-nil (ties_with (take_open (suc n) cs).0 e))

  -- one is
  climb_turn : (d n : ℕ) (cs : List OpenChain) (e : Expr) (s : State) → n < 7 → next_in (operators (suc n)) s.tokens ≡ true
      → climb un (suc d) n cs e s ≡ behind un d (suc n) (take_open (suc n) cs) e (turn un n (one (operator (suc n)) s))
  climb_turn d n cs e s h next = climb_is un d n cs e s ∙ ap (behind un d (suc n) (take_open (suc n) cs) e) (many_is (operators (suc n)) (link un n) (shrinks n h) s next)

  -- and is read
  climb_operand : (d n : ℕ) (cs : List OpenChain) (e : Expr) (s : State) (o : Operator × State) → n < 7 → next_in (operators (suc n)) s.tokens ≡ true → one (operator (suc n)) s ≡ Ok o
      → climb un (suc d) n cs e s ≡ behind un d (suc n) (take_open (suc n) cs) e (behind_operand un n o.0 (un o.1 >>= λ y. tail un n y.0 y.1))
  climb_operand d n cs e s o h next op_is = climb_turn d n cs e s h next ∙ ap (λ (z : Read Operator). behind un d (suc n) (take_open (suc n) cs) e (turn un n z)) op_is

  -- and so is its operand: a chain of the level is open
  climb_opens : (d n t : ℕ) (cs : List OpenChain) (e : Expr) (s : State) (o : Operator × State) (x : Expr × State) → t ≡ n + suc d → n < 7 → next_in (operators (suc n)) s.tokens ≡ true → one (operator (suc n)) s ≡ Ok o → un o.1 ≡ Ok x
      → climb un (suc d) n cs e s ≡ climb un t 0 (opened (suc n) o.0 (take_open (suc n) cs).0 e ∷ (take_open (suc n) cs).1) x.0 x.1
  climb_opens d n t cs e s o x total h next op_is un_is =
      climb_operand d n cs e s o h next op_is
      ∙ ap (λ (z : Read Expr). behind un d (suc n) (take_open (suc n) cs) e (behind_operand un n o.0 (z >>= λ y. tail un n y.0 y.1))) un_is
      ∙ reopened un d n (take_open (suc n) cs) e o.0 (tail un n x.0 x.1)
      ∙ sym (climb_up un n (suc d) t (opened (suc n) o.0 (take_open (suc n) cs).0 e ∷ (take_open (suc n) cs).1) x.0 x.1 total
      (one_is_above n (opened (suc n) o.0 (take_open (suc n) cs).0 e) (take_open (suc n) cs).1 (omega arith)))

  module _ (total : Read Expr) where
    closes : (n : ℕ) (cs : List OpenChain) (e : Expr) (s : State) → n < 7 → next_in (operators (suc n)) s.tokens ≡ false → IsRead un total n cs e s → IsRead un total (suc n) (take_open (suc n) cs).1 (closed (take_open (suc n) cs).0 e) s
    closes n cs e s h next so_far =
        let e1 : 7 - suc n ≡ 6 - n = omega (arith, h) in
        ap (λ (j : ℕ). climb un j (suc n) (take_open (suc n) cs).1 (closed (take_open (suc n) cs).0 e) s) e1 ∙ sym (climb_closes (6 - n) n cs e s h next) ∙ as_suc un total n cs e s h so_far

    opens : (n : ℕ) (cs : List OpenChain) (e : Expr) (s : State) (o : Operator × State) (x : Expr × State) → n < 7 → next_in (operators (suc n)) s.tokens ≡ true → one (operator (suc n)) s ≡ Ok o → un o.1 ≡ Ok x
        → IsRead un total n cs e s → IsRead un total 0 (opened (suc n) o.0 (take_open (suc n) cs).0 e ∷ (take_open (suc n) cs).1) x.0 x.1
    opens n cs e s o x h next op_is un_is so_far =
        let e1 : 7 - 0 ≡ n + suc (6 - n) = omega (arith, h) in
        sym (climb_opens (6 - n) n (7 - 0) cs e s o x e1 h next op_is un_is) ∙ as_suc un total n cs e s h so_far

    stops : (n : ℕ) (cs : List OpenChain) (e : Expr) (s : State) (halt : Stop) (p : Parser) → n < 7 → next_in (operators (suc n)) s.tokens ≡ true → Stops halt p (one (operator (suc n)) s) → IsRead un total n cs e s → Stops halt p total
    stops n cs e s stop.Memory p h next stopped so_far = tt
    stops n cs e s stop.Dead p h next stopped so_far =
        sym (as_suc un total n cs e s h so_far) ∙ climb_turn (6 - n) n cs e s h next ∙ ap (λ (z : Read Operator). behind un (6 - n) (suc n) (take_open (suc n) cs) e (turn un n z)) stopped

    stops_within : (n : ℕ) (cs : List OpenChain) (e : Expr) (s : State) (o : Operator × State) (halt : Stop) (p : Parser) → n < 7 → next_in (operators (suc n)) s.tokens ≡ true → one (operator (suc n)) s ≡ Ok o → Stops halt p (un o.1)
        → IsRead un total n cs e s → Stops halt p total
    stops_within n cs e s o stop.Memory p h next op_is stopped so_far = tt
    stops_within n cs e s o stop.Dead p h next op_is stopped so_far =
        sym (as_suc un total n cs e s h so_far) ∙ climb_operand (6 - n) n cs e s o h next op_is
        ∙ ap (λ (z : Read Expr). behind un (6 - n) (suc n) (take_open (suc n) cs) e (behind_operand un n o.0 (z >>= λ y. tail un n y.0 y.1))) stopped

    -- ---- m is the level above n

    -- no operator of it is next: the chain of the level ends
    pub loop_closes : (n m : ℕ) (cs rest : List OpenChain) (e x : Expr) (s : State) → m ≡ n + 1 → n < 7 → next_in (operators m) s.tokens ≡ false → rest ≡ (take_open m cs).1 → x ≡ closed (take_open m cs).0 e → IsRead un total n cs e s
        → IsRead un total m rest x s
    loop_closes n m cs rest e x s is h next rest_is x_is so_far = rw (rest_is, x_is)
        (subst (λ (j : ℕ). next_in (operators j) s.tokens ≡ false → IsRead un total j (take_open j cs).1 (closed (take_open j cs).0 e) s) (sym (is ∙ add-one n)) (λ g. closes n cs e s h g so_far) next)

    -- one is, and its operand is read: a chain of the level is open
    pub loop_opens : (n m : ℕ) (cs now : List OpenChain) (e : Expr) (s : State) (o : Operator × State) (x : Expr × State) → m ≡ n + 1 → n < 7 → next_in (operators m) s.tokens ≡ true → one (operator m) s ≡ Ok o → un o.1 ≡ Ok x
        → now ≡ opened m o.0 (take_open m cs).0 e ∷ (take_open m cs).1 → IsRead un total n cs e s → IsRead un total 0 now x.0 x.1
    loop_opens n m cs now e s o x is h next op_is un_is now_is so_far = rw now_is
        (subst (λ (j : ℕ). next_in (operators j) s.tokens ≡ true → one (operator j) s ≡ Ok o → IsRead un total 0 (opened j o.0 (take_open j cs).0 e ∷ (take_open j cs).1) x.0 x.1) (sym (is ∙ add-one n))
        (λ g i. opens n cs e s o x h g i un_is so_far) next op_is)

    -- reading stops at the operator
    pub loop_stops : (n m : ℕ) (cs : List OpenChain) (e : Expr) (s : State) (halt : Stop) (p : Parser) → m ≡ n + 1 → n < 7 → next_in (operators m) s.tokens ≡ true → Stops halt p (one (operator m) s) → IsRead un total n cs e s → Stops halt p total
    loop_stops n m cs e s halt p is h next stopped so_far =
        subst (λ (j : ℕ). next_in (operators j) s.tokens ≡ true → Stops halt p (one (operator j) s) → Stops halt p total) (sym (is ∙ add-one n)) (λ g i. stops n cs e s halt p h g i so_far) next stopped

    -- it stops within the operand
    pub loop_stops_within : (n m : ℕ) (cs : List OpenChain) (e : Expr) (s : State) (o : Operator × State) (halt : Stop) (p : Parser) → m ≡ n + 1 → n < 7 → next_in (operators m) s.tokens ≡ true → one (operator m) s ≡ Ok o → Stops halt p (un o.1)
        → IsRead un total n cs e s → Stops halt p total
    loop_stops_within n m cs e s o halt p is h next op_is stopped so_far =
        subst (λ (j : ℕ). next_in (operators j) s.tokens ≡ true → one (operator j) s ≡ Ok o → Stops halt p total) (sym (is ∙ add-one n)) (λ g i. stops_within n cs e s o halt p h g i stopped so_far) next op_is

-- an operator and an operand take two tokens at least
pub turn_shrinks : (un : Reader Expr) → Shrinks un → (n m : ℕ) (s : State) (o : Operator × State) (x : Expr × State) → one (operator m) s ≡ Ok o → un o.1 ≡ Ok x → 8 * length x.1.tokens + (7 - 0) < 8 * length s.tokens + (7 - n)
turn_shrinks un shrinks n m s o x op_is un_is =
    let a : length o.1.tokens < length s.tokens = one_shrinks (operator m) s o op_is in
    let b : length x.1.tokens < length o.1.tokens = shrinks o.1 x un_is in
    omega (arith, a, b)

-- ---- unary expressions of a nesting

pub unary_shrinks : (k : ℕ) → Shrinks (levels.unary k)
unary_shrinks k = part_shrinks (the_unary (room k).inner)

pub link_shrinks : (k n : ℕ) → n < 7 → Shrinks (link (levels.unary k) n)
link_shrinks k n h = part_shrinks (the_link (the_unary (room k).inner) n h)
