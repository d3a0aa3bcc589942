-- A list of tokens has one program, or one token of it is dead.
use Rattle.std.proofs.Common.{◌≡◌, ℕ, zero, suc, ◌-◌, ◌<◌, ◌≤◌, ◌⊎◌, inl, inr, List, [], ◌∷◌, ◌++◌, length, take, drop, slice_get, Option, Some, None, Ok, Err, refl, sym, ap, subst, ◌∙◌, append_assoc, arith}
use Rattle.std.proofs.lemmas.List.{take-append-drop}
use Rattle.std.proofs.lemmas.Option.{same_Some}
use Rattle.std.proofs.lemmas.Bool.{cases_order}
use Rattle.jx9_syntax.specs.Grammar.{Item}
use Rattle.jx9_syntax.specs.Making.{Making, all_made}
use Rattle.jx9_syntax.specs.Nesting.{ProgramFits, most_nesting}
use Rattle.jx9_syntax.specs.Program.{Trees, trees, trees_of, IsProgramOf, IsTokens, IsDead}
use Rattle.jx9_syntax.specs.declared.program.Program.{Program}
use Rattle.jx9_syntax.specs.declared.token.Token.{Token}
use Rattle.jx9_parse.specs.Blames.{IsDeadIn}
use Rattle.jx9_parse.specs.OneProgram.{HasOneProgram}
use Rattle.jx9_parse.specs.Reading.{Tokens}
use Rattle.jx9_parse.proofs.Programs.{the_body, clean_body, is_read, is_only, is_dead, is_dead_behind}
use Rattle.jx9_parse.proofs.StatementFits.{program_fits}
use Rattle.jx9_parse.proofs.Unplaced.{Found}

-- ---- at most one of both

-- the first n begin with the first m
begins_with : (m n : ℕ) (ts : Tokens) → m ≤ n → (more : Tokens) × (take n ts ≡ take m ts ++ more)
begins_with zero n ts h = (take n ts, refl)
begins_with (suc m) zero ts h = absurd (omega (arith, h))
begins_with (suc m) (suc n) [] h = ([], refl)
begins_with (suc m) (suc n) (t ∷ ts) h =
    let r = begins_with m n ts (omega (arith, h)) in (r.0, ap (λ (w : Tokens). t ∷ w) r.1)

dead_first : (tokens : Tokens) (m n : ℕ) → IsDead tokens m → IsDead tokens n → m < n → ⊥
dead_first tokens m n first second less =
    let more = second.alive.0 in
    let found = second.alive.1 in
    let front = begins_with (suc m) n tokens (omega (arith, less)) in
    first.dead (front.0 ++ more) found (subst (λ (w : Tokens). IsProgramOf w found)
    (ap (λ (w : Tokens). w ++ more) front.1 ∙ append_assoc (take (suc m) tokens) front.0 more) second.alive.2)

same_place : (tokens : Tokens) (m n : ℕ) → IsDead tokens m → IsDead tokens n → m ≡ n
same_place tokens m n first second =
    elim (cases_order m n) [
      | inl e ↦ e
      | inr (inl less) ↦ absurd (dead_first tokens m n first second less)
      | inr (inr more) ↦ absurd (dead_first tokens n m second first more)
    ]

same_line : (tokens : Tokens) (m n line at : ℕ) → m ≡ n → IsDeadIn tokens m line → IsDeadIn tokens n at → line ≡ at
same_line tokens m n line at e first second =
    let same : first.token ≡ second.token = same_Some first.token second.token (sym first.stands ∙ ap (λ (j : ℕ). slice_get tokens j) e ∙ second.stands) in
    first.is_line ∙ ap (λ (t : Token). t.line) same ∙ sym second.is_line

never_both : (tokens : Tokens) (found : Trees) (n line : ℕ) → IsProgramOf tokens found → IsDeadIn tokens n line → ⊥
never_both tokens found n line p d =
    d.is_dead.dead (drop (suc n) tokens) found (subst (λ (w : Tokens). IsProgramOf w found) (sym (take-append-drop (suc n) tokens)) p)

-- ---- one of both

abbrev line_of : Option Token → ℕ
line_of None = 0
line_of (Some t) = t.line

abbrev Answer : (tokens : Tokens) → IsTokens tokens → Type 0
Answer tokens is = ((m : Making (List Item)) × (the_body.reads is.body ≡ Ok (m, []))) ⊎ ((n line : ℕ) × IsDeadIn tokens n line)

answer : (tokens : Tokens) (is : IsTokens tokens) → Answer tokens is
answer tokens is = by (the_body.reads is.body) refl
  where
    by : (o : Found (Making (List Item))) → the_body.reads is.body ≡ o → Answer tokens is
    by (Ok (m, [])) e = inl (m, e)
    by (Ok (m, t ∷ rest)) e =
        let n = length tokens - 1 - length (t ∷ rest) in
        inr (n, line_of (slice_get tokens n), is_dead_behind tokens is t rest m (line_of (slice_get tokens n)) e (λ u h. ap line_of h))
    by (Err rest) e =
        let n = length tokens - 1 - length rest in
        inr (n, line_of (slice_get tokens n), is_dead tokens is rest (line_of (slice_get tokens n)) e (λ u h. ap line_of h))

-- ---- one program

one_end : (tokens : Tokens) (found : Trees) → IsProgramOf tokens found → IsTokens tokens
one_end tokens found p = record {
  body = p.body;
  last = p.last;
  split = p.split;
  is_end = p.is_end;
  others = clean_body p.body (all_made p.items) (record { value = p.items; is_word = p.reads; is_value = refl });
}

one_tree : (tokens : Tokens) (found others : Trees) → IsProgramOf tokens found → IsProgramOf tokens others → found ≡ others
one_tree tokens found others p q =
    let is = one_end tokens found p in
    elim (answer tokens is) [
      | inl (m, e) ↦ is_only tokens is m found e p ∙ sym (is_only tokens is m others e q)
      | inr (n, line, d) ↦ absurd (never_both tokens found n line p d)
    ]

abbrev Nested : Trees → Type 0
Nested t = ∥ ProgramFits most_nesting t.functions t.lambdas t.statements ∥₁

abbrev program_of : (t : Trees) → Nested t → Program
program_of t nested = record { functions = t.functions; lambdas = t.lambdas; statements = t.statements; nested = nested }

same_program : (p q : Program) → trees p ≡ trees q → p ≡ q
same_program p q e =
    subst (λ (t : Trees). (nested : Nested t) → p ≡ program_of t nested) e (λ nested. ap (program_of (trees p)) (squash₁ p.nested nested)) q.nested

is_nested : (tokens : Tokens) (t : Trees) → IsProgramOf tokens t → Nested t
is_nested tokens t p =
    ∣ subst (λ (u : Trees). ProgramFits most_nesting u.functions u.lambdas u.statements) (sym p.makes) (program_fits p.items p.body p.reads) ∣₁

pub one_verdict : (tokens : Tokens) → HasOneProgram tokens
one_verdict tokens = record {
  one_program = λ p q a b. same_program p q (one_tree tokens (trees p) (trees q) a b);
  same_trees = one_tree tokens;
  one_dead = λ m n line at a b. let e = same_place tokens m n a.is_dead b.is_dead in (e, same_line tokens m n line at e a b);
  not_both = never_both tokens;
  one_of_both = λ is.
      elim (answer tokens is) [
        | inl (m, e) ↦ let p = is_read tokens is m e in inl (program_of (trees_of (m 0 1)) (is_nested tokens (trees_of (m 0 1)) p), p)
        | inr d ↦ inr d
      ];
}
