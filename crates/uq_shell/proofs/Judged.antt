-- Each text has one verdict.
use Rattle.std.proofs.Common.{◌≡◌, ◌⊎◌, ◌≤◌, ℕ, List, length, inl, inr, refl, sym, ap, subst, ◌∙◌}
use Rattle.uq_value.specs.Data.{Bytes}
use Rattle.jx9_syntax.specs.Program.{IsProgram, IsTokens, trees}
use Rattle.jx9_syntax.specs.Tokens.{HasOneAnswer, Lexes}
use Rattle.jx9_syntax.specs.declared.program.Program.{Program}
use Rattle.jx9_syntax.specs.declared.token.Token.{Token}
use Rattle.jx9_parse.specs.Blames.{IsDeadIn}
use Rattle.jx9_parse.specs.OneProgram.{HasOneProgram}
use Rattle.jx9_compile.specs.Correct.{IsUncompiled}
use Rattle.jx9_compile.specs.Laws.{HasOneOutcome}
use Rattle.jx9_compile.specs.Problems.{IsClean, IsFirst, problem}
use Rattle.jx9_compile.specs.declared.error.CompileFault.{CompileFault}
use Rattle.jx9_compile.specs.declared.error.CompileFault.TheVariants as uncompiled
use Rattle.jx9_compile.specs.declared.error.CompileKind.{CompileKind}
use Rattle.jx9_meaning.specs.Script.{Source, source_of}
use Rattle.uq_shell.specs.Untexts.{by_compiler}
use Rattle.uq_shell.specs.Verdicts.{Fails, HasNoCode, HasOneVerdict, HasRightJudge, IsRight, IsVerdict, Judge, OfTokens, Runs, Verdict, most_text}
use Rattle.uq_shell.specs.declared.failure.Failure.{Failure}
use Rattle.uq_shell.specs.declared.failure.Failure.TheVariants.{Lexical, Syntax, Compile, Fault, Spent}

-- ---- no text has two

module _ (lexer : (text : Bytes) → HasOneAnswer text) (ended : (text : Bytes) (tokens : List Token) → Lexes 1 text tokens → IsTokens tokens) (parser : (tokens : List Token) → HasOneProgram tokens) (compiler : (p : Program) → HasOneOutcome p) (text : Bytes) where
  -- P and Q of the same tokens
  of_both : (P Q : List Token → Type 0) → OfTokens text P → OfTokens text Q → (tokens : List Token) × P tokens × Q tokens
  of_both P Q one other = (one.0, one.2, subst Q ((lexer text).one_list other.0 one.0 other.1 one.1) other.2)

  no_tokens : (P : List Token → Type 0) (line : ℕ) (A : Type 0) → OfTokens text P → IsVerdict text (Fails (Lexical line)) → A
  no_tokens P line A one stuck = absurd ((lexer text).not_both one.0 line one.1 stuck)

  module _ (P : Program → Type 0) where
    abbrev OfTrees : List Token → Type 0
    OfTrees tokens = (p : Program) × IsProgram tokens p × P p

    no_program : (line : ℕ) (A : Type 0) → OfTokens text OfTrees → IsVerdict text (Fails (Syntax line)) → A
    no_program line A one dead =
        let both = of_both OfTrees (λ tokens. (n : ℕ) × IsDeadIn tokens n line) one dead in
        absurd ((parser both.0).not_both (trees both.1.0) both.2.0 line both.1.1 both.2.1)

    -- P and Q of the same program
    of_program : (Q : Program → Type 0) → OfTokens text OfTrees → OfTokens text (λ tokens. (p : Program) × IsProgram tokens p × Q p) → (p : Program) × P p × Q p
    of_program Q one other =
        let both = of_both OfTrees (λ tokens. (p : Program) × IsProgram tokens p × Q p) one other in
        (both.1.0, both.1.2, subst Q ((parser both.0).one_program both.2.0 both.1.0 both.2.1 both.1.1) both.2.2)

  abbrev Running : Source → Program → Type 0
  Running source p = IsClean p × (source ≡ source_of p)

  abbrev Uncompiled : CompileKind → ℕ → Program → Type 0
  Uncompiled kind line p = (token : ℕ) × IsFirst p (problem token kind line)

  not_compiled : (source : Source) (kind : CompileKind) (line : ℕ) (A : Type 0) → IsVerdict text (Runs source) → IsVerdict text (Fails (Compile kind line)) → A
  not_compiled source kind line A one other =
      let both = of_program (Running source) (Uncompiled kind line) one other in
      absurd ((compiler both.0).not_both (problem both.2.0 kind line) both.1.0 both.2.1)

  only : (one other : Verdict) → IsVerdict text one → IsVerdict text other → one ≡ other
  only (Runs a) (Runs b) one other =
      let both = of_program (Running a) (Running b) one other in
      ap Runs (both.1.1 ∙ sym both.2.1)
  only (Runs a) (Fails (Lexical n)) one other = no_tokens _ n _ one other
  only (Runs a) (Fails (Syntax n)) one other = no_program (Running a) n _ one other
  only (Runs a) (Fails (Compile kind n)) one other = not_compiled a kind n _ one other
  only (Fails (Lexical m)) (Runs b) one other = no_tokens _ m _ other one
  only (Fails (Lexical m)) (Fails (Lexical n)) one other = ap (λ (line : ℕ). Fails (Lexical line)) ((lexer text).one_line m n one other)
  only (Fails (Lexical m)) (Fails (Syntax n)) one other = no_tokens _ m _ other one
  only (Fails (Lexical m)) (Fails (Compile kind n)) one other = no_tokens _ m _ other one
  only (Fails (Syntax m)) (Runs b) one other = no_program (Running b) m _ other one
  only (Fails (Syntax m)) (Fails (Lexical n)) one other = no_tokens _ n _ one other
  only (Fails (Syntax m)) (Fails (Syntax n)) one other =
      let both = of_both (λ tokens. (k : ℕ) × IsDeadIn tokens k m) (λ tokens. (k : ℕ) × IsDeadIn tokens k n) one other in
      ap (λ (line : ℕ). Fails (Syntax line)) ((parser both.0).one_dead both.1.0 both.2.0 m n both.1.1 both.2.1).1
  only (Fails (Syntax m)) (Fails (Compile kind n)) one other = no_program (Uncompiled kind n) m _ other one
  only (Fails (Compile kind m)) (Runs b) one other = not_compiled b kind m _ other one
  only (Fails (Compile kind m)) (Fails (Lexical n)) one other = no_tokens _ n _ one other
  only (Fails (Compile kind m)) (Fails (Syntax n)) one other = no_program (Uncompiled kind m) n _ one other
  only (Fails (Compile kind m)) (Fails (Compile other_kind n)) one other =
      let both = of_program (Uncompiled kind m) (Uncompiled other_kind n) one other in
      ap (λ q. Fails (Compile q.kind q.line)) ((compiler both.0).one_first (problem both.1.0 kind m) (problem both.2.0 other_kind n) both.1.1 both.2.1)
  only one (Fails (Fault kind line)) is never = absurd never
  only one (Fails Spent) is never = absurd never
  only (Fails (Fault kind line)) other never is = absurd never
  only (Fails Spent) other never is = absurd never

  -- ---- each has one

  compiled : (tokens : List Token) → Lexes 1 text tokens → (p : Program) → IsProgram tokens p → IsClean p ⊎ ((q : _) × IsFirst p q) → (verdict : Verdict) × IsVerdict text verdict
  compiled tokens lexes p is (inl clean) = (Runs (source_of p), (tokens, lexes, (p, is, (clean, refl))))
  compiled tokens lexes p is (inr bad) = (Fails (Compile bad.0.kind bad.0.line), (tokens, lexes, (p, is, (bad.0.token, bad.1))))

  parsed : (tokens : List Token) → Lexes 1 text tokens → ((p : Program) × IsProgram tokens p) ⊎ ((n line : ℕ) × IsDeadIn tokens n line) → (verdict : Verdict) × IsVerdict text verdict
  parsed tokens lexes (inl found) = compiled tokens lexes found.0 found.1 (compiler found.0).one_of_both
  parsed tokens lexes (inr dead) = (Fails (Syntax dead.1), (tokens, lexes, (dead.0, dead.2)))

  lexed : ((tokens : List Token) × Lexes 1 text tokens) ⊎ ((line : ℕ) × IsVerdict text (Fails (Lexical line))) → (verdict : Verdict) × IsVerdict text verdict
  lexed (inl found) = parsed found.0 found.1 ((parser found.0).one_of_both (ended text found.0 found.1))
  lexed (inr stuck) = (Fails (Lexical stuck.0), stuck.1)

  pub has_one : HasOneVerdict text
  has_one =
      let it = lexed (lexer text).one_of_both in
      record { verdict = it.0; is_verdict = it.1; only = λ other is. only other it.0 is it.1 }

pub has_judge : ((text : Bytes) → HasOneAnswer text) → ((text : Bytes) (tokens : List Token) → Lexes 1 text tokens → IsTokens tokens) → ((tokens : List Token) → HasOneProgram tokens) → ((p : Program) → HasOneOutcome p) → HasRightJudge
has_judge lexer ended parser compiler = (λ text. (has_one lexer ended parser compiler text).verdict, λ text short. (has_one lexer ended parser compiler text).is_verdict)

-- what a right judge says of a text
pub judged : (text : Bytes) → HasOneVerdict text → length text ≤ most_text → (judge : Judge) → IsRight judge → (verdict : Verdict) → IsVerdict text verdict → judge text ≡ verdict
judged text one short judge right verdict is = one.only (judge text) (right text short) ∙ sym (one.only verdict is)

-- ---- a text that is not compiled

pub no_code : (text : Bytes) (tokens : List Token) (p : Program) → Lexes 1 text tokens → IsProgram tokens p → (fault : CompileFault) → IsUncompiled p fault → HasNoCode text (by_compiler fault)
no_code text tokens p lexes is (uncompiled.Bad kind line) bad = (tokens, lexes, (p, is, (bad.0, bad.1)))
no_code text tokens p lexes is uncompiled.Memory bad = tt
