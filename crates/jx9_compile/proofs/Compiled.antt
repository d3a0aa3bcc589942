-- A program's code.
use Rattle.std.proofs.Common.{◌≡◌, ℕ, zero, suc, ◌+◌, ◌-◌, ◌<◌, List, [], ◌∷◌, ◌++◌, length, replicate, Option, Some, None, refl, sym, ap, ◌∙◌, subst, arith, inr}
use Rattle.std.specs.Prelude.{◌^◌, true, false, take, slice_get, MatchOption, ◌⊎◌}
use Rattle.std.proofs.lemmas.Option.{none-some, same_Some, slice_get_within}
use Rattle.uq_value.specs.declared.value.Value.{Value}
use Rattle.jx9_syntax.specs.declared.program.Program.{Program}
use Rattle.jx9_syntax.specs.declared.statement.Statement.{Statement}
use Rattle.jx9_meaning.specs.Laws.{EndsWell}
use Rattle.jx9_meaning.specs.Script.{Source, Ended, source_of}
use Rattle.jx9_meaning.specs.World.{World}
use Rattle.jx9_compile.specs.Correct.{Behaves, KeepsRules, KeepsNumber, IsStart, IsUncompiled}
use Rattle.jx9_compile.specs.Emitted.{SequenceCode}
use Rattle.jx9_compile.specs.Emits.{IsOp, IsSequence, Emits}
use Rattle.jx9_compile.specs.Machine.{ops_or_none, ops_of, first_slots}
use Rattle.jx9_compile.specs.Problems.{IsClean, IsFirst, AreCleanStatements}
use Rattle.jx9_compile.specs.Run.{is_unit}
use Rattle.jx9_compile.specs.Shape.{jump_of, callee_of}
use Rattle.jx9_compile.specs.Slots.{AreDistinct}
use Rattle.jx9_compile.specs.declared.code.Code.{Code}
use Rattle.jx9_compile.specs.declared.emitting.Emitter.{Emitter}
use Rattle.jx9_compile.specs.declared.error.CompileFault.TheVariants.{Bad}
use Rattle.jx9_compile.specs.declared.function.Function.{Function}
use Rattle.jx9_compile.specs.declared.op.Op.{Op}
use Rattle.jx9_compile.specs.declared.op.Op.TheVariants.{End}
use Rattle.jx9_compile.specs.declared.problems.Problem.{Problem}
use Rattle.jx9_compile.proofs.EmitLemmas.{sequence_stable}
use Rattle.jx9_compile.proofs.Ends.{ends_once}
use Rattle.jx9_compile.proofs.Frugal.{few_events}
use Rattle.jx9_compile.proofs.Rules.{IsTame, tame_then, plain_op, sequence_tame}
use Rattle.jx9_compile.proofs.Whole.{behaves}

-- the ops of the statements, and then the end
pub is_start : (a b c : Emitter) (ts these : List Statement) (f : Function) → a.ops ≡ [] → a.names ≡ [] → these ≡ ts → Emits a b (IsSequence None these) → Emits b c (IsOp End)
    → f.slots ≡ length c.names → f.ops ≡ c.ops → IsStart ts f
is_start a b c ts these f empty no_names all p q slots same = record {
  names = c.names;
  distinct = q.distinct (p.distinct (subst AreDistinct (sym no_names) tt));
  slots = slots;
  to = length b.ops;
  runs = λ clean. subst (λ ops. SequenceCode ops c.names None 0 ts (length b.ops)) (sym same) (there clean);
  ends = ap (λ ops. slice_get ops (length b.ops)) same ∙ q.added.0;
  whole = ap length same ∙ q.added.1;
}
  where
    there : AreCleanStatements false ts → SequenceCode c.ops c.names None 0 ts (length b.ops)
    there clean =
        subst (λ k. SequenceCode c.ops c.names None k ts (length b.ops)) (ap length empty)
        (subst (λ xs. IsSequence None xs c.ops c.names (length a.ops) (length b.ops)) all
        (sequence_stable None these b.ops c.ops b.names c.names (length a.ops) (length b.ops) p.added
        (record { same = λ i x y. q.ops.same i (omega arith) y }) q.names) clean)

pub clean_start : (p : Program) → IsClean p → AreCleanStatements false p.statements
clean_start p c = record { none = λ q h. c.none q (inr h) }

no_items : (n : ℕ) (vs : List Value) → vs ≡ [] → take n vs ≡ []
no_items zero vs none = refl
no_items (suc n) [] none = refl
no_items (suc n) (v ∷ vs) none = cc

module _ (p : Program) (clean : IsClean p) (code : Code) (f : Function) (these : List Statement) (all : these ≡ p.statements) (s : IsStart these f) (is : code.functions ≡ f ∷ []) where
  cleaned : AreCleanStatements false these
  cleaned = subst (λ ts. AreCleanStatements false ts) (sym all) (clean_start p clean)

  ops_are : (n : ℕ) → ops_of code n ≡ ops_or_none (slice_get (f ∷ []) n)
  ops_are n = ap (λ fs. ops_or_none (slice_get fs n)) is

  runs : SequenceCode f.ops s.names None 0 these s.to
  runs = s.runs cleaned

  pub code_behaves : Behaves (source_of p) code
  code_behaves =
      behaves (source_of p) code (λ i. s.names) (λ i. s.distinct) s.to
      (subst (λ ts. SequenceCode (ops_of code 0) s.names None 0 ts s.to) all (subst (λ ops. SequenceCode ops s.names None 0 these s.to) (sym (ops_are 0)) runs))
      (ap (λ ops. slice_get ops s.to) (ops_are 0) ∙ s.ends)
      (ap (λ fs. first_slots (slice_get fs 0) []) is ∙ ap (λ l. take f.slots (l ++ replicate f.slots Value.Null)) (no_items f.params [] refl) ∙ ap (λ n. take n (replicate n Value.Null)) s.slots)

  tame : IsTame f.ops 0 (s.to + 1)
  tame = tame_then (sequence_tame None runs tt) (plain_op s.to End s.ends refl refl)

  jumps : (n at to : ℕ) (op : Op) → slice_get (ops_or_none (slice_get (f ∷ []) n)) at ≡ Some op → jump_of op ≡ Some to
      → (at < to) ⊎ (is_unit (slice_get (ops_or_none (slice_get (f ∷ []) n)) to) ≡ true)
  jumps zero at to op h j = tame.jumps at to op (omega arith) (omega (arith, slice_get_within f.ops at op h, s.whole)) h j
  jumps (suc n) at to op h j = absurd (omega (arith, slice_get_within [] at op h))

  calls : (n at : ℕ) (op : Op) → slice_get (ops_or_none (slice_get (f ∷ []) n)) at ≡ Some op → callee_of op ≡ None
  calls zero at op h = tame.calls at op (omega arith) (omega (arith, slice_get_within f.ops at op h, s.whole)) h
  calls (suc n) at op h = absurd (omega (arith, slice_get_within [] at op h))

  pub code_keeps_rules : KeepsRules code
  code_keeps_rules = record {
    jumps = λ n at to op h j. subst (λ ops. (at < to) ⊎ (is_unit (slice_get ops to) ≡ true)) (sym (ops_are n)) (jumps n at to op (sym (ap (λ ops. slice_get ops at) (ops_are n)) ∙ h) j);
    calls = λ n at callee op h c. absurd (none-some callee (sym (calls n at op (sym (ap (λ ops. slice_get ops at) (ops_are n)) ∙ h)) ∙ c));
  }

  pub code_keeps_number : ((q : Source) (w : World) → EndsWell q w) → KeepsNumber code
  code_keeps_number ends w e few run =
      let end = ends (source_of p) w in
      let same = ends_once code w end.ended e (code_behaves w end.ended end.is_script) run in
      let less = few_events (source_of p) f.ops s.names s.to (subst (λ ts. SequenceCode f.ops s.names None 0 ts s.to) all runs) w end.ended end.is_script in
      subst (λ (x : Ended). length x.events < 2 ^ 64 - 1) same (omega (arith, less, few))

none_found : (o : Option Problem) (P : Type 0) (Q : Problem → Type 0) → MatchOption o P Q → ((x : Problem) → o ≡ Some x → ⊥) → P
none_found None P Q h other = h
none_found (Some x) P Q h other = absurd (other x refl)

some_found : (o : Option Problem) (P : Type 0) (Q : Problem → Type 0) (x : Problem) → MatchOption o P Q → o ≡ Some x → Q x
some_found None P Q x h is = absurd (none-some x is)
some_found (Some y) P Q x h is = subst Q (same_Some y x is) h

-- the code of the one function, where no problem was found
pub compiled : (p : Program) (o : Option Problem) (code : Code) (f : Function) (these : List Statement) (before items : List Function) → MatchOption o (IsClean p) (IsFirst p)
    → ((x : Problem) → o ≡ Some x → ⊥) → these ≡ p.statements → IsStart these f → before ≡ [] → items ≡ before ++ f ∷ [] → code ≡ record { functions = items }
    → ((q : Source) (w : World) → EndsWell q w) → Behaves (source_of p) code × KeepsRules code × KeepsNumber code × IsClean p
compiled p o code f these before items h other all s empty more is ends =
    let clean = none_found o (IsClean p) (IsFirst p) h other in
    let functions : code.functions ≡ f ∷ [] = ap (λ (c : Code). c.functions) is ∙ more ∙ ap (λ fs. fs ++ f ∷ []) empty in
    (code_behaves p clean code f these all s functions, code_keeps_rules p clean code f these all s functions, code_keeps_number p clean code f these all s functions ends, clean)

pub uncompiled : (p : Program) (o : Option Problem) (x : Problem) → MatchOption o (IsClean p) (IsFirst p) → o ≡ Some x → IsUncompiled p (Bad x.kind x.line)
uncompiled p o x h is = (x.token, some_found o (IsClean p) (IsFirst p) x h is)
