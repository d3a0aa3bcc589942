-- Scripts that take units by size.
use Rattle.std.specs.Prelude.{[], ◌∷◌, codes}
use Rattle.jx9_syntax.specs.declared.expression.Binary.TheVariants.{Less}
use Rattle.jx9_syntax.specs.declared.expression.Change.TheVariants.{Join}
use Rattle.jx9_syntax.specs.declared.expression.Step.TheVariants.{IncrementAfter}
use Rattle.jx9_syntax.specs.declared.parts.Part.TheVariants as part
use Rattle.jx9_meaning.specs.Building.{block, change, do_expr, entry, join, list, member, mixed, number, object, operation, place, place_at, print, set, step, text, var, while}
use Rattle.jx9_meaning.specs.Meaning.{Done, Fault, Spent}
use Rattle.jx9_meaning.specs.Runs.{statements, Runs}
use Rattle.jx9_meaning.specs.declared.fault.FaultKind.TheVariants.{NotContainer}

pub record UnitRows : Type 0 where
  -- $x = 5; print "a$x";
  -- (a variable in a text takes none)
  pub variable_in_text : Runs (statements (set 1 "x" (number 1 5) ∷ print 1
      (mixed 1 (part.Text (codes "a") ∷ part.Var (codes "x") ∷ []) ∷ []) ∷ [])) 100 (codes "a5" ∷ []) Done 95
  -- $s = 'abcdefghijklmnop'; $i = 0; while ($i < 4) { $s = $s .. $s; $i++; }
  -- (3, 3; 1; 5 tests of 3; 4 turns of 8; one text of 259 bytes)
  pub grown : Runs (statements (set 1 "s" (text 1 "abcdefghijklmnop") ∷ set 1 "i" (number 1 0) ∷ while 1
      (operation 1 Less (var 1 "i") (number 1 4))
      (block 1 (set 1 "s" (join 1 (var 1 "s" ∷ var 1 "s" ∷ [])) ∷ do_expr 1
      (step 1 IncrementAfter (place "i")) ∷ [])) ∷ [])) 200 [] Done 145
  -- $s = 'abcdefghijklmnop'; $i = 0; while ($i < 4) { $s = $s .. $s; $i++; } $t = "$s"; $s ..= ''; [$s]; $u = $s; $o = {m:$s};
  -- (55; 4, 4, 4, 3, 5, all but the 3 with a unit for the size)
  pub grown_and_joined : Runs (statements (set 1 "s" (text 1 "abcdefghijklmnop") ∷ set 1 "i" (number 1 0)
      ∷ while 1 (operation 1 Less (var 1 "i") (number 1 4))
      (block 1 (set 1 "s" (join 1 (var 1 "s" ∷ var 1 "s" ∷ [])) ∷ do_expr 1
      (step 1 IncrementAfter (place "i")) ∷ [])) ∷ set 1 "t" (mixed 1 (part.Var (codes "s") ∷ [])) ∷ do_expr 1
      (change 1 (place "s") Join (text 1 "")) ∷ do_expr 1 (list 1 (var 1 "s" ∷ [])) ∷ set 1 "u" (var 1 "s")
      ∷ set 1 "o" (object 1 (entry "m" (var 1 "s") ∷ [])) ∷ [])) 200 [] Done 125
  -- $s = 'abcdefghijklmnop'; $i = 0; while ($i < 4) { $s = $s .. $s; $i++; } $a = 1; $a.b ..= $s;
  -- (55, 3, 3: no unit is left for the size of the join)
  pub faults_before_units : Runs (statements
      (set 1 "s" (text 1 "abcdefghijklmnop") ∷ set 1 "i" (number 1 0) ∷ while 1
      (operation 1 Less (var 1 "i") (number 1 4))
      (block 1 (set 1 "s" (join 1 (var 1 "s" ∷ var 1 "s" ∷ [])) ∷ do_expr 1
      (step 1 IncrementAfter (place "i")) ∷ [])) ∷ set 1 "a" (number 1 1) ∷ do_expr 1
      (change 1 (place_at "a" (member "b" ∷ [])) Join (var 1 "s")) ∷ [])) 61 [] (Fault NotContainer 1) 0
  -- $s = 'abcdefghijklmnop'; $i = 0; while ($i < 5) { $s = $s .. $s; $i++; }
  -- (61 before the text of 515 bytes, which takes 2)
  pub fewer_left_than_taken : Runs (statements
      (set 1 "s" (text 1 "abcdefghijklmnop") ∷ set 1 "i" (number 1 0) ∷ while 1
      (operation 1 Less (var 1 "i") (number 1 5))
      (block 1 (set 1 "s" (join 1 (var 1 "s" ∷ var 1 "s" ∷ [])) ∷ do_expr 1
      (step 1 IncrementAfter (place "i")) ∷ [])) ∷ [])) 62 [] Spent 1
