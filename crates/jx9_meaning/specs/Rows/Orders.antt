-- Scripts that show the order of evaluation.
use Rattle.std.specs.Prelude.{[], ◌∷◌, codes}
use Rattle.jx9_syntax.specs.declared.expression.Binary.TheVariants.{Add, Divide, Same, Subtract}
use Rattle.jx9_syntax.specs.declared.expression.Change.TheVariants.{By}
use Rattle.jx9_syntax.specs.declared.expression.Step.TheVariants.{DecrementAfter, DecrementFirst, IncrementAfter, IncrementFirst}
use Rattle.jx9_meaning.specs.Building.{and_of, assign, call, chain, change, cond, do_expr, group, index, join, link, list, member, named, null, number, operation, or_of, place, place_at, print, return, set, step, text, var, var_call}
use Rattle.jx9_meaning.specs.Meaning.{Done, Fault}
use Rattle.jx9_meaning.specs.Runs.{statements, script_of, Runs}
use Rattle.jx9_meaning.specs.declared.fault.FaultKind.TheVariants.{NotNumber, UnknownFunction}

pub record OrderRows : Type 0 where
  -- function f() { print 'f'; return 1; } print 'x' - 1 - f();
  -- (the first operator goes before the last operand)
  pub chain_from_the_left : Runs (script_of
      (named 1 "f" [] (print 1 (text 1 "f" ∷ []) ∷ return 1 (number 1 1) ∷ []) ∷ []) []
      (print 1 (chain 1 (text 1 "x") (link Subtract (number 1 1) ∷ link Subtract
      (call 1 "f" []) ∷ []) ∷ []) ∷ [])) 100 [] (Fault NotNumber 1) 96
  -- function f() { print 'f'; return 1; } print 'a' .. f();
  -- (3 nodes; a block, 2 statements, 2 nodes)
  pub join_after_all : Runs (script_of (named 1 "f" []
      (print 1 (text 1 "f" ∷ []) ∷ return 1 (number 1 1) ∷ []) ∷ []) []
      (print 1 (join 1 (text 1 "a" ∷ call 1 "f" [] ∷ []) ∷ []) ∷ [])) 100 (codes "f" ∷ codes "a1" ∷ []) Done 91
  -- print 0 && 1/0, 1 && 2;
  -- (2 nodes, then 3)
  pub and_stops : Runs (statements (print 1
      (and_of 1 (number 1 0) (operation 1 Divide (number 1 1) (number 1 0) ∷ []) ∷ and_of 1 (number 1 1)
      (number 1 2 ∷ []) ∷ []) ∷ [])) 100 (codes "false" ∷ codes "true" ∷ []) Done 94
  -- print 1 || 1/0, 0 || null;
  -- (2 nodes, then 3)
  pub or_stops : Runs (statements (print 1
      (or_of 1 (number 1 1) (operation 1 Divide (number 1 1) (number 1 0) ∷ []) ∷ or_of 1 (number 1 0)
      (null 1 ∷ []) ∷ []) ∷ [])) 100 (codes "true" ∷ codes "false" ∷ []) Done 94
  -- print 1 ? 'a' : 1/0;
  pub first_branch_alone : Runs (statements
      (print 1 (cond 1 (number 1 1) (text 1 "a") (operation 1 Divide (number 1 1) (number 1 0)) ∷ []) ∷ [])) 100
      (codes "a" ∷ []) Done 96
  -- print '' ? 1/0 : 'b';
  pub second_branch_alone : Runs (statements
      (print 1 (cond 1 (text 1 "") (operation 1 Divide (number 1 1) (number 1 0)) (text 1 "b") ∷ []) ∷ [])) 100
      (codes "b" ∷ []) Done 96
  -- $i = 1; print $i++, ++$i, $i--, --$i;
  -- (3 units, a statement and 4 nodes: a place takes none)
  pub steps_before_and_behind : Runs (statements
      (set 1 "i" (number 1 1) ∷ print 1 (step 1 IncrementAfter (place "i") ∷ step 1 IncrementFirst (place "i")
      ∷ step 1 DecrementAfter (place "i") ∷ step 1 DecrementFirst (place "i") ∷ []) ∷ [])) 100
      (codes "1" ∷ codes "3" ∷ codes "3" ∷ codes "1" ∷ []) Done 92
  -- print $n++; $s = '7'; print $s++ === 7, $s;
  -- (2, 3, 5)
  pub old_number : Runs (statements (print 1 (step 1 IncrementAfter (place "n") ∷ []) ∷ set 1 "s" (text 1 "7")
      ∷ print 1 (operation 1 Same (step 1 IncrementAfter (place "s")) (number 1 7) ∷ var 1 "s" ∷ []) ∷ [])) 100
      (codes "0" ∷ codes "true" ∷ codes "8" ∷ []) Done 90
  -- $t = 'x'; $t--;
  pub no_number_to_step : Runs (statements
      (set 1 "t" (text 1 "x") ∷ do_expr 1 (step 1 DecrementAfter (place "t")) ∷ [])) 100 [] (Fault NotNumber 1) 95
  -- $a = [3]; print $a[$a[0] = 0]++; print $a;
  -- (4, 5, 2)
  pub index_before_reading : Runs (statements
      (set 1 "a" (list 1 (number 1 3 ∷ [])) ∷ print 1
      (step 1 IncrementAfter (place_at "a" (index
      (assign 1 (place_at "a" (index (number 1 0) ∷ [])) (number 1 0)) ∷ [])) ∷ []) ∷ print 1
      (var 1 "a" ∷ []) ∷ [])) 100 (codes "0" ∷ codes "[1]" ∷ []) Done 89
  -- $i = 0; $a[$i++] = $i; print $a;
  -- (3, 4, 2)
  pub index_before_right_side : Runs (statements
      (set 1 "i" (number 1 0) ∷ do_expr 1 (assign 1
      (place_at "a" (index (step 1 IncrementAfter (place "i")) ∷ [])) (var 1 "i")) ∷ print 1
      (var 1 "a" ∷ []) ∷ [])) 100 (codes "[1]" ∷ []) Done 91
  -- $x = 1; $x += ($x = 5); print $x;
  -- (3, 5, 2)
  pub place_after_right_side : Runs (statements
      (set 1 "x" (number 1 1) ∷ do_expr 1 (change 1 (place "x") (By Add)
      (group 1 (assign 1 (place "x") (number 1 5)))) ∷ print 1 (var 1 "x" ∷ []) ∷ [])) 100
      (codes "10" ∷ []) Done 90
  -- $a = 'x'; $a.b += 'y';
  -- (the place itself is no container)
  pub operation_before_write : Runs (statements
      (set 1 "a" (text 1 "x") ∷ do_expr 1 (change 1 (place_at "a" (member "b" ∷ [])) (By Add) (text 1 "y")) ∷ []))
      100 [] (Fault NotNumber 1) 94
  -- print $a = $b = 3, $a, $b;
  pub written_value : Runs (statements (print 1
      (assign 1 (place "a") (assign 1 (place "b") (number 1 3)) ∷ var 1 "a" ∷ var 1 "b" ∷ []) ∷ [])) 100
      (codes "3" ∷ codes "3" ∷ codes "3" ∷ []) Done 94
  -- print ($a = 2) + $a, $a;
  pub group_before : Runs (statements (print 1
      (operation 1 Add (group 1 (assign 1 (place "a") (number 1 2))) (var 1 "a") ∷ var 1 "a" ∷ []) ∷ [])) 100
      (codes "4" ∷ codes "2" ∷ []) Done 93
  -- function f() { print 'f'; } $g = 'nobody'; $g(f());
  -- (3, 3 and a block, a statement, a node)
  pub arguments_before_nobody : Runs (script_of (named 1 "f" [] (print 1 (text 1 "f" ∷ []) ∷ []) ∷ []) []
      (set 1 "g" (text 1 "nobody") ∷ do_expr 1 (var_call 1 "g" (call 1 "f" [] ∷ [])) ∷ [])) 100 (codes "f" ∷ [])
      (Fault UnknownFunction 1) 91
  -- function f() { return 1; } $g = 'f'; print $g($g = 2);
  -- (3, 4, 3)
  pub variable_before_arguments : Runs (script_of (named 1 "f" [] (return 1 (number 1 1) ∷ []) ∷ []) []
      (set 1 "g" (text 1 "f") ∷ print 1 (var_call 1 "g" (assign 1 (place "g") (number 1 2) ∷ []) ∷ []) ∷ [])) 100
      (codes "1" ∷ []) Done 90
