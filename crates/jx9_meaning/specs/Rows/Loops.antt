-- Scripts on statements.
use Rattle.std.specs.Prelude.{[], ◌∷◌, codes, Some, None, true}
use Rattle.jx9_syntax.specs.declared.expression.Binary.TheVariants.{Divide, Equal, Less, Same}
use Rattle.jx9_syntax.specs.declared.expression.Step.TheVariants.{DecrementAfter, IncrementAfter}
use Rattle.jx9_meaning.specs.Building.{append, assign, block, boolean, break, continue, do_expr, empty, entry, for, foreach, if_of, list, null, number, object, operation, place, print, return, return_null, set, step, text, var, when, while, branch}
use Rattle.jx9_meaning.specs.Meaning.{Done, Fault}
use Rattle.jx9_meaning.specs.Runs.{statements, Runs}
use Rattle.jx9_meaning.specs.declared.fault.FaultKind.TheVariants.{NotContainer, ZeroDivisor}

pub record LoopRows : Type 0 where
  -- for ($i = 0, $j = 5; $i < 2; $i++, $j--) print $i, $j;
  -- (1; 4; 3 tests of 3; 2 turns of 3; 2 times 2)
  pub parts_of_for : Runs (statements (for 1
      (assign 1 (place "i") (number 1 0) ∷ assign 1 (place "j") (number 1 5) ∷ [])
      (Some (operation 1 Less (var 1 "i") (number 1 2)))
      (step 1 IncrementAfter (place "i") ∷ step 1 DecrementAfter (place "j") ∷ [])
      (print 1 (var 1 "i" ∷ var 1 "j" ∷ [])) ∷ [])) 100
      (codes "0" ∷ codes "5" ∷ codes "1" ∷ codes "4" ∷ []) Done 76
  -- for (;;) { break; } print 1;
  pub for_ever : Runs (statements (for 1 [] None [] (block 1 (break 1 ∷ [])) ∷ print 1
      (number 1 1 ∷ []) ∷ [])) 100 (codes "1" ∷ []) Done 95
  -- for ($i = 0; $i < 3; $i++) { if ($i == 1) { continue; } print $i; }
  -- (1, 2, 4 tests of 3; 3 turns of 5, and 2 each; 3 steps)
  pub continue_runs_the_last_part : Runs (statements
      (for 1 (assign 1 (place "i") (number 1 0) ∷ []) (Some (operation 1 Less (var 1 "i") (number 1 3)))
      (step 1 IncrementAfter (place "i") ∷ [])
      (block 1 (when 1 (operation 1 Equal (var 1 "i") (number 1 1)) (block 1 (continue 1 ∷ [])) ∷ print 1
      (var 1 "i" ∷ []) ∷ [])) ∷ [])) 100 (codes "0" ∷ codes "2" ∷ []) Done 61
  -- while (true) { break; } print 1;
  pub break_of_while : Runs (statements (while 1 (boolean 1 true) (block 1 (break 1 ∷ [])) ∷ print 1
      (number 1 1 ∷ []) ∷ [])) 100 (codes "1" ∷ []) Done 94
  -- while (1) { while (1) { break; } print 'a'; break; }
  -- (while, test, block; while, test, block, break; 2; 1)
  pub inner_break : Runs (statements (while 1 (number 1 1)
      (block 1 (while 1 (number 1 1) (block 1 (break 1 ∷ [])) ∷ print 1 (text 1 "a" ∷ []) ∷ break 1 ∷ [])) ∷ []))
      100 (codes "a" ∷ []) Done 90
  -- if (0) print 1; elseif ('') print 2; else print 3;
  -- (one unit however many parts)
  pub branches : Runs (statements (if_of 1
      (branch (number 1 0) (print 1 (number 1 1 ∷ [])) ∷ branch (text 1 "") (print 1 (number 1 2 ∷ [])) ∷ [])
      (Some (print 1 (number 1 3 ∷ []))) ∷ [])) 100 (codes "3" ∷ []) Done 95
  -- if (1) print 1; elseif (1) print 2;
  pub first_true_branch : Runs (statements
      (if_of 1 (branch (number 1 1) (print 1 (number 1 1 ∷ [])) ∷ branch (number 1 1)
      (print 1 (number 1 2 ∷ [])) ∷ []) None ∷ [])) 100 (codes "1" ∷ []) Done 96
  -- if (0) print 1; print 2;
  pub no_branch : Runs (statements (when 1 (number 1 0) (print 1 (number 1 1 ∷ [])) ∷ print 1
      (number 1 2 ∷ []) ∷ [])) 100 (codes "2" ∷ []) Done 96
  -- print 1; return; print 2;
  pub return_at_the_top : Runs (statements
      (print 1 (number 1 1 ∷ []) ∷ return_null 1 ∷ print 1 (number 1 2 ∷ []) ∷ [])) 100 (codes "1" ∷ []) Done 97
  -- while (1) { return 1/1; } print 2;
  pub return_from_a_loop : Runs (statements
      (while 1 (number 1 1) (block 1 (return 1 (operation 1 Divide (number 1 1) (number 1 1)) ∷ [])) ∷ print 1
      (number 1 2 ∷ []) ∷ [])) 100 [] Done 93
  -- ; { } ;
  pub empty_statement : Runs (statements (empty 1 ∷ block 1 [] ∷ empty 1 ∷ [])) 100 [] Done 97
  -- $a = [1,2]; foreach ($a as $k, $v) { $a[] = $v; } print $a;
  -- (5, 2, 2 turns of 4, 2)
  pub foreach_over_the_copy : Runs (statements
      (set 1 "a" (list 1 (number 1 1 ∷ number 1 2 ∷ [])) ∷ foreach 1 (var 1 "a") (Some "k") "v"
      (block 1 (do_expr 1 (append 1 (place "a") (var 1 "v")) ∷ [])) ∷ print 1 (var 1 "a" ∷ []) ∷ [])) 100
      (codes "[1,2,1,2]" ∷ []) Done 83
  -- $a = [1, 2]; foreach ($a as $v) { $a = 0; print $v; } print $a;
  -- (5, 2, 2 turns of 6, 2)
  pub foreach_keeps_its_copy : Runs (statements
      (set 1 "a" (list 1 (number 1 1 ∷ number 1 2 ∷ [])) ∷ foreach 1 (var 1 "a") None "v"
      (block 1 (set 1 "a" (number 1 0) ∷ print 1 (var 1 "v" ∷ []) ∷ [])) ∷ print 1 (var 1 "a" ∷ []) ∷ [])) 100
      (codes "1" ∷ codes "2" ∷ codes "0" ∷ []) Done 79
  -- foreach ({a:1, b:2} as $k, $v) { print $k, $v; }
  pub foreach_over_object : Runs (statements
      (foreach 1 (object 1 (entry "a" (number 1 1) ∷ entry "b" (number 1 2) ∷ [])) (Some "k") "v"
      (block 1 (print 1 (var 1 "k" ∷ var 1 "v" ∷ []) ∷ [])) ∷ [])) 100
      (codes "a" ∷ codes "1" ∷ codes "b" ∷ codes "2" ∷ []) Done 88
  -- foreach ([5] as $k, $v) print $k === 0;
  pub keys_are_numbers : Runs (statements (foreach 1 (list 1 (number 1 5 ∷ [])) (Some "k") "v"
      (print 1 (operation 1 Same (var 1 "k") (number 1 0) ∷ [])) ∷ [])) 100 (codes "true" ∷ []) Done 93
  -- foreach (null as $v) { print 1; } print 2;
  pub foreach_over_null : Runs (statements
      (foreach 1 (null 1) None "v" (block 1 (print 1 (number 1 1 ∷ []) ∷ [])) ∷ print 1
      (number 1 2 ∷ []) ∷ [])) 100 (codes "2" ∷ []) Done 96
  -- foreach (1 as $v) { }
  pub foreach_over_number : Runs (statements (foreach 1 (number 1 1) None "v" (block 1 []) ∷ [])) 100 []
      (Fault NotContainer 1) 98
  -- foreach ([7] as $x, $x) print $x;
  pub value_wins : Runs (statements (foreach 1 (list 1 (number 1 7 ∷ [])) (Some "x") "x"
      (print 1 (var 1 "x" ∷ [])) ∷ [])) 100 (codes "7" ∷ []) Done 95
  -- foreach ([5] as $k, $v) { } print $k, $v;
  pub variables_stay : Runs (statements (foreach 1 (list 1 (number 1 5 ∷ [])) (Some "k") "v" (block 1 [])
      ∷ print 1 (var 1 "k" ∷ var 1 "v" ∷ []) ∷ [])) 100 (codes "0" ∷ codes "5" ∷ []) Done 93
  -- foreach ([1, 2] as $v) { if ($v == 1) break; print $v; }
  -- (4; a block, an if, 3 nodes, a break)
  pub foreach_breaks : Runs (statements (foreach 1 (list 1 (number 1 1 ∷ number 1 2 ∷ [])) None "v"
      (block 1 (when 1 (operation 1 Equal (var 1 "v") (number 1 1)) (break 1) ∷ print 1
      (var 1 "v" ∷ []) ∷ [])) ∷ [])) 100 [] Done 90
  -- $a = 1;
  -- print $a,
  -- 1/0;
  -- (the chain begins on line 3, the statement on line 2)
  pub line_of_the_node : Runs (statements (set 1 "a" (number 1 1) ∷ print 2
      (var 2 "a" ∷ operation 3 Divide (number 3 1) (number 3 0) ∷ []) ∷ [])) 100 (codes "1" ∷ [])
      (Fault ZeroDivisor 3) 92
  -- print 1;
  -- foreach (
  -- 1 as $v) { }
  -- (it is the statement that walks)
  pub line_of_the_statement : Runs (statements
      (print 1 (number 1 1 ∷ []) ∷ foreach 2 (number 3 1) None "v" (block 3 []) ∷ [])) 100 (codes "1" ∷ [])
      (Fault NotContainer 2) 96
