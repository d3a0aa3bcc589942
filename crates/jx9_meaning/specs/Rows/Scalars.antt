-- Scripts on scalars.
use Rattle.std.specs.Prelude.{[], ◌∷◌, codes, true, false}
use Rattle.jx9_syntax.specs.declared.expression.Binary.TheVariants.{Add, Divide, Equal, Greater, GreaterOrEqual, Less, LessOrEqual, Multiply, NotEqual, NotSame, Remainder, Same, Subtract}
use Rattle.jx9_syntax.specs.declared.expression.Change.TheVariants.{By, Join}
use Rattle.jx9_syntax.specs.declared.expression.Step.TheVariants.{IncrementAfter}
use Rattle.jx9_meaning.specs.Building.{block, boolean, change, do_expr, entry, group, join, list, negate, not_of, null, number, object, operation, place, print, set, step, text, var, while}
use Rattle.jx9_meaning.specs.Meaning.{Done, Fault, Spent}
use Rattle.jx9_meaning.specs.Runs.{statements, Runs}
use Rattle.jx9_meaning.specs.declared.fault.FaultKind.TheVariants.{NotNumber, Overflow, ZeroDivisor}

pub record ScalarRows : Type 0 where
  -- print -7 / 2, ' ', -7 % 2;
  -- (1 statement; 4, 1 and 4 nodes)
  pub quotient_and_remainder : Runs (statements
      (print 1 (operation 1 Divide (negate 1 (number 1 7)) (number 1 2) ∷ text 1 " " ∷ operation 1 Remainder
      (negate 1 (number 1 7)) (number 1 2) ∷ []) ∷ [])) 100 (codes "-3" ∷ codes " " ∷ codes "-1" ∷ []) Done 90
  -- print 9223372036854775807 + 1;
  pub overflow : Runs (statements (print 1
      (operation 1 Add (number 1 9223372036854775807) (number 1 1) ∷ []) ∷ [])) 100 [] (Fault Overflow 1) 96
  -- print (-9223372036854775807 - 1) / -1;
  -- (1 statement; chain, group, chain, 2 minus, 3 numbers)
  pub least_by_minus_one : Runs (statements
      (print 1 (operation 1 Divide (group 1 (operation 1 Subtract (negate 1 (number 1 9223372036854775807))
      (number 1 1))) (negate 1 (number 1 1)) ∷ []) ∷ [])) 100 [] (Fault Overflow 1) 91
  -- print (-9223372036854775807 - 1) % -1;
  pub least_remainder : Runs (statements (print 1
      (operation 1 Remainder (group 1 (operation 1 Subtract (negate 1 (number 1 9223372036854775807))
      (number 1 1))) (negate 1 (number 1 1)) ∷ []) ∷ [])) 100 (codes "0" ∷ []) Done 91
  -- print -(-9223372036854775807 - 1);
  pub least_negated : Runs (statements (print 1
      (negate 1 (group 1 (operation 1 Subtract (negate 1 (number 1 9223372036854775807))
      (number 1 1))) ∷ []) ∷ [])) 100 [] (Fault Overflow 1) 93
  -- print 1;
  -- (the number finds no unit)
  pub one_unit : Runs (statements (print 1 (number 1 1 ∷ []) ∷ [])) 1 [] Spent 0
  -- print 1;
  pub two_units : Runs (statements (print 1 (number 1 1 ∷ []) ∷ [])) 2 (codes "1" ∷ []) Done 0
  -- $i = 0; while ($i < 3) { $i++; } print $i;
  -- (3; while 1, 4 tests of 3, 3 turns of a block, a statement and a step; 2)
  pub counts_with_27 : Runs (statements (set 1 "i" (number 1 0) ∷ while 1
      (operation 1 Less (var 1 "i") (number 1 3)) (block 1 (do_expr 1 (step 1 IncrementAfter (place "i")) ∷ []))
      ∷ print 1 (var 1 "i" ∷ []) ∷ [])) 27 (codes "3" ∷ []) Done 0
  -- $i = 0; while ($i < 3) { $i++; } print $i;
  pub counts_with_26 : Runs (statements (set 1 "i" (number 1 0) ∷ while 1
      (operation 1 Less (var 1 "i") (number 1 3)) (block 1 (do_expr 1 (step 1 IncrementAfter (place "i")) ∷ []))
      ∷ print 1 (var 1 "i" ∷ []) ∷ [])) 26 [] Spent 0
  -- print 1, 1/0;
  pub prints_before_a_fault : Runs (statements
      (print 1 (number 1 1 ∷ operation 1 Divide (number 1 1) (number 1 0) ∷ []) ∷ [])) 100 (codes "1" ∷ [])
      (Fault ZeroDivisor 1) 95
  -- print 1, 2;
  -- (what was put out stays)
  pub spent_between : Runs (statements (print 1 (number 1 1 ∷ number 1 2 ∷ []) ∷ [])) 2 (codes "1" ∷ []) Spent 0
  -- print null == false, 0 == '0', '1' == 1, '1' == '01', [] == [], 1 == true, 'a' == 0, '01' == 1, 1 != '1', 1 != 2;
  -- (10 chains of 3 nodes)
  pub loose : Runs (statements (print 1 (operation 1 Equal (null 1) (boolean 1 false) ∷ operation 1 Equal
      (number 1 0) (text 1 "0") ∷ operation 1 Equal (text 1 "1") (number 1 1) ∷ operation 1 Equal (text 1 "1")
      (text 1 "01") ∷ operation 1 Equal (list 1 []) (list 1 []) ∷ operation 1 Equal (number 1 1) (boolean 1 true)
      ∷ operation 1 Equal (text 1 "a") (number 1 0) ∷ operation 1 Equal (text 1 "01") (number 1 1)
      ∷ operation 1 NotEqual (number 1 1) (text 1 "1") ∷ operation 1 NotEqual (number 1 1)
      (number 1 2) ∷ []) ∷ [])) 100 (codes "true" ∷ codes "true" ∷ codes "true" ∷ codes "false" ∷ codes "true"
      ∷ codes "true" ∷ codes "false" ∷ codes "true" ∷ codes "false" ∷ codes "true" ∷ []) Done 69
  -- print 1 === '1', [1] === [1], {a:1, b:2} === {b:2, a:1}, 1 !== '1';
  -- (3, 5, 7 and 3 nodes)
  pub strict : Runs (statements (print 1 (operation 1 Same (number 1 1) (text 1 "1") ∷ operation 1 Same
      (list 1 (number 1 1 ∷ [])) (list 1 (number 1 1 ∷ [])) ∷ operation 1 Same
      (object 1 (entry "a" (number 1 1) ∷ entry "b" (number 1 2) ∷ []))
      (object 1 (entry "b" (number 1 2) ∷ entry "a" (number 1 1) ∷ [])) ∷ operation 1 NotSame (number 1 1)
      (text 1 "1") ∷ []) ∷ [])) 100 (codes "false" ∷ codes "true" ∷ codes "false" ∷ codes "true" ∷ []) Done 81
  -- print 'a' < 'b', '10' < '9', '10' < 9, null < 1, 2 >= 2, 2 > 2, 2 <= 2, 3 <= 2, 3 > 2, 1 >= 2;
  -- (two texts by their bytes, all else by numbers)
  pub order : Runs (statements (print 1 (operation 1 Less (text 1 "a") (text 1 "b") ∷ operation 1 Less
      (text 1 "10") (text 1 "9") ∷ operation 1 Less (text 1 "10") (number 1 9) ∷ operation 1 Less (null 1)
      (number 1 1) ∷ operation 1 GreaterOrEqual (number 1 2) (number 1 2) ∷ operation 1 Greater (number 1 2)
      (number 1 2) ∷ operation 1 LessOrEqual (number 1 2) (number 1 2) ∷ operation 1 LessOrEqual (number 1 3)
      (number 1 2) ∷ operation 1 Greater (number 1 3) (number 1 2) ∷ operation 1 GreaterOrEqual (number 1 1)
      (number 1 2) ∷ []) ∷ [])) 100 (codes "true" ∷ codes "true" ∷ codes "false" ∷ codes "true" ∷ codes "true"
      ∷ codes "false" ∷ codes "true" ∷ codes "false" ∷ codes "true" ∷ codes "false" ∷ []) Done 69
  -- print [] < 1;
  pub no_order : Runs (statements (print 1 (operation 1 Less (list 1 []) (number 1 1) ∷ []) ∷ [])) 100 []
      (Fault NotNumber 1) 96
  -- print 1 + '1x';
  pub no_number : Runs (statements (print 1 (operation 1 Add (number 1 1) (text 1 "1x") ∷ []) ∷ [])) 100 []
      (Fault NotNumber 1) 96
  -- print 1 % 0;
  pub remainder_by_zero : Runs (statements
      (print 1 (operation 1 Remainder (number 1 1) (number 1 0) ∷ []) ∷ [])) 100 [] (Fault ZeroDivisor 1) 96
  -- print 'x' / 0;
  pub number_before_zero : Runs (statements
      (print 1 (operation 1 Divide (text 1 "x") (number 1 0) ∷ []) ∷ [])) 100 [] (Fault NotNumber 1) 96
  -- print 1 .. true .. null .. [1];
  pub joined_texts : Runs (statements (print 1
      (join 1 (number 1 1 ∷ boolean 1 true ∷ null 1 ∷ list 1 (number 1 1 ∷ []) ∷ []) ∷ []) ∷ [])) 100
      (codes "1true[1]" ∷ []) Done 93
  -- print '007' + true, null - '-3';
  pub number_of_text : Runs (statements (print 1
      (operation 1 Add (text 1 "007") (boolean 1 true) ∷ operation 1 Subtract (null 1) (text 1 "-3") ∷ []) ∷ []))
      100 (codes "8" ∷ codes "3" ∷ []) Done 93
  -- print !0, !'0', !'', ![0];
  -- (2, 2, 2 and 3 nodes)
  pub truth : Runs (statements (print 1 (not_of 1 (number 1 0) ∷ not_of 1 (text 1 "0") ∷ not_of 1 (text 1 "")
      ∷ not_of 1 (list 1 (number 1 0 ∷ [])) ∷ []) ∷ [])) 100
      (codes "true" ∷ codes "false" ∷ codes "true" ∷ codes "false" ∷ []) Done 90
  -- print true, null, [1, 'a', null, {}];
  -- (an empty text is put out all the same)
  pub texts : Runs (statements (print 1 (boolean 1 true ∷ null 1 ∷ list 1
      (number 1 1 ∷ text 1 "a" ∷ null 1 ∷ object 1 [] ∷ []) ∷ []) ∷ [])) 100
      (codes "true" ∷ [] ∷ codes "[1,\"a\",null,{}]" ∷ []) Done 92
  -- $x = 7; $x %= 4; $x *= 5; $x ..= 'a'; print $x;
  pub changes : Runs (statements (set 1 "x" (number 1 7) ∷ do_expr 1
      (change 1 (place "x") (By Remainder) (number 1 4)) ∷ do_expr 1
      (change 1 (place "x") (By Multiply) (number 1 5)) ∷ do_expr 1 (change 1 (place "x") Join (text 1 "a"))
      ∷ print 1 (var 1 "x" ∷ []) ∷ [])) 100 (codes "15a" ∷ []) Done 86
