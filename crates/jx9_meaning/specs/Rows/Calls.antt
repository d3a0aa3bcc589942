-- Scripts with functions.
use Rattle.std.specs.Prelude.{[], ◌∷◌, codes, None}
use Rattle.jx9_syntax.specs.declared.expression.Binary.TheVariants.{Add, Equal, Multiply, Remainder, Same, Subtract}
use Rattle.jx9_meaning.specs.Building.{block, call, do_expr, empty, foreach, function, join, lambda, list, named, null, number, operation, print, return, set, text, var, var_call, when, while}
use Rattle.jx9_meaning.specs.Meaning.{Done, Fault}
use Rattle.jx9_meaning.specs.Runs.{statements, script_of, Runs}
use Rattle.jx9_meaning.specs.declared.fault.FaultKind.TheVariants.{CallDepth, UnknownFunction}

pub record CallRows : Type 0 where
  -- function f($n) { return f($n + 1); } f(0);
  -- (3 and 256 calls of 6)
  pub endless : Runs (script_of (named 1 "f" ("n" ∷ [])
      (return 1 (call 1 "f" (operation 1 Add (var 1 "n") (number 1 1) ∷ [])) ∷ []) ∷ []) []
      (do_expr 1 (call 1 "f" (number 1 0 ∷ [])) ∷ [])) 10000 [] (Fault CallDepth 1) 8461
  -- function f($n) { if ($n == 0) return 0; return f($n - 1); } print f(255);
  -- (3, 255 calls of 10, one of 7)
  pub depth_256 : Runs (script_of (named 1 "f" ("n" ∷ [])
      (when 1 (operation 1 Equal (var 1 "n") (number 1 0)) (return 1 (number 1 0)) ∷ return 1
      (call 1 "f" (operation 1 Subtract (var 1 "n") (number 1 1) ∷ [])) ∷ []) ∷ []) []
      (print 1 (call 1 "f" (number 1 255 ∷ []) ∷ []) ∷ [])) 3000 (codes "0" ∷ []) Done 440
  -- function f($n) { if ($n == 0) return 0; return f($n - 1); } print f(256);
  -- (3, 256 calls of 10)
  pub depth_257 : Runs (script_of (named 1 "f" ("n" ∷ [])
      (when 1 (operation 1 Equal (var 1 "n") (number 1 0)) (return 1 (number 1 0)) ∷ return 1
      (call 1 "f" (operation 1 Subtract (var 1 "n") (number 1 1) ∷ [])) ∷ []) ∷ []) []
      (print 1 (call 1 "f" (number 1 256 ∷ []) ∷ []) ∷ [])) 3000 [] (Fault CallDepth 1) 437
  -- function f($n) { if ($n == 0) return 0; return f($n - 1); } f(255); print f(255);
  -- (twice 2560)
  pub depth_again : Runs (script_of (named 1 "f" ("n" ∷ [])
      (when 1 (operation 1 Equal (var 1 "n") (number 1 0)) (return 1 (number 1 0)) ∷ return 1
      (call 1 "f" (operation 1 Subtract (var 1 "n") (number 1 1) ∷ [])) ∷ []) ∷ []) []
      (do_expr 1 (call 1 "f" (number 1 255 ∷ [])) ∷ print 1 (call 1 "f" (number 1 255 ∷ []) ∷ []) ∷ [])) 6000
      (codes "0" ∷ []) Done 880
  -- function f($a, $b) { return $b; } print f(1), f(1, 2, 3);
  -- (1; 2 and 3; 4 and 3)
  pub missing_and_further : Runs (script_of (named 1 "f" ("a" ∷ "b" ∷ []) (return 1 (var 1 "b") ∷ []) ∷ []) []
      (print 1 (call 1 "f" (number 1 1 ∷ []) ∷ call 1 "f" (number 1 1 ∷ number 1 2 ∷ number 1 3 ∷ []) ∷ []) ∷ []))
      100 ([] ∷ codes "2" ∷ []) Done 87
  -- function f($a, $a) { return $a; } print f(1, 2), f(1);
  -- (1; 3 and 3; 2 and 3)
  pub last_parameter_counts : Runs (script_of (named 1 "f" ("a" ∷ "a" ∷ []) (return 1 (var 1 "a") ∷ []) ∷ []) []
      (print 1 (call 1 "f" (number 1 1 ∷ number 1 2 ∷ []) ∷ call 1 "f" (number 1 1 ∷ []) ∷ []) ∷ [])) 100
      (codes "2" ∷ [] ∷ []) Done 88
  -- $x = 1; function f() { $x = 2; return $x; } print f(), $x;
  -- (3; 1; 1 and 6; 1)
  pub own_variables : Runs (script_of (named 1 "f" []
      (set 1 "x" (number 1 2) ∷ return 1 (var 1 "x") ∷ []) ∷ []) []
      (set 1 "x" (number 1 1) ∷ print 1 (call 1 "f" [] ∷ var 1 "x" ∷ []) ∷ [])) 100
      (codes "2" ∷ codes "1" ∷ []) Done 88
  -- $x = 1; function f() { return $x; } print f();
  -- (3; 2 and 3)
  pub sees_no_variables : Runs (script_of (named 1 "f" [] (return 1 (var 1 "x") ∷ []) ∷ []) []
      (set 1 "x" (number 1 1) ∷ print 1 (call 1 "f" [] ∷ []) ∷ [])) 100 ([] ∷ []) Done 92
  -- function f() { ; } print f() === null;
  pub no_return : Runs (script_of (named 1 "f" [] (empty 1 ∷ []) ∷ []) []
      (print 1 (operation 1 Same (call 1 "f" []) (null 1) ∷ []) ∷ [])) 100 (codes "true" ∷ []) Done 94
  -- function f() { foreach ([1, 2] as $v) { return $v; } } print f();
  pub return_from_foreach : Runs (script_of
      (named 1 "f" [] (foreach 1 (list 1 (number 1 1 ∷ number 1 2 ∷ [])) None "v"
      (block 1 (return 1 (var 1 "v") ∷ [])) ∷ []) ∷ []) [] (print 1 (call 1 "f" [] ∷ []) ∷ [])) 100
      (codes "1" ∷ []) Done 90
  -- function f() { while (1) { return 5; } } print f();
  pub return_from_while : Runs (script_of (named 1 "f" []
      (while 1 (number 1 1) (block 1 (return 1 (number 1 5) ∷ [])) ∷ []) ∷ []) []
      (print 1 (call 1 "f" [] ∷ []) ∷ [])) 100 (codes "5" ∷ []) Done 92
  -- $f = function() { return 7; }; print $f;
  pub name_of_a_lambda : Runs (script_of [] (function 1 [] (return 1 (number 1 7) ∷ []) ∷ [])
      (set 1 "f" (lambda 1 1) ∷ print 1 (var 1 "f" ∷ []) ∷ [])) 100 (codes "[lambda_1]" ∷ []) Done 95
  -- $n = '[lambda_1]'; print $n(); $f = function() { return 7; };
  -- (also before it is evaluated)
  pub lambda_by_name : Runs (script_of [] (function 1 [] (return 1 (number 1 7) ∷ []) ∷ [])
      (set 1 "n" (text 1 "[lambda_1]") ∷ print 1 (var_call 1 "n" [] ∷ []) ∷ set 1 "f" (lambda 1 1) ∷ [])) 100
      (codes "7" ∷ []) Done 89
  -- $n = '[lambda_01]'; $n(); $f = function() { return 7; };
  pub no_lambda : Runs (script_of [] (function 1 [] (return 1 (number 1 7) ∷ []) ∷ [])
      (set 1 "n" (text 1 "[lambda_01]") ∷ do_expr 1 (var_call 1 "n" []) ∷ set 1 "f" (lambda 1 1) ∷ [])) 100 []
      (Fault UnknownFunction 1) 95
  -- $g = 1;
  -- $g();
  pub nobody : Runs (statements (set 1 "g" (number 1 1) ∷ do_expr 2 (var_call 2 "g" []) ∷ [])) 100 []
      (Fault UnknownFunction 2) 95
  -- print array_map(function($x){ return $x * 2; }, [1,2]);
  -- (6; 1, 3, 2; 2 turns of 5 and 5; 2)
  pub maps : Runs (script_of [] (function 1 ("x" ∷ [])
      (return 1 (operation 1 Multiply (var 1 "x") (number 1 2)) ∷ []) ∷ [])
      (print 1 (call 1 "array_map" (lambda 1 1 ∷ list 1 (number 1 1 ∷ number 1 2 ∷ []) ∷ []) ∷ []) ∷ [])) 100
      (codes "[2,4]" ∷ []) Done 66
  -- print array_filter([1, 2, 3], function($x) { return $x % 2; });
  -- (7; 1, 3, 2; 3 turns of 4 and 5; twice 4; 2)
  pub filters : Runs (script_of [] (function 1 ("x" ∷ [])
      (return 1 (operation 1 Remainder (var 1 "x") (number 1 2)) ∷ []) ∷ [])
      (print 1 (call 1 "array_filter" (list 1 (number 1 1 ∷ number 1 2 ∷ number 1 3 ∷ [])
      ∷ lambda 1 1 ∷ []) ∷ []) ∷ [])) 100 (codes "[1,3]" ∷ []) Done 50
  -- print array_reduce([1, 2, 3], function($a, $b) { return $a + $b; }, 0);
  -- (8; 1, 2; 3 turns of 6 and 5; 2)
  pub reduces : Runs (script_of [] (function 1 ("a" ∷ "b" ∷ [])
      (return 1 (operation 1 Add (var 1 "a") (var 1 "b")) ∷ []) ∷ [])
      (print 1 (call 1 "array_reduce" (list 1 (number 1 1 ∷ number 1 2 ∷ number 1 3 ∷ []) ∷ lambda 1 1
      ∷ number 1 0 ∷ []) ∷ []) ∷ [])) 100 (codes "6" ∷ []) Done 54
  -- array_map('nobody', [1]);
  -- (5; 1, 3, 2; 5)
  pub lines_of_the_prelude : Runs (statements
      (do_expr 1 (call 1 "array_map" (text 1 "nobody" ∷ list 1 (number 1 1 ∷ []) ∷ [])) ∷ [])) 100 []
      (Fault UnknownFunction 0) 84
  -- $h = function($g, $n) { return $g($g, $n + 1); }; $h($h, 0);
  -- (3; 4; 256 calls of 7)
  pub lambda_counts_for_depth : Runs (script_of []
      (function 1 ("g" ∷ "n" ∷ []) (return 1
      (var_call 1 "g" (var 1 "g" ∷ operation 1 Add (var 1 "n") (number 1 1) ∷ [])) ∷ []) ∷ [])
      (set 1 "h" (lambda 1 1) ∷ do_expr 1 (var_call 1 "h" (var 1 "h" ∷ number 1 0 ∷ [])) ∷ [])) 10000 []
      (Fault CallDepth 1) 8201
  -- function twice($f, $x) { return $f($f($x)); } print twice(function($x) { return $x .. '!'; }, 'a');
  -- (4; 5; twice 5)
  pub lambda_as_value : Runs (script_of (named 1 "twice" ("f" ∷ "x" ∷ [])
      (return 1 (var_call 1 "f" (var_call 1 "f" (var 1 "x" ∷ []) ∷ [])) ∷ []) ∷ [])
      (function 1 ("x" ∷ []) (return 1 (join 1 (var 1 "x" ∷ text 1 "!" ∷ [])) ∷ []) ∷ [])
      (print 1 (call 1 "twice" (lambda 1 1 ∷ text 1 "a" ∷ []) ∷ []) ∷ [])) 100 (codes "a!!" ∷ []) Done 81
