-- Scripts on lists, objects and places.
use Rattle.std.specs.Prelude.{[], ◌∷◌, codes, Some, true}
use Rattle.jx9_syntax.specs.declared.expression.Binary.TheVariants.{Less}
use Rattle.jx9_syntax.specs.declared.expression.Step.TheVariants.{IncrementAfter}
use Rattle.jx9_meaning.specs.Building.{append, assign, block, boolean, do_expr, entry, for, index, list, member, negate, number, object, operation, path, path_of, place, place_at, print, set, step, text, var}
use Rattle.jx9_meaning.specs.Meaning.{Done, Fault}
use Rattle.jx9_meaning.specs.Runs.{statements, Runs}
use Rattle.jx9_meaning.specs.declared.fault.FaultKind.TheVariants.{IndexRange, NotContainer, TooDeep}

pub record PlaceRows : Type 0 where
  -- $a = [1]; $b = $a; $b[] = 2; print $a, $b;
  pub copies_apart : Runs (statements (set 1 "a" (list 1 (number 1 1 ∷ [])) ∷ set 1 "b" (var 1 "a") ∷ do_expr 1
      (append 1 (place "b") (number 1 2)) ∷ print 1 (var 1 "a" ∷ var 1 "b" ∷ []) ∷ [])) 100
      (codes "[1]" ∷ codes "[1,2]" ∷ []) Done 87
  -- $a = {b:[1]}; $c = $a; $c.b[0] = 2; print $a, $c;
  -- (5, 3, 4, 3)
  pub copies_apart_within : Runs (statements
      (set 1 "a" (object 1 (entry "b" (list 1 (number 1 1 ∷ [])) ∷ [])) ∷ set 1 "c" (var 1 "a") ∷ do_expr 1
      (assign 1 (place_at "c" (member "b" ∷ index (number 1 0) ∷ [])) (number 1 2)) ∷ print 1
      (var 1 "a" ∷ var 1 "c" ∷ []) ∷ [])) 100 (codes "{\"b\":[1]}" ∷ codes "{\"b\":[2]}" ∷ []) Done 85
  -- print $a[0];
  pub nothing_there : Runs (statements (print 1 (path 1 "a" (index (number 1 0) ∷ []) ∷ []) ∷ [])) 100
      ([] ∷ []) Done 97
  -- $o = {a:[1, 2]}; print $o.a[1], $o['a'], $o.b.c, $o.a[2], $o.a[-1];
  -- (6, 1, and 2, 2, 1, 2, 3 nodes)
  pub reads : Runs (statements (set 1 "o" (object 1 (entry "a" (list 1 (number 1 1 ∷ number 1 2 ∷ [])) ∷ []))
      ∷ print 1 (path 1 "o" (member "a" ∷ index (number 1 1) ∷ []) ∷ path 1 "o" (index (text 1 "a") ∷ [])
      ∷ path 1 "o" (member "b" ∷ member "c" ∷ []) ∷ path 1 "o" (member "a" ∷ index (number 1 2) ∷ []) ∷ path 1 "o"
      (member "a" ∷ index (negate 1 (number 1 1)) ∷ []) ∷ []) ∷ [])) 100
      (codes "2" ∷ codes "[1,2]" ∷ [] ∷ [] ∷ [] ∷ []) Done 83
  -- $o = {'7':1}; print $o[7]; $o[7] = 2; print $o;
  -- (4, 3, 4, 2)
  pub number_as_name : Runs (statements (set 1 "o" (object 1 (entry "7" (number 1 1) ∷ [])) ∷ print 1
      (path 1 "o" (index (number 1 7) ∷ []) ∷ []) ∷ do_expr 1
      (assign 1 (place_at "o" (index (number 1 7) ∷ [])) (number 1 2)) ∷ print 1 (var 1 "o" ∷ []) ∷ [])) 100
      (codes "1" ∷ codes "{\"7\":2}" ∷ []) Done 87
  -- print [5, 6][1], {a:1}.a;
  -- (the path takes a unit of its own, each step none)
  pub steps_of_a_literal : Runs (statements
      (print 1 (path_of 1 (list 1 (number 1 5 ∷ number 1 6 ∷ [])) (index (number 1 1) ∷ []) ∷ path_of 1
      (object 1 (entry "a" (number 1 1) ∷ [])) (member "a" ∷ []) ∷ []) ∷ [])) 100
      (codes "6" ∷ codes "1" ∷ []) Done 91
  -- $t = 'abc'; print $t[0];
  pub no_bytes_of_a_text : Runs (statements
      (set 1 "t" (text 1 "abc") ∷ print 1 (path 1 "t" (index (number 1 0) ∷ []) ∷ []) ∷ [])) 100 ([] ∷ []) Done 94
  -- print {a:1, b:2, a:3};
  pub repeated_member : Runs (statements (print 1
      (object 1 (entry "a" (number 1 1) ∷ entry "b" (number 1 2) ∷ entry "a" (number 1 3) ∷ []) ∷ []) ∷ [])) 100
      (codes "{\"a\":3,\"b\":2}" ∷ []) Done 95
  -- $a[0] = 1; $a[1] = 2; $a[] = 3; $b.x.y = 1; $c['k'] = 1; print $a, $b, $c;
  -- (4, 4, 3, 3, 4, 4)
  pub makes_containers : Runs (statements (do_expr 1
      (assign 1 (place_at "a" (index (number 1 0) ∷ [])) (number 1 1)) ∷ do_expr 1
      (assign 1 (place_at "a" (index (number 1 1) ∷ [])) (number 1 2)) ∷ do_expr 1
      (append 1 (place "a") (number 1 3)) ∷ do_expr 1
      (assign 1 (place_at "b" (member "x" ∷ member "y" ∷ [])) (number 1 1)) ∷ do_expr 1
      (assign 1 (place_at "c" (index (text 1 "k") ∷ [])) (number 1 1)) ∷ print 1
      (var 1 "a" ∷ var 1 "b" ∷ var 1 "c" ∷ []) ∷ [])) 100
      (codes "[1,2,3]" ∷ codes "{\"x\":{\"y\":1}}" ∷ codes "{\"k\":1}" ∷ []) Done 78
  -- $a.b[] = 1; print $a;
  pub appends_within : Runs (statements (do_expr 1 (append 1 (place_at "a" (member "b" ∷ [])) (number 1 1))
      ∷ print 1 (var 1 "a" ∷ []) ∷ [])) 100 (codes "{\"b\":[1]}" ∷ []) Done 95
  -- $a = 1; $a.b = 2;
  pub member_of_a_number : Runs (statements
      (set 1 "a" (number 1 1) ∷ do_expr 1 (assign 1 (place_at "a" (member "b" ∷ [])) (number 1 2)) ∷ [])) 100 []
      (Fault NotContainer 1) 94
  -- $x = 5; $x[] = 1;
  pub append_to_a_number : Runs (statements
      (set 1 "x" (number 1 5) ∷ do_expr 1 (append 1 (place "x") (number 1 1)) ∷ [])) 100 []
      (Fault NotContainer 1) 94
  -- $a = [1]; $a[2] = 1;
  pub behind_the_end : Runs (statements (set 1 "a" (list 1 (number 1 1 ∷ [])) ∷ do_expr 1
      (assign 1 (place_at "a" (index (number 1 2) ∷ [])) (number 1 1)) ∷ [])) 100 [] (Fault IndexRange 1) 92
  -- $a = [1]; $a['x'] = 1;
  pub text_in_a_list : Runs (statements (set 1 "a" (list 1 (number 1 1 ∷ [])) ∷ do_expr 1
      (assign 1 (place_at "a" (index (text 1 "x") ∷ [])) (number 1 1)) ∷ [])) 100 [] (Fault IndexRange 1) 92
  -- $a[1] = 1;
  pub behind_the_end_of_nothing : Runs (statements
      (do_expr 1 (assign 1 (place_at "a" (index (number 1 1) ∷ [])) (number 1 1)) ∷ [])) 100 []
      (Fault IndexRange 1) 96
  -- $a[true] = 1;
  pub boolean_into_null : Runs (statements
      (do_expr 1 (assign 1 (place_at "a" (index (boolean 1 true) ∷ [])) (number 1 1)) ∷ [])) 100 []
      (Fault NotContainer 1) 96
  -- $o = {}; $o[true] = 1;
  pub boolean_into_object : Runs (statements
      (set 1 "o" (object 1 []) ∷ do_expr 1 (assign 1 (place_at "o" (index (boolean 1 true) ∷ []))
      (number 1 1)) ∷ [])) 100 [] (Fault NotContainer 1) 93
  -- $a = 1; for ($i = 0; $i < 129; $i++) { $a = [$a]; }
  -- (3, 3; 128 turns of 9; 8; 5 lists of 257 bytes and more)
  pub too_deep : Runs (statements (set 1 "a" (number 1 1) ∷ for 1 (assign 1 (place "i") (number 1 0) ∷ [])
      (Some (operation 1 Less (var 1 "i") (number 1 129))) (step 1 IncrementAfter (place "i") ∷ [])
      (block 1 (set 1 "a" (list 1 (var 1 "a" ∷ [])) ∷ [])) ∷ [])) 2000 [] (Fault TooDeep 1) 829
