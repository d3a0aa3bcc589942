-- Worked codes.
use Rattle.std.specs.Prelude.{pos, negsuc, true, List, [], ◌∷◌, codes, replicate}
use Rattle.uq_value.specs.declared.value.Value.{Value}
use Rattle.jx9_syntax.specs.declared.expression.Binary.TheVariants as binary
use Rattle.jx9_syntax.specs.declared.expression.Change.TheVariants as how
use Rattle.jx9_syntax.specs.declared.expression.Step.TheVariants.{IncrementFirst, DecrementAfter}
use Rattle.jx9_meaning.specs.Meaning.{Done, Fault, Spent}
use Rattle.jx9_meaning.specs.declared.fault.FaultKind.TheVariants.{CallDepth, NotNumber, ZeroDivisor}
use Rattle.jx9_compile.specs.Runs.{Runs, alone, code, function}
use Rattle.jx9_compile.specs.declared.op.Op.{Op}
use Rattle.jx9_compile.specs.declared.op.Op.TheVariants.{Unit as OneUnit, Push, Pop, Copy, Load, Store, Assign, Count, Change, Add, Operate, Not, Join, Jump, JumpUnless, JumpIf, Call, Print, End}

-- takes two units and puts out a number
abbrev pub two_units : List Op
two_units = OneUnit 1 ∷ OneUnit 1 ∷ Push (Value.Int (pos 1)) ∷ Print ∷ End ∷ []

-- $i = 3; while ($i) { print $i; $i = $i + -1; }
abbrev pub counting_down : List Op
counting_down =
    Push (Value.Int (pos 3)) ∷ Store 0 ∷ OneUnit 2 ∷ Load 0 ∷ JumpUnless 11 ∷ Load 0 ∷ Print ∷ Load 0 ∷ Push (Value.Int (negsuc 0))
    ∷ Add 2 ∷ Jump 12 ∷ End ∷ Assign 0 2 ∷ Jump 2 ∷ []

pub record CodeRows : Type 0 where
  pub two_units_are_enough : Runs (alone 0 two_units) 2 (codes "1" ∷ []) Done 0
  pub one_unit_is_too_few : Runs (alone 0 two_units) 1 [] Spent 0
  -- to its own place, which is no `Unit`
  pub endless_jump_is_spent : Runs (alone 0 (Jump 0 ∷ [])) 7 [] Spent 7
  -- back, on a condition, to what is no `Unit`
  pub endless_branch_is_spent : Runs (alone 0 (Push Value.Null ∷ JumpUnless 0 ∷ End ∷ [])) 7 [] Spent 7
  -- back to a `Unit`
  pub endless_loop_takes_all_units : Runs (alone 0 (OneUnit 1 ∷ Jump 0 ∷ [])) 3 [] Spent 0
  -- a slot is null at first
  pub slots_are_null : Runs (alone 1 (Load 0 ∷ Push (Value.Int (pos 2)) ∷ Add 1 ∷ Print ∷ End ∷ [])) 0 (codes "2" ∷ []) Done 0
  pub loop_counts_down : Runs (alone 1 counting_down) 10 (codes "3" ∷ codes "2" ∷ codes "1" ∷ []) Done 6
  -- the left operand stands below the right one
  pub left_is_below : Runs
      (alone 0 (Push (Value.Int (pos 7)) ∷ Push (Value.Int (pos 2)) ∷ Operate binary.Subtract 1 ∷ Print ∷ End ∷ []))
      0 (codes "5" ∷ []) Done 0
  pub fault_has_its_line : Runs
      (alone 0 (Push (Value.Int (pos 7)) ∷ Push Value.Null ∷ Operate binary.Divide 4 ∷ End ∷ [])) 5 [] (Fault ZeroDivisor 4) 5
  -- print ++$i; print $i--; print $i;
  pub counts_before_and_behind : Runs
      (alone 1 (Count 0 IncrementFirst 1 ∷ Print ∷ Count 0 DecrementAfter 1 ∷ Print ∷ Load 0 ∷ Print ∷ End ∷ []))
      0 (codes "1" ∷ codes "1" ∷ codes "0" ∷ []) Done 0
  pub text_has_no_number : Runs
      (alone 1 (Push (Value.Text (codes "a")) ∷ Assign 0 1 ∷ Count 0 IncrementFirst 3 ∷ Print ∷ End ∷ []))
      0 [] (Fault NotNumber 3) 0
  -- $x = 7; print $x -= 2; print $x;
  pub change_writes_its_value : Runs
      (alone 1 (Push (Value.Int (pos 7)) ∷ Assign 0 1 ∷ Push (Value.Int (pos 2)) ∷ Change 0 (how.By binary.Subtract) 1 ∷ Print ∷ Load 0 ∷ Print ∷ End ∷ []))
      0 (codes "5" ∷ codes "5" ∷ []) Done 0
  -- $x = "a"; print $x ..= 1; print $x += 1;
  pub change_has_its_line : Runs
      (alone 1 (Push (Value.Text (codes "a")) ∷ Assign 0 1 ∷ Push (Value.Int (pos 1)) ∷ Change 0 how.Join 2 ∷ Print ∷ Push (Value.Int (pos 1))
      ∷ Change 0 (how.By binary.Add) 3 ∷ Print ∷ End ∷ []))
      0 (codes "a1" ∷ []) (Fault NotNumber 3) 0
  -- a text of 256 bytes is joined for one unit
  pub long_change_takes_a_unit : Runs (alone 1 (Push (Value.Text (replicate 256 97)) ∷ Change 0 how.Join 2 ∷ End ∷ [])) 5 [] Done 4
  pub long_change_is_spent : Runs (alone 1 (Push (Value.Text (replicate 256 97)) ∷ Change 0 how.Join 2 ∷ Print ∷ End ∷ [])) 0 [] Spent 0
  -- the lowest first, of so many
  pub joins_from_the_lowest : Runs
      (alone 0 (Push (Value.Text (codes "x")) ∷ Push (Value.Text (codes "a")) ∷ Push (Value.Int (pos 1)) ∷ Join 2 1 ∷ Print ∷ Print
      ∷ End ∷ []))
      0 (codes "a1" ∷ codes "x" ∷ []) Done 0
  pub jumps_by_truth : Runs
      (alone 0 (Push (Value.Bool true) ∷ Copy ∷ JumpIf 5 ∷ Print ∷ End ∷ Not ∷ JumpUnless 9 ∷ Push Value.Null ∷ End
      ∷ Push (Value.Int (pos 8)) ∷ Push Value.Null ∷ Pop ∷ Print ∷ End ∷ []))
      0 (codes "8" ∷ []) Done 0
  -- arguments from the lowest on: a further one is dropped, a missing one is null, and the value is on the caller's stack
  pub call_gives_a_value : Runs
      (code (function 0 0 (Push (Value.Int (pos 5)) ∷ Push (Value.Int (pos 3)) ∷ Push (Value.Int (pos 9)) ∷ Call 1 3 1 ∷ Print
      ∷ Call 1 0 1 ∷ Print ∷ End ∷ [])
      ∷ function 2 2 (OneUnit 2 ∷ Load 0 ∷ Load 1 ∷ Operate binary.Subtract 2 ∷ End ∷ []) ∷ []))
      5 (codes "2" ∷ codes "0" ∷ []) Done 3
  -- the first op of the function is no `Unit`
  pub call_without_unit_is_spent : Runs
      (code (function 0 0 (Call 1 0 1 ∷ End ∷ []) ∷ function 0 0 (Push Value.Null ∷ End ∷ []) ∷ [])) 5 [] Spent 5
  -- calls itself: 256 calls are active, and the next is too deep
  pub calls_go_256_deep : Runs
      (code (function 0 0 (Call 1 0 1 ∷ End ∷ []) ∷ function 0 0 (OneUnit 2 ∷ Call 1 0 2 ∷ End ∷ []) ∷ []))
      1000 [] (Fault CallDepth 2) 744
