-- The prelude: functions that are written in the language. Their nodes have line 0.
use Rattle.std.specs.Prelude.{List, [], ◌∷◌, None}
use Prim.Native.String.{String}
use Rattle.jx9_syntax.specs.declared.expression.Expr.{Expr}
use Rattle.jx9_syntax.specs.declared.program.Named.{Named}
use Rattle.jx9_syntax.specs.declared.statement.Statement.{Statement}
use Rattle.jx9_meaning.specs.Building.{place}
use Rattle.jx9_meaning.specs.Building as building

abbrev var : String → Expr
var name = building.var 0 name

-- `$out[] = e;`
abbrev keep : Expr → Statement
keep e = building.do_expr 0 (building.append 0 (place "out") e)

-- function array_map($f, $list) {
--   $out = []; foreach ($list as $v) { $out[] = $f($v); } return $out; }
abbrev pub array_map : Named
array_map = building.named 0 "array_map" ("f" ∷ "list" ∷ []) (
    building.set 0 "out" (building.list 0 [])
    ∷ building.foreach 0 (var "list") None "v" (
    building.block 0 (keep (building.var_call 0 "f" (var "v" ∷ [])) ∷ []))
    ∷ building.return 0 (var "out") ∷ [])

-- function array_filter($list, $f) {
--   $out = []; foreach ($list as $v) { if ($f($v)) { $out[] = $v; } } return $out; }
abbrev pub array_filter : Named
array_filter = building.named 0 "array_filter" ("list" ∷ "f" ∷ []) (
    building.set 0 "out" (building.list 0 [])
    ∷ building.foreach 0 (var "list") None "v" (building.block 0 (
    building.when 0 (building.var_call 0 "f" (var "v" ∷ [])) (building.block 0 (keep (var "v") ∷ [])) ∷ []))
    ∷ building.return 0 (var "out") ∷ [])

-- function array_reduce($list, $f, $sum) {
--   foreach ($list as $v) { $sum = $f($sum, $v); } return $sum; }
abbrev pub array_reduce : Named
array_reduce = building.named 0 "array_reduce" ("list" ∷ "f" ∷ "sum" ∷ []) (
    building.foreach 0 (var "list") None "v" (building.block 0 (
    building.set 0 "sum" (building.var_call 0 "f" (var "sum" ∷ var "v" ∷ [])) ∷ []))
    ∷ building.return 0 (var "sum") ∷ [])

abbrev pub prelude : List Named
prelude = array_map ∷ array_filter ∷ array_reduce ∷ []
