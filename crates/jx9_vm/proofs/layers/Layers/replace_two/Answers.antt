use Rattle.std.proofs.Common.{◌≡◌, ◌+◌, ◌-◌, ◌≤◌, ◌∷◌, ◌∙◌, ap, arith, drop, length, reverse, take}
use Rattle.std.specs.Prelude.{slice_set}
use Rattle.std.proofs.lemmas.List.{length-drop}
use Rattle.jx9_compile.specs.Machine.{below}
use Rattle.jx9_vm.specs.Layered.{Layered}
use Rattle.jx9_vm.specs.Operating.{value_of}
use Rattle.jx9_vm.proofs.LayerLemmas.{below_two, over_two}
use Rattle.jx9_vm.proofs.layers.Layers.replace_two.Goals as goal

pub returns-clause-here : goal.returns-clause-here
returns-clause-here c =
    let xs = c.self.inside.values.items in
    let place = c.len-place.result - 2 in
    let v = value_of c.args.plain in
    let here : length (drop c.self.inside.floor xs) ≡ length c.args.self.now.here = ap (λ (l : Layered). length l.here) c.self.view_is in
    let dropped = length-drop c.self.inside.floor xs in
    let asked : 2 ≤ length c.args.self.now.here = c.requires in
    ap (λ x. reverse (drop c.self.inside.floor (slice_set c.drop_last.new.values.items place x))) c.write_plain.ensures
    ∙ ap (λ ys. reverse (drop c.self.inside.floor (slice_set ys place v))) (c.drop_last.ensures.items ∙ ap (λ n. take n xs) (let e : length xs - 1 ≡ place + 1 = omega (arith, here, dropped, asked) in e))
    ∙ over_two c.self.inside.floor place xs v (omega (arith, here, dropped, asked)) (omega (arith, here, dropped, asked))
    ∙ ap (λ vs. v ∷ vs) (below_two (reverse (drop c.self.inside.floor xs)))
    ∙ ap (λ (l : Layered). v ∷ below (below (reverse l.here))) c.self.view_is
