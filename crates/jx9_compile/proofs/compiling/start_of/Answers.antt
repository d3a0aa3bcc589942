use Rattle.std.proofs.Common.{refl, ap, ◌∙◌}
use Rattle.jx9_compile.specs.declared.function.Function.{Function}
use Rattle.jx9_compile.proofs.Compiled.{is_start}
use Rattle.jx9_compile.proofs.compiling.start_of.Goals as goal

pub returns : goal.returns
returns c =
    is_start _ _ _ _ _ _ c.new.ensures c.new-2.ensures refl c.in_ok-statements.ensures c.in_ok-put.ensures (ap (λ (f : Function). f.slots) c.of.ensures ∙ c.in_ok-slots.ensures ∙ c.len.ensures)
    (ap (λ (f : Function). f.ops) c.of.ensures)
