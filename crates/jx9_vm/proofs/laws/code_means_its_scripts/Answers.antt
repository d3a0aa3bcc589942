use Rattle.std.proofs.Common.{Some, ap, ◌∙◌}
use Rattle.jx9_vm.proofs.laws.code_means_its_scripts.Goals as goal

pub returns : goal.returns
returns c = λ p behaves w ended runs.
    let well = c.every_script_ends.ensures p w in
    well.is_script ∙ ap (λ e. Some e) (c.code_ends_once.ensures w well.ended ended (behaves w well.ended well.is_script) runs)
