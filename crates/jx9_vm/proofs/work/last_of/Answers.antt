use Rattle.std.proofs.Common.{ap, ◌∙◌}
use Rattle.std.specs.Option.{option_or}
use Rattle.jx9_vm.proofs.WorkLemmas.{last_is}
use Rattle.jx9_vm.proofs.work.last_of.Goals as goal

pub returns : goal.returns
returns c =
    c.or.ensures ∙ ap (λ o. option_or o c.args.before) (c.copied.ensures ∙ c.last.ensures.value) ∙ last_is c.args.before c.args.bytes.now
