use Rattle.std.proofs.Common.{arith}
use Rattle.std.proofs.lemmas.Bool.Decides.{nat_tests}
use Rattle.uq_pager.proofs.Fetching.{held_length}
use Rattle.uq_pager.proofs.Holding.{held_few, held_once}
use Rattle.uq_pager.proofs.pager.Pager.held.Goals as goal

pub overflow_add-held : goal.overflow_add-held
overflow_add-held g c =
    let few = held_few g.D.Disk c.args.self.now c.len.ensures.valid.0 in
    omega (arith, held_length g.D.Disk c.args.self.now, c.len.ensures.len, c.len-2.ensures)

pub prove-unreachable-requires : goal.prove-unreachable-requires
prove-unreachable-requires g c =
    let few = held_few g.D.Disk c.args.self.now c.len.ensures.valid.0 in
    grind (arith, nat_tests, held_length g.D.Disk c.args.self.now, c.len.ensures.len, c.len-2.ensures, few)

pub returns-clause-once : goal.returns-clause-once
returns-clause-once g c = held_once g.D.Disk c.args.self.now c.len.ensures.valid.0
