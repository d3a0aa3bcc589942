use Rattle.uq_value.proofs.Leb.{leb_begins, leb_goes_on}
use Rattle.uq_value.proofs.measuring.leb_size.Goals as goal

pub loop-groups-init : goal.loop-groups-init
loop-groups-init c = leb_begins c.args.n

pub loop-groups-preserved : goal.loop-groups-preserved
loop-groups-preserved c =
    leb_goes_on _ c.loop-groups.groups c.loop-groups.rest c.loop-groups-test.true c.if-rest-lt128.false c.loop-groups.invariant
