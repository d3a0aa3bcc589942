use Rattle.std.proofs.Common.{◌≡◌, arith, sym, ap, ◌∙◌}
use Rattle.uq_hash.specs.Map.{bytes_in}
use Rattle.uq_pager.specs.PagerLaws.{size_is}
use Rattle.uq_kv.proofs.Databases.{bytes_empty, holds_map, kept, no_keys}
use Rattle.uq_kv.proofs.Telling.{told_present}
use Rattle.uq_kv.proofs.kv.Kv.bytes.Goals as goal

pub returns-then-count-eq0 : goal.returns-then-count-eq0
returns-then-count-eq0 g c = λ s tells.
    let it = c.args.self.now in
    let long = size_is g.D.Disk it.pager tells.pages.present (told_present g.D.Disk it.pager tells.pages tells.told) in
    let none : it.pager.count ≡ 0 = sym c.count.ensures ∙ c.if-count-eq0.true in
    sym (ap bytes_in (no_keys it.header s.present tells.pages.present (omega (arith, long, none)) (kept it.header s.present tells.pages.present tells.present)) ∙ bytes_empty)

pub returns : goal.returns
returns g c = λ s tells.
    let it = c.args.self.now in
    let long = size_is g.D.Disk it.pager tells.pages.present (told_present g.D.Disk it.pager tells.pages tells.told) in
    (holds_map it.header s.present tells.pages.present (omega (arith, long, c.count.ensures)) (kept it.header s.present tells.pages.present tells.present)).sums.bytes
