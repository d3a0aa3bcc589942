use Rattle.std.proofs.Common.{◌≡◌, ℕ, List, arith, sym, ap, ◌∙◌}
use Rattle.std.specs.Ordering.{nat_cmp}
use Rattle.std.specs.Cmp.Lexicographic.{slice_cmp}
use Rattle.std.specs.FinMap.{len, len-empty}
use Rattle.uq_pager.specs.PagerLaws.{size_is}
use Rattle.uq_kv.proofs.Databases.{holds_map, kept, no_keys}
use Rattle.uq_kv.proofs.Telling.{told_present}
use Rattle.uq_kv.proofs.kv.Kv.entries.Goals as goal

pub returns-then-count-eq0 : goal.returns-then-count-eq0
returns-then-count-eq0 g c = λ s tells.
    let it = c.args.self.now in
    let long = size_is g.D.Disk it.pager tells.pages.present (told_present g.D.Disk it.pager tells.pages tells.told) in
    let none : it.pager.count ≡ 0 = sym c.count.ensures ∙ c.if-count-eq0.true in
    sym (ap len (no_keys it.header s.present tells.pages.present (omega (arith, long, none)) (kept it.header s.present tells.pages.present tells.present)) ∙ len-empty (slice_cmp nat_cmp) (List ℕ))

pub returns : goal.returns
returns g c = λ s tells.
    let it = c.args.self.now in
    let long = size_is g.D.Disk it.pager tells.pages.present (told_present g.D.Disk it.pager tells.pages tells.told) in
    (holds_map it.header s.present tells.pages.present (omega (arith, long, c.count.ensures)) (kept it.header s.present tells.pages.present tells.present)).sums.keys
