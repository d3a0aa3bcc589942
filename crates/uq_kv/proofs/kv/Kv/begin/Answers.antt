use Rattle.std.proofs.Common.{refl, ap, sym, ◌∙◌}
use Rattle.std.specs.Option.{option_map}
use Rattle.uq_pager.specs.Paged.{begun}
use Rattle.uq_kv.proofs.Stops.{saved_kept}
use Rattle.uq_kv.proofs.kv.Kv.begin.Goals as goal

pub returns-clause-does : goal.returns-clause-does
returns-clause-does g c = λ s tells answered. (
  refl,
  record {
    unclosed = tells.unclosed;
    pages = begun tells.pages;
    told = c.begin.ensures.told ∙ ap (option_map begun) tells.told;
    saved = tells.saved;
    present = tells.present;
    begun = sym c.begin.ensures.begun;
    idle = λ never. absurd (cc);
  },
)

pub returns-clause-stop : goal.returns-clause-stop
returns-clause-stop g c = λ s tells. saved_kept g.D.Disk c.args.self.now s tells c.begin.new.self.disk c.begin.ensures.keeps.disk
