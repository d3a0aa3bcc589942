use Rattle.std.proofs.Common.{Ok, refl, ap, sym, subst, ◌∙◌}
use Rattle.std.specs.Option.{option_map}
use Rattle.uq_pager.specs.Paged.{committed}
use Rattle.uq_kv.specs.Kv.{Tells}
use Rattle.uq_kv.proofs.Sessions.{committed_is}
use Rattle.uq_kv.proofs.kv.Kv.commit.Goals as goal

pub returns-in-Ok-clause-does : goal.returns-in-Ok-clause-does
returns-in-Ok-clause-does g c = λ s tells answered. (
  ap Ok (c.in-Ok.ensures.whether ∙ sym tells.begun),
  subst (Tells g.D.Disk _) (sym (committed_is s tells.idle)) (record {
    unclosed = tells.unclosed;
    pages = committed tells.pages;
    told = c.in-Ok.ensures.told ∙ ap (option_map committed) tells.told;
    saved = tells.present;
    present = tells.present;
    begun = sym c.in-Ok.ensures.begun;
    idle = λ _. refl;
  }),
)
