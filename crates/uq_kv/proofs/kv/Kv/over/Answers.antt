use Rattle.std.proofs.Common.{refl, ap, sym, ◌∙◌}
use Rattle.std.specs.Option.{option_map}
use Rattle.uq_pager.specs.Opening.{just_opened}
use Rattle.uq_kv.proofs.kv.Kv.over.Goals as goal

pub returns-clause-told : goal.returns-clause-told
returns-clause-told g c = λ stored finds. record {
  unclosed = refl;
  pages = just_opened finds.pages;
  told = c.over.ensures.told ∙ ap (option_map just_opened) finds.told;
  saved = finds.database;
  present = finds.database;
  begun = sym c.over.ensures.begun;
  idle = λ _. refl;
}
