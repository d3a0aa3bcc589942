use Rattle.std.proofs.Common.{◌≡◌, rules}
use Rattle.uq_json.specs.Quote.{quoted}
use Rattle.uq_json.proofs.Escapes.{quoted_spells}
use Rattle.uq_json.proofs.quoting.quote.Goals as goal

pub returns-clause-spells : goal.returns-clause-spells
returns-clause-spells c =
    let e : c.push_quoted.new.text.items ≡ quoted c.args.bytes.now = search rules in rw e (quoted_spells c.args.bytes.now)
