use Rattle.uq_value.specs.Plain.{plain}
use Rattle.uq_codec.proofs.Determined.{spelling_same}
use Rattle.uq_value.specs.Laws.Levels.{plain_one}
use Rattle.uq_codec.proofs.laws.none_begins.Goals as goal

pub returns : goal.returns
returns c a b x y u v is also e =
    let same = spelling_same (plain u) (plain v) a b x y is.spells also.spells e in (same.word, plain_one u v same.value)
