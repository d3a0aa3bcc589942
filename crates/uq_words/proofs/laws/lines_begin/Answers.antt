use Rattle.uq_words.specs.LinesLaws.{last_alone, last_ends, line_ends, line_first, part_alone, part_goes_on}
use Rattle.uq_words.proofs.laws.lines_begin.Goals as goal

pub returns-clause-line : goal.returns-clause-line
returns-clause-line c = λ most input text most_behind behind is. (line_first most input text most_behind behind is, line_ends most input text most_behind behind is)

pub returns-clause-last : goal.returns-clause-last
returns-clause-last c = λ most input text is. (last_alone most input text is, last_ends most input text is)

pub returns-clause-part : goal.returns-clause-part
returns-clause-part c = λ most input is. (part_alone most input is, part_goes_on most input is)
