use Rattle.uq_words.specs.BlocksLaws.{block_ends, block_first, block_part_alone, block_part_goes_on, last_block_alone, last_block_ends, unfinished_alone, unfinished_ends}
use Rattle.uq_words.proofs.laws.blocks_begin.Goals as goal

pub returns-clause-closed : goal.returns-clause-closed
returns-clause-closed c = λ most input text most_behind behind is. (block_first most input text most_behind behind is, block_ends most input text most_behind behind is)

pub returns-clause-last : goal.returns-clause-last
returns-clause-last c = λ most input text is. (last_block_alone most input text is, last_block_ends most input text is)

pub returns-clause-unfinished : goal.returns-clause-unfinished
returns-clause-unfinished c = λ most input is. (unfinished_alone most input is, unfinished_ends most input is)

pub returns-clause-part : goal.returns-clause-part
returns-clause-part c = λ most input is. (block_part_alone most input is, block_part_goes_on most input is)
