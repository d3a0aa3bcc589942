use Rattle.std.proofs.Common.{◌+◌, drop, ap, ◌∙◌}
use Rattle.std.proofs.lemmas.List.{take_rest}
use Rattle.std.specs.List.{position_or_len}
use Rattle.uq_words.specs.Lines.{is_feed}
use Rattle.uq_words.proofs.Advancing.{end_is}
use Rattle.uq_words.proofs.lines.Lines.line_end.Goals as goal

pub returns-clause-place : goal.returns-clause-place
returns-clause-place c =
    end_is c.args.self.now.bytes.items c.args.begins c.args.searched c.line_len.result c.requires.within c.requires.none
    (c.line_len.ensures.place
    ∙ ap (position_or_len is_feed) (take_rest c.deref.result.now (c.args.begins + c.args.searched) ∙ ap (drop (c.args.begins + c.args.searched)) c.deref.ensures.value))
