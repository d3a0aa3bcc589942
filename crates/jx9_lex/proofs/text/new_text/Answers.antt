use Rattle.jx9_lex.proofs.text.new_text.Goals as goal

pub returns-in-Err : goal.returns-in-Err
returns-in-Err c = c.stop_of.ensures c.args.bytes.now c.in-Err.ensures.fault
