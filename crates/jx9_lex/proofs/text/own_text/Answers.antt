use Rattle.jx9_lex.proofs.text.own_text.Goals as goal

pub returns-in-Err : goal.returns-in-Err
returns-in-Err c = c.stop_of.ensures c.args.bytes.items c.in-Err.ensures.fault
