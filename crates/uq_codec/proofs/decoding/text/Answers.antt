use Rattle.uq_codec.proofs.Lists.{no_text, text_found, text_refused}
use Rattle.uq_codec.proofs.decoding.text.Goals as goal

pub returns-in_default : goal.returns-in_default
returns-in_default c room = no_text c.args.bytes.now c.in_default.ensures room

pub returns-in-Ok : goal.returns-in-Ok
returns-in-Ok c room = text_found room c.args.bytes.now c.in-Some.text.now c.in-Some.rest.now c.in-Ok.text c.in-Some.ensures.0 c.in-Ok.ensures.ok

pub returns-in-Err : goal.returns-in-Err
returns-in-Err c room = text_refused room c.args.bytes.now c.in-Some.text.now c.in-Some.rest.now c.in-Err.fault c.refused.result c.in-Some.ensures.0 c.in-Err.ensures.fault c.refused.ensures
