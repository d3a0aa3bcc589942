use Rattle.jx9_compile.proofs.EmitNodes.{is_decided}
use Rattle.jx9_compile.proofs.emitting.Emitter.decide.Goals as goal

pub returns : goal.returns
returns c =
    is_decided _ _ _ _ _ _ _ _ _ _ _ _ c.in_ok-put.ensures c.in_ok-over.ensures c.in_ok-end.ensures.place c.in_ok-put-2.ensures c.fill.ensures c.fill_all.ensures.ops c.fill_all.ensures.names
    c.in_ok-land.ensures
