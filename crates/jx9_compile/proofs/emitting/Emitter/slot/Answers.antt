use Rattle.std.proofs.Common.{refl}
use Rattle.jx9_compile.proofs.EmitLemmas.{slot_found, slot_added}
use Rattle.jx9_compile.proofs.emitting.Emitter.slot.Goals as goal

pub returns-in-Some : goal.returns-in-Some
returns-in-Some c = slot_found _ _ _ _ _ c.bytes-name.ensures.bytes c.slot_of.ensures c.in-Some.is

pub returns-in_ok-slot-in-None : goal.returns-in_ok-slot-in-None
returns-in_ok-slot-in-None c =
    slot_added _ _ _ _ _ _ c.bytes-name.ensures.bytes c.slot_of.ensures c.in-None.is c.in_ok-slot-in-None.ensures.names refl c.in_ok-slot-in-None.ensures.slot
