-- The store that collections in memory are.
use Rattle.uq_model.specs.declared.held.Held.{Held}
use Rattle.uq_model.specs.Store.{Store, store_of}

abbrev pub held_in : Held → Store
held_in held = store_of held.collections
