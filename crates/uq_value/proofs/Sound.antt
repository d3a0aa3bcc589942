-- What holds of the parts of values at every level stays so when a part is set or added.
use Rattle.std.proofs.Common.{ℕ, zero, suc, sym, subst, [], ◌∷◌, ◌++◌, set}
use Rattle.uq_value.specs.Data.{Bytes, Data, Datas, Pairs, object, items_of, members_of, names_of, IsDistinct}
use Rattle.uq_value.specs.IsValue.{IsSound, ItemsAreSound, MembersAreSound}
use Rattle.uq_value.proofs.Levels.{pairs_of-members_of}

pub items-added : (ds : Datas) (d : Data) → ItemsAreSound (items_of ds) → IsSound d → ItemsAreSound (items_of (ds ++ d ∷ []))
items-added [] d h s = (s, tt)
items-added (e ∷ ds) d h s = (h.0, items-added ds d h.1 s)

pub items-set : (ds : Datas) (at : ℕ) (d : Data) → ItemsAreSound (items_of ds) → IsSound d → ItemsAreSound (items_of (set ds at d))
items-set [] at d h s = h
items-set (e ∷ ds) zero d h s = (s, h.1)
items-set (e ∷ ds) (suc at) d h s = (h.0, items-set ds at d h.1 s)

pub members-added : (ms : Pairs) (name : Bytes) (d : Data) → MembersAreSound (members_of ms) → IsSound d → MembersAreSound (members_of (ms ++ (name, d) ∷ []))
members-added [] name d h s = (s, tt)
members-added (m ∷ ms) name d h s = (h.0, members-added ms name d h.1 s)

pub members-set : (ms : Pairs) (at : ℕ) (name : Bytes) (d : Data) → MembersAreSound (members_of ms) → IsSound d → MembersAreSound (members_of (set ms at (name, d)))
members-set [] at name d h s = h
members-set (m ∷ ms) zero name d h s = (s, h.1)
members-set (m ∷ ms) (suc at) name d h s = (h.0, members-set ms at name d h.1 s)

pub object-sound : (ms : Pairs) → IsDistinct (names_of ms) → MembersAreSound (members_of ms) → IsSound (object ms)
object-sound ms distinct h = (subst (λ ns. IsDistinct (names_of ns)) (sym (pairs_of-members_of ms)) distinct, h)
