-- Why a call on the map answers a fault.
use Rattle.std.specs.Prelude.{ℕ, Bool, List, Option, Result}
use Rattle.uq_page.specs.declared.header.Header.{Header}
use Rattle.uq_page.specs.declared.error.ChainFault.{ChainFault}
use Rattle.uq_page.specs.declared.error.ChainFault.TheVariants.{Corrupt, Failed, Memory, NoPage}
use Rattle.uq_chain.specs.Causes.{HasChainCause}
use Rattle.uq_hash.specs.Map.{WhereHeld}

-- the pages are not told, or hold no map
abbrev pub NoMap : Option (List (List ℕ)) → Header → Type 0
NoMap told header = WhereHeld told header (λ _. ⊥)

-- Each fault comes only for its cause, and `Memory` is free: `Failed` where the pages failed; `Corrupt` only where the pages are not
-- told or hold no map; `NoPage` never.
abbrev pub HasMapCause : {T : Type 0} → Option (List (List ℕ)) → Header → ℕ → ℕ → Bool → Result T ChainFault → Type 0
HasMapCause {T} told header before now is_sound result = HasChainCause {T = T} (NoMap told header) ⊥ before now is_sound result

-- the fault of a change that finds no page: pages that hold a map have enough of them
abbrev pub fault_without_room : ChainFault → ChainFault
fault_without_room Failed = Failed
fault_without_room Corrupt = Corrupt
fault_without_room NoPage = Corrupt
fault_without_room Memory = Memory
