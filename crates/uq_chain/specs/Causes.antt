-- Why a call on chains answers a fault.
use Rattle.std.specs.Prelude.{◌≡◌, ℕ, ◌-◌, ◌^◌, ◌<◌, Bool, List, length, Option, Result}
use Rattle.std.specs.Option.{ForSome}
use Rattle.uq_facts.specs.Causes.{AtErr}
use Rattle.uq_page.specs.declared.error.ChainFault.{ChainFault}
use Rattle.uq_page.specs.declared.error.ChainFault.TheVariants.{Failed, Corrupt, NoPage}
use Rattle.uq_page.specs.Pages.{HasPagesCause}
use Rattle.uq_chain.specs.FreeList.{IsFreeList}

-- Each fault comes only for its cause, and `Memory` is free: `Failed` where the pages failed, `Corrupt` and `NoPage` only where these
-- hold.
pub record HasChainCause {T : Type 0} (Wrong Short : Type 0) (before now : ℕ) (is_sound : Bool) (result : Result T ChainFault) : Type 0 where
  pub pages : HasPagesCause Failed before now is_sound result
  pub corrupt : AtErr Corrupt result Wrong
  pub no_page : AtErr NoPage result Short

-- the pages are not told, or the free list is not right
abbrev pub NoFreeList : Option (List (List ℕ)) → ℕ → Type 0
NoFreeList told head = ForSome told (λ pages. (row : List ℕ) → IsFreeList pages head row → ⊥)

-- there can be no more pages, and the free list, where it is told and right, has fewer than are needed
abbrev pub IsShort : Option (List (List ℕ)) → ℕ → ℕ → ℕ → Type 0
IsShort told head size need = (size ≡ 2 ^ 32 - 1) × ForSome told (λ pages. (row : List ℕ) → IsFreeList pages head row → length row < need)
