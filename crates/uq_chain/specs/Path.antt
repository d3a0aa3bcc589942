-- Which pages a call may change where the free list or the chain may be anything, as a loop.
use Rattle.std.specs.Prelude.{◌≡◌, ℕ, ◌<◌, ◌≤◌, List, [], ◌∷◌, ◌++◌, length, Option, Some, slice_get}
use Rattle.std.specs.Option.{ForSome}
use Rattle.uq_page.specs.declared.value_page.ValueHead.{ValueHead}
use Rattle.uq_page.specs.FreePage.{IsFreePage}
use Rattle.uq_page.specs.Numbers.{times}
use Rattle.uq_page.specs.ValuePage.{IsValueHead}

-- the page begins as one of a chain, and names this next page
pub record IsValuePage (page : List ℕ) (next : ℕ) : Type 0 where
  pub head : ValueHead
  pub is : IsValueHead page head
  pub names : head.next ≡ next

-- A step of a path: at `no` stands a page of the kind, and the path goes on at the page that it names.
pub record Step (Is : List ℕ → ℕ → Type 0) (pages : List (List ℕ)) (head at : ℕ) (Rest : ℕ → Type 0) : Type 0 where
  pub is : head ≡ at
  pub page : List ℕ
  pub next : ℕ
  pub there : slice_get pages at ≡ Some page
  pub kind : Is page next
  pub rest : Rest next

-- from `head` on pages of a kind lead over these numbers to `last`
abbrev pub IsPath : (List ℕ → ℕ → Type 0) → List (List ℕ) → ℕ → List ℕ → ℕ → Type 0
IsPath Is pages head [] last = head ≡ last
IsPath Is pages head (n ∷ path) last = Step Is pages head n (λ next. IsPath Is pages next path last)

-- From one list of pages to the next at most the pages of one path are others, of those that were there, and no page came to be of the
-- kind.
pub record Along (Is : List ℕ → ℕ → Type 0) (before after : List (List ℕ)) (head last : ℕ) : Type 0 where
  -- pages of the kind that follow each other from `head` to `last`
  pub path : List ℕ
  pub leads : IsPath Is before head path last
  pub others : (n : ℕ) → n < length before → times n path ≡ 0 → slice_get after n ≡ slice_get before n
  pub none : (n next : ℕ) (page : List ℕ) → slice_get after n ≡ Some page → Is page next → slice_get before n ≡ Some page
  pub longer : length before ≤ length after

-- the same where the pages are told, right or not
abbrev pub KeepsBut : (List ℕ → ℕ → Type 0) → Option (List (List ℕ)) → Option (List (List ℕ)) → ℕ → ℕ → Type 0
KeepsBut Is old new head last = ForSome old (λ before. ForSome new (λ after. Along Is before after head last))

-- other pages stay than free ones that follow each other from `head` to `last`
abbrev pub KeepsButFree : Option (List (List ℕ)) → Option (List (List ℕ)) → ℕ → ℕ → Type 0
KeepsButFree old new head last = KeepsBut IsFreePage old new head last

-- other pages stay than those of a chain that follow each other from `first`
abbrev pub KeepsButChain : Option (List (List ℕ)) → Option (List (List ℕ)) → ℕ → Type 0
KeepsButChain old new first = (last : ℕ) × KeepsBut IsValuePage old new first last

-- all pages that were there stay
abbrev pub KeepsPages : Option (List (List ℕ)) → Option (List (List ℕ)) → Type 0
KeepsPages old new = ForSome old (λ before. ForSome new (λ after. (n : ℕ) → n < length before → slice_get after n ≡ slice_get before n))

-- the page is not free
abbrev pub IsNotFree : List ℕ → Type 0
IsNotFree page = (next : ℕ) → IsFreePage page next → ⊥

-- where the pages are told, those of a chain lead from `first` to this one
abbrev pub ChainLeads : Option (List (List ℕ)) → ℕ → ℕ → Type 0
ChainLeads told first last = ForSome told (λ pages. (path : List ℕ) × IsPath IsValuePage pages first path last)

-- From one list of pages to the next at most free pages from `head` on and pages of a chain from `first` on are others, of those that
-- were there.
pub record AlongBoth (before after : List (List ℕ)) (head first : ℕ) : Type 0 where
  pub free : List ℕ
  pub free_last : ℕ
  pub free_leads : IsPath IsFreePage before head free free_last
  pub chain : List ℕ
  pub chain_last : ℕ
  pub chain_leads : IsPath IsValuePage before first chain chain_last
  pub others : (n : ℕ) → n < length before → times n (free ++ chain) ≡ 0 → slice_get after n ≡ slice_get before n

-- the same where the pages are told
abbrev pub KeepsButBoth : Option (List (List ℕ)) → Option (List (List ℕ)) → ℕ → ℕ → Type 0
KeepsButBoth old new head first = ForSome old (λ before. ForSome new (λ after. AlongBoth before after head first))
