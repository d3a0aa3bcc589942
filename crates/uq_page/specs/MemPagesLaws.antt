-- The laws of `Pages`, for pages in memory.
use Rattle.std.specs.Prelude.{◌≡◌, ℕ, List, [], ◌∷◌, length, map, All, Option, Some}
use Rattle.std.specs.Option.{ForSome}
use Rattle.std.specs.List.{AllByRecursion}
use Rattle.std.proofs.Common.{refl, sym, subst, ◌∙◌, ap}
use Rattle.std.proofs.lemmas.List.{length-map}
use Rattle.std.proofs.lemmas.List.Elements.{All-from_recursion}
use Rattle.uq_page.specs.declared.layout.TheConstants.{PAGE_SIZE}
use Rattle.uq_page.specs.declared.mem_pages.MemPages.{MemPages}
use Rattle.uq_page.specs.declared.page.Page.{Page}
use Rattle.uq_page.specs.MemPages.{KeepsFaults, KeepsPages, size_in, told}
use Rattle.uq_page.specs.Page.{bytes_of}

pub faults_keep : (it : MemPages) → KeepsFaults it it
faults_keep it = record { numbers = refl; none = λ _. refl }

pub faults_keep_on : (a b c : MemPages) → KeepsFaults a b → KeepsFaults b c → KeepsFaults a c
faults_keep_on a b c first second = record {
  numbers = second.numbers ∙ first.numbers;
  none = λ no. second.none (first.numbers ∙ no) ∙ first.none no;
}

pub pages_keep : (it : MemPages) → KeepsPages it it
pages_keep it = record { faults = faults_keep it; pages = refl }

pub pages_keep_on : (a b c : MemPages) → KeepsPages a b → KeepsPages b c → KeepsPages a c
pages_keep_on a b c first second = record { faults = faults_keep_on a b c first.faults second.faults; pages = second.pages ∙ first.pages }

some_is : {x y : List (List ℕ)} → ◌≡◌ {A = Option (List (List ℕ))} (Some x) (Some y) → x ≡ y
some_is is = cc

-- as many pages as are told
pub size_is_length : (it : MemPages) → ForSome (told it) (λ pages. size_in it ≡ length pages)
size_is_length it pages is = it.pages.ok.0 ∙ sym (length-map it.pages.items bytes_of) ∙ ap length (some_is is)

-- each page has its bytes
abbrev IsWhole : List ℕ → Type 0
IsWhole page = length page ≡ PAGE_SIZE

each_whole : (pages : List Page) → AllByRecursion IsWhole (map bytes_of pages)
each_whole [] = tt
each_whole (page ∷ pages) = (page.size, each_whole pages)

pub pages_whole : (it : MemPages) → ForSome (told it) (All (λ page. length page ≡ PAGE_SIZE))
pages_whole it pages is = subst (All IsWhole) (some_is is) (All-from_recursion IsWhole (map bytes_of it.pages.items) (each_whole it.pages.items))
