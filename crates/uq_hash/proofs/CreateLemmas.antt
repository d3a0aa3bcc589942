-- The pages of the map with no key.
use Rattle.std.proofs.Common.{◌≡◌, ℕ, zero, suc, List, [], ◌∷◌, ◌++◌, length, drop, Option, Some, None, refl, sym, ap, subst, ◌∙◌, lit≤, lit<}
use Rattle.std.specs.Option.{ForSome, option_map}
use Rattle.std.specs.Prelude.{slice_get, sum_by}
use Rattle.std.specs.Ordering.{nat_cmp}
use Rattle.std.specs.Cmp.Lexicographic.{slice_cmp}
use Rattle.std.specs.FinMap.{empty, entries, len-empty, len-entries}
use Rattle.std.proofs.lemmas.List.{nil_from_length}
use Rattle.std.proofs.lemmas.List.Elements.{All-nil}
use Rattle.std.proofs.lemmas.Option.{none-some, same_Some}
use Rattle.uq_page.specs.declared.header.Header.{Header}
use Rattle.uq_page.specs.declared.layout.TheConstants.{CELLS_AT, PAGE_SIZE}
use Rattle.uq_page.specs.Bucket.{bucket_fields}
use Rattle.uq_page.specs.Header.{header_page, IsHeader}
use Rattle.uq_page.specs.Page.{zeros}
use Rattle.uq_page.specs.PageLaws.{drop-zeros}
use Rattle.uq_hash.specs.Cells.{bucket_page}
use Rattle.uq_hash.specs.Fnv.{fnv1a}
use Rattle.uq_hash.specs.Map.{Bucket, Chained, HasValue, HoldsMap, IsBucket, IsBucketOf, IsCreated, IsStored, Stored, entry_len}

-- two pages are appended where there was none
appended : (a b : List ℕ) (old mid new : Option (List (List ℕ))) → ForSome old (λ pages. 0 ≡ length pages)
    → mid ≡ option_map (λ pages. pages ++ a ∷ []) old → new ≡ option_map (λ pages. pages ++ b ∷ []) mid → new ≡ option_map (λ _. a ∷ b ∷ []) old
appended a b None mid new none first second = second ∙ ap (option_map (λ pages. pages ++ b ∷ [])) first
appended a b (Some pages) mid new none first second =
    second ∙ ap (option_map (λ pages. pages ++ b ∷ [])) first ∙ ap (λ xs. Some (xs ++ a ∷ [] ++ b ∷ [])) (nil_from_length pages (sym (none pages refl)))

pub empty_bucket : bucket_fields (record { cells = 0; next = 0; end = CELLS_AT }) ++ drop CELLS_AT (zeros PAGE_SIZE) ≡ bucket_page [] 0
unfolding bucket_page
empty_bucket = ap (λ xs. bucket_fields (record { cells = 0; next = 0; end = CELLS_AT }) ++ xs) (drop-zeros CELLS_AT PAGE_SIZE)

entries-empty : entries {X = List ℕ} {R = slice_cmp nat_cmp} empty ≡ []
entries-empty = nil_from_length (entries empty) (sym (len-entries empty) ∙ len-empty (slice_cmp nat_cmp) (List ℕ))

abbrev none : Bucket
none = record { row = 1 ∷ []; cells = [] }

empty_chain : (start : ℕ) (page : List ℕ) → Chained start (page ∷ bucket_page [] 0 ∷ []) (1 ∷ []) []
empty_chain start page = record {
  order = refl;
  sizes = All-nil IsStored;
  linked = record { is = refl; some = lit≤ tt; next = 0; fits = lit< tt; page = refl; rest = refl };
  values = All-nil (HasValue (page ∷ bucket_page [] 0 ∷ []));
}

each_none : (start : ℕ) (page : List ℕ) (i : ℕ) (bucket : Bucket) → slice_get (none ∷ []) i ≡ Some bucket → IsBucket start (page ∷ bucket_page [] 0 ∷ []) 1 i bucket
each_none start page zero bucket there =
    subst (λ (b : Bucket). IsBucket start (page ∷ bucket_page [] 0 ∷ []) 1 0 b) (same_Some none bucket there)
    (record { chained = empty_chain start page; placed = All-nil (λ (it : Stored). IsBucketOf 1 (fnv1a start it.key) 0) })
each_none start page (suc i) bucket there = absurd (none-some bucket there)

holds_none : (header : Header) → header ≡ record { version = 0; pages = 2; buckets = 1; free = 0; root = 1; entries = 0; bytes = 0 } → (page : List ℕ) → HoldsMap (page ∷ bucket_page [] 0 ∷ []) header empty
holds_none header is page =
    let P : Header → Type 0 = λ h. HoldsMap (page ∷ bucket_page [] 0 ∷ []) h empty in
    subst P (sym is) (record {
      free = [];
      index = [];
      buckets = none ∷ [];
      form = record { version = refl; listed = refl; directory = record { none = refl; one = refl } };
      counts = record { count = refl; number = refl };
      sums = record { keys = sym (len-empty (slice_cmp nat_cmp) (List ℕ)); bytes = ap (sum_by entry_len) (sym entries-empty) };
      each = λ i bucket there. each_none 2166136261 page i bucket there;
      used = λ n. refl;
      same = refl;
    })

pub created : (header : Header) → header ≡ record { version = 0; pages = 2; buckets = 1; free = 0; root = 1; entries = 0; bytes = 0 }
    → (a b : List ℕ) (old mid new : Option (List (List ℕ))) → ForSome old (λ pages. 0 ≡ length pages) → IsHeader a header → b ≡ bucket_page [] 0
    → mid ≡ option_map (λ pages. pages ++ a ∷ []) old → new ≡ option_map (λ pages. pages ++ b ∷ []) mid → IsCreated old new header
created header is a b old mid new none reads bucket_is first second =
    let pages : new ≡ option_map (λ _. header_page header ∷ bucket_page [] 0 ∷ []) old =
    appended a b old mid new none first second ∙ ap (λ x. option_map (λ _. x ∷ b ∷ []) old) reads.bytes ∙ ap (λ x. option_map (λ _. header_page header ∷ x ∷ []) old) bucket_is in
    record { fields = subst (λ (page : List ℕ). IsHeader page header) reads.bytes reads; pages = pages; holds = holds_in header is old new pages }
  where
    holds_in : (header : Header) → header ≡ record { version = 0; pages = 2; buckets = 1; free = 0; root = 1; entries = 0; bytes = 0 }
        → (old new : Option (List (List ℕ))) → new ≡ option_map (λ _. header_page header ∷ bucket_page [] 0 ∷ []) old → ForSome new (λ pages. HoldsMap pages header empty)
    holds_in header is None new pages all told = absurd (let other : ⊥ = cc in other)
    holds_in header is (Some xs) new pages all told =
        let P : List (List ℕ) → Type 0 = λ ys. HoldsMap ys header empty in
        subst P (same_Some (header_page header ∷ bucket_page [] 0 ∷ []) all (sym pages ∙ told)) (holds_none header is (header_page header))
