-- The cells that are laid anew.
use Rattle.std.proofs.Common.{◌≡◌, ℕ, Bool, true, false, Bor, List, [], ◌∷◌, ◌++◌, length, map, drop, get_or, Option, None, Some, refl, sym, ap, ◌∙◌, arith, append-nil, length-append}
use Rattle.std.specs.Option.{option_copied}
use Rattle.std.proofs.lemmas.List.{drop_at, length-map}
use Rattle.uq_hash.specs.declared.opening.Open.{Open}
use Rattle.uq_hash.specs.Assembled.{NoneToReplace, new_bytes, new_sizes, rest_bytes, rest_sizes}
use Rattle.uq_hash.specs.Laid.{IsNew, IsTail, replaced}
use Rattle.uq_hash.specs.Lying.{sizes_of}
use Rattle.uq_hash.specs.Map.{Stored, cell}
use Rattle.uq_hash.specs.Place.{cells_bytes}
use Rattle.uq_hash.proofs.LyingLemmas.{cells_bytes-append, sizes_of-append}

new_is_sizes : (news : List Stored) (new : Option (Bor (List ℕ))) → IsNew news (option_copied new) → new_sizes new ≡ sizes_of news
new_is_sizes [] None is = refl
new_is_sizes [] (Some bytes) is = absurd is
new_is_sizes (it ∷ more) None is = absurd is
new_is_sizes (it ∷ more) (Some bytes) is = ap (λ (xs : List ℕ). length xs ∷ []) is.1 ∙ ap (λ (xs : List Stored). length (cell it) ∷ sizes_of xs) (sym is.0)

new_is_bytes : (news : List Stored) (new : Option (Bor (List ℕ))) → IsNew news (option_copied new) → new_bytes new ≡ cells_bytes news
new_is_bytes [] None is = refl
new_is_bytes [] (Some bytes) is = absurd is
new_is_bytes (it ∷ more) None is = absurd is
new_is_bytes (it ∷ more) (Some bytes) is = is.1 ∙ sym (append-nil (cell it)) ∙ ap (λ (xs : List Stored). cell it ++ cells_bytes xs) (sym is.0)

rest_is_sizes : (is_replaced : Bool) (olds others : List Stored) (sizes : List ℕ) → length olds ≡ replaced is_replaced → sizes ≡ sizes_of (olds ++ others) → rest_sizes is_replaced sizes ≡ sizes_of others
rest_is_sizes true [] others sizes gone are = absurd (omega arith)
rest_is_sizes true (it ∷ []) others sizes gone are = ap (drop 1) are
rest_is_sizes true (it ∷ next ∷ more) others sizes gone are = absurd (omega arith)
rest_is_sizes false [] others sizes gone are = are
rest_is_sizes false (it ∷ more) others sizes gone are = absurd (omega arith)

rest_is_bytes : (is_replaced : Bool) (olds others : List Stored) (sizes bytes : List ℕ) → length olds ≡ replaced is_replaced → sizes ≡ sizes_of (olds ++ others) → bytes ≡ cells_bytes (olds ++ others) → rest_bytes is_replaced sizes bytes ≡ cells_bytes others
rest_is_bytes true [] others sizes bytes gone sizes_are are = absurd (omega arith)
rest_is_bytes true (it ∷ []) others sizes bytes gone sizes_are are =
    ap (λ xs. drop (get_or xs 0 0) bytes) sizes_are ∙ ap (drop (length (cell it))) are ∙ drop_at (cell it) (cells_bytes others) (length (cell it)) refl
rest_is_bytes true (it ∷ next ∷ more) others sizes bytes gone sizes_are are = absurd (omega arith)
rest_is_bytes false [] others sizes bytes gone sizes_are are = are
rest_is_bytes false (it ∷ more) others sizes bytes gone sizes_are are = absurd (omega arith)

-- what was assembled are the cells of the tail
pub tail_sizes : (it : Open) (is_replaced : Bool) (new : Option (Bor (List ℕ))) (front olds news others : List Stored) (sizes : List ℕ) → IsTail it is_replaced (option_copied new) front olds news others
    → sizes ≡ sizes_of front ++ (new_sizes new ++ rest_sizes is_replaced it.rest.sizes.items) → sizes_of (front ++ (news ++ others)) ≡ sizes
tail_sizes it is_replaced new front olds news others sizes tail are =
    sizes_of-append front (news ++ others) ∙ ap (λ xs. sizes_of front ++ xs) (sizes_of-append news others ∙ ap (λ xs. xs ++ sizes_of others) (sym (new_is_sizes news new tail.new_is))
    ∙ ap (λ xs. new_sizes new ++ xs) (sym (rest_is_sizes is_replaced olds others it.rest.sizes.items tail.gone tail.sizes_are))) ∙ sym are

pub tail_bytes : (it : Open) (is_replaced : Bool) (new : Option (Bor (List ℕ))) (front olds news others : List Stored) (bytes : List ℕ) → IsTail it is_replaced (option_copied new) front olds news others
    → bytes ≡ cells_bytes front ++ (new_bytes new ++ rest_bytes is_replaced it.rest.sizes.items it.rest.bytes.items) → cells_bytes (front ++ (news ++ others)) ≡ bytes
tail_bytes it is_replaced new front olds news others bytes tail are =
    cells_bytes-append front (news ++ others) ∙ ap (λ xs. cells_bytes front ++ xs) (cells_bytes-append news others ∙ ap (λ xs. xs ++ cells_bytes others) (sym (new_is_bytes news new tail.new_is))
    ∙ ap (λ xs. new_bytes new ++ xs) (sym (rest_is_bytes is_replaced olds others it.rest.sizes.items it.rest.bytes.items tail.gone tail.sizes_are tail.bytes_are))) ∙ sym are

-- where a cell is replaced there is one
pub some_to_replace : (it : Open) (is_replaced : Bool) (new : Option (List ℕ)) (front olds news others : List Stored) → IsTail it is_replaced new front olds news others → NoneToReplace is_replaced it.rest.sizes.items → ⊥
some_to_replace it is_replaced new front olds news others tail none =
    let gone : length olds ≡ 1 = tail.gone ∙ ap replaced none.0 in
    let sizes = ap length (sym none.1 ∙ tail.sizes_are) in
    let long = length-map (map cell (olds ++ others)) length in
    let cells = length-map (olds ++ others) cell in
    let parts = length-append olds others in
    absurd (omega arith)
