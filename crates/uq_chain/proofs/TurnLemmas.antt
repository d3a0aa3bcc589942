-- The free list along a row of calls.
use Rattle.std.proofs.Common.{◌≡◌, ◌++◌, ◌∷◌, [], ℕ, List, Option, is_some, length, sym}
use Rattle.uq_chain.specs.Chain.{Appends, FreesChain, Writes}
use Rattle.uq_chain.specs.FreeList.{IsUnlisted, Turns}
use Rattle.uq_chain.specs.TurnLaws.{taken_unlisted}
use Rattle.uq_chain.proofs.ToldLemmas.{told_still}

-- a page that is taken after a chain was written, made longer and freed is not in the list
pub unlisted_at_the_end : (begun first longer freed last : Option (List (List ℕ))) (a b c d e n at len both : ℕ) (bytes more : List ℕ)
    → is_some first ≡ is_some begun → is_some longer ≡ is_some first → is_some freed ≡ is_some longer → is_some last ≡ is_some freed
    → a ≡ 0 → length bytes ≡ len → length (bytes ++ more) ≡ both
    → Writes begun first a b at bytes → Appends first longer b c at len more → FreesChain longer freed c d at both → Turns freed last d e [] (n ∷ []) → IsUnlisted last e n
unlisted_at_the_end begun first longer freed last a b c d e n at len both bytes more told1 told2 told3 told4 none long all written appended given taken pages told row list =
    let p3 = told_still last freed pages (sym told4) told in
    let p2 = told_still freed longer p3.0 (sym told3) p3.1 in
    let p1 = told_still longer first p2.0 (sym told2) p2.1 in
    let p0 = told_still first begun p1.0 (sym told1) p1.1 in
    let w = written p0.0 p0.1 [] none p1.0 p1.1 in
    let l = appended p1.0 p1.1 w.row bytes w.chain long w.turned.left w.turned.free p2.0 p2.1 in
    let f = given p2.0 p2.1 l.made (bytes ++ more) l.chain all p2.0 p2.1 l.turned.left l.turned.free p3.0 p3.1 in
    taken_unlisted p3.0 pages d e n f.left row f.free (taken p3.0 p3.1 f.left f.free pages told) list
