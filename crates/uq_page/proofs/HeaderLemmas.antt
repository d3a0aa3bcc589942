-- A page is that of one header.
use Rattle.std.proofs.Common.{◌≡◌, ℕ, ◌<◌, ◌^◌, ◌-◌, ◌+◌, ◌≤◌, List, take, drop, lit≤, refl, sym, ap, ◌∙◌}
use Rattle.std.proofs.lemmas.List.{take_at}
use Rattle.std.specs.Int.{bytes_high_first}
use Rattle.uq_page.specs.declared.header.Header.{Header}
use Rattle.uq_page.specs.declared.layout.TheConstants.{HEADER_SIZE, PAGE_SIZE}
use Rattle.uq_page.specs.Header.{header_fields, IsHeader}
use Rattle.uq_page.specs.Page.{zeros}
use Rattle.uq_page.proofs.FieldLemmas.{read_field}

fields_are : (page : List ℕ) (header : Header) → IsHeader page header → take HEADER_SIZE page ≡ header_fields header
fields_are page header is = ap (take HEADER_SIZE) is.bytes ∙ take_at (header_fields header) (zeros (PAGE_SIZE - HEADER_SIZE)) HEADER_SIZE refl

-- the number of n bytes from `at` on is in both headers that of the page
same_field : (page : List ℕ) (a b : Header) (at n x y : ℕ) → IsHeader page a → IsHeader page b → at + n ≤ HEADER_SIZE → x < 256 ^ n → y < 256 ^ n
    → take n (drop at (header_fields a)) ≡ bytes_high_first n x → take n (drop at (header_fields b)) ≡ bytes_high_first n y → x ≡ y
same_field page a b at n x y first second within x_fits y_fits x_there y_there =
    sym (read_field page (header_fields a) HEADER_SIZE at n x (fields_are page a first) within x_fits x_there)
    ∙ read_field page (header_fields b) HEADER_SIZE at n y (fields_are page b second) within y_fits y_there

pub one_header : (page : List ℕ) (a b : Header) → IsHeader page a → IsHeader page b → a ≡ b
one_header page a b first second =
    let version = same_field page a b 16 4 a.version b.version first second (lit≤ tt) first.fits.version second.fits.version refl refl in
    let pages = same_field page a b 20 4 a.pages b.pages first second (lit≤ tt) first.fits.pages second.fits.pages refl refl in
    let buckets = same_field page a b 24 4 a.buckets b.buckets first second (lit≤ tt) first.fits.buckets second.fits.buckets refl refl in
    let free = same_field page a b 28 4 a.free b.free first second (lit≤ tt) first.fits.free second.fits.free refl refl in
    let entries = same_field page a b 32 8 a.entries b.entries first second (lit≤ tt) first.fits.entries second.fits.entries refl refl in
    let bytes = same_field page a b 40 8 a.bytes b.bytes first second (lit≤ tt) first.fits.bytes second.fits.bytes refl refl in
    let root = same_field page a b 48 4 a.root b.root first second (lit≤ tt) first.fits.root second.fits.root refl refl in
    λ i. record { version = version i; pages = pages i; buckets = buckets i; free = free i; root = root i; entries = entries i; bytes = bytes i }
