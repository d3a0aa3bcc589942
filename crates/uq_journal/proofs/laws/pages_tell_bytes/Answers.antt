use Rattle.std.proofs.lemmas.List.Elements.{recursion_from_All}
use Rattle.uq_journal.specs.Pages.{IsWhole}
use Rattle.uq_journal.specs.PagesLaws.{all_whole, has_pages, of_joined, these_pages}
use Rattle.uq_journal.proofs.laws.pages_tell_bytes.Goals as goal

pub returns : goal.returns
returns c = record {
  pages = λ main pages is. let these = these_pages main pages is in (these.bytes, these.size);
  bytes = λ pages whole. of_joined pages (recursion_from_All IsWhole pages whole);
  count = has_pages;
  whole = all_whole;
}
