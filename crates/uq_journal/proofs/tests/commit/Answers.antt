use Rattle.std.proofs.Common.{◌≡◌, length, ap, arith, Some}
use Rattle.uq_outside.specs.Files.{Files}
use Rattle.uq_journal.specs.PagesLaws.{has_pages}
use Rattle.uq_journal.proofs.tests.commit.Goals as goal

these : {a b : Files} → Some a ≡ Some b → a ≡ b
these same = cc

pub commit_batch-requires-clause-pages : goal.commit_batch-requires-clause-pages
commit_batch-requires-clause-pages c files told =
    has_pages c.args.old_pages files (omega (arith, ap (λ (f : Files). length f.main) (these told), ap length c.file.ensures, c.if-file-old_pages.false))
