-- All that the engine promises, in the order of the documents. Each field is a joint statement of its own, of which nothing is said anew here.
-- Assumes nothing.
use Rattle.promises.specs.Quoted.{QuotePromises}
use Rattle.promises.specs.Promises.{TreePromises, PricePromises, YieldPromises}
use Rattle.promises.specs.Versions.{VersionPromises}
use Rattle.promises.specs.Strips.{StripPromises}
use Rattle.promises.specs.Causes.{CausePromises}
use Rattle.sheet_promises.specs.SheetPromises.{JobPromises, SheetPromises}
use Rattle.sheet_promises.specs.JobCauses.{JobCauses}
use Rattle.shelf_promises.specs.ShelfPromises.{ShelfPromises}
use Rattle.band_promises.specs.BandPromises.{BandPromises}
use Rattle.writer_promises.specs.WriterPromises.{WriterPromises}
use Rattle.pair_promises.specs.PairPromises.{PairPromises}
use Rattle.pair_promises.specs.Causes.{PairCausePromises}
use Rattle.book_promises.specs.BookPromises.{BookPromises}
use Rattle.report_promises.specs.ReportPromises.{ReportPromises}

pub record Engine : Type 0 where
  -- document 01, what a float and a quote give
  pub quotes : QuotePromises
  -- document 01, demand 2: branching, spacing, rates and fit
  pub tree : TreePromises
  -- document 01, demand 3, and requests (ii), (iii), (v), (vi) and (viii) of document 02: bonds, options of a kind and on listed rows, payoffs
  pub prices : PricePromises
  -- request (i): yields by continuous compounding
  pub yields : YieldPromises
  -- request (ix): the second version of the tree
  pub versions : VersionPromises
  -- request (x): strips of strikes
  pub strips : StripPromises
  -- document 01, demand 1: which entry gives which number of refusal
  pub causes : CausePromises
  -- document 01, Job and sheet, with request (iii): what a job means and its prices; its printed sheet; which number it has
  pub jobs : JobPromises
  pub sheets : SheetPromises
  pub job-causes : JobCauses
  -- requests (vii) and (viii): several trees in one memory
  pub shelf : ShelfPromises
  -- request (xi): haircut bands and the lending worth
  pub bands : BandPromises
  -- request (xii): reading and writing a job
  pub writer : WriterPromises
  -- request (xiii): a rate tree and a spread tree together, and which number each call on them has
  pub pair : PairPromises
  pub pair-causes : PairCausePromises
  -- request (xiv): the report of a book of jobs
  pub book : BookPromises
  -- reports of any number of books, joined or not
  pub reports : ReportPromises
