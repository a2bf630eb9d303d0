-- The engine keeps what it promises.
-- Assumes nothing.
use Rattle.promises.proofs.QuotesKept.{quotes-kept}
use Rattle.promises.proofs.TreeKept.{tree-kept}
use Rattle.promises.proofs.Kept.{prices-kept, strips-kept}
use Rattle.promises.proofs.YieldsKept.{yields-kept}
use Rattle.promises.proofs.VersionsKept.{versions-kept}
use Rattle.promises.proofs.CausesKept.{causes-kept}
use Rattle.sheet_promises.proofs.SheetKept.{jobs-kept, sheets-kept}
use Rattle.sheet_promises.proofs.JobCausesKept.{job-causes-kept}
use Rattle.shelf_promises.proofs.Kept.{shelf-kept}
use Rattle.band_promises.proofs.BandKept as bands
use Rattle.writer_promises.proofs.WriterKept as writer
use Rattle.pair_promises.proofs.PairKept.{pair-kept}
use Rattle.pair_promises.proofs.CausesKept.{pair-causes-kept}
use Rattle.book_promises.proofs.BookKept.{book-kept}
use Rattle.report_promises.proofs.ReportKept.{report-kept}
use Rattle.engine.specs.Engine.{Engine}

pub engine-kept : Engine
engine-kept =
    record {
      quotes = quotes-kept;
      tree = tree-kept;
      prices = prices-kept;
      yields = yields-kept;
      versions = versions-kept;
      strips = strips-kept;
      causes = causes-kept;
      jobs = jobs-kept;
      sheets = sheets-kept;
      job-causes = job-causes-kept;
      shelf = shelf-kept;
      bands = bands.kept;
      writer = writer.kept;
      pair = pair-kept;
      pair-causes = pair-causes-kept;
      book = book-kept;
      reports = report-kept;
    }
