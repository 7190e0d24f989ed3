-- A book's scalars as C has them, for the calls on a book that is changed in place: they stand beside its lent rows.
-- Assumes nothing.
use Rattle.rules.specs.Book.{answer}
use Rattle.scalars.specs.declared.state.Scalars.{Scalars}
use Rattle.exports.specs.Codes.{standing_at, codes_of}
use Rattle.exports.specs.declared.raw.RawScalars.{RawScalars}
use Rattle.exports.specs.declared.raw.RawDone.{RawDone}
use Rattle.exports.specs.declared.raw.RawEnded.{RawEnded}

unfoldable pub scalars_from : RawScalars → Scalars
scalars_from raw = record {
  nets = raw.nets;
  sums = raw.sums;
  cash = raw.cash;
  guarantee = raw.guarantee;
  size = raw.size;
  standing = standing_at raw.codes;
  applications = raw.applications;
  trades = raw.trades;
}

unfoldable pub raw_of : Scalars → RawScalars
raw_of scalars = record {
  nets = scalars.nets;
  sums = scalars.sums;
  cash = scalars.cash;
  guarantee = scalars.guarantee;
  size = scalars.size;
  codes = codes_of scalars.standing;
  applications = scalars.applications;
  trades = scalars.trades;
}

-- ---- what is not well-formed is no fit book: 1, and the scalars as they were

abbrev pub refused : RawScalars → RawDone
refused raw = record { answer = answer 1; raw = raw }

abbrev pub refused_run : RawScalars → RawEnded
refused_run raw = record { number = 1; raw = raw }
