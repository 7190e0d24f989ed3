-- "Fen, sheets and price ticks are three units, never taken for one another." (01, One firm's book; arts. 32, 33)
-- Assumes nothing.
use Rattle.std.specs.Prelude.{ℕ, ℤ}
pub use Rattle.money.specs.declared.units.Fen.{Fen}
pub use Rattle.money.specs.declared.units.Sheets.{Sheets}
pub use Rattle.money.specs.declared.units.Ticks.{Ticks}
pub use Rattle.money.specs.declared.units.SignedFen.{SignedFen}
pub use Rattle.money.specs.declared.units.SignedSheets.{SignedSheets}

abbrev pub fen : ℕ → Fen
fen n = record { 0 = n }

abbrev pub sheets : ℕ → Sheets
sheets n = record { 0 = n }

abbrev pub ticks : ℕ → Ticks
ticks n = record { 0 = n }

-- fen and sheets that may be below 0: a net, and headroom
abbrev pub signed_fen : ℤ → SignedFen
signed_fen z = record { 0 = z }

abbrev pub signed_sheets : ℤ → SignedSheets
signed_sheets z = record { 0 = z }

-- "A sheet is 100 yuan, 10,000 fen (art. 33)."
abbrev pub sheet_fen : ℕ
sheet_fen = 10000
