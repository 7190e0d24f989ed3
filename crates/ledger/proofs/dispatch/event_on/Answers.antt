use Rattle.std.specs.Prelude.{◌≡◌, true}
use mathlib.Core.Path.{refl}
use Rattle.rules.specs.Fit.{cash_fit, securities_fit, withdrawals_fit, nets_fit}
use Rattle.rules.specs.Step.{event_causes, act}
use Rattle.rules.proofs.FitParts.{Fit, fit_parts, fits-cash, fit-securities, fit-withdrawals, fit-nets}
use Rattle.ledger.specs.Types.{Book}
use Rattle.ledger.specs.Flat.{Rows, rows_of, book_of, trades_of}
use Rattle.ledger.proofs.StepLaws.{leaves_table, changes-table}
use Rattle.ledger.proofs.dispatch.event_on.Goals as goal

pub open-requires : goal.open-requires
open-requires c =
    record { kinds = c.args.kinds.now; units = c.args.units.now; few = c.requires.book.few; fits = c.requires.book.fits }

pub fund_in-requires : goal.fund_in-requires
fund_in-requires c =
    let rows : Rows = rows_of c.args.held.now c.args.kinds.now c.args.units.now in
    let book : Book = book_of c.args.scalars rows in
    let parts : Fit c.args.calendar.now book (trades_of c.args.table.now) = fit_parts _ _ _ c.requires.book.fits in
    let cash : cash_fit book.cash book.vault.guarantee ≡ true = fits-cash _ _ parts.cash in
    cash

pub pledge-requires : goal.pledge-requires
pledge-requires c =
    let rows : Rows = rows_of c.args.held.now c.args.kinds.now c.args.units.now in
    let book : Book = book_of c.args.scalars rows in
    let parts : Fit c.args.calendar.now book (trades_of c.args.table.now) = fit_parts _ _ _ c.requires.book.fits in
    let cash : cash_fit book.cash book.vault.guarantee ≡ true = fits-cash _ _ parts.cash in
    let securities : securities_fit book.vault ≡ true = fit-securities _ parts.securities in
    (securities, cash)

pub withdraw-requires : goal.withdraw-requires
withdraw-requires c =
    let rows : Rows = rows_of c.args.held.now c.args.kinds.now c.args.units.now in
    let book : Book = book_of c.args.scalars rows in
    let parts : Fit c.args.calendar.now book (trades_of c.args.table.now) = fit_parts _ _ _ c.requires.book.fits in
    let cash : cash_fit book.cash book.vault.guarantee ≡ true = fits-cash _ _ parts.cash in
    let securities : securities_fit book.vault ≡ true = fit-securities _ parts.securities in
    let withdrawals : withdrawals_fit book.withdrawals ≡ true = fit-withdrawals _ parts.withdrawals in
    record {
      withdrawals = withdrawals;
      securities = securities;
      cash = cash;
    }

pub initial-requires : goal.initial-requires
initial-requires c =
    let rows : Rows = rows_of c.args.held.now c.args.kinds.now c.args.units.now in
    let book : Book = book_of c.args.scalars rows in
    record {
      book = record { kinds = c.args.kinds.now; units = c.args.units.now; few = c.requires.book.few; fits = c.requires.book.fits };
      sheets = c.requires.sheets;
      value = c.requires.value;
    }

pub early-requires : goal.early-requires
early-requires c =
    let rows : Rows = rows_of c.args.held.now c.args.kinds.now c.args.units.now in
    record { rows = rows; few = c.requires.book.few; fits = c.requires.book.fits }

pub pay-requires : goal.pay-requires
pay-requires c =
    let rows : Rows = rows_of c.args.held.now c.args.kinds.now c.args.units.now in
    let book : Book = book_of c.args.scalars rows in
    let parts : Fit c.args.calendar.now book (trades_of c.args.table.now) = fit_parts _ _ _ c.requires.book.fits in
    let cash : cash_fit book.cash book.vault.guarantee ≡ true = fits-cash _ _ parts.cash in
    let nets : nets_fit book.nets ≡ true = fit-nets _ parts.nets in
    (nets, cash)

pub close-requires : goal.close-requires
close-requires c =
    c.requires

pub returns-in-Open : goal.returns-in-Open
unfolding event_causes act
returns-in-Open c =
    let rows : Rows = rows_of c.args.held.now c.args.kinds.now c.args.units.now in
    let book : Book = book_of c.args.scalars rows in
    rw c.in-Open.is (changes-table _ book (trades_of c.args.table.now) c.requires.book.fits c.requires.book.few _ _ _ refl _ _ (c.«open».ensures c.args.kinds.now c.args.units.now))

pub returns-in-FundIn : goal.returns-in-FundIn
unfolding event_causes act
returns-in-FundIn c =
    let rows : Rows = rows_of c.args.held.now c.args.kinds.now c.args.units.now in
    let book : Book = book_of c.args.scalars rows in
    rw c.in-FundIn.is (leaves_table _ book (trades_of c.args.table.now) c.requires.book.fits c.requires.book.few _ _ refl _ (c.fund_in.ensures rows))

pub returns-in-FundOut : goal.returns-in-FundOut
unfolding event_causes act
returns-in-FundOut c =
    let rows : Rows = rows_of c.args.held.now c.args.kinds.now c.args.units.now in
    let book : Book = book_of c.args.scalars rows in
    rw c.in-FundOut.is (leaves_table _ book (trades_of c.args.table.now) c.requires.book.fits c.requires.book.few _ _ refl _ (c.fund_out.ensures rows))

pub returns-in-Size : goal.returns-in-Size
unfolding event_causes act
returns-in-Size c =
    let rows : Rows = rows_of c.args.held.now c.args.kinds.now c.args.units.now in
    let book : Book = book_of c.args.scalars rows in
    rw c.in-Size.is (leaves_table _ book (trades_of c.args.table.now) c.requires.book.fits c.requires.book.few _ _ refl _ (c.set_size.ensures rows (trades_of c.args.table.now) c.requires.sheets))

pub returns-in-Rate : goal.returns-in-Rate
unfolding event_causes act
returns-in-Rate c =
    let rows : Rows = rows_of c.args.held.now c.args.kinds.now c.args.units.now in
    let book : Book = book_of c.args.scalars rows in
    rw c.in-Rate.is (leaves_table _ book (trades_of c.args.table.now) c.requires.book.fits c.requires.book.few _ _ refl _ (c.set_rate.ensures c.args.kinds.now c.args.units.now))

pub returns-in-Pledge : goal.returns-in-Pledge
unfolding event_causes act
returns-in-Pledge c =
    let rows : Rows = rows_of c.args.held.now c.args.kinds.now c.args.units.now in
    let book : Book = book_of c.args.scalars rows in
    rw c.in-Pledge.is (leaves_table _ book (trades_of c.args.table.now) c.requires.book.fits c.requires.book.few _ _ refl _ (c.pledge.ensures c.args.kinds.now c.args.units.now))

pub returns-in-Freeze : goal.returns-in-Freeze
unfolding event_causes act
returns-in-Freeze c =
    let rows : Rows = rows_of c.args.held.now c.args.kinds.now c.args.units.now in
    let book : Book = book_of c.args.scalars rows in
    rw c.in-Freeze.is (leaves_table _ book (trades_of c.args.table.now) c.requires.book.fits c.requires.book.few _ _ refl _ (c.freeze.ensures c.args.kinds.now c.args.units.now))

pub returns-in-Withdraw : goal.returns-in-Withdraw
unfolding event_causes act
returns-in-Withdraw c =
    let rows : Rows = rows_of c.args.held.now c.args.kinds.now c.args.units.now in
    let book : Book = book_of c.args.scalars rows in
    rw c.in-Withdraw.is (leaves_table _ book (trades_of c.args.table.now) c.requires.book.fits c.requires.book.few _ _ refl _ c.withdraw.ensures)

pub returns-in-Initial : goal.returns-in-Initial
unfolding event_causes act
returns-in-Initial c =
    let rows : Rows = rows_of c.args.held.now c.args.kinds.now c.args.units.now in
    let book : Book = book_of c.args.scalars rows in
    rw c.in-Initial.is (changes-table _ book (trades_of c.args.table.now) c.requires.book.fits c.requires.book.few _ _ _ refl _ _ (c.initial.ensures c.args.kinds.now c.args.units.now))

pub returns-in-Early : goal.returns-in-Early
unfolding event_causes act
returns-in-Early c =
    let rows : Rows = rows_of c.args.held.now c.args.kinds.now c.args.units.now in
    let book : Book = book_of c.args.scalars rows in
    rw c.in-Early.is (changes-table _ book (trades_of c.args.table.now) c.requires.book.fits c.requires.book.few _ _ _ refl _ _ (c.early.ensures rows))

pub returns-in-Pay : goal.returns-in-Pay
unfolding event_causes act
returns-in-Pay c =
    let rows : Rows = rows_of c.args.held.now c.args.kinds.now c.args.units.now in
    let book : Book = book_of c.args.scalars rows in
    rw c.in-Pay.is (leaves_table _ book (trades_of c.args.table.now) c.requires.book.fits c.requires.book.few _ _ refl _ (c.pay.ensures rows))

pub returns-in-Close : goal.returns-in-Close
unfolding event_causes act
returns-in-Close c =
    let rows : Rows = rows_of c.args.held.now c.args.kinds.now c.args.units.now in
    let book : Book = book_of c.args.scalars rows in
    rw c.in-Close.is (changes-table _ book (trades_of c.args.table.now) c.requires.book.fits c.requires.book.few _ _ _ refl _ _ c.close.ensures)

pub returns-in-Post : goal.returns-in-Post
unfolding event_causes act
returns-in-Post c =
    let rows : Rows = rows_of c.args.held.now c.args.kinds.now c.args.units.now in
    let book : Book = book_of c.args.scalars rows in
    rw c.in-Post.is (leaves_table _ book (trades_of c.args.table.now) c.requires.book.fits c.requires.book.few _ _ refl _ (c.post.ensures c.args.kinds.now c.args.units.now))
