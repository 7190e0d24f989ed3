-- One name for all that a case computes through: who opens `every_rule` opens every rule.
-- For the worked cases, here and in the crates above. Assumes nothing.
use Rattle.money.specs.Causes.{first_of}
use Rattle.money.specs.Days.{trades, first_trading, at_or_after, next_after, earliest}
use Rattle.money.specs.Money.{principal, income, redemption}
use Rattle.money.specs.Collateral.{kind_value}
use Rattle.rules.specs.Folds.{sum_below, all_below, in_turn, every}
use Rattle.rules.specs.Book.{fresh_book}
use Rattle.rules.specs.Days.{following, payment_day, followed}
use Rattle.rules.specs.Trades.{total, outstanding, on_table, trade_of, differ, take_off, remaining}
use Rattle.rules.specs.Vault.{value, headroom}
use Rattle.rules.specs.Fit.{capacity_fit, securities_fit, cash_fit, all_trades, size_fit, postings_fit, nets_fit, sums_fit, withdrawals_fit, fit}
use Rattle.rules.specs.Status.{status_at_open}
use Rattle.rules.specs.Open.{open_causes, opened_book, opened_table, turns_terminated}
use Rattle.rules.specs.Funds.{fund_in_causes, funded_in, fund_out_causes, funded_out}
use Rattle.rules.specs.Size.{size_causes, sized}
use Rattle.rules.specs.Rate.{rate_causes, rated}
use Rattle.rules.specs.Pledge.{pledge_causes, pledged}
use Rattle.rules.specs.Freeze.{freeze_causes, frozen}
use Rattle.rules.specs.Withdraw.{withdraw_causes, withdrawn, applied}
use Rattle.rules.specs.Initial.{initial_causes, initial_book, initial_table}
use Rattle.rules.specs.Early.{early_causes, early_book, early_table}
use Rattle.rules.specs.Pay.{pay_causes, after_pay}
use Rattle.rules.specs.Post.{post_causes, posted}
use Rattle.rules.specs.NextTerm.{starts, left_from, started_from}
use Rattle.rules.specs.Close.{matured_trades, matured_sheets, matured_amount, left_trades, started_terms, started_principal, close_causes, all_arrived, taken_out, may_go, applications, evening, claims_at_close, closed_table, is_short_close, closed_book, close_answer}
use Rattle.rules.specs.Step.{event_causes, causes, act, step}
use Rattle.rules.specs.Run.{run}

-- it says nothing itself
unfoldable pub every_rule : Unit {0}
unfolding fresh_book run step causes event_causes act first_of every
    fit capacity_fit securities_fit cash_fit all_trades size_fit postings_fit nets_fit sums_fit differ withdrawals_fit followed
    trades first_trading at_or_after next_after earliest following payment_day
    open_causes opened_book opened_table status_at_open turns_terminated
    fund_in_causes funded_in fund_out_causes funded_out size_causes sized rate_causes rated
    pledge_causes pledged freeze_causes frozen withdraw_causes withdrawn applied
    initial_causes initial_book initial_table early_causes early_book early_table pay_causes after_pay post_causes posted
    close_causes closed_book closed_table close_answer matured_trades matured_sheets matured_amount is_short_close
    left_trades started_terms started_principal left_from started_from starts
    evening claims_at_close all_arrived applications in_turn taken_out may_go
    total outstanding remaining on_table trade_of take_off
    value sum_below all_below kind_value headroom principal redemption income
every_rule = tt
