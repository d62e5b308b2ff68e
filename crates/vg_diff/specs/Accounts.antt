-- The report of a run whose files were loaded.
use Rattle.std.specs.Prelude.{◌≡◌, true, Ok}
use Rattle.vg_report.specs.Reading.{report_of}
use Rattle.vg_diff.specs.declared.input.Account.{Account}
use Rattle.vg_diff.specs.declared.input.Input.{Input}
use Rattle.vg_diff.specs.Files.{has_packets_of}
use Rattle.vg_diff.specs.Numbers.{sent_numbers}

-- the text is that of the report, beside which stand the numbers of the packets that were sent; it has as many packets as the files
pub record IsAccount (input : Input) (account : Account) : Type 0 where
  pub is_report : report_of input.text ≡ Ok account.report
  pub sent_are : account.sent.items ≡ sent_numbers account.report
  pub fits : has_packets_of account.report account.sent.items input ≡ true
