use Rattle.std.proofs.Common.{sym, subst}
use Rattle.vg_report.specs.Lawful.{IsLawful}
use Rattle.vg_report.proofs.LawfulExamples.{two_of_three_sent_lawful}
use Rattle.vg_file_tests.proofs.report.a_report_of_three_packets.Goals as goal

pub write_report-requires : goal.write_report-requires
write_report-requires g c = subst IsLawful (sym c.two_of_three-report.ensures) two_of_three_sent_lawful
