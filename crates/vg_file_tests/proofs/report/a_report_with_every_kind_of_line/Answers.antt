use Rattle.std.proofs.Common.{sym, subst}
use Rattle.vg_report.specs.Lawful.{IsLawful}
use Rattle.vg_report.proofs.LawfulExamples.{every_kind_of_line_lawful}
use Rattle.vg_file_tests.proofs.report.a_report_with_every_kind_of_line.Goals as goal

pub write_report-requires : goal.write_report-requires
write_report-requires g c = subst IsLawful (sym c.every_kind-report.ensures) every_kind_of_line_lawful
