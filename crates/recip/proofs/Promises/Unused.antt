-- Document 01: "Fields that an answer doesn't use are zero, with any number, 0 and 5 too." For each call's report, which they are. The
-- calls that answer a number only have no other value. Assumes nothing.
pub use Rattle.entry.proofs.Laws.Report.{EntryUnused, entry_error_unused}
pub use Rattle.table.proofs.Laws.Report.{LookupUnused, look_up_unused}
pub use Rattle.survey.proofs.Laws.Report.{SurveyUnused, survey_unused, survey_bank_unused, survey_bank_of_unused}
pub use Rattle.survey.proofs.Laws.TallyReport.{take_unused}
pub use Rattle.verdict.proofs.Laws.Report.{CheckUnused, check_unused}
pub use Rattle.memory_text.proofs.Laws.Report.{WriteUnused, write_unused, ReadUnused, read_unused}
