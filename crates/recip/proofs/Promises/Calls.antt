-- What documents 01 and 02 say of the calls beyond the order's demands. Assumes nothing.
--     banks_in_any_order                   "All banks of one h, built in any order, give the whole table."
--     bank_built_keeps_before, bank_built_keeps_after    "The call fills only that bank's cells"
--     length_built, length_bank_built      a builder leaves as many cells as it was lent
--     shown_whole, empty_is_refused, refused_is_empty    "A shown bank is never empty; an empty stretch means refusal"
--     look_up_contains                     the n that Look up gives, with 0 and with 5, is that of the interval that has X·2^s/32768
--     shift_reaches, shift_stays, no_smaller_shift, shift_is_one    "shift it left by the least s that brings it to 32768 or more": it
--                                          stays below 65536, no smaller s does it, and no other s has these two bounds
--     found_error_within                   of every divisor looked up, the error of the j found lies between that entry's low and high,
--                                          so within its worst error
--     lookup_by_one_cell                   Look up reads one cell
--     survey_reports_largest, largest_is_one    "the largest worst error, the smallest n that has it"
--     survey_is_tallied, bank_is_tallied   a tally of every field of a table, or of a bank, has its survey
--     banks_report_whole, whole_reports_largest    the banks' reports give that of the whole table, in whatever order they come
--     bank_of_shown                        the survey of a bank in its table is that of the bank shown
--     check_names_first_failing, not_best_larger    the check names the first entry that is not best
--     first_is_smallest, and of the reports check_names_smallest, survey_names_smallest, survey_bank_names_smallest,
--     survey_bank_of_names_smallest, write_names_smallest    5 names the smallest n of an over-wide field
--     survey_past_table, bank_past_bank, bank_of_past_bank, check_past_table, shown_past_table, show_bank_number_past_table,
--     build_number_past_table, built_past_table, build_bank_number_past_table, bank_built_past_table
--                                          "Cells past the table change no answer and keep their values."
--     error_above_low, error_at_most_high, high_reached, low_approached    "Over interval n it runs from low (not reached) to high
--                                          (reached at the left end)", at every x
--     high_less_low                        "An entry's two errors differ by exactly j"
--     ends_never_equal, side_is_larger     "an entry's two errors never have equal size": the side is 0 and high is larger, or 1 and low is
--     worst_bounds_error, worst_is_least_bound    a fraction bounds the error at every x iff the worst error is at most that
--     nearest_is_nearest                   "Nearest is worked out exactly": no whole number is nearer
--     written_reads_back                   "Read back, a written table is the same table": for every table of good fields, into any cells
--     done_wrote                           what the writer leaves: the text up to the length that it gives, and "bytes past the text stay"
--     done_gives_all, done_leaves_fields   a reading that is done has every cell given exactly once, and the cells are those values
--     lacking_names_smallest               "11 gives the smallest missing n": it is not given, and each one before it is, once
--     every_text_laid, laid_out, gap_passes    what the tokens of a text are, wherever white space and comments stand between them
--     same_words_read_alike                and these change nothing but offsets
--     read_number_past_table, read_cells_past_table, write_number_past_table, written_past_table    cells past the table, of memory texts
pub use Rattle.entry.proofs.Laws.Everywhere.{error_above_low, error_at_most_high, high_reached, low_approached, worst_bounds_error, worst_is_least_bound}
pub use Rattle.entry.proofs.Laws.Nearest.{nearest_is_nearest}
pub use Rattle.entry.proofs.Laws.Products.{high_less_low}
pub use Rattle.entry.proofs.Laws.Sides.{ends_never_equal, IsSide, side_is_larger}
pub use Rattle.table.proofs.Laws.AnyOrder.{banks_in_any_order}
pub use Rattle.table.proofs.Laws.Built.{length_built, bank_built_keeps_before, bank_built_keeps_after, length_bank_built}
pub use Rattle.table.proofs.Laws.Found.{found_error_within}
pub use Rattle.table.proofs.Laws.Lookup.{look_up_contains, lookup_by_one_cell}
pub use Rattle.table.proofs.Laws.Past.{build_number_past_table, built_past_table, build_bank_number_past_table, bank_built_past_table, show_bank_number_past_table, shown_past_table}
pub use Rattle.table.proofs.Laws.Shift.{shift_reaches, shift_stays, no_smaller_shift, shift_is_one}
pub use Rattle.table.proofs.Laws.Shown.{shown_whole, empty_is_refused, refused_is_empty}
pub use Rattle.table.proofs.Laws.First.{first_is_smallest}
pub use Rattle.survey.proofs.Laws.Largest.{largest_is_one}
pub use Rattle.survey.proofs.Laws.Past.{survey_past_table, bank_past_bank, bank_of_past_bank}
pub use Rattle.survey.proofs.Laws.Report.{survey_names_smallest, survey_bank_names_smallest, survey_bank_of_names_smallest}
pub use Rattle.survey.proofs.Laws.Reported.{survey_reports_largest, survey_is_tallied, bank_is_tallied, banks_report_whole, whole_reports_largest}
pub use Rattle.survey.proofs.Laws.Shown.{bank_of_shown}
pub use Rattle.verdict.proofs.Laws.Finding.{check_names_first_failing, check_names_smallest, not_best_larger}
pub use Rattle.verdict.proofs.Laws.Verdict.{check_past_table}
pub use Rattle.memory_text.proofs.Laws.Alike.{Alike, same_words_read_alike}
pub use Rattle.memory_text.proofs.Laws.Every.{every_text_laid}
pub use Rattle.memory_text.proofs.Laws.Gifts.{GivesAll, done_gives_all, NamesMissing, lacking_names_smallest}
pub use Rattle.memory_text.proofs.Laws.Layout.{gap_passes, laid_out}
pub use Rattle.memory_text.proofs.Laws.Leaves.{done_leaves_fields}
pub use Rattle.memory_text.proofs.Laws.Past.{read_number_past_table, read_cells_past_table, write_number_past_table, written_past_table}
pub use Rattle.memory_text.proofs.Laws.RoundTrip.{Wrote, done_wrote, ReadsAs, written_reads_back}
pub use Rattle.memory_text.proofs.Laws.Report.{write_names_smallest}
