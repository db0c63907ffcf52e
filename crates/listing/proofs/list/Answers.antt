-- `listing::list` gives each call what it requires: what it writes is what its input asks for. Assumes nothing.
use Rattle.std.proofs.Common.{refl}
use Rattle.listing.proofs.Laws.Listed.{build_refused, build_listed, build_surveyed}
use Rattle.listing.proofs.list.Goals as goal

pub refuse-requires : goal.refuse-requires
refuse-requires g c =
    build_refused c.args.asked.line.now c.args.asked.shape c.args.asked.asked c.in-Err.r (rw (← c.zeroed-space.ensures.size) at c.in-Err.ensures.answer)

pub write_text-requires : goal.write_text-requires
write_text-requires g c =
    (build_listed c.args.asked.line.now c.args.asked.shape c.args.asked.asked _ c.zeroed-space.ensures.size _ c.in-Ok.ensures.cells c.in-Ok.ensures.answer c.in-Ok-survey_table.worst
    c.in-Ok-survey_table.ensures).0

pub invariant_of-write_text : goal.invariant_of-write_text
invariant_of-write_text g c =
    record {
      listed =
          (build_listed c.args.asked.line.now c.args.asked.shape c.args.asked.asked _ c.zeroed-space.ensures.size _ c.in-Ok.ensures.cells c.in-Ok.ensures.answer c.in-Ok-survey_table.worst
          c.in-Ok-survey_table.ensures).1;
    }

-- where the build is done, the survey gives a finding
pub unreachable-requires : goal.unreachable-requires
unreachable-requires g c =
    build_surveyed c.args.asked.line.now c.args.asked.shape c.args.asked.asked _ c.zeroed-space.ensures.size _ c.in-Ok.ensures.cells c.in-Ok.ensures.answer c.in-Err-survey_table.field-0
    c.in-Err-survey_table.ensures
