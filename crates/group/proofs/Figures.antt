-- Every starred figure of the document comes out of the written rules, by computation.
use mathlib.Core.Path.{◌≡◌, refl}
use mathlib.Core.Bool.{true}
use Rattle.numbers.specs.Column.{column}
use Rattle.numbers.specs.Sum.{sum, sum_z, sum_to, count}
use Rattle.terms.specs.Reply.{need, next}
use Rattle.terms.specs.Refusals.{check, passed, first_fault}
use Rattle.terms.specs.Checks.{margin_checks, amount_checks}
use Rattle.quota.specs.Quota.{whole, rest, larger_first, ahead, before, rank, still, cut_at, cuts_of}
use Rattle.group.specs.Steps.{band_of, excess_of, verdict_of, reason_of}
use Rattle.group.specs.Group.{step1_all, size_of, sizes_of, share_of, cuts_for, taken_off, step2_all, step3_all, reasons_all}
use Rattle.group.specs.Columns.{unit_check, unit_checks, lengths, sums_by, judge_of}
use Rattle.group.specs.Figures.{figures, group_of, reasons_of, same, every, is_so, replied, holds}

pub figures-hold : every holds figures ≡ true
unfolding column sum sum_z sum_to count need next check passed first_fault margin_checks amount_checks whole rest larger_first ahead before rank still cut_at cuts_of band_of excess_of verdict_of reason_of step1_all size_of sizes_of share_of cuts_for taken_off step2_all step3_all reasons_all unit_check unit_checks lengths sums_by judge_of figures group_of reasons_of same every is_so replied holds
figures-hold = refl
