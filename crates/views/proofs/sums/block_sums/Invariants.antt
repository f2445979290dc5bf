use Rattle.views.specs.Sums.{sums_of}
use Rattle.survey.specs.SurveyFile.{block_word, sums}
use Rattle.std.proofs.Common.{◌≡◌}
use Rattle.views.proofs.sums.block_sums.Given as goal

abbrev pub invariant-loop-w : goal.invariant-loop-w
invariant-loop-w l = sums_of l.s ≡ sums (block_word l.file l.b) l.w
