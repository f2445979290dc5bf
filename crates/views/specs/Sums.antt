-- The two sums of a block, as the code holds them.
use Rattle.survey.specs.SurveyFile as file
use Rattle.views.specs.declared.sums.Sums.{Sums}

-- the sums that a value of the code stands for
abbrev pub sums_of : Sums → file.Sums
sums_of s = record { a = s.a; b = s.b }
