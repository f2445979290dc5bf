-- Refusals as the code makes them.
use Rattle.std.specs.Prelude.{ℕ}
use Rattle.survey.specs.declared.answers.Place.TheVariants.{Nothing}
use Rattle.survey.specs.declared.answers.Refusal.{Refusal}
use Rattle.survey.specs.Refusals.{place_of}

-- the refusal of a row `among`, at its place k
abbrev pub refusal_at : ℕ → ℕ → Refusal
refusal_at number k = record { number = number; place = place_of number k }

-- the refusal of a row `whole`
abbrev pub refusal_whole : ℕ → Refusal
refusal_whole number = record { number = number; place = Nothing }
