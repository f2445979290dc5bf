-- The answers of reader, chooser and checker fit the number that they cross the boundary as.
use Prim.Native.Nat.{ℕ, ◌^◌}
use native.Mathlib.Omega.{arith}
use mathlib.Core.List.{List}
use Rattle.std.specs.Prelude.{Result, Ok, Err}
use Rattle.survey.specs.declared.answers.Refusal.{Refusal}
use Rattle.survey.specs.declared.answers.Size.{Size}
use Rattle.survey.specs.Refusals.{AllClear}
use Rattle.survey.specs.Faults.{file_faults, reader_faults}
use Rattle.survey.specs.Promises.{ReaderSays, ChooserSays, CheckerSays}
use Rattle.survey.proofs.RoundCount.{rounds_few}
use Rattle.survey.proofs.Small.{SmallBy}
use Rattle.survey.proofs.SmallAnswers.{reader_small, chooser_small, checker_small}
use Rattle.survey.proofs.Verdicts.{fine_clear, clear_fine}
use Rattle.words.specs.Words.{Bytes}
use Rattle.words.proofs.WordLaws.{word_below}
use Rattle.boundary.specs.Packed.{SmallReading, SmallChoice, SmallJudgement}
use Rattle.calls.specs.Calls.{AdmittedCall}
use Rattle.calls.proofs.CallLaws.{admitted_call}
use Rattle.reader.proofs.FileLaws.{clear_range}
use Rattle.reader.proofs.Readings.{blocks_clear}

pub reading_small : {f groups links : List ℕ} (r : Result Size Refusal) {groups' links' : List ℕ} → Bytes f → ReaderSays f groups links r groups' links' → SmallReading r
unfolding AllClear
reading_small {f} {groups} {links} (Err r) b says =
    let small : SmallBy (2 ^ 32) r = reader_small f groups links (omega (arith, word_below b 8)) (omega (arith, word_below b 12)) says.verdict in
    record { number = small.number; above = small.above; place = omega (arith, small.place) }
reading_small {f} {groups} {links} (Ok size) b says =
    let fits = clear_range f (blocks_clear f (clear_fine (file_faults f) (fine_clear (reader_faults f groups links) says.verdict).1)) in
    record { groups = omega (arith, says.lists.0, fits.groups); links = omega (arith, says.lists.1, fits.links) }

pub choice_small :
    {n e : ℕ} {groups links marks amounts : List ℕ} (r : Result ℕ Refusal) {marks' amounts' : List ℕ} → ChooserSays n e groups links marks amounts r marks' amounts'
    → SmallChoice r
choice_small {n} {e} {groups} {links} {marks} {amounts} (Err r) says =
    let small : SmallBy (2 ^ 32) r = chooser_small n e groups links marks amounts says.verdict in
    record { number = small.number; above = small.above; place = omega (arith, small.place) }
choice_small {n} {e} {groups} {links} {marks} {amounts} (Ok rounds) says =
    let call : AdmittedCall n e groups links marks amounts = admitted_call groups links marks amounts n e says.verdict in
    omega (arith, rounds_few call.sound.some_dead says.lists.counted, call.sound.groups)

pub judgement_small : {n e : ℕ} {groups links marks amounts : List ℕ} (r : Result (Unit {0}) Refusal) → CheckerSays n e groups links marks amounts r → SmallJudgement r
judgement_small {n} {e} {groups} {links} {marks} {amounts} (Err r) says =
    let small : SmallBy (2 ^ 32) r = checker_small n e groups links marks amounts says.verdict in
    record { number = small.number; above = small.above; place = omega (arith, small.place) }
judgement_small (Ok tt) says = tt
