-- `blocks::tests::unused_are_zero` meets its contract. Every word from the first unused one on is looked at. Assumes nothing.
use Rattle.std.proofs.Common.{ℕ, ◌≤◌, ◌<◌, ◌≡◌, rules, arith}
use Rattle.survey.specs.SurveyFile.{block_word, UnusedAreZero}
use Rattle.refusals.proofs.Looking.{tells_as}
use Rattle.refusals.proofs.Ranges.{all_from_to}
use Rattle.blocks.proofs.tests.unused_are_zero.Goals as goal

pub returns : goal.returns
returns c =
    let a = c.args in
    let from = c.used_words.ensures in
    tells_as {P = (w : ℕ) → c.used_words.result ≤ w → w < 126 → block_word a.file.now a.b w ≡ 0} {Q = UnusedAreZero a.file.now a.size.n a.size.e a.b} _
    (λ h. record { at = λ w l m. h w (omega (arith, from)) m })
    (λ z w l m. z.at w (omega (arith, from)) m)
    (all_from_to _ _ _ _ _ _ c.all.ensures.ran (λ x q k. search rules) (λ x q k. search rules))
