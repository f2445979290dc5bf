-- What a survey that is given by bytes has at its places.
use Prim.Native.Nat.{ℕ, ◌<◌}
use mathlib.Core.Path.{◌≡◌, refl}
use mathlib.Core.List.{List}
use borrow.Author.Tests.{lt-ltb}
use Rattle.survey.specs.declared.stands.Stand.{Stand}
use Rattle.survey.specs.Words.{group_at, link_at, survey_at}

module _ (n e : ℕ) (g : List ℕ) (wg : Stand) (l : List ℕ) (wl : Stand) where
  pub given_n : (survey_at n e g wg l wl).n ≡ n
  unfolding survey_at
  given_n = refl

  pub given_e : (survey_at n e g wg l wl).e ≡ e
  unfolding survey_at
  given_e = refl

  pub given_group : (k : ℕ) → k < n → (survey_at n e g wg l wl).group k ≡ group_at g wg k
  unfolding survey_at
  given_group k h = rw (lt-ltb k n h)

  pub given_link : (k : ℕ) → k < e → (survey_at n e g wg l wl).link k ≡ link_at l wl k
  unfolding survey_at
  given_link k h = rw (lt-ltb k e h)
