-- Laws of the links of a list: what is said of the bare survey of the links is said of every survey that has them.
use Prim.Native.Nat.{ℕ, ◌+◌, ◌*◌, ◌<◌}
use mathlib.Core.Path.{◌≡◌, refl, sym, ap, ◌∙◌}
use mathlib.Core.List.{List}
use native.Mathlib.Omega.{arith}
use Rattle.survey.specs.Limits.{entry_bytes}
use Rattle.survey.specs.Survey.{Survey, Link}
use Rattle.survey.specs.Words.{word, link_at, lent, stands_at, survey_of}
use Rattle.survey.specs.Sound.{Inside}
use Rattle.survey.proofs.GivenSurvey.{given_n, given_e, given_link}
use Rattle.flow.specs.Links.{end_of, Given, bare}

module _ (l : List ℕ) (k : ℕ) where
  pub end_from : (link_at l lent k).from ≡ end_of l 0 k
  unfolding end_of
  end_from = ap (word l) (place k)
    where
      place : (k : ℕ) → stands_at lent k ≡ entry_bytes * k + 0
      place k = omega arith

  pub end_to : (link_at l lent k).to ≡ end_of l 4 k
  unfolding end_of
  end_to = ap (word l) (place k)
    where
      place : (k : ℕ) → stands_at lent k + 4 ≡ entry_bytes * k + 4
      place k = omega arith

-- The bare survey is one that has the links.
pub bare_given : (n e : ℕ) (l : List ℕ) → Given (bare n e l) n e l
bare_given n e l =
    record { groups = refl; count = refl; link = λ k h i. record { from = sym (end_from l k) i; to = sym (end_to l k) i } }

-- So is the one that is given as lists.
pub survey_given : (n e : ℕ) (groups l : List ℕ) → Given (survey_of n e groups l) n e l
survey_given n e groups l =
    record {
      groups = sym (given_n n e groups lent l lent);
      count = sym (given_e n e groups lent l lent);
      link = given_link n e groups lent l lent;
    }

module _ {s : Survey} {n e : ℕ} {l : List ℕ} (v : Given s n e l) where
  pub given_from : (k : ℕ) → k < e → (s.link k).from ≡ end_of l 0 k
  given_from k h = ap (λ (a : Link). a.from) (v.link k h) ∙ end_from l k

  pub given_to : (k : ℕ) → k < e → (s.link k).to ≡ end_of l 4 k
  given_to k h = ap (λ (a : Link). a.to) (v.link k h) ∙ end_to l k

  -- a link of one is a link of the other
  pub given_below : {k : ℕ} → k < s.e → k < e
  given_below h = rw v.count h

  -- the links of the list end in groups exactly where those of the survey do
  pub inside_ends : Inside s → (k : ℕ) → k < e → (end_of l 0 k < n) × (end_of l 4 k < n)
  inside_ends i k h =
      let b : k < s.e = rw v.count at h in
      (rw (v.groups, ← given_from k h) (i.from k b), rw (v.groups, ← given_to k h) (i.to k b))
