-- The links of a lent list as the code reads them: link k is 8 bytes from place 8·k on, its from and then its to.
use Rattle.std.specs.Prelude.{ℕ, ◌+◌, ◌*◌, ◌<◌, ◌≤◌, ◌≡◌, List, length}
use Rattle.survey.specs.Limits.{entry_bytes}
use Rattle.survey.specs.Survey.{Survey}
use Rattle.survey.specs.Words.{word, link_at, lent}

-- an end of link k: the word that stands so many bytes into its entry, at 0 the from and at 4 the to
unfoldable pub end_of : List ℕ → ℕ → ℕ → ℕ
end_of l end k = word l (entry_bytes * k + end)

-- a survey of n groups whose e links are those of the list
pub record Given (s : Survey) (n e : ℕ) (l : List ℕ) : Type 0 where
  pub groups : n ≡ s.n
  pub count : e ≡ s.e
  pub link : (k : ℕ) → k < e → s.link k ≡ link_at l lent k

-- the survey that n and a list of e links give, of which the counts are left open: whatever is said of links and amounts is said of it
abbrev pub bare : ℕ → ℕ → List ℕ → Survey
bare n e l =
    record {
      n = n;
      e = e;
      group = λ g. record { dead = 0; live = 0 };
      link = λ k. record { from = end_of l 0 k; to = end_of l 4 k };
    }

-- e links lie whole within the list
abbrev pub LinksWithin : ℕ → List ℕ → Type 0
LinksWithin e l = entry_bytes * e ≤ length l
