-- Specification 15, "Drawings": the cases of 15.2, in one list, and table 1, the closed sets of F2.
use Rattle.std.specs.Prelude.{ℕ, ◌≡◌, false, ◌||◌, List, [], ◌∷◌, ◌++◌, length, get_or, eqb}
use Rattle.survey.specs.declared.answers.Place.{Place}
use Rattle.survey.specs.declared.answers.Place.TheVariants.{Nothing, Group}
use Rattle.survey.specs.Survey as survey
use Rattle.survey.specs.Survey.{Survey}
use Rattle.survey.specs.Sets.{Set, Closed, D, L}
use Rattle.survey.specs.Pick.{IsPick}
use Rattle.survey.specs.Rounds.{RoundsOf}
use Rattle.survey.specs.Refusals.{Verdict, fine, refused, Answers}
use Rattle.survey.specs.Faults.{list_faults, claim_faults, Admitted}

-- 15: a group by its counts, written dead:live
abbrev pub counts : ℕ → ℕ → survey.Group
counts dead live = record { dead = dead; live = live }

-- 15: a link, written (p, q)
abbrev pub link : ℕ → ℕ → survey.Link
link from to = record { from = from; to = to }

-- 15.1: the survey of some groups and links, numbered as they stand
abbrev pub drawn : List survey.Group → List survey.Link → Survey
drawn groups links =
    record { n = length groups; e = length links; group = λ g. get_or groups g (counts 0 0); link = λ k. get_or links k (link 0 0) }

-- 15: the set of the groups with these numbers
abbrev pub set_of : List ℕ → Set
set_of [] g = false
set_of (p ∷ ps) g = eqb p g || set_of ps g

-- 15: the amounts on the links, one after the other
abbrev pub amounts_in : List ℕ → ℕ → ℕ
amounts_in a k = get_or a k 0

-- 15.2: what a case says of its survey.
pub data Drawing : Type 0 where
  -- it is admitted
  admits : Survey → Drawing
  -- the pick is the set of these groups
  picks : Survey → List ℕ → Drawing
  -- these groups have so many dead, so many live
  sums : Survey → List ℕ → ℕ → ℕ → Drawing
  -- so many rounds end with these groups
  rounds : Survey → ℕ → List ℕ → Drawing
  -- the claim of these marks and amounts is answered so
  claim : Survey → List ℕ → List ℕ → Verdict → Drawing

-- 15.2: what that means in the words of the definitions
abbrev pub Holds : Drawing → Type 0
Holds (admits s) = Admitted s
Holds (picks s groups) = IsPick s (set_of groups)
Holds (sums s groups dead live) = (D s (set_of groups) ≡ dead) × (L s (set_of groups) ≡ live)
Holds (rounds s k groups) = RoundsOf s k (set_of groups)
Holds (claim s marks amounts v) = Answers (list_faults s ++ claim_faults s marks (amounts_in amounts)) v

-- 15.2: a case comes out accepted
abbrev pub accepted : Verdict
accepted = fine

-- 15.2: or refused, by number and place
abbrev pub refused_at : ℕ → Place → Verdict
refused_at number place = refused (record { number = number; place = place })

-- 15.1: F2
abbrev pub f2 : Survey
f2 =
    drawn (counts 2 2 ∷ counts 4 3 ∷ counts 1 12 ∷ counts 6 3 ∷ counts 10 3 ∷ [])
    (link 0 2 ∷ link 1 2 ∷ link 1 3 ∷ link 1 4 ∷ [])

-- 15.1: F7
abbrev pub f7 : Survey
f7 = drawn (counts 2 1 ∷ counts 0 2 ∷ counts 3 0 ∷ counts 3 0 ∷ []) (link 0 1 ∷ link 1 2 ∷ link 1 3 ∷ [])

-- 15.2: two groups alike
abbrev pub two_alike : Survey
two_alike = drawn (counts 1 1 ∷ counts 1 1 ∷ []) []

-- 15.2: a group in which nothing is live, beside one that has something
abbrev pub nothing_live : Survey
nothing_live = drawn (counts 3 0 ∷ counts 5 1 ∷ []) []

-- 15.2: the same with an empty group
abbrev pub with_empty_group : Survey
with_empty_group = drawn (counts 3 0 ∷ counts 5 1 ∷ counts 0 0 ∷ []) []

-- 15.2: one group by itself
abbrev pub one_group : Survey
one_group = drawn (counts 1 0 ∷ []) []

-- 15.2, case after case
abbrev pub drawings : List Drawing
drawings =
    -- F2: its pick, in how many rounds, and three claims
    picks f2 (1 ∷ 4 ∷ [])
    ∷ sums f2 (1 ∷ 4 ∷ []) 14 6
    ∷ rounds f2 4 (1 ∷ 4 ∷ [])
    ∷ claim f2 (0 ∷ 1 ∷ 0 ∷ 0 ∷ 1 ∷ []) (0 ∷ 0 ∷ 0 ∷ 18 ∷ []) accepted
    ∷ claim f2 (0 ∷ 1 ∷ 0 ∷ 0 ∷ 1 ∷ []) (0 ∷ 0 ∷ 0 ∷ 17 ∷ []) (refused_at 17 (Group 4))
    ∷ claim f2 (0 ∷ 1 ∷ 0 ∷ 0 ∷ 1 ∷ []) (0 ∷ 0 ∷ 0 ∷ 19 ∷ []) (refused_at 17 (Group 1))
    -- F7, in the same way, with one claim
    ∷ picks f7 (0 ∷ 1 ∷ 2 ∷ 3 ∷ [])
    ∷ sums f7 (0 ∷ 1 ∷ 2 ∷ 3 ∷ []) 8 3
    ∷ rounds f7 1 (0 ∷ 1 ∷ 2 ∷ 3 ∷ [])
    ∷ claim f7 (1 ∷ 1 ∷ 1 ∷ 1 ∷ []) (2 ∷ 9 ∷ 9 ∷ []) accepted
    -- two alike: the pick has both, so a claim of one is not the largest, and a claim of none has nothing dead
    ∷ picks two_alike (0 ∷ 1 ∷ [])
    ∷ claim two_alike (1 ∷ 0 ∷ []) [] (refused_at 18 (Group 1))
    ∷ claim two_alike (0 ∷ 0 ∷ []) [] (refused_at 16 Nothing)
    -- nothing live is best, and an empty group goes with it
    ∷ picks nothing_live (0 ∷ [])
    ∷ rounds nothing_live 2 (0 ∷ [])
    ∷ picks with_empty_group (0 ∷ 2 ∷ [])
    -- one group
    ∷ picks one_group (0 ∷ [])
    -- and each of these surveys is admitted
    ∷ admits f2
    ∷ admits f7
    ∷ admits two_alike
    ∷ admits nothing_live
    ∷ admits with_empty_group
    ∷ admits one_group
    ∷ []

-- 15.2: a row of table 1 is a closed set with its D and its L.
pub record Row : Type 0 where
  pub groups : List ℕ
  pub dead : ℕ
  pub live : ℕ

-- 15.2: such a row
abbrev pub row : List ℕ → ℕ → ℕ → Row
row groups dead live = record { groups = groups; dead = dead; live = live }

-- 15.2: the 14 closed sets of F2, and no others
abbrev pub table1 : List Row
table1 =
    row (0 ∷ 1 ∷ 2 ∷ []) 7 17
    ∷ row (0 ∷ 1 ∷ 2 ∷ 3 ∷ []) 13 20
    ∷ row (0 ∷ 1 ∷ 2 ∷ 4 ∷ []) 17 20
    ∷ row (0 ∷ 1 ∷ 2 ∷ 3 ∷ 4 ∷ []) 23 23
    ∷ row [] 0 0
    ∷ row (0 ∷ []) 2 2
    ∷ row (1 ∷ []) 4 3
    ∷ row (1 ∷ 3 ∷ []) 10 6
    ∷ row (1 ∷ 3 ∷ 4 ∷ []) 20 9
    ∷ row (1 ∷ 4 ∷ []) 14 6
    ∷ row (0 ∷ 1 ∷ []) 6 5
    ∷ row (0 ∷ 1 ∷ 3 ∷ []) 12 8
    ∷ row (0 ∷ 1 ∷ 4 ∷ []) 16 8
    ∷ row (0 ∷ 1 ∷ 3 ∷ 4 ∷ []) 22 11
    ∷ []

-- 15.2: a row is right if its set is closed and has those sums.
pub record RowHolds (s : Survey) (r : Row) : Type 0 where
  pub closed : Closed s (set_of r.groups)
  pub dead : D s (set_of r.groups) ≡ r.dead
  pub live : L s (set_of r.groups) ≡ r.live
