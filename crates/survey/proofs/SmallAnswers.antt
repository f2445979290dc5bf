-- The refusals of reader, chooser and checker are small.
use Prim.Native.Nat.{ℕ, ◌^◌, ◌≤◌, ◌<◌}
use native.Mathlib.Omega.{arith}
use mathlib.Core.Logic.{◌⊎◌, inl, inr, ⊎_elim}
use mathlib.Core.List.{List, [], ◌∷◌, ◌++◌}
use lib.ListN.{length}
use Rattle.survey.specs.declared.answers.Refusal.{Refusal}
use Rattle.survey.specs.Limits.{group_limit, link_limit}
use Rattle.survey.specs.Survey.{Survey}
use Rattle.survey.specs.Balance.{Amounts}
use Rattle.survey.specs.Words.{survey_of, amounts_of}
use Rattle.survey.proofs.Verdicts.{early}
use Rattle.survey.proofs.GivenSurvey.{given_n, given_e}
use Rattle.survey.specs.SurveyFile.{n_in, e_in, file_limit, block_count, survey_in}
use Rattle.survey.specs.Refusals.{refused, Fault, whole, Clear, Answers}
use Rattle.survey.specs.Faults.{OneShort, bad_length, bad_check, bad_header, bad_range, bad_block_count, bad_kind, bad_unused, survey_faults}
use Rattle.survey.specs.Faults.{list_faults, file_faults, claim_faults, reader_faults, call_lists, chooser_faults, checker_faults}
use Rattle.survey.proofs.Small.{look, SmallBy, AllFew, given_small, refused_small, few_whole, few_among}

-- 3 to 12
abbrev after_length : List ℕ → List Fault
after_length f = bad_check f ∷ bad_header f ∷ bad_range (n_in f) (e_in f) ∷ bad_block_count f ∷ bad_kind f ∷ bad_unused f ∷ survey_faults (survey_in f)

-- more than any place
abbrev pub place_room : ℕ
place_room = 2 ^ 32

survey_few : (s : Survey) → s.n ≤ place_room → s.e ≤ place_room → AllFew place_room (survey_faults s)
unfolding AllFew
survey_few s hn he = (
  few_among 8 s.n _ (omega arith, omega arith) hn,
  (
    few_among 9 s.e _ (omega arith, omega arith) he,
    (
      few_among 10 s.e _ (omega arith, omega arith) he,
      (few_whole 11 _ (omega arith, omega arith) (omega arith), (few_whole 12 _ (omega arith, omega arith) (omega arith), tt)),
    ),
  ),
)

claim_few : (s : Survey) (m : List ℕ) (a : Amounts) → s.n ≤ place_room → s.e ≤ place_room → AllFew place_room (claim_faults s m a)
unfolding AllFew
claim_few s m a hn he = (
  few_among 13 s.n _ (omega arith, omega arith) hn,
  (
    few_among 14 s.e _ (omega arith, omega arith) he,
    (
      few_among 15 s.e _ (omega arith, omega arith) he,
      (
        few_whole 16 _ (omega arith, omega arith) (omega arith),
        (few_among 17 s.n _ (omega arith, omega arith) hn, (few_among 18 s.n _ (omega arith, omega arith) hn, tt)),
      ),
    ),
  ),
)

few_more : (fs gs : List Fault) → AllFew place_room fs → AllFew place_room gs → AllFew place_room (fs ++ gs)
unfolding AllFew
few_more [] gs x y = y
few_more (f ∷ fs) gs x y = (x.0, few_more fs gs x.1 y)

none_few : AllFew place_room []
unfolding AllFew
none_few = tt

file_rows : (f : List ℕ) → block_count f ≤ place_room → n_in f ≤ place_room → e_in f ≤ place_room → AllFew place_room (after_length f)
unfolding AllFew
file_rows f hb hn he = (
  few_among 3 (block_count f) _ (omega arith, omega arith) hb,
  (
    few_among 4 1 _ (omega arith, omega arith) (omega arith),
    (
      few_whole 5 _ (omega arith, omega arith) (omega arith),
      (
        few_whole 6 _ (omega arith, omega arith) (omega arith),
        (
          few_among 6 (block_count f) _ (omega arith, omega arith) hb,
          (
            few_among 7 (block_count f) _ (omega arith, omega arith) hb,
            survey_few (survey_in f) (rw (given_n (n_in f) (e_in f) f _ f _) hn)
                (rw (given_e (n_in f) (e_in f) f _ f _) he),
          ),
        ),
      ),
    ),
  ),
)

module _ {r : Refusal} where
  -- A look at a fault of place nothing: the refusal is small, or the fault is not there and the answer is the others'.
  first_whole :
      (P : Type 0) (number : ℕ) (fs : List Fault) → (0 < number) × (number < 256) → (Clear (whole number P) → Answers fs (refused r) → SmallBy place_room r)
      → Answers (whole number P ∷ fs) (refused r) → SmallBy place_room r
  first_whole P number fs h go a =
      ⊎_elim (λ g. given_small (few_whole number P h (omega arith)) g) (λ c. go c.0 c.1) (look (whole number P) fs a)

  -- 5 and 8 to 12, and whatever comes after: past 5, n and e are in their range
  list_small : (s : Survey) (more : List Fault) → (s.n ≤ place_room → s.e ≤ place_room → AllFew place_room more) → Answers (list_faults s ++ more) (refused r)
      → SmallBy place_room r
  list_small s more few a =
      first_whole ((s.n < 1) ⊎ ((group_limit < s.n) ⊎ (link_limit < s.e))) 5 (survey_faults s ++ more) (omega arith, omega arith)
      (λ c. refused_small (survey_faults s ++ more) (few_more (survey_faults s) more (survey_few s (groups c) (links c)) (few (groups c) (links c))))
      a
    where
      groups : Clear (bad_range s.n s.e) → s.n ≤ place_room
      groups c = at (λ h. c.none 0 (omega arith) (inr (inl h)))
        where
          at : (group_limit < s.n → ⊥) → s.n ≤ place_room
          at d = omega arith

      links : Clear (bad_range s.n s.e) → s.e ≤ place_room
      links c = at (λ h. c.none 0 (omega arith) (inr (inr h)))
        where
          at : (link_limit < s.e → ⊥) → s.e ≤ place_room
          at d = omega arith

  pub chooser_small : (n e : ℕ) (g l m a : List ℕ) → Answers (chooser_faults n e g l m a) (refused r) → SmallBy place_room r
  chooser_small n e g l m a x =
      first_whole (OneShort (call_lists g l m a)) 1 (list_faults (survey_of n e g l)) (omega arith, omega arith)
      (λ c y. list_small (survey_of n e g l) [] (λ h k. none_few) (at (list_faults (survey_of n e g l)) y))
      x
    where
      at : (fs : List Fault) → Answers fs (refused r) → Answers (fs ++ []) (refused r)
      at fs y = early fs [] y

  pub checker_small : (n e : ℕ) (g l m a : List ℕ) → Answers (checker_faults n e g l m a) (refused r) → SmallBy place_room r
  checker_small n e g l m a x =
      first_whole (OneShort (call_lists g l m a)) 1 (list_faults s ++ claim_faults s m (amounts_of a)) (omega arith, omega arith)
      (λ c y. list_small s (claim_faults s m (amounts_of a)) (claim_few s m (amounts_of a)) y)
      x
    where
      s : Survey
      s = survey_of n e g l

  -- of a file whose words are words: 2^32 is above any n and e that one can hold
  pub reader_small : (f g l : List ℕ) → n_in f ≤ place_room → e_in f ≤ place_room → Answers (reader_faults f g l) (refused r) → SmallBy place_room r
  reader_small f g l hn he x =
      first_whole _ 1 (file_faults f) (omega arith, omega arith)
      (λ c y. first_whole _ 2 (after_length f) (omega arith, omega arith) (λ d z. refused_small (after_length f) (file_few d) z) y) x
    where
      blocks : Clear (bad_length f) → block_count f ≤ place_room
      blocks c = at (λ h. c.none 0 (omega arith) (inr (inr h)))
        where
          at : (file_limit < length f → ⊥) → block_count f ≤ place_room
          at d = omega arith

      file_few : Clear (bad_length f) → AllFew place_room (after_length f)
      file_few c = file_rows f (blocks c) hn he
