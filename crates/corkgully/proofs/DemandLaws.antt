-- What the three demands come to, promise by promise.
use Prim.Native.Nat.{ℕ, ◌+◌, ◌*◌, ◌%◌, ◌≤◌, ◌<◌}
use native.Mathlib.Omega.{arith}
use mathlib.Core.Path.{◌≡◌, refl, sym, ap, subst, ◌∙◌}
use mathlib.Core.Logic.{◌⊎◌, inl, inr}
use mathlib.Core.List.{List, [], ◌∷◌}
use lib.ListN.{length}
use Rattle.std.specs.Prelude.{Result, Ok, Err}
use Rattle.survey.specs.declared.answers.Size.{Size}
use Rattle.survey.specs.declared.answers.Refusal.{Refusal}
use Rattle.survey.specs.Limits.{group_limit, link_limit}
use Rattle.survey.specs.Survey.{Survey}
use Rattle.survey.specs.Pick.{IsPick}
use Rattle.survey.specs.Words.{entries, survey_of, marked_set}
use Rattle.survey.specs.SurveyFile.{n_in, e_in, survey_in}
use Rattle.survey.specs.Refusals.{fine, refused, Fault, Clear, Given, First, AllClear, Answers}
use Rattle.survey.specs.Faults.{OneShort, reader_faults, chooser_faults, checker_faults, Admitted, AdmittedFile}
use Rattle.survey.specs.Answers.{refusal_number, reading_number, choice_number, verdict_of, judgement_number}
use Rattle.survey.specs.Promises.{Chooses, ReadLists, ReaderSays, ChooserSays, CheckerSays}
use Rattle.survey.proofs.Unique.{pick_one}
use Rattle.survey.proofs.Verdicts.{fine_clear, answers_one, none_refused}
use Rattle.survey.proofs.Admitted.{file_survey}
use Rattle.survey.proofs.Small.{look}
use Rattle.survey.proofs.ChooserOne.{own_accepted}
use Rattle.words.specs.Words.{Bytes}
use Rattle.boundary.specs.Packed.{SmallRefusal}
use Rattle.boundary.proofs.NumberLaws.{refusal_no_success}
use Rattle.calls.specs.Calls.{LongEnough}
use Rattle.calls.proofs.CallLaws.{long_enough, call_clear}
use Rattle.copies.proofs.FilledSurvey.{filled_survey}
use Rattle.checker.specs.Accepting.{Acceptable}
use Rattle.checker.proofs.Accepting as accepting
use Rattle.corkgully.specs.Numbers.{ReadNumber, ChooseNumber, CheckNumber}
use Rattle.corkgully.specs.Outcomes.{Refuses, Outcome, refuses, gives, Succeeds, GivesSurvey, GivesPick}
use Rattle.corkgully.proofs.Fit.{reading_small, choice_small, judgement_small}

-- ---- 1

same_refusal : {r r' : Refusal} → refused r ≡ refused r' → r ≡ r'
same_refusal q = cc

-- a refusal is the table's first fault
first_fault : (fs : List Fault) {r : Refusal} {x : ℕ} → Answers fs (refused r) → x ≡ refusal_number r → Refuses fs x
unfolding First AllClear
first_fault [] a e = absurd (cc a.first)
first_fault (f ∷ fs) {r} {x} a e = at (look f fs a) (λ y. first_fault fs y e)
  where
    at : Given f (refused r) ⊎ (Clear f × Answers fs (refused r)) → (Answers fs (refused r) → Refuses fs x) → Refuses (f ∷ fs) x
    at (inl g) go =
        record {
          before = [];
          fault = f;
          after = fs;
          stands = refl;
          none_before = tt;
          place = g.lowest_place;
          lowest = g.lowest;
          is = e ∙ ap refusal_number (same_refusal g.is);
        }
    at (inr c) go =
        let later = go c.1 in
        record {
          before = f ∷ later.before;
          fault = later.fault;
          after = later.after;
          stands = λ i. f ∷ later.stands i;
          none_before = (c.0, later.none_before);
          place = later.place;
          lowest = later.lowest;
          is = later.is;
        }

-- the pick is the only one
pick_given :
    {s : Survey} {x rounds : ℕ} {marks amounts marks' amounts' : List ℕ} → x ≡ 65_536 * rounds → Chooses s rounds marks amounts marks' amounts'
    → GivesPick s x marks'
pick_given {rounds = rounds} e c = record { rounds = rounds; is = e; counted = c.counted; pick = c.pick; only = λ S p. pick_one p c.pick }

survey_given :
    {f groups links groups' links' : List ℕ} {n e x : ℕ} → x ≡ reading_number (Ok (record { n = n; e = e }))
    → ReadLists f groups links (Ok (record { n = n; e = e })) groups' links' → GivesSurvey f x groups' links'
survey_given {f} {n = n} {e = e} {x = x} q l = record { is = number q l.0 l.1; survey = filled_survey l.2 l.3 }
  where
    number : x ≡ 65_536 * n + 4_294_967_296 * e → n ≡ n_in f → e ≡ e_in f → x ≡ 65_536 * n_in f + 4_294_967_296 * e_in f
    number a b c = omega arith

pub reader_outcome :
    {f groups links groups' links' : List ℕ} {x : ℕ} → ReadNumber f groups links x groups' links'
    → Outcome (reader_faults f groups links) x ((groups' ≡ groups) × (links' ≡ links)) (GivesSurvey f x groups' links')
reader_outcome {f} {groups} {links} {groups'} {links'} {x} a = at a.reading a.is a.says
  where
    at : (r : Result Size Refusal) → x ≡ reading_number r → ReaderSays f groups links r groups' links'
        → Outcome (reader_faults f groups links) x ((groups' ≡ groups) × (links' ≡ links)) (GivesSurvey f x groups' links')
    at (Err r) e s = refuses (first_fault (reader_faults f groups links) s.verdict e) s.lists
    at (Ok size) e s = gives (fine_clear (reader_faults f groups links) s.verdict) (survey_given e s.lists)

pub chooser_outcome :
    {n e : ℕ} {groups links marks amounts marks' amounts' : List ℕ} {x : ℕ} → ChooseNumber n e groups links marks amounts x marks' amounts'
    → Outcome (chooser_faults n e groups links marks amounts) x ((marks' ≡ marks) × (amounts' ≡ amounts)) (GivesPick (survey_of n e groups links) x marks')
chooser_outcome {n} {e} {groups} {links} {marks} {amounts} {marks'} {amounts'} {x} a = at a.choice a.is a.says
  where
    at : (r : Result ℕ Refusal) → x ≡ choice_number r → ChooserSays n e groups links marks amounts r marks' amounts'
        → Outcome (chooser_faults n e groups links marks amounts) x ((marks' ≡ marks) × (amounts' ≡ amounts)) (GivesPick (survey_of n e groups links) x marks')
    at (Err r) q s = refuses (first_fault (chooser_faults n e groups links marks amounts) s.verdict q) s.lists
    at (Ok rounds) q s = gives (fine_clear (chooser_faults n e groups links marks amounts) s.verdict) (pick_given q s.lists)

pub checker_outcome :
    {n e : ℕ} {groups links marks amounts : List ℕ} {x : ℕ} → CheckNumber n e groups links marks amounts x
    → Outcome (checker_faults n e groups links marks amounts) x (Unit {0}) (x ≡ 0)
checker_outcome {n} {e} {groups} {links} {marks} {amounts} {x} a = at a.judgement a.is a.says
  where
    at : (r : Result (Unit {0}) Refusal) → x ≡ judgement_number r → CheckerSays n e groups links marks amounts r
        → Outcome (checker_faults n e groups links marks amounts) x (Unit {0}) (x ≡ 0)
    at (Err r) q s = refuses (first_fault (checker_faults n e groups links marks amounts) s.verdict q) tt
    at (Ok tt) q s = gives (fine_clear (checker_faults n e groups links marks amounts) s.verdict) q

-- ---- 2

-- no refusal's number is that of a success
no_success : (r : Refusal) {x : ℕ} → SmallRefusal r → x ≡ refusal_number r → Succeeds x → ⊥
no_success r small e z = omega (arith, refusal_no_success r small.number small.above, ap (λ (y : ℕ). y % 65_536) e)

module _ {n e : ℕ} {groups links marks amounts marks' amounts' : List ℕ} {x : ℕ} (a : ChooseNumber n e groups links marks amounts x marks' amounts') where
  pub admitted_picked : LongEnough groups links marks amounts → Admitted (survey_of n e groups links) → GivesPick (survey_of n e groups links) x marks'
  unfolding AllClear
  admitted_picked long admitted = at a.choice a.is a.says
    where
      clear : AllClear (chooser_faults n e groups links marks amounts)
      clear = (record { none = λ k l o. long_enough groups links marks amounts long o }, admitted.clear)

      at : (r : Result ℕ Refusal) → x ≡ choice_number r → ChooserSays n e groups links marks amounts r marks' amounts' → GivesPick (survey_of n e groups links) x marks'
      at (Err r) q s = absurd (none_refused (chooser_faults n e groups links marks amounts) clear s.verdict refl)
      at (Ok rounds) q s = pick_given q s.lists

  chosen : Succeeds x → (r : Result ℕ Refusal) → x ≡ choice_number r → ChooserSays n e groups links marks amounts r marks' amounts'
      → (k : ℕ) × ChooserSays n e groups links marks amounts (Ok k) marks' amounts'
  chosen z (Err r) q s = absurd (no_success r (choice_small (Err r) s) q z)
  chosen z (Ok k) q s = (k, s)

  pub picked_admitted : Succeeds x → Admitted (survey_of n e groups links)
  picked_admitted z = (call_clear groups links marks amounts n e (chosen z a.choice a.is a.says).1.verdict).1

module _ {f groups links groups' links' : List ℕ} {x : ℕ} (a : ReadNumber f groups links x groups' links') where
  -- an admitted file is read, into lists that are as long as before
  reads : group_limit ≤ entries groups → link_limit ≤ entries links → AdmittedFile f
      → GivesSurvey f x groups' links' × ((length groups' ≡ length groups) × (length links' ≡ length links))
  unfolding AllClear OneShort
  reads g l admitted = at a.reading a.is a.says
    where
      short : (entries groups < group_limit) ⊎ ((entries links < link_limit) ⊎ ⊥) → ⊥
      short (inl h) = omega arith
      short (inr (inl h)) = omega arith
      short (inr (inr h)) = h

      clear : AllClear (reader_faults f groups links)
      clear = (record { none = λ k m o. short o }, admitted.clear)

      at : (r : Result Size Refusal) → x ≡ reading_number r → ReaderSays f groups links r groups' links'
          → GivesSurvey f x groups' links' × ((length groups' ≡ length groups) × (length links' ≡ length links))
      at (Err r) q s = absurd (none_refused (reader_faults f groups links) clear s.verdict refl)
      at (Ok size) q s = (survey_given q s.lists, (s.lists.2.long, s.lists.3.long))

  pub read_admitted_by : Bytes f → Succeeds x → AdmittedFile f
  unfolding AllClear
  read_admitted_by small z = at a.reading a.is a.says
    where
      at : (r : Result Size Refusal) → x ≡ reading_number r → ReaderSays f groups links r groups' links' → AdmittedFile f
      at (Err r) q s = absurd (no_success r (reading_small (Err r) small s) q z)
      at (Ok size) q s = record { clear = (fine_clear (reader_faults f groups links) s.verdict).1 }

pub read_admitted : {f groups links groups' links' : List ℕ} {x : ℕ} → Bytes f → ReadNumber f groups links x groups' links' → Succeeds x → AdmittedFile f
read_admitted small a z = read_admitted_by a small z

pub file_picked :
    {f groups links marks amounts groups' links' marks' amounts' : List ℕ} {x y : ℕ} → ReadNumber f groups links x groups' links'
    → ChooseNumber (n_in f) (e_in f) groups' links' marks amounts y marks' amounts' → LongEnough groups links marks amounts → AdmittedFile f
    → GivesSurvey f x groups' links' × GivesPick (survey_in f) y marks'
file_picked {f} {groups} {links} {marks} {amounts} {groups'} {links'} {marks'} {x = x} {y = y} a b long admitted = (
  read.0,
  subst (λ (s : Survey). GivesPick s y marks') read.0.survey
      (admitted_picked b still (subst (λ (s : Survey). Admitted s) (sym read.0.survey) (file_survey admitted))),
)
  where
    read : GivesSurvey f x groups' links' × ((length groups' ≡ length groups) × (length links' ≡ length links))
    read = reads a long.groups_have long.links_have admitted

    still : LongEnough groups' links' marks amounts
    still =
        record {
          groups_have = omega (arith, long.groups_have, read.1.0);
          links_have = omega (arith, long.links_have, read.1.1);
          marks_have = long.marks_have;
          amounts_have = long.amounts_have;
        }

-- ---- 3

module _ {n e : ℕ} {groups links marks amounts : List ℕ} {x : ℕ} (a : CheckNumber n e groups links marks amounts x) where
  -- an answer that the table has no fault for is 0
  fine_zero : Answers (checker_faults n e groups links marks amounts) fine → x ≡ 0
  fine_zero b = at a.judgement a.is (answers_one (checker_faults n e groups links marks amounts) a.says.verdict b)
    where
      at : (r : Result (Unit {0}) Refusal) → x ≡ judgement_number r → verdict_of r ≡ fine → x ≡ 0
      at (Err r) q z = cc
      at (Ok tt) q z = q

  zero_accepted : x ≡ 0 → CheckerSays n e groups links marks amounts (Ok tt)
  zero_accepted z = at a.judgement a.is a.says
    where
      at : (r : Result (Unit {0}) Refusal) → x ≡ judgement_number r → CheckerSays n e groups links marks amounts r → CheckerSays n e groups links marks amounts (Ok tt)
      at (Err r) q s = absurd (no_success r (judgement_small (Err r) s) q (rw z refl))
      at (Ok tt) q s = s

  pub acceptable_zero : Acceptable n e groups links marks amounts → x ≡ 0
  acceptable_zero y = fine_zero (accepting.acceptable_accepted n e groups links marks amounts y).verdict

  pub zero_acceptable : x ≡ 0 → Acceptable n e groups links marks amounts
  zero_acceptable z = accepting.accepted_acceptable n e groups links marks amounts (zero_accepted z)

  pub zero_pick : x ≡ 0 → IsPick (survey_of n e groups links) (marked_set marks)
  zero_pick z = accepting.accepted_is_pick n e groups links marks amounts (zero_accepted z)

pub own_zero :
    {n e : ℕ} {groups links marks amounts marks' amounts' : List ℕ} {x y : ℕ} → ChooseNumber n e groups links marks amounts x marks' amounts'
    → Succeeds x → CheckNumber n e groups links marks' amounts' y → y ≡ 0
own_zero a z b = fine_zero b (own_accepted (chosen a z a.choice a.is a.says).1)
