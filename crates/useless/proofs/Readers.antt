-- Specification 15.5, useless readers: none of them gives an answer that the reader's promise allows.
use Prim.Native.Nat.{ℕ, ◌*◌, ◌<◌}
use native.Mathlib.Omega.{arith}
use mathlib.Core.Path.{◌≡◌, refl, sym, subst, ◌∙◌}
use mathlib.Core.List.{List, [], ◌∷◌}
use lib.ListN.{get_or}
use Rattle.std.specs.Prelude.{Ok, Err}
use Rattle.survey.specs.Limits.{entry_bytes}
use Rattle.survey.specs.declared.answers.Refusal.{Refusal}
use Rattle.survey.specs.Words.{entries, survey_of}
use Rattle.survey.specs.SurveyFile.{n_in, survey_in}
use Rattle.survey.specs.Refusals.{Clear, AllClear}
use Rattle.survey.specs.Faults.{too_short, group_list, link_list, reader_faults, AdmittedFile}
use Rattle.survey.specs.Promises.{ReaderSays}
use Rattle.survey.proofs.Verdicts.{fine_clear, none_refused}
use Rattle.words.specs.Words.{Bytes}
use Rattle.copies.proofs.FilledSurvey.{filled_survey, same_entries}
use Rattle.blocks.proofs.SameFile.{same_file}
use Rattle.drawn.proofs.Files.{f2_file, f7_file, f2_file_admitted}

module _ {f groups links groups' links' : List ℕ} where
  -- One that refuses whatever it gets: an admitted file is not refused, with lists long enough.
  pub refuses_every_file :
      Clear (too_short (group_list (entries groups) ∷ link_list (entries links) ∷ [])) → AdmittedFile f → {x : Refusal}
      → ReaderSays f groups links (Err x) groups' links' → ⊥
  unfolding AllClear
  refuses_every_file long a y = none_refused (reader_faults f groups links) (long, a.clear) y.verdict refl

  module _ {n e : ℕ} (x : ReaderSays f groups links (Ok (record { n = n; e = e })) groups' links') where
    -- The lists that an allowed answer leaves give the file's own survey.
    pub own_survey : survey_of n e groups' links' ≡ survey_in f
    own_survey =
        subst (λ (m : ℕ). survey_of m e groups' links' ≡ survey_in f) (sym x.lists.0)
        (subst (λ (k : ℕ). survey_of (n_in f) k groups' links' ≡ survey_in f) (sym x.lists.1) (filled_survey x.lists.2 x.lists.3))

    -- A survey is only given for an admitted file.
    pub read_admitted : AdmittedFile f
    unfolding AllClear
    read_admitted = record { clear = (fine_clear (reader_faults f groups links) x.verdict).1 }

-- Two lists have the same first entries.
abbrev SameEntries : ℕ → List ℕ → List ℕ → Type 0
SameEntries k l l' = (i : ℕ) → i < entry_bytes * k → get_or l i 0 ≡ get_or l' i 0

-- One that puts the same survey into its lists every time: two files that differ are never both answered with the same n and e and lists that begin with the same
-- entries, whatever was lent and whatever stands after the entries.
pub same_survey_each_time :
    {f f₂ groups links groups₂ links₂ groups' links' groups₂' links₂' : List ℕ} {n e : ℕ} → Bytes f → Bytes f₂ → (f ≡ f₂ → ⊥)
    → ReaderSays f groups links (Ok (record { n = n; e = e })) groups' links' → ReaderSays f₂ groups₂ links₂ (Ok (record { n = n; e = e })) groups₂' links₂'
    → SameEntries n groups' groups₂' → SameEntries e links' links₂' → ⊥
same_survey_each_time {groups' = groups'} {links' = links'} {groups₂' = groups₂'} {links₂' = links₂'} {n = n} {e = e} small small₂ d x y g l =
    d (same_file small small₂ (read_admitted x) (read_admitted y) (sym (own_survey x) ∙ same_entries n e groups' groups₂' links' links₂' g l ∙ own_survey y))

-- ---- on F2's file and F7's

module _ {groups links groups' links' : List ℕ} where
  -- one that refuses whatever it gets
  pub refuses_f2 :
      Clear (too_short (group_list (entries groups) ∷ link_list (entries links) ∷ [])) → {x : Refusal}
      → ReaderSays f2_file groups links (Err x) groups' links' → ⊥
  refuses_f2 long y = refuses_every_file long f2_file_admitted y

  -- the same survey every time: whatever it fills its lists with, it is not allowed for both files, since no n is
  pub same_for_f2_and_f7 :
      {groups₇ links₇ groups₇' links₇' : List ℕ} {n e : ℕ} → ReaderSays f2_file groups links (Ok (record { n = n; e = e })) groups' links'
      → ReaderSays f7_file groups₇ links₇ (Ok (record { n = n; e = e })) groups₇' links₇' → ⊥
  same_for_f2_and_f7 x y = five_not_four (sym x.lists.0 ∙ y.lists.0)
    where
      five_not_four : ◌≡◌ {A = ℕ} 5 4 → ⊥
      five_not_four e = omega arith
