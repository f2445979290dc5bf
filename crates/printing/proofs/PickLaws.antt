-- How the text comes together, from what reader and chooser promise.
use Prim.Native.Nat.{ℕ, ◌≤◌, ◌<◌}
use native.Mathlib.Omega.{arith}
use mathlib.Core.Path.{◌≡◌, sym, ap, ◌∙◌}
use mathlib.Core.Logic.{◌⊎◌, ⊎_elim}
use mathlib.Core.List.{List, ◌++◌}
use lib.ListN.{length, drop}
use Rattle.std.specs.Prelude.{Ok, Err}
use Rattle.survey.specs.declared.answers.Refusal.{Refusal}
use Rattle.survey.specs.Limits.{group_limit, link_limit}
use Rattle.survey.specs.Sets.{sum, total, D, L}
use Rattle.survey.specs.Words.{entries, lent, survey_at, survey_of, marked_set}
use Rattle.survey.specs.SurveyFile.{survey_in}
use Rattle.survey.specs.Refusals.{Verdict, fine, AllClear, First, Answers}
use Rattle.survey.specs.Faults.{OneShort, list_faults, file_faults, reader_faults, chooser_faults}
use Rattle.survey.specs.Promises.{ReaderSays, ChooserSays}
use Rattle.survey.proofs.Verdicts.{fine_clear, clear_fine, answers_one}
use Rattle.survey.proofs.GivenSurvey.{given_n}
use Rattle.survey.specs.Sound.{Sound}
use Rattle.survey.proofs.Admitted.{admitted_sound, file_survey}
use Rattle.copies.proofs.FilledSurvey.{filled_survey}
use Rattle.calls.proofs.CallLaws.{long_enough, call_answered}
use Rattle.weights.specs.Marked.{groups_of}
use Rattle.weights.proofs.MarkedLaws.{sound_groups}
use Rattle.printing.specs.declared.text.Page.{Page}
use Rattle.printing.specs.Printing.{survey_line, chosen_line, number_lines, pick_text, refused_line, text_limit, picked, refused as printsRefused, Printed}
use Rattle.printing.specs.Pages.{HasRoom, Puts, PutsWithin}
use Rattle.printing.specs.Put.{Puttable, ReadSurvey, PutPick, PutFile, marked_text}
use Rattle.printing.proofs.PutLaws.{puts_then, written_first}
use Rattle.printing.proofs.NumberLaws.{ones}

-- ---- the three parts of a pick's text

module _ (n e : ℕ) (groups marks : List ℕ) (rounds : ℕ) {k d l : ℕ} where
  pub marked_puts :
      {before first second after : Page} → k ≡ sum n (ones marks) → d ≡ D (groups_of n groups) (marked_set marks)
      → l ≡ L (groups_of n groups) (marked_set marks) → PutsWithin 49 before (survey_line n e) first
      → PutsWithin 108 first (chosen_line k d l rounds) second → Puts second (number_lines n (marked_set marks)) after
      → Puts before (marked_text n e groups marks rounds) after
  unfolding total survey_at
  marked_puts ek ed el x y z = puts_then (puts_then x.puts (rw (ek, ed, el) at y.puts)) z

-- a text from the first place on, as it is promised
pub printed : {f : List ℕ} {before after : Page} → before.at ≡ 0 → PutFile f before after → Printed f before.out.now after.at after.out.now
printed {f} {before} {after} first w =
    let long : after.at ≡ length w.text = omega (arith, w.puts.end) in
    record {
      text = w.text;
      prints = w.prints;
      long = long;
      is = rw first at w.puts.is ∙ written_first before.out.now w.text (omega (arith, w.puts.room)) ∙ ap (λ (j : ℕ). w.text ++ drop j before.out.now) (sym long);
    }

-- ---- what the chooser says of an admitted survey

not_faulty : {n e : ℕ} {groups links : List ℕ} {page : Page} → ReadSurvey n e groups links page → (marks amounts : List ℕ) → length marks ≡ 128 → length amounts ≡ 8_192 → Answers
    (chooser_faults n e groups links marks amounts) fine
not_faulty {n} {e} {groups} {links} a marks amounts m w =
    call_answered groups links marks amounts n e
    (long_enough groups links marks amounts (record {
      groups_have = omega (arith, a.groups_long);
      links_have = omega (arith, a.links_long);
      marks_have = omega arith;
      amounts_have = omega arith;
    }))
    (clear_fine (list_faults (survey_of n e groups links)) a.admitted.clear)

module _ {n e : ℕ} {groups links : List ℕ} {page : Page} (a : ReadSurvey n e groups links page) {marks amounts : List ℕ} (m : length marks ≡ 128) (w : length amounts ≡ 8_192) where
  -- it does not refuse it
  pub not_refused : {r : Refusal} {marks' amounts' : List ℕ} → ChooserSays n e groups links marks amounts (Err r) marks' amounts' → ⊥
  not_refused s = cc (answers_one (chooser_faults n e groups links marks amounts) s.verdict (not_faulty a marks amounts m w))

  -- what it marks can be put
  pub chosen_puttable : {rounds : ℕ} {marks' amounts' : List ℕ} → ChooserSays n e groups links marks amounts (Ok rounds) marks' amounts' → Puttable n groups marks' page
  chosen_puttable s =
      record {
        marked = record {
          some = sound_groups n e groups links sound (omega (arith, few, a.groups_long));
          marks_long = omega (arith, few, s.lists.marked.long);
        };
        room = a.room;
      }
    where
      sound : Sound (survey_of n e groups links)
      sound = admitted_sound a.admitted

      few : n ≤ group_limit
      few = rw (given_n n e groups lent links lent) at sound.groups

pub chosen_puts :
    {n e rounds : ℕ} {groups links marks amounts marks' amounts' : List ℕ} {before after : Page}
    → ChooserSays n e groups links marks amounts (Ok rounds) marks' amounts' → Puts before (marked_text n e groups marks' rounds) after
    → PutPick n e groups links before after
unfolding total survey_at
chosen_puts {rounds = rounds} {marks' = marks'} s p =
    record { chosen = marked_set marks'; rounds = rounds; pick = s.lists.pick; counted = s.lists.counted; puts = p }

-- ---- what the reader says of a file, where the lists that it is lent are long enough

-- 1 is not among the faults
only_file : (f groups links : List ℕ) {v : Verdict} → length groups ≡ 1_024 → length links ≡ 8_192 → Answers (reader_faults f groups links) v → Answers (file_faults f) v
unfolding OneShort First
only_file f groups links g l x = record { first = ⊎_elim (λ o. absurd (none_short o.lowest.fault)) (λ o. o.1) x.first }
  where
    none_short : (entries groups < group_limit) ⊎ ((entries links < link_limit) ⊎ ⊥) → ⊥
    none_short = ⊎_elim (λ h. omega arith) (⊎_elim (λ h. omega arith) (λ z. z))

module _ {f groups links : List ℕ} (g : length groups ≡ 1_024) (l : length links ≡ 8_192) where
  pub refusal_put :
      {r : Refusal} {groups' links' : List ℕ} {before after : Page} → ReaderSays f groups links (Err r) groups' links'
      → Puts before (refused_line r) after → PutFile f before after
  refusal_put {r} s p = record { text = refused_line r; prints = printsRefused (only_file f groups links g l s.verdict); puts = p }

  module _ {n e : ℕ} {groups' links' : List ℕ} (s : ReaderSays f groups links (Ok (record { n = n; e = e })) groups' links') where
    clear : AllClear (file_faults f)
    clear = fine_clear (file_faults f) (only_file f groups links g l s.verdict)

    same_survey : survey_of n e groups' links' ≡ survey_in f
    same_survey = rw (s.lists.0, s.lists.1) (filled_survey s.lists.2 s.lists.3)

    pub survey_read : {page : Page} → HasRoom text_limit page → ReadSurvey n e groups' links' page
    survey_read room =
        record {
          admitted = rw same_survey (file_survey {f = f} (record { clear = clear }));
          groups_long = omega (arith, s.lists.2.long);
          links_long = omega (arith, s.lists.3.long);
          room = room;
        }

    pub pick_put : {before after : Page} → PutPick n e groups' links' before after → PutFile f before after
    pick_put p =
        record {
          text = pick_text (survey_in f) p.chosen p.rounds;
          prints = picked (record { clear = clear }) (rw same_survey at p.pick) (rw same_survey at p.counted);
          puts = rw same_survey at p.puts;
        }
