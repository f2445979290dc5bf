-- F2 and F7 as files of 3 blocks. Both are admitted, so that what is said of admitted files is said of some.
use Prim.Native.Nat.{ℕ, ◌+◌, ◌%◌, ◌<◌}
use mathlib.Core.Path.{◌≡◌, refl, sym, ap, ap₂, subst, ◌∙◌}
use mathlib.Core.Bool.{Bool, true, not, ◌&&◌, ◌||◌}
use mathlib.Core.List.{List, [], ◌∷◌, ◌++◌}
use lib.Dec.{eqb, leb, ltb}
use lib.ListN.{length, get_or}
use Rattle.survey.specs.Limits.{group_limit, link_limit, block_bytes, content_words}
use Rattle.survey.specs.Survey.{Survey, Group, Link}
use Rattle.survey.specs.declared.stands.Stand.{Stand}
use Rattle.survey.specs.Words.{group_at, link_at, survey_at}
use Rattle.survey.specs.SurveyFile.{CheckAgrees, sums, block_word, block_count, number_in, kind_in, kind_of, n_in, e_in, blocks_needed, file_limit, used_words, UnusedAreZero}
use Rattle.survey.specs.SurveyFile.{in_blocks, first_group_block, first_link_block, survey_in}
use Rattle.survey.specs.Refusals.{fine, AllClear}
use Rattle.survey.specs.Faults.{survey_faults, Admitted, AdmittedFile}
use Rattle.survey.specs.Drawings.{counts, link, drawn, f2, f7}
use Rattle.blocks.specs.FileFaults.{block_faults}
use Rattle.survey.proofs.Deciding.{Decides, told_iff, both, either, denied, implied, less, at_most, equal, all_below, all_below_lem}
use Rattle.survey.proofs.Verdicts.{fine_clear, clear_both}
use Rattle.survey.proofs.ComputedVerdicts.{lowest_below, told_verdict, verdict_test, RowsTold, no_row, row, answers_told}
use Rattle.drawn.proofs.Calls.{pair, group_bytes, link_bytes, zeros, cut_off}
use Rattle.drawn.proofs.Benched.{f2_groups, f2_links, f7_groups, f7_links, f2_admitted, f7_admitted}

-- ---- the rows 2 to 7, decided by computing

abbrev check_test : List ℕ → ℕ → Bool
check_test f b =
    eqb (block_word f b content_words) (sums (block_word f b) content_words).a && eqb (block_word f b (content_words + 1)) (sums (block_word f b) content_words).b

check_told : (f : List ℕ) (b : ℕ) → Decides (CheckAgrees f b) (check_test f b)
check_told f b =
    told_iff (λ z. record { first = z.0; second = z.1 }) (λ x. (x.first, x.second))
    (both (equal (block_word f b content_words) (sums (block_word f b) content_words).a)
    (λ z. equal (block_word f b (content_words + 1)) (sums (block_word f b) content_words).b))

abbrev unused_test : List ℕ → ℕ → ℕ → ℕ → Bool
unused_test f n e b = all_below content_words (λ w. not (leb (used_words n e b) w) || eqb (block_word f b w) 0)

unused_told : (f : List ℕ) (n e b : ℕ) → Decides (UnusedAreZero f n e b) (unused_test f n e b)
unused_told f n e b =
    told_iff (λ z. record { at = λ w u c. z w c u }) (λ x w c u. x.at w u c)
    (all_below_lem content_words (λ w c. implied (at_most (used_words n e b) w) (λ u. equal (block_word f b w) 0)))

unfoldable block_tests : List ℕ → List (ℕ → Bool)
block_tests f =
    (λ k. eqb (length f) 0 || (ltb 0 (length f % block_bytes) || ltb file_limit (length f)))
    ∷ (λ b. not (check_test f b))
    ∷ (λ b. not (eqb (number_in f b) 0 && eqb (kind_in f b) 1))
    ∷ (λ k. ltb (n_in f) 1 || (ltb group_limit (n_in f) || ltb link_limit (e_in f)))
    ∷ (λ k. not (eqb (block_count f) (blocks_needed (n_in f) (e_in f))))
    ∷ (λ b. not (eqb (number_in f b) b && eqb (kind_in f b) (kind_of (n_in f) b)))
    ∷ (λ b. not (unused_test f (n_in f) (e_in f) b))
    ∷ []

blocks_told : (f : List ℕ) → RowsTold (block_faults f) (block_tests f)
unfolding block_tests
blocks_told f =
    row (λ k l. either (equal (length f) 0) (either (less 0 (length f % block_bytes)) (less file_limit (length f))))
    (row (λ b l. denied (check_told f b))
    (row (λ b l. denied (both (equal (number_in f b) 0) (λ z. equal (kind_in f b) 1)))
    (row (λ k l. either (less (n_in f) 1) (either (less group_limit (n_in f)) (less link_limit (e_in f))))
    (row (λ k l. denied (equal (block_count f) (blocks_needed (n_in f) (e_in f))))
    (row (λ b l. denied (both (equal (number_in f b) b) (λ z. equal (kind_in f b) (kind_of (n_in f) b))))
    (row (λ b l. denied (unused_told f (n_in f) (e_in f) b)) no_row))))))

unfoldable blocks_test : List ℕ → Bool
blocks_test f = verdict_test (told_verdict (block_faults f) (block_tests f)) fine

blocks_clear : (f : List ℕ) → blocks_test f ≡ true → AllClear (block_faults f)
unfolding blocks_test
blocks_clear f h = fine_clear (block_faults f) ((answers_told (blocks_told f) fine).so h)

-- ---- the survey of a file, by its entries

-- The groups from block 1 on, the links from their first block on, are those of a drawing.
groups_told :
    (f : List ℕ) (w : Stand) (gs : List Group)
    → Decides ((k : ℕ) → k < length gs → group_at f w k ≡ get_or gs k (counts 0 0))
    (all_below (length gs) (λ k. eqb (group_at f w k).dead (get_or gs k (counts 0 0)).dead && eqb (group_at f w k).live (get_or gs k (counts 0 0)).live))
groups_told f w gs =
    all_below_lem (length gs)
    (λ k l. told_iff (λ z i. record { dead = z.0 i; live = z.1 i }) (λ e. (ap (λ (g : Group). g.dead) e, ap (λ (g : Group). g.live) e))
    (both (equal (group_at f w k).dead (get_or gs k (counts 0 0)).dead) (λ z. equal (group_at f w k).live (get_or gs k (counts 0 0)).live)))

links_told :
    (f : List ℕ) (w : Stand) (ls : List Link)
    → Decides ((k : ℕ) → k < length ls → link_at f w k ≡ get_or ls k (link 0 0))
    (all_below (length ls) (λ k. eqb (link_at f w k).from (get_or ls k (link 0 0)).from && eqb (link_at f w k).to (get_or ls k (link 0 0)).to))
links_told f w ls =
    all_below_lem (length ls)
    (λ k l. told_iff (λ z i. record { from = z.0 i; to = z.1 i }) (λ e. (ap (λ (g : Link). g.from) e, ap (λ (g : Link). g.to) e))
    (both (equal (link_at f w k).from (get_or ls k (link 0 0)).from) (λ z. equal (link_at f w k).to (get_or ls k (link 0 0)).to)))

-- A file holds a drawing: n and e are its numbers, and the entries its groups and links.
pub record Holds (f : List ℕ) (gs : List Group) (ls : List Link) : Type 0 where
  pub n : n_in f ≡ length gs
  pub e : e_in f ≡ length ls
  pub groups : (k : ℕ) → k < length gs → group_at f (in_blocks first_group_block) k ≡ get_or gs k (counts 0 0)
  pub links : (k : ℕ) → k < length ls → link_at f (in_blocks (first_link_block (length gs))) k ≡ get_or ls k (link 0 0)

pub file_drawn : {f : List ℕ} {gs : List Group} {ls : List Link} → Holds f gs ls → survey_in f ≡ drawn gs ls
unfolding survey_at
file_drawn {f} {gs} {ls} h =
    ap₂ (λ (n e : ℕ). survey_at n e f (in_blocks first_group_block) f (in_blocks (first_link_block n))) h.n h.e
    ∙ λ i. record {
      n = length gs;
      e = length ls;
      group = λ g. cut_off gs (counts 0 0) (group_at f (in_blocks first_group_block)) h.groups g i;
      link = λ k. cut_off ls (link 0 0) (link_at f (in_blocks (first_link_block (length gs)))) h.links k i;
    }

-- Such a file is admitted where its blocks are sound and the drawing is admitted.
pub file_admitted : {f : List ℕ} {gs : List Group} {ls : List Link} → Holds f gs ls → AllClear (block_faults f) → Admitted (drawn gs ls) → AdmittedFile f
unfolding AllClear
file_admitted {f} h c a = record {
  clear = clear_both (block_faults f) (survey_faults (survey_in f)) c
      (subst (λ (s : Survey). AllClear (survey_faults s)) (sym (file_drawn h)) a.clear.1);
}

-- ---- the files

-- a block that uses some bytes after its number and kind: those, zeros up to its check, and the check's two words
abbrev block : ℕ → ℕ → List ℕ → ℕ → List ℕ → List ℕ → List ℕ
block number kind used unused check rest = pair number kind (used ++ (zeros unused ++ (check ++ rest)))

-- F2 in three blocks. The check words of its header are 11 and 1,363, which is 83 + 256·5 (Specification 15.3).
abbrev pub f2_file : List ℕ
f2_file =
    block 0 1 (pair 5 4 []) 488 (11 ∷ 0 ∷ 0 ∷ 0 ∷ 83 ∷ 5 ∷ 0 ∷ 0 ∷ [])
    (block 1 2 (group_bytes f2_groups) 456 (50 ∷ 0 ∷ 0 ∷ 0 ∷ 71 ∷ 23 ∷ 0 ∷ 0 ∷ [])
    (block 2 3 (link_bytes f2_links) 464 (20 ∷ 0 ∷ 0 ∷ 0 ∷ 122 ∷ 9 ∷ 0 ∷ 0 ∷ []) []))

abbrev pub f7_file : List ℕ
f7_file =
    block 0 1 (pair 4 3 []) 488 (9 ∷ 0 ∷ 0 ∷ 0 ∷ 92 ∷ 4 ∷ 0 ∷ 0 ∷ [])
    (block 1 2 (group_bytes f7_groups) 464 (15 ∷ 0 ∷ 0 ∷ 0 ∷ 37 ∷ 7 ∷ 0 ∷ 0 ∷ [])
    (block 2 3 (link_bytes f7_links) 472 (14 ∷ 0 ∷ 0 ∷ 0 ∷ 181 ∷ 6 ∷ 0 ∷ 0 ∷ []) []))

-- its header's check words, as numbers
pub f2_header : (block_word f2_file 0 content_words ≡ 11) × (block_word f2_file 0 (content_words + 1) ≡ 1_363)
f2_header = (refl, refl)

f2_holds : Holds f2_file f2_groups f2_links
unfolding all_below
f2_holds =
    record {
      n = refl;
      e = refl;
      groups = (groups_told f2_file (in_blocks 1) f2_groups).so refl;
      links = (links_told f2_file (in_blocks 2) f2_links).so refl;
    }

f2_blocks : AllClear (block_faults f2_file)
unfolding blocks_test block_tests verdict_test told_verdict lowest_below all_below sums
f2_blocks = blocks_clear f2_file refl

pub f2_file_lem : survey_in f2_file ≡ f2
f2_file_lem = file_drawn f2_holds

pub f2_file_admitted : AdmittedFile f2_file
f2_file_admitted = file_admitted f2_holds f2_blocks f2_admitted

f7_holds : Holds f7_file f7_groups f7_links
unfolding all_below
f7_holds =
    record {
      n = refl;
      e = refl;
      groups = (groups_told f7_file (in_blocks 1) f7_groups).so refl;
      links = (links_told f7_file (in_blocks 2) f7_links).so refl;
    }

f7_blocks : AllClear (block_faults f7_file)
unfolding blocks_test block_tests verdict_test told_verdict lowest_below all_below sums
f7_blocks = blocks_clear f7_file refl

pub f7_file_lem : survey_in f7_file ≡ f7
f7_file_lem = file_drawn f7_holds

pub f7_file_admitted : AdmittedFile f7_file
f7_file_admitted = file_admitted f7_holds f7_blocks f7_admitted
