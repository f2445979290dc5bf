-- A page that text is put on, and what the parts of printing ask and promise of it.
use Rattle.std.specs.Prelude.{ℕ, ◌+◌, ◌*◌, ◌≤◌, ◌≡◌, List, length}
use Rattle.std.proofs.lemmas.List.Edits.{sets}
use Rattle.survey.specs.Limits.{group_limit}
use Rattle.printing.specs.declared.text.Page.{Page}

-- the list with the text's bytes from place `at` on
unfoldable pub written : List ℕ → ℕ → List ℕ → List ℕ
written before at text = sets before at text

-- room for so many bytes more
abbrev pub HasRoom : ℕ → Page → Type 0
HasRoom k page = page.at + k ≤ length page.out.now

-- The page after lies over the same bytes. They hold the text from the place on where the page before ended, and are else as before.
pub record Puts (before : Page) (text : List ℕ) (after : Page) : Type 0 where
  pub same : after.out.ghost_name ≡ before.out.ghost_name
  pub long : length after.out.now ≡ length before.out.now
  pub room : HasRoom (length text) before
  pub end : after.at ≡ before.at + length text
  pub is : after.out.now ≡ written before.out.now before.at text

-- the same of a text of at most so many bytes
pub record PutsWithin (most : ℕ) (before : Page) (text : List ℕ) (after : Page) : Type 0 where
  pub puts : Puts before text after
  pub short : after.at ≤ before.at + most

-- what putting the numbers of the marked groups asks: a mark for each, and 4 bytes for each
pub record Numberable (n : ℕ) (marks : List ℕ) (page : Page) : Type 0 where
  pub few : n ≤ group_limit
  pub marks_long : n ≤ length marks
  pub room : HasRoom (4 * n + 21) page
