-- Texts put one after the other on a page: bytes, and the place after what is put.
use Prim.Native.Nat.{ℕ, suc, ◌+◌, ◌-◌, ◌/◌, ◌%◌, ◌≤◌, ◌<◌}
use native.Mathlib.Nat.{add-zero, zero-add, add-suc, suc-add}
use native.Mathlib.Omega.{arith}
use mathlib.Core.Path.{◌≡◌, refl, sym, ap, ◌∙◌}
use mathlib.Core.List.{List, [], ◌∷◌, ◌++◌}
use lib.ListN.{length, take, drop, set, length-append}
use lib.Seq.{sets, length-sets, sets-eq}
use Rattle.printing.specs.Texts.{decimal}
use Rattle.printing.proofs.DecimalLaws.{decimal_small, decimal_more}
use Rattle.std.proofs.Common.{append_assoc}
use Rattle.std.proofs.lemmas.List.{drop-drop}
use borrow.Rule.Slice.PartMut.{put_mid}
use Rattle.printing.specs.declared.text.Page.{Page}
use Rattle.printing.specs.Pages.{written, HasRoom, Puts}

sets_then : (x y l : List ℕ) (i : ℕ) → sets (sets l i x) (i + length x) y ≡ sets l i (x ++ y)
sets_then [] y l i = rw add-zero
sets_then (a ∷ x) y l i = rw (add-suc i (length x), ← suc-add i (length x)) (sets_then x y (set l i a) (suc i))

module _ (before : List ℕ) (at : ℕ) where
  pub written_long : (text : List ℕ) → length (written before at text) ≡ length before
  unfolding written
  written_long text = length-sets before at text

  pub written_none : before ≡ written before at []
  unfolding written
  written_none = refl

  pub written_then : (x y : List ℕ) → written (written before at x) (at + length x) y ≡ written before at (x ++ y)
  unfolding written
  written_then x y = sets_then x y before at

  -- one byte
  pub written_byte : (v : ℕ) → set before at v ≡ written before at (v ∷ [])
  unfolding written
  written_byte v = refl

-- from the first place on
pub written_first : (before text : List ℕ) → length text ≤ length before → written before 0 text ≡ text ++ drop (length text) before
unfolding written
written_first before text h = sets-eq text before 0 (omega arith) ∙ rw (zero-add (length text))

-- a part that was put in at `at`, as std writes it
pub written_part : (before : List ℕ) (at : ℕ) (text : List ℕ) → at + length text ≤ length before → put_mid at (at + length text - at) before text ≡ written before at text
unfolding written
written_part before at text h =
    let same : at + length text - at ≡ length text = omega arith in
    rw (same, drop-drop (length text) at before, ← append_assoc (take at before) text (drop (at + length text) before)) (sym (sets-eq text before at h))

-- ---- what the parts promise

-- the bytes as they are left, and the place after the text
pub puts_written :
    {before after : Page} {text : List ℕ} → after.out.ghost_name ≡ before.out.ghost_name → HasRoom (length text) before → after.at ≡ before.at + length text
    → after.out.now ≡ written before.out.now before.at text → Puts before text after
puts_written {before} {after} {text} same room end is =
    record { same = same; long = ap length is ∙ written_long before.out.now before.at text; room = room; end = end; is = is }

pub puts_none : (before : Page) → before.at ≤ length before.out.now → Puts before [] before
puts_none before h = puts_written refl (omega arith) (sym (add-zero before.at)) (written_none before.out.now before.at)

pub puts_then : {before mid after : Page} {x y : List ℕ} → Puts before x mid → Puts mid y after → Puts before (x ++ y) after
puts_then {before} {mid} {after} {x} {y} p q =
    puts_written (q.same ∙ p.same) (omega (arith, q.room, p.end, p.long, length-append x y)) (omega (arith, p.end, q.end, length-append x y))
    (q.is ∙ rw (p.is, p.end) (written_then before.out.now before.at x y))

-- ---- a number in decimal: its digit, or its tenth and then its last digit

pub puts_digit : {before after : Page} (x : ℕ) → x < 10 → Puts before ((48 + x) ∷ []) after → Puts before (decimal x) after
puts_digit x h p = rw (decimal_small x h) p

pub puts_last : {before mid after : Page} (x : ℕ) → 10 ≤ x → Puts before (decimal (x / 10)) mid → Puts mid ((48 + x % 10) ∷ []) after → Puts before (decimal x) after
puts_last x h p q = rw (decimal_more x h) (puts_then p q)
