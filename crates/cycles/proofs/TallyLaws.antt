-- Laws of the working list: what a store into one part of a tally changes, and what it leaves.
use Prim.Native.Nat.{ℕ, ◌+◌, ◌<◌}
use mathlib.Core.Path.{◌≡◌, refl, ap, ◌∙◌}
use mathlib.Core.List.{List}
use native.Mathlib.Decide.{ℕ_discrete, dec_lt}
use native.Mathlib.Omega.{arith}
use lib.ListN.{length, get_or, set, replicate, get_or-replicate, get_or-eq_default, length-replicate, length-set}
use lib.Seq.{get_or-set_same, get_or-set_other}
use Rattle.cycles.specs.declared.tallies.Tally.{Tally}
use Rattle.cycles.specs.Tallies.{blank_tally, count_of, first_of, Blank, Put, Kept, Noted}

-- A tally is stored at g.
module _ (w : List Tally) (g : ℕ) (t : Tally) (inside : g < length w) where
  pub count_put : Put (count_of w) (count_of (set w g t)) g t.count
  unfolding count_of
  count_put = record {
    at = ap (λ (y : Tally). y.count) (get_or-set_same w g t blank_tally inside);
    other = λ h d. ap (λ (y : Tally). y.count) (get_or-set_other w g h t blank_tally d);
  }

  pub first_put : Put (first_of w) (first_of (set w g t)) g t.first
  unfolding first_of
  first_put = record {
    at = ap (λ (y : Tally). y.first) (get_or-set_same w g t blank_tally inside);
    other = λ h d. ap (λ (y : Tally). y.first) (get_or-set_other w g h t blank_tally d);
  }

-- What is put where it stood changes nothing.
pub put_kept : {f f' : ℕ → ℕ} {g x : ℕ} → Put f f' g x → x ≡ f g → Kept f f'
put_kept {f} {f'} {g} p e = record { at = λ h. at h (ℕ_discrete h g) }
  where
    at : (h : ℕ) → Dec (h ≡ g) → f' h ≡ f h
    at h (yes z) = rw z (p.at ∙ e)
    at h (no d) = p.other h d

pub put_on : {f g h : ℕ → ℕ} {i x : ℕ} → Kept f g → Put g h i x → Put f h i x
put_on k p = record { at = p.at; other = λ h d. p.other h d ∙ k.at h }

pub put_stays : {f g h : ℕ → ℕ} {i x : ℕ} → Put f g i x → Kept g h → Put f h i x
put_stays {i = i} p k = record { at = k.at i ∙ p.at; other = λ h d. k.at h ∙ p.other h d }

pub kept_on : {f g h : ℕ → ℕ} → Kept f g → Kept g h → Kept f h
kept_on a b = record { at = λ i. b.at i ∙ a.at i }

pub kept_all : {f : ℕ → ℕ} → Kept f f
kept_all = record { at = λ i. refl }

-- Link k is noted at `from`, and then at `to`.
module _ (w : List Tally) (from to k : ℕ) (l : from < length w) (m : to < length w) where
  abbrev linked : List Tally
  linked = set w from (record { count = (get_or w from blank_tally).count; first = k })

  abbrev more : Tally
  more = record { count = (get_or linked to blank_tally).count + 1; first = (get_or linked to blank_tally).first }

  -- The first of them leaves the counts as they are.
  pub counts_kept : Kept (count_of w) (count_of linked)
  unfolding count_of
  counts_kept = put_kept (count_put w from _ l) refl

  pub noted : Noted w (set linked to more) from to k
  unfolding count_of first_of
  noted =
      record {
        count = put_on counts_kept (record { at = one_more.at ∙ ap (λ (x : ℕ). x + 1) (counts_kept.at to); other = one_more.other });
        first = put_stays (first_put w from _ l) (put_kept (first_put linked to more inside) refl);
      }
    where
      inside : to < length linked
      inside = omega (arith, m, length-set w from (record { count = (get_or w from blank_tally).count; first = k }))

      one_more : Put (count_of linked) (count_of (set linked to more)) to (count_of linked to + 1)
      one_more = count_put linked to more inside

pub blank : (n : ℕ) → Blank (replicate n blank_tally)
unfolding count_of
blank n = record { zero = λ g. ap (λ (t : Tally). t.count) (at g (dec_lt g n)) }
  where
    at : (g : ℕ) → Dec (g < n) → get_or (replicate n blank_tally) g blank_tally ≡ blank_tally
    at g (yes l) = get_or-replicate n g blank_tally blank_tally l
    at g (no d) = get_or-eq_default (replicate n blank_tally) blank_tally (omega (arith, length-replicate {A = Tally} n blank_tally))
