-- Laws of the number over the boundary: it says the answer again, so two answers with the same number are the same answer.
-- Assumes nothing.
use Prim.Native.Nat.{ℕ, zero, suc, ◌+◌, ◌*◌, ◌/◌, ◌%◌, ◌^◌, ◌<◌}
use mathlib.Core.Path.{◌≡◌, refl, sym, ap, ap₂, ◌∙◌}
use native.Mathlib.Omega.{arith}
use Rattle.std.specs.Prelude.{Result, Ok, Err}
use Rattle.survey.specs.declared.answers.Size.{Size}
use Rattle.survey.specs.declared.answers.Place.{Place}
use Rattle.survey.specs.declared.answers.Place.TheVariants.{Nothing, Block, Group, Link}
use Rattle.survey.specs.declared.answers.Refusal.{Refusal}
use Rattle.survey.specs.Answers.{sort_number, place_number, refusal_number, reading_number, choice_number, judgement_number}
use Rattle.boundary.specs.Packed.{SmallRefusal, SmallReading, SmallChoice, SmallJudgement}

-- the place that a sort and a place's number stand for
abbrev place_from : ℕ → ℕ → Place
place_from zero k = Nothing
place_from (suc zero) k = Block k
place_from (suc (suc zero)) k = Group k
place_from (suc (suc (suc sort))) k = Link k

place_again : (p : Place) → place_from (sort_number p) (place_number p) ≡ p
place_again Nothing = refl
place_again (Block k) = refl
place_again (Group k) = refl
place_again (Link k) = refl

sort_below : (p : Place) → sort_number p < 4
sort_below Nothing = omega arith
sort_below (Block k) = omega arith
sort_below (Group k) = omega arith
sort_below (Link k) = omega arith

-- The three numbers are read off again.
module _ (r : Refusal) (small : r.number < 256) where
  pub number_in : refusal_number r % 256 ≡ r.number
  number_in = omega arith

  pub sort_in : refusal_number r / 256 % 256 ≡ sort_number r.place
  sort_in = omega (arith, sort_below r.place)

  pub place_in : refusal_number r / 65_536 ≡ place_number r.place
  place_in = omega (arith, sort_below r.place)

  -- A success has 0 in the low 16 bits, and a refusal has not.
  pub refusal_no_success : 0 < r.number → 0 < refusal_number r % 65_536
  refusal_no_success above = omega (arith, sort_below r.place)

-- Two refusals with the same number are the same refusal.
pub refusal_number_one : (r r' : Refusal) → r.number < 256 → r'.number < 256 → refusal_number r ≡ refusal_number r' → r ≡ r'
refusal_number_one r r' h h' e =
    let sort : sort_number r.place ≡ sort_number r'.place = cc (sort_in r h, sort_in r' h') in
    let place : place_number r.place ≡ place_number r'.place = cc (place_in r h, place_in r' h') in
    let same : r.place ≡ r'.place = cc (place_again r.place, place_again r'.place) in
    λ i. record { number = (sym (number_in r h) ∙ ap (λ x. x % 256) e ∙ number_in r' h') i; place = same i }

-- A refusal has no number whose low 16 bits are 0, as every success has.
apart : (r : Refusal) {x : ℕ} → SmallRefusal r → refusal_number r ≡ x → x % 65_536 ≡ 0 → ⊥
apart r small e z = omega (arith, refusal_no_success r small.number small.above, ap (λ y. y % 65_536) e)

refusals_one : (r r' : Refusal) → SmallRefusal r → SmallRefusal r' → refusal_number r ≡ refusal_number r' → r ≡ r'
refusals_one r r' h h' e = refusal_number_one r r' h.number h'.number e

-- So of each part: two answers with the same number are the same answer.
pub reading_number_one : (r r' : Result Size Refusal) → SmallReading r → SmallReading r' → reading_number r ≡ reading_number r' → r ≡ r'
reading_number_one (Err r) (Err r') h h' e = ap (λ (x : Refusal). Err x) (refusals_one r r' h h' e)
reading_number_one (Err r) (Ok a) h h' e = absurd (apart r h e (omega arith))
reading_number_one (Ok a) (Err r') h h' e = absurd (apart r' h' (sym e) (omega arith))
reading_number_one (Ok a) (Ok b) h h' e =
    let low : a.n ≡ b.n = sym (n_in_lem a.n a.e h.groups) ∙ ap (λ (x : ℕ). x / 65_536 % 65_536) e ∙ n_in_lem b.n b.e h'.groups in
    ap₂ (λ (x y : ℕ). Ok (record { n = x; e = y })) low (omega arith)
  where
    n_in_lem : (n k : ℕ) → n < 2 ^ 16 → (65_536 * n + 4_294_967_296 * k) / 65_536 % 65_536 ≡ n
    n_in_lem n k l = let up : (65_536 * n + 4_294_967_296 * k) / 65_536 ≡ n + 65_536 * k = omega arith in omega arith

pub choice_number_one : (r r' : Result ℕ Refusal) → SmallChoice r → SmallChoice r' → choice_number r ≡ choice_number r' → r ≡ r'
choice_number_one (Err r) (Err r') h h' e = ap (λ (x : Refusal). Err x) (refusals_one r r' h h' e)
choice_number_one (Err r) (Ok k) h h' e = absurd (apart r h e (omega arith))
choice_number_one (Ok k) (Err r') h h' e = absurd (apart r' h' (sym e) (omega arith))
choice_number_one (Ok k) (Ok k') h h' e = ap (λ (x : ℕ). Ok x) (omega arith)

pub judgement_number_one : (r r' : Result (Unit {0}) Refusal) → SmallJudgement r → SmallJudgement r' → judgement_number r ≡ judgement_number r' → r ≡ r'
judgement_number_one (Err r) (Err r') h h' e = ap (λ (x : Refusal). Err x) (refusals_one r r' h h' e)
judgement_number_one (Err r) (Ok _) h h' e = absurd (apart r h e refl)
judgement_number_one (Ok _) (Err r') h h' e = absurd (apart r' h' (sym e) refl)
judgement_number_one (Ok _) (Ok _) h h' e = refl
