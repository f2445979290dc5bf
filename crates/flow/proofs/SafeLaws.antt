-- Laws of a send in a survey whose links have no cycle: it fits, and it keeps what a wave relies on.
use Prim.Native.Nat.{ℕ, ◌+◌, ◌-◌, ◌^◌, ◌≤◌, ◌<◌}
use native.Mathlib.Omega.{arith}
use mathlib.Core.Path.{◌≡◌, refl, sym, ap, ◌∙◌}
use mathlib.Core.Logic.{◌⊎◌, inl, inr}
use mathlib.Core.Bool.{Bool, true, false, cond}
use mathlib.Core.List.{List}
use lib.ListN.{length, get_or, length-set}
use lib.Seq.{get_or-set_same, get_or-set_other}
use lib.Dec.{eqb, ltb}
use borrow.Author.Tests.{eqb-true, eqb-false, eq-eqb, ne_eqb, ltb-true, ltb-false}
use Rattle.survey.specs.Limits.{amount_limit}
use Rattle.survey.specs.Survey.{Survey, one}
use Rattle.survey.specs.Rounds.{Weights}
use Rattle.survey.specs.Balance.{Amounts, lack}
use Rattle.survey.specs.Sound.{Inside}
use Rattle.survey.proofs.Cycles.{Ranking, no_cycle_ranking}
use Rattle.survey.proofs.SumOrder.{sum_lt}
use Rattle.flow.specs.Copies.{end_in, copied, flowing, Copy}
use Rattle.flow.specs.Ways.{Way, pays, gives_back}
use Rattle.flow.specs.Sends.{Course, Movable, Moves, Takes, capped, free, End, Sendable, TakenBy, Sends, paid, gave}
use Rattle.flow.specs.Waves.{Flowed, Coming, Passed, fallen, full, onward}
use Rattle.flow.proofs.BoundLaws.{amount_bound, excess_bound}
use Rattle.flow.proofs.SendLaws.{Raised, Shifts, paid_shifts, gave_shifts, lack_falls, receiver_excess, moved_receiver, moved_lack, moved_lack_else}
use Rattle.flow.proofs.SendLaws.{moved_ex_long, moved_la_long, moved_else, moved_balanced}

pub net_inside : {n e : ℕ} {ends : List ℕ} → Copy n e ends → Inside (copied n e ends)
net_inside net = record { from = net.from; to = net.to }

module _ {n e : ℕ} {ends amounts ex la : List ℕ} (c : Course n e ends amounts ex la) where
  ranking : Ranking (copied n e ends)
  ranking = no_cycle_ranking (net_inside c.chart.net) c.chart.no_cycle

  -- no link goes from a group to itself
  apart : (k : ℕ) → k < e → end_in ends 0 k ≡ end_in ends 1 k → ⊥
  apart k l z = c.chart.no_cycle (end_in ends 1 k, one k l z refl)

  lean : (g : ℕ) → g < n → lack (copied n e ends) c.afloat.safe.weights (flowing amounts) g ≤ c.afloat.safe.weights.minus g
  lean g l = omega (arith, c.afloat.safe.lean g l, c.afloat.safe.balanced.below g l)

  -- each amount is small
  pub amount_small : (k : ℕ) → k < e → flowing amounts k ≤ amount_limit
  amount_small k l = omega (arith, c.afloat.safe.small, amount_bound c.afloat.safe.weights (flowing amounts) (net_inside c.chart.net) ranking lean k l)

  -- what a send of d from g to p would make of the amounts and of p's excess
  module _ {x' : Amounts} {g p d : ℕ} (m : Shifts (copied n e ends) c.afloat.safe.weights (flowing amounts) x' g p d) (gn : g < n) (pn : p < n) (has : d ≤ get_or ex g 0) where
    lean_after : (h : ℕ) → h < n → lack (copied n e ends) c.afloat.safe.weights x' h ≤ c.afloat.safe.weights.minus h
    lean_after h l = omega (arith, lean h l, lack_falls m (omega (arith, c.afloat.safe.balanced.above g gn)) h)

    amount_after : (k : ℕ) → k < e → x' k ≤ amount_limit
    amount_after k l = omega (arith, c.afloat.safe.small, amount_bound c.afloat.safe.weights x' (net_inside c.chart.net) ranking lean_after k l)

    excess_after : get_or ex p 0 + (d - get_or la p 0) ≤ amount_limit + amount_limit
    excess_after =
        omega (
          arith,
          c.afloat.safe.small,
          excess_bound c.afloat.safe.weights x' (net_inside c.chart.net) ranking lean_after p pn,
          receiver_excess m,
          c.afloat.safe.balanced.above p pn,
          c.afloat.safe.balanced.below p pn,
        )

-- the amounts with y on link k
abbrev put : Amounts → ℕ → ℕ → Amounts
put x k y i = cond (eqb i k) y (x i)

put_at : (x : Amounts) (k y : ℕ) → put x k y k ≡ y
put_at x k y = rw (eq-eqb k k refl)

put_else : (x : Amounts) (k y i : ℕ) → (i ≡ k → ⊥) → put x k y i ≡ x i
put_else x k y i other = rw (ne_eqb i k other)

put_raised : (s : Survey) (x : Amounts) (k d : ℕ) → Raised s x (put x k (x k + d)) k d
put_raised s x k d = record { at = put_at x k (x k + d); else = put_else x k (x k + d) }

put_lowered : (s : Survey) (x : Amounts) (k d : ℕ) → d ≤ x k → Raised s (put x k (x k - d)) x k d
put_lowered s x k d h = record { at = omega (arith, put_at x k (x k - d)); else = λ i other. sym (put_else x k (x k - d) i other) }

module _ {n e : ℕ} {ends amounts ex la : List ℕ} (c : Course n e ends amounts ex la) {k : ℕ} (l : k < e) where
  movable : {x' : Amounts} {g p d : ℕ} → Shifts (copied n e ends) c.afloat.safe.weights (flowing amounts) x' g p d → (p ≡ g → ⊥) → g < n → p < n → d ≤ get_or ex g 0
      → Movable k g p d amounts ex la
  movable m other gn pn has =
      record {
        apart = other;
        has = has;
        ex_within = omega (arith, c.afloat.ex_long);
        amount_within = omega (arith, c.afloat.amounts_long);
        receivable = record { ex_within = omega (arith, c.afloat.ex_long); la_within = omega (arith, c.afloat.la_long); fits = omega (arith, excess_after c m gn pn has) };
      }

  -- What a send asks, it has: nothing wraps.
  pub sendable : {g p : ℕ} {t : List ℕ} → n ≤ length t → Way (copied n e ends) (flowing amounts) k g p → Sendable k g ends amounts ex la t
  sendable {g} {p} {t} room way =
      record {
        link_within = omega (arith, c.chart.net.ends_long);
        from = end (c.chart.net.from k l);
        to = end (c.chart.net.to k l);
        amount_fits = fits way;
        pays = paying way;
        gives = giving way;
        ex_within = omega (arith, below way, c.afloat.ex_long);
        amount_within = omega (arith, c.afloat.amounts_long);
      }
    where
      end : {q : ℕ} → q < n → End q la t
      end b = record { la_within = omega (arith, c.afloat.la_long); t_within = omega arith }

      below : Way (copied n e ends) (flowing amounts) k g p → g < n
      below (pays to from) = rw (← to) (c.chart.net.to k l)
      below (gives_back from to has) = rw (← from) (c.chart.net.from k l)

      other : end_in ends 0 k ≡ g → end_in ends 1 k ≡ g → ⊥
      other from to = apart c k l (from ∙ sym to)

      raises : end_in ends 1 k ≡ g → (d : ℕ)
          → Shifts (copied n e ends) c.afloat.safe.weights (flowing amounts) (put (flowing amounts) k (flowing amounts k + d)) g (end_in ends 0 k) d
      raises to d = paid_shifts c.afloat.safe.weights l (λ z. other z to) to refl (put_raised (copied n e ends) (flowing amounts) k d)

      lowers : end_in ends 0 k ≡ g → (d : ℕ) → d ≤ flowing amounts k → Shifts (copied n e ends) c.afloat.safe.weights (flowing amounts)
          (put (flowing amounts) k (flowing amounts k - d)) g (end_in ends 1 k) d
      lowers from d low = gave_shifts c.afloat.safe.weights l (other from) from refl (put_lowered (copied n e ends) (flowing amounts) k d low)

      fits : Way (copied n e ends) (flowing amounts) k g p → end_in ends 1 k ≡ g → flowing amounts k + get_or ex g 0 < 2 ^ 64
      fits v to =
          omega (
            arith,
            put_at (flowing amounts) k (flowing amounts k + get_or ex g 0),
            amount_after c (raises to (get_or ex g 0)) (below v) (c.chart.net.from k l) (omega arith) k l,
          )

      paying : Way (copied n e ends) (flowing amounts) k g p → end_in ends 1 k ≡ g → (d : ℕ) → d ≤ get_or ex g 0 → Movable k g (end_in ends 0 k) d amounts ex la
      paying v to d has = movable (raises to d) (λ z. other z to) (below v) (c.chart.net.from k l) has

      giving : Way (copied n e ends) (flowing amounts) k g p → (end_in ends 1 k ≡ g → ⊥) → (d : ℕ) → d ≤ get_or ex g 0 → d ≤ flowing amounts k → Movable k g
          (end_in ends 1 k) d amounts ex la
      giving (pays to from) not-to d has low = absurd (not-to to)
      giving (gives_back from to positive) not-to d has low = movable (lowers from d low) (other from) (below (gives_back from to positive)) (c.chart.net.to k l) has

-- ---- what a send leaves

-- the send of g to p, which is still to come, through link k: no other amount changes, and none falls but on a link from g; and where there was
-- something to send it has passed
pub record Sent (n e k : ℕ) (ends amounts ex la t amounts' ex' la' : List ℕ) (g : ℕ) : Type 0 where
  pub flowed : Flowed n e ends amounts ex la amounts' ex' la'
  pub same : (i : ℕ) → (i ≡ k → ⊥) → flowing amounts' i ≡ flowing amounts i
  pub rises : (i : ℕ) → (end_in ends 0 i ≡ g → ⊥) → flowing amounts i ≤ flowing amounts' i
  pub passed : 0 < get_or ex g 0 → Passed n la ex' la' t

-- who takes nothing began the wave, and has no lack
some_taken : {mark lack x d : ℕ} → 0 < x → Takes mark lack x d → (0 < d) ⊎ ((mark ≡ 3) × (lack ≡ 0))
some_taken {mark} {lack} {x} {d} pos (free other z) = inl (omega arith)
some_taken {mark} {lack} {x} {d} pos (capped three low) = full (ltb 0 lack) refl
  where
    full : (t : Bool) → ltb 0 lack ≡ t → (0 < d) ⊎ ((mark ≡ 3) × (lack ≡ 0))
    full true q = inl (omega (arith, ltb-true 0 lack q))
    full false q = inr (three, omega (arith, ltb-false 0 lack q))

pub most_taken : {mark lack x d : ℕ} → Takes mark lack x d → d ≤ x
most_taken (free other z) = omega arith
most_taken (capped three low) = omega arith

module _ {n e k g p d y : ℕ} {ends amounts ex la amounts' ex' la' : List ℕ} (c : Course n e ends amounts ex la) (l : k < e) (m : Moves k g p d y amounts ex la amounts' ex' la')
    (other : p ≡ g → ⊥) (gn : g < n) (pn : p < n) (has : d ≤ get_or ex g 0) where
  new_amount : flowing amounts' k ≡ y
  new_amount = rw m.amount (get_or-set_same amounts k y 0 (omega (arith, c.afloat.amounts_long)))

  old_amount : (i : ℕ) → (i ≡ k → ⊥) → flowing amounts' i ≡ flowing amounts i
  old_amount i q = rw m.amount (get_or-set_other amounts k i y 0 q)

  moves_falls : (h : ℕ) → get_or la' h 0 ≤ get_or la h 0
  moves_falls h = go (eqb h p) refl
    where
      go : (t : Bool) → eqb h p ≡ t → get_or la' h 0 ≤ get_or la h 0
      go true q = rw (eqb-true h p q) (omega (arith, moved_lack m other (omega (arith, c.afloat.la_long))))
      go false q = omega (arith, moved_lack_else m other h (eqb-false h p q))

  moves_flowed : ((w : Weights) → Shifts (copied n e ends) w (flowing amounts) (flowing amounts') g p d) → Flowed n e ends amounts ex la amounts' ex' la'
  moves_flowed r =
      record {
        keeps = λ w b. moved_balanced m other (r w) has gn c.afloat.ex_long c.afloat.la_long pn b;
        falls = moves_falls;
        amounts_long = rw m.amount (length-set amounts k y);
        ex_long = moved_ex_long m other;
        la_long = moved_la_long m other;
        ex_rest = λ h b. moved_else m other h (λ z. omega arith) (λ z. omega arith);
        la_rest = λ h b. moved_lack_else m other h (λ z. omega arith);
      }

  moves_passed : {x : ℕ} (t : List ℕ) → Coming t p → 0 < x → TakenBy p la t x d → Passed n la ex' la' t
  moves_passed t mark pos takes = to (some_taken pos takes)
    where
      level : (h : ℕ) → get_or la p 0 ≤ 0 → (t : Bool) → eqb h p ≡ t → get_or la' h 0 ≡ get_or la h 0
      level h z true r = rw (eqb-true h p r) (omega (arith, moved_lack m other (omega (arith, c.afloat.la_long))))
      level h z false r = moved_lack_else m other h (eqb-false h p r)

      go : 0 < d → (b : Bool) → ltb 0 (get_or la p 0) ≡ b → Passed n la ex' la' t
      go some true q =
          fallen (sum_lt n (λ h. get_or la' h 0) (λ h. get_or la h 0) (λ h b. moves_falls h) p pn
          (omega (arith, ltb-true 0 (get_or la p 0) q, moved_lack m other (omega (arith, c.afloat.la_long)))))
      go some false q =
          let none = ltb-false 0 (get_or la p 0) q in
          onward (λ h. level h none (eqb h p) refl) p pn mark (omega (arith, moved_receiver m other (omega (arith, c.afloat.ex_long))))

      to : (0 < d) ⊎ ((get_or t p 0 ≡ 3) × (get_or la p 0 ≡ 0)) → Passed n la ex' la' t
      to (inl some) = go some (ltb 0 (get_or la p 0)) refl
      to (inr none) = full p pn none.0 (omega (arith, none.1, moved_lack m other (omega (arith, c.afloat.la_long))))

pub sends_sent :
    {n e k g p : ℕ} {ends amounts ex la t amounts' ex' la' : List ℕ} → Course n e ends amounts ex la → k < e → Way (copied n e ends) (flowing amounts) k g p → Coming t p
    → Sends k g ends amounts ex la t amounts' ex' la' → Sent n e k ends amounts ex la t amounts' ex' la' g
sends_sent {n} {e} {k} {g} {p} {ends} {amounts} {ex} {la} {t} {amounts'} {ex'} {la'} c l (pays to from) mark (paid z d takes moves) =
    record {
      flowed = moves_flowed c l m other gn pn (most_taken takes) (λ w. paid_shifts w l other to from raised);
      same = raised.else;
      rises = λ i h. up i (eqb i k) refl;
      passed = λ pos. moves_passed c l m other gn pn (most_taken takes) t mark pos (rw from at takes);
    }
  where
    m : Moves k g p d (flowing amounts k + d) amounts ex la amounts' ex' la'
    m = rw from at moves

    other : p ≡ g → ⊥
    other y = apart c k l (from ∙ y ∙ sym to)

    gn : g < n
    gn = rw (← to) (c.chart.net.to k l)

    pn : p < n
    pn = rw (← from) (c.chart.net.from k l)

    raised : Raised (copied n e ends) (flowing amounts) (flowing amounts') k d
    raised =
        record {
          at = new_amount c l m other gn pn (most_taken takes);
          else = old_amount c l m other gn pn (most_taken takes);
        }

    up : (i : ℕ) (b : Bool) → eqb i k ≡ b → flowing amounts i ≤ flowing amounts' i
    up i true q = rw (eqb-true i k q) (omega (arith, raised.at))
    up i false q = omega (arith, raised.else i (eqb-false i k q))
sends_sent c l (pays to from) mark (gave not-to d takes moves) = absurd (not-to to)
sends_sent {k = k} c l (gives_back from to has) mark (paid z d takes moves) = absurd (apart c k l (from ∙ sym z))
sends_sent {n} {e} {k} {g} {p} {ends} {amounts} {ex} {la} {t} {amounts'} {ex'} {la'} c l (gives_back from to has) mark (gave not-to d takes moves) =
    record {
      flowed = moves_flowed c l m other gn pn first (λ w. gave_shifts w l other from to lowered);
      same = old_amount c l m other gn pn first;
      rises = λ i h. up i h (eqb i k) refl;
      passed = λ pos. moves_passed c l m other gn pn first t mark (omega arith) (rw to at takes);
    }
  where
    m : Moves k g p d (flowing amounts k - d) amounts ex la amounts' ex' la'
    m = rw to at moves

    other : p ≡ g → ⊥
    other y = not-to (to ∙ y)

    gn : g < n
    gn = rw (← from) (c.chart.net.from k l)

    pn : p < n
    pn = rw (← to) (c.chart.net.to k l)

    first : d ≤ get_or ex g 0
    first = omega (arith, most_taken takes)

    lowered : Raised (copied n e ends) (flowing amounts') (flowing amounts) k d
    lowered =
        record {
          at = omega (arith, most_taken takes, new_amount c l m other gn pn first);
          else = λ i q. sym (old_amount c l m other gn pn first i q);
        }

    up : (i : ℕ) → (end_in ends 0 i ≡ g → ⊥) → (b : Bool) → eqb i k ≡ b → flowing amounts i ≤ flowing amounts' i
    up i h true q = absurd (h (ap (end_in ends 0) (eqb-true i k q) ∙ from))
    up i h false q = omega (arith, lowered.else i (eqb-false i k q))
