-- Credits and debits of an admitted survey: weights, then amounts. Nothing wraps, and what comes out are the two halves of each balance.
use Prim.Native.Nat.{ℕ, ◌*◌, ◌≤◌, ◌<◌}
use native.Mathlib.Nat.{mul-le-mul}
use native.Mathlib.Omega.{arith}
use mathlib.Core.Path.{◌≡◌, sym, ap}
use mathlib.Core.List.{List}
use lib.ListN.{length, get_or}
use lib.Dec.{eqb}
use Rattle.survey.specs.Limits.{group_limit, count_limit, amount_limit, sum_limit}
use Rattle.survey.specs.Survey.{Link}
use Rattle.survey.specs.Sets.{Set, only, D, L}
use Rattle.survey.specs.Rounds.{weights}
use Rattle.survey.specs.Balance.{Amounts, gets, pays}
use Rattle.survey.specs.Words.{survey_at, survey_of, lent, marked_set, amounts_of}
use Rattle.survey.proofs.Sums.{sum_cong}
use Rattle.survey.proofs.GivenSurvey.{given_link}
use Rattle.survey.specs.Sound.{Sound}
use Rattle.survey.proofs.Admitted.{dead_small, cost_small}
use Rattle.survey.proofs.FewLinks.{gets_fit, pays_fit}
use Rattle.calls.specs.Calls.{AdmittedCall}
use Rattle.weights.specs.Marked.{groups_of, MarkedGroups}
use Rattle.weights.specs.Put.{Puttable, WeightsPut}
use Rattle.weights.proofs.MarkedLaws.{sound_groups}
use Rattle.weights.proofs.PutLaws.{plus_put, minus_put, sound_puttable}
use Rattle.balance.specs.Rule.{RuleAsks}
use Rattle.balance.specs.Balances.{from_of, to_of, amounts_at, Takes, AmountsAsk, AmountsAdded, BalancesPut}

-- each group has its place in the list, and what stands there is at most what one half of a weight comes to
record WeightHalves (n : ℕ) (list : List ℕ) : Type 0 where
  long : n ≤ length list
  small : (g : ℕ) → g < n → get_or list g 0 ≤ count_limit * sum_limit

module _ (n e : ℕ) (groups links : List ℕ) where
  -- ---- the links of the survey are those of the list

  pub link_from : (k : ℕ) → k < e → from_of links k ≡ ((survey_of n e groups links).link k).from
  link_from k l = ap (λ (x : Link). x.from) (sym (given_link n e groups lent links lent k l))

  pub link_to : (k : ℕ) → k < e → to_of links k ≡ ((survey_of n e groups links).link k).to
  link_to k l = ap (λ (x : Link). x.to) (sym (given_link n e groups lent links lent k l))

  gets_at : (a : Amounts) (g : ℕ) → gets (survey_of n e groups links) a g ≡ amounts_at (from_of links) a e g
  unfolding gets survey_at
  gets_at a g =
      sum_cong e (λ k. only (eqb ((survey_of n e groups links).link k).from g) (a k)) (λ k. only (eqb (from_of links k) g) (a k))
      (λ k l. ap (λ (p : ℕ). only (eqb p g) (a k)) (sym (link_from k l)))

  pays_at : (a : Amounts) (g : ℕ) → pays (survey_of n e groups links) a g ≡ amounts_at (to_of links) a e g
  unfolding pays survey_at
  pays_at a g =
      sum_cong e (λ k. only (eqb ((survey_of n e groups links).link k).to g) (a k)) (λ k. only (eqb (to_of links k) g) (a k))
      (λ k l. ap (λ (p : ℕ). only (eqb p g) (a k)) (sym (link_to k l)))

  module _ (x : Sound (survey_of n e groups links)) where
    -- both ends of each link are groups
    pub from_below : (k : ℕ) → k < e → from_of links k < n
    unfolding survey_at
    from_below k l = rw (link_from k l) (x.inside.from k l)

    pub to_below : (k : ℕ) → k < e → to_of links k < n
    unfolding survey_at
    to_below k l = rw (link_to k l) (x.inside.to k l)

    -- ---- what a group's weight comes to

    plus_small : (S : Set) (g : ℕ) → g < n → (weights (survey_of n e groups links) S).plus g ≤ count_limit * sum_limit
    unfolding survey_at
    plus_small S g l = mul-le-mul (x.dead g l) (cost_small x S)

    minus_small : (S : Set) (g : ℕ) → g < n → (weights (survey_of n e groups links) S).minus g ≤ count_limit * sum_limit
    unfolding survey_at
    minus_small S g l = mul-le-mul (x.live g l) (dead_small x S)

    -- ---- weights and then amounts

    module _ (a : Amounts) (small : (k : ℕ) → k < e → a k ≤ amount_limit) where
      gets_small : (g : ℕ) → amounts_at (from_of links) a e g ≤ group_limit * amount_limit
      unfolding survey_at
      gets_small g = rw (gets_at a g) at (gets_fit x a small g)

      pays_small : (g : ℕ) → amounts_at (to_of links) a e g ≤ group_limit * amount_limit
      unfolding survey_at
      pays_small g = rw (pays_at a g) at (pays_fit x a small g)

      takes_from : {list : List ℕ} → WeightHalves n list → Takes (from_of links) a e list
      takes_from h =
          record {
            within = λ k l. omega (arith, from_below k l, h.long);
            fits = λ k l. omega (arith, gets_small (from_of links k), h.small (from_of links k) (from_below k l));
          }

      takes_to : {list : List ℕ} → WeightHalves n list → Takes (to_of links) a e list
      takes_to h =
          record {
            within = λ k l. omega (arith, to_below k l, h.long);
            fits = λ k l. omega (arith, pays_small (to_of links k), h.small (to_of links k) (to_below k l));
          }

-- ---- of an admitted call

module _ {n e : ℕ} {groups links marks amounts : List ℕ} (x : AdmittedCall n e groups links marks amounts) where
  pub marked_groups : MarkedGroups n groups marks
  marked_groups = record { some = sound_groups n e groups links x.sound x.groups_long; marks_long = x.marks_long }

-- ---- of a claim whose balances are put

module _ {n e d : ℕ} {groups links marks amounts : List ℕ} (p : RuleAsks n e groups links marks amounts d) where
  module _ {l : ℕ} (is : l ≡ L (groups_of n groups) (marked_set marks)) {credits₀ debits₀ : List ℕ}
      (credits_long : group_limit ≤ length credits₀) (debits_long : group_limit ≤ length debits₀) where
    pub puttable : Puttable n groups d l credits₀ debits₀
    puttable = sound_puttable n e groups links p.call.sound p.call.groups_long (marked_set marks) p.dead is
        (omega (arith, p.call.few_groups, credits_long)) (omega (arith, p.call.few_groups, debits_long))

    module _ {credits debits : List ℕ} (w : WeightsPut n groups d l credits₀ debits₀ credits debits) where
      put : WeightsPut n groups (D (groups_of n groups) (marked_set marks)) (L (groups_of n groups) (marked_set marks)) credits₀ debits₀ credits debits
      put = rw (p.dead, is) at w

      credits_hold : WeightHalves n credits
      credits_hold =
          record {
            long = omega (arith, w.pluses.long, p.call.few_groups, credits_long);
            small = λ g h. omega (arith, plus_put e links (marked_set marks) put g h, plus_small n e groups links p.call.sound (marked_set marks) g h);
          }

      debits_hold : WeightHalves n debits
      debits_hold =
          record {
            long = omega (arith, w.minuses.long, p.call.few_groups, debits_long);
            small = λ g h. omega (arith, minus_put e links (marked_set marks) put g h, minus_small n e groups links p.call.sound (marked_set marks) g h);
          }

      pub amounts_ask : AmountsAsk e links amounts credits debits
      amounts_ask =
          record {
            links_long = p.call.links_long;
            amounts_long = p.call.amounts_long;
            from = takes_from n e groups links p.call.sound (amounts_of amounts) p.small credits_hold;
            to = takes_to n e groups links p.call.sound (amounts_of amounts) p.small debits_hold;
          }

      pub balances_put : {credits' debits' : List ℕ} → AmountsAdded e links amounts credits debits credits' debits'
          → BalancesPut n e groups links marks amounts credits' debits'
      balances_put a =
          record {
            credit_at =
                λ g h.
                omega (
                  arith,
                  a.from.at g (omega (arith, w.pluses.long, p.call.few_groups, credits_long)),
                  plus_put e links (marked_set marks) put g h,
                  gets_at n e groups links (amounts_of amounts) g,
                );
            debit_at =
                λ g h.
                omega (
                  arith,
                  a.to.at g (omega (arith, w.minuses.long, p.call.few_groups, debits_long)),
                  minus_put e links (marked_set marks) put g h,
                  pays_at n e groups links (amounts_of amounts) g,
                );
          }
