-- One round: what it asks of the calls is there, and what they leave is a round of Specification 6.3.
use Prim.Native.Nat.{ℕ, ◌*◌, ◌<◌, ◌≤◌}
use native.Mathlib.Nat.{mul-le-mul}
use native.Mathlib.Omega.{arith}
use mathlib.Core.Path.{◌≡◌, sym, ◌∙◌}
use mathlib.Core.Bool.{Bool}
use mathlib.Core.List.{List}
use lib.ListN.{length, get_or}
use Rattle.survey.specs.Limits.{entry_bytes, group_limit, link_limit, amount_limit}
use Rattle.survey.specs.Sets.{all_groups, sum, total, D, L}
use Rattle.survey.specs.Rounds.{weights, WeighsZero}
use Rattle.survey.specs.Words.{survey_at, survey_of, marked_set, amounts_of, lent}
use Rattle.survey.proofs.Sums.{sum_cong}
use Rattle.survey.proofs.GivenSurvey.{given_n, given_e}
use Rattle.survey.proofs.Admitted.{dead_small, cost_small}
use Rattle.survey.proofs.BalanceRule.{weighs_plus}
use Rattle.survey.proofs.FewLinks.{link_once}
use Rattle.survey.proofs.RoundSets.{none_zero, some_more}
use Rattle.refusals.specs.Searches.{Tells}
use Rattle.refusals.proofs.Looking.{told, told_not}
use Rattle.weights.specs.Marked.{groups_of, MarkedGroups}
use Rattle.weights.specs.Put.{WeightsPut}
use Rattle.weights.proofs.MarkedLaws.{sound_groups}
use Rattle.weights.proofs.PutLaws.{plus_put, minus_put}
use Rattle.flow.specs.Links.{Given}
use Rattle.flow.specs.Drains.{Net}
use Rattle.flow.specs.Heavy.{Weighed, Weighable, Proves, Heavy}
use Rattle.flow.proofs.LinkLaws.{survey_given, given_from, given_to, inside_ends}
use Rattle.flow.proofs.HeavyLaws.{bare_no_cycle}
use Rattle.chooser.specs.Rounds.{AnyAbove, Listed, Round}

-- ---- the lists of an admitted survey

module _ {n e : ℕ} {groups links : List ℕ} (x : Listed n e groups links) where
  pub few_groups : n ≤ group_limit
  few_groups = rw (given_n n e groups lent links lent) at x.sound.groups

  pub few_links : e ≤ link_limit
  few_links = rw (given_e n e groups lent links lent) at x.sound.links

  pub listed_net : Net n e links
  listed_net =
      record {
        few_groups = few_groups;
        few_links = few_links;
        links_long = x.links_long;
        from = λ k h. (inside_ends (survey_given n e groups links) x.sound.inside k h).0;
        to = λ k h. (inside_ends (survey_given n e groups links) x.sound.inside k h).1;
      }

  pub listed_marked : {current : List ℕ} → n ≤ length current → MarkedGroups n groups current
  listed_marked long = record { some = sound_groups n e groups links x.sound x.groups_long; marks_long = long }

pub ruleset round_steps = (few_groups, few_links, listed_marked)

-- ---- weights of the current set

module _ {n e d l : ℕ} {groups links : List ℕ} (current : List ℕ) {plus₀ minus₀ plus minus : List ℕ} (x : Listed n e groups links)
    (is-d : d ≡ D (groups_of n groups) (marked_set current)) (is-l : l ≡ L (groups_of n groups) (marked_set current))
    (put : WeightsPut n groups d l plus₀ minus₀ plus minus) where
  own : WeightsPut n groups (D (groups_of n groups) (marked_set current)) (L (groups_of n groups) (marked_set current)) plus₀ minus₀ plus minus
  own = rw (is-d, is-l) at put

  round_weighed : Weighed n plus minus (weights (survey_of n e groups links) (marked_set current))
  round_weighed =
      record {
        plus_is = λ g h. sym (plus_put e links (marked_set current) own g h);
        minus_is = λ g h. sym (minus_put e links (marked_set current) own g h);
      }

  -- dead·L of all groups together is D of all groups times L
  small : sum n (λ g. get_or plus g 0) ≤ amount_limit
  unfolding total survey_at
  small =
      omega (
        arith,
        sum_cong n (λ g. get_or plus g 0) _ (plus_put e links (marked_set current) own),
        weighs_plus (survey_of n e groups links) (marked_set current) all_groups,
        mul-le-mul (dead_small x.sound all_groups) (cost_small x.sound (marked_set current)),
      )

  v : Given (survey_of n e groups links) n e links
  v = survey_given n e groups links

  pub round_weighable :
      {amounts : List ℕ} → n ≤ length plus₀ → n ≤ length minus₀ → n ≤ length current → entry_bytes * e ≤ length amounts
      → Weighable n e links plus minus current amounts
  round_weighable p m c a =
      record {
        net = listed_net x;
        no_cycle = bare_no_cycle (survey_given n e groups links) x.sound.without_cycle;
        once =
            λ j k y z p q.
            link_once x.sound j k (rw (given_e n e groups lent links lent) y) (rw (given_e n e groups lent links lent) z)
            (given_from v j y ∙ p ∙ sym (given_from v k z)) (given_to v j y ∙ q ∙ sym (given_to v k z));
        plus_long = omega (arith, put.pluses.long);
        minus_long = omega (arith, put.minuses.long);
        marks_long = c;
        amounts_long = a;
        small = small;
      }

  module _ {amounts plus' minus' current' amounts' : List ℕ} (h : Heavy n e links plus minus current amounts plus' minus' current' amounts') where
    proves : Proves (survey_of n e groups links) (weights (survey_of n e groups links) (marked_set current)) (amounts_of amounts') plus' minus' current'
    proves = h.proves (survey_of n e groups links) (survey_given n e groups links) (weights (survey_of n e groups links) (marked_set current)) round_weighed

    -- what the set weighs is the excess that is left
    more_weighs : AnyAbove n plus' → WeighsZero (survey_of n e groups links) (weights (survey_of n e groups links) (marked_set current)) (marked_set current') → ⊥
    unfolding survey_at
    more_weighs a =
        some_more x.sound.inside (weights (survey_of n e groups links) (marked_set current)) (marked_set current') proves.drains proves.dry a.group
        a.below (omega (arith, proves.balanced.above a.group a.below, a.above))

    none_weighs : (AnyAbove n plus' → ⊥) → WeighsZero (survey_of n e groups links) (weights (survey_of n e groups links) (marked_set current)) (marked_set current')
    unfolding survey_at
    none_weighs d =
        none_zero x.sound.inside (weights (survey_of n e groups links) (marked_set current)) (marked_set current') proves.drains proves.dry
        (λ g l. let none : 0 < get_or plus' g 0 → ⊥ = λ p. d (record { group = g; below = l; above = p }) in omega (arith, proves.balanced.above g l))

    pub round_law : (more : Bool) → Tells (AnyAbove n plus') more → Round n e groups links current amounts more current' amounts'
    round_law more t =
        record {
          worked =
              record {
                small = h.small;
                bits = h.bits;
                kept =
                    record {
                      current_rest = h.marks_rest;
                      amounts_rest = h.amounts_rest;
                      current_long = h.marks_long;
                      amounts_long = h.amounts_long;
                    };
              };
          round = record {
            heaviest = proves.heaviest;
            drains = proves.drains;
            dry = proves.dry;
            further = λ y. more_weighs (told more y t);
            last = λ z. none_weighs (told_not more z t);
          };
        }
