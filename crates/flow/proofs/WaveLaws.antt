-- Laws of a wave's way back: turn after turn, until a lack has fallen.
use Prim.Native.Nat.{ℕ, ◌+◌, ◌≤◌, ◌<◌}
use native.Mathlib.Omega.{arith}
use mathlib.Core.Path.{◌≡◌, refl, sym, ap, ◌∙◌}
use mathlib.Core.Bool.{Bool, true, false, ◌||◌}
use mathlib.Core.List.{List}
use lib.ListN.{length, get_or, set, length-set}
use lib.Seq.{get_or-set_same, get_or-set_other}
use lib.Dec.{eqb}
use borrow.Author.Tests.{eqb-true, eqb-false, ne_eqb}
use Rattle.survey.specs.Sets.{only}
use Rattle.survey.proofs.SumOrder.{sum_lt}
use Rattle.flow.specs.Copies.{copied, flowing}
use Rattle.flow.specs.Ways.{Way, pays, gives_back}
use Rattle.flow.specs.Drains.{Hop}
use Rattle.flow.specs.Waves.{Ran, lacks, unmarked, Remarked, Coming, Ahead, Passed, fallen, full, onward, Rises, Turned, rests, sent, Turnable, Pourable, Still, Poured}
use Rattle.flow.proofs.JoinLaws.{set_by}
use Rattle.flow.proofs.FlowLaws.{ran_on, afloat_after, lacks_fall, lack_no_excess, turned_ran}

-- ---- the marks of the groups that are passed

pub passed_remarked : {n : ℕ} {t₀ : List ℕ} (t : List ℕ) (g : ℕ) → g < n → n ≤ length t → Coming t g → Remarked n t₀ t → Remarked n t₀ (set t g 2)
passed_remarked {n} {t₀} t g below room mark r =
    record {
      same = λ h. at h (eqb h g) refl;
      rest = λ h l. get_or-set_other t g h 2 0 (λ z. omega arith) ∙ r.rest h l;
      long = simp length-set r.long;
    }
  where
    at : (h : ℕ) (b : Bool) → eqb h g ≡ b → unmarked (set t g 2) h ≡ unmarked t₀ h
    at h true q = rw (eqb-true h g q, get_or-set_same t g 2 0 (omega arith)) (sym (ne_eqb (get_or t g 0) 0 (λ z. omega arith)) ∙ r.same g)
    at h false q = rw (get_or-set_other t g h 2 0 (eqb-false h g q)) (r.same h)

pub passed_ahead : {n : ℕ} (t order : List ℕ) (i : ℕ) → get_or order i 0 < n → n ≤ length t → Ahead n t order (i + 1) → Ahead n (set t (get_or order i 0) 2) order i
passed_ahead {n} t order i below room a = record { at = λ h l m. go h l m (eqb h (get_or order i 0)) refl }
  where
    go : (h : ℕ) → h < n → Coming (set t (get_or order i 0) 2) h → (b : Bool) → eqb h (get_or order i 0) ≡ b → (j : ℕ) × (j < i) × (get_or order j 0 ≡ h)
    go h l m true q =
        let two : get_or (set t (get_or order i 0) 2) h 0 ≡ 2 = rw (eqb-true h (get_or order i 0) q) (get_or-set_same t (get_or order i 0) 2 0 (omega arith)) in
        absurd (omega arith)
    go h l m false q =
        let f = a.at h l (rw (get_or-set_other t (get_or order i 0) h 2 0 (eqb-false h (get_or order i 0) q)) at m) in
        let other : f.0 ≡ i → ⊥ = λ z. eqb-false h (get_or order i 0) q (sym f.2 ∙ ap (λ j. get_or order j 0) z) in
        (f.0, omega (arith, f.1), f.2)

-- ---- turn after turn

true-false : true ≡ false → ⊥
true-false z = cc

or_false : (r : Bool) → (r || false) ≡ r
or_false true = refl
or_false false = refl

or_true : (r : Bool) → (r || true) ≡ true
or_true true = refl
or_true false = refl

only_one : (t : Bool) → only t 1 ≤ 1
only_one true = omega arith
only_one false = omega arith

-- How far it went: nobody has sent yet; or a lack has fallen; or no lack has changed, and a group that is still to come has an excess.
pub data Went (n : ℕ) (amounts₀ ex₀ la₀ amounts ex la order : List ℕ) (count i : ℕ) (r : Bool) : Type 0 where
  idle : r ≡ false → amounts ≡ amounts₀ → ex ≡ ex₀ → la ≡ la₀ → ((j : ℕ) → i ≤ j → j < count → get_or ex₀ (get_or order j 0) 0 ≡ 0)
      → Went n amounts₀ ex₀ la₀ amounts ex la order count i r
  fell : r ≡ true → lacks n la < lacks n la₀ → Went n amounts₀ ex₀ la₀ amounts ex la order count i r
  level : r ≡ true → ((h : ℕ) → get_or la h 0 ≡ get_or la₀ h 0) → (j : ℕ) → j < i → 0 < get_or ex (get_or order j 0) 0 → Went n amounts₀ ex₀ la₀ amounts ex la order count i r

-- From place i on all have had their turn, and r is whether one had something to send: if so, a place is passed.
pub record Pouring (n e : ℕ) (ends amounts₀ ex₀ la₀ ways₀ t₀ order : List ℕ) (started count : ℕ) (amounts ex la ways t : List ℕ) (r : Bool) (i : ℕ) : Type 0 where
  pub from : started ≤ i
  pub within : only r 1 + i ≤ count
  pub ran : Ran n e ends amounts₀ ex₀ la₀ ways₀ amounts ex la ways
  pub hops : (j : ℕ) → started ≤ j → j < i → Hop (copied n e ends) (flowing amounts) order j
  pub remarked : Remarked n t₀ t
  pub began : (h : ℕ) → h < n → get_or t h 0 ≡ 3 → 0 < get_or la₀ h 0
  pub marked : (j : ℕ) → j < i → Coming t (get_or order j 0)
  pub ahead : Ahead n t order i
  pub went : Went n amounts₀ ex₀ la₀ amounts ex la order count i r

module _ {n e started count : ℕ} {ends amounts₀ ex₀ la₀ ways₀ t₀ order : List ℕ} (p : Pourable n e ends amounts₀ ex₀ la₀ ways₀ t₀ order started count) where
  module _ {amounts ex la ways t : List ℕ} {r : Bool} {m i : ℕ} (w : Pouring n e ends amounts₀ ex₀ la₀ ways₀ t₀ order started count amounts ex la ways t r m) (at : m ≡ i + 1)
      (on : started ≤ i) where
    within : i < count
    within = omega (arith, w.within)

    hop : Hop (copied n e ends) (flowing amounts) order i
    hop = w.hops i on (omega arith)

    room : n ≤ length t
    room = omega (arith, w.remarked.long, p.t_long)

    -- who stands before place i is not passed yet
    marked_after : (j : ℕ) → j < i → Coming (set t (get_or order i 0) 2) (get_or order j 0)
    marked_after j b = rw (get_or-set_other t (get_or order i 0) (get_or order j 0) 2 0 (p.once j i b within)) (w.marked j (omega arith))

    -- nobody else begins it
    began_after : (h : ℕ) → h < n → get_or (set t (get_or order i 0) 2) h 0 ≡ 3 → 0 < get_or la₀ h 0
    began_after =
        set_by t (get_or order i 0) 2 (λ h v. h < n → v ≡ 3 → 0 < get_or la₀ h 0) (omega (arith, p.group i within, room)) (λ l z. absurd (omega arith)) (λ j d. w.began j)

    -- the group at place i is passed, and one before it stands at the other end of its link
    pub pour_turnable : Turnable n e (get_or order i 0) ends amounts ex la ways (set t (get_or order i 0) 2)
    pour_turnable =
        record {
          afloat = afloat_after p.afloat w.ran.flowed;
          rows = w.ran.rows p.rows;
          below = p.group i within;
          k = hop.link;
          link = hop.within;
          p = get_or order hop.earlier 0;
          way = hop.way;
          mark = marked_after hop.earlier hop.before;
          t_long = simp length-set room;
        }

    -- what has not sent yet can still send: an amount falls only where the link's own from sends
    hops_after :
        (amounts' : List ℕ) → Rises (get_or order i 0) ends amounts amounts'
        → (j : ℕ) → started ≤ j → j < i → Hop (copied n e ends) (flowing amounts') order j
    hops_after amounts' up j a b =
        let h = w.hops j a (omega arith) in
        record { link = h.link; within = h.within; earlier = h.earlier; before = h.before; way = stays h.way }
      where
        stays : {k q : ℕ} → Way (copied n e ends) (flowing amounts) k (get_or order j 0) q → Way (copied n e ends) (flowing amounts') k (get_or order j 0) q
        stays (pays to from) = pays to from
        stays {k} (gives_back from to has) = gives_back from to (omega (arith, up k (λ z. p.once j i b within (sym from ∙ z))))

    ahead : Ahead n (set t (get_or order i 0) 2) order i
    ahead = passed_ahead t order i (p.group i within) room (rw at at w.ahead)

    went_after : {amounts' ex' la' ways' : List ℕ} {r' : Bool} → Turned n e (get_or order i 0) ends amounts ex la ways (set t (get_or order i 0) 2) amounts' ex' la' ways' r'
        → Went n amounts₀ ex₀ la₀ amounts' ex' la' order count i (r || r')
    went_after {r' = r'} (rests z) = go w.went
      where
        go : Went n amounts₀ ex₀ la₀ amounts ex la order count m r → Went n amounts₀ ex₀ la₀ amounts ex la order count i (r || false)
        go (idle a b c d dry) = idle (or_false r ∙ a) b c d (λ j u v. here j u v (eqb j i) refl)
          where
            here : (j : ℕ) → i ≤ j → j < count → (b : Bool) → eqb j i ≡ b → get_or ex₀ (get_or order j 0) 0 ≡ 0
            here j u v true q = rw (← c, eqb-true j i q) z
            here j u v false q = let other : j ≡ i → ⊥ = eqb-false j i q in dry j (omega arith) v
        go (fell a b) = fell (or_false r ∙ a) b
        go (level a b j c d) = level (or_false r ∙ a) b j (before (eqb j i) refl) d
          where
            before : (b : Bool) → eqb j i ≡ b → j < i
            before true q = let none : get_or ex (get_or order j 0) 0 ≡ 0 = rw (eqb-true j i q) z in absurd (omega arith)
            before false q = let other : j ≡ i → ⊥ = eqb-false j i q in omega arith
    went_after {amounts'} {ex'} {la'} (sent f up passed) = go w.went passed
      where
        -- who is still to come stands before place i
        come :
            ((h : ℕ) → get_or la' h 0 ≡ get_or la₀ h 0) → (h : ℕ) → h < n → Coming (set t (get_or order i 0) 2) h → 0 < get_or ex' h 0
            → Went n amounts₀ ex₀ la₀ amounts' ex' la' order count i (r || true)
        come same h l m x = let f = ahead.at h l m in level (or_true r) same f.0 f.1 (rw f.2 x)

        -- one that began had a lack
        gone : (h : ℕ) → h < n → get_or (set t (get_or order i 0) 2) h 0 ≡ 3 → get_or la' h 0 ≡ 0 → lacks n la' < lacks n la₀
        gone h l m z =
            sum_lt n (λ j. get_or la' j 0) (λ j. get_or la₀ j 0) (λ j b. (ran_on w.ran f).flowed.falls j) h l (omega (arith, began_after h l m))

        go : Went n amounts₀ ex₀ la₀ amounts ex la order count m r → Passed n la ex' la' (set t (get_or order i 0) 2) → Went n amounts₀ ex₀ la₀ amounts' ex' la' order count i
            (r || true)
        go v (fallen lower) = fell (or_true r) (omega (arith, lacks_fall w.ran.flowed))
        go v (full h l m z) = fell (or_true r) (gone h l m z)
        go (idle a b c d dry) (onward same h l m x) = come (λ j. same j ∙ ap (λ y. get_or y j 0) d) h l m x
        go (fell a b) (onward same h l m x) = fell (or_true r) (omega (arith, lacks_fall f.flowed))
        go (level a b j c d) (onward same h l m x) = come (λ u. same u ∙ b u) h l m x

    pub pour_on :
        {amounts' ex' la' ways' : List ℕ} {r' : Bool} → Turned n e (get_or order i 0) ends amounts ex la ways (set t (get_or order i 0) 2) amounts' ex' la' ways' r'
        → Pouring n e ends amounts₀ ex₀ la₀ ways₀ t₀ order started count amounts' ex' la' ways' (set t (get_or order i 0) 2) (r || r') i
    pour_on x =
        record {
          from = on;
          within = at_most x;
          ran = ran_on w.ran (turned_ran x);
          hops = hops x;
          remarked = passed_remarked t (get_or order i 0) (p.group i within) room (w.marked i (omega arith)) w.remarked;
          began = began_after;
          marked = marked_after;
          ahead = ahead;
          went = went_after x;
        }
      where
        at_most : {amounts' ex' la' ways' : List ℕ} {r' : Bool} → Turned n e (get_or order i 0) ends amounts ex la ways (set t (get_or order i 0) 2) amounts' ex' la' ways' r'
            → only (r || r') 1 + i ≤ count
        at_most {r' = r'} y = omega (arith, within, only_one (r || r'))

        hops :
            {amounts' ex' la' ways' : List ℕ} {r' : Bool} → Turned n e (get_or order i 0) ends amounts ex la ways (set t (get_or order i 0) 2) amounts' ex' la' ways' r' → (j : ℕ)
            → started ≤ j → j < i
            → Hop (copied n e ends) (flowing amounts') order j
        hops (rests z) j a b = w.hops j a (omega arith)
        hops {amounts'} (sent f up passed) j a b = hops_after amounts' up j a b

  pub pour_done :
      {amounts ex la ways t : List ℕ} {r : Bool} {i : ℕ} → i ≤ started → Pouring n e ends amounts₀ ex₀ la₀ ways₀ t₀ order started count amounts ex la ways t r i
      → Poured n e ends amounts₀ ex₀ la₀ ways₀ t₀ order started count amounts ex la ways t r
  pour_done {amounts} {ex} {la} {ways} {t} {r} {i} d w =
      record {
        ran = w.ran;
        remarked = w.remarked;
        still = λ z. none z w.went;
        fell = λ z. some z w.went;
      }
    where
      none : r ≡ false → Went n amounts₀ ex₀ la₀ amounts ex la order count i r → Still amounts₀ ex₀ la₀ order started count amounts ex la
      none z (idle a b c e dry) = record { amounts_same = b; ex_same = c; la_same = e; dry = λ j u v. dry j (omega arith) v }
      none z (fell a b) = absurd (true-false (sym a ∙ z))
      none z (level a b j c e) = absurd (true-false (sym a ∙ z))

      some : r ≡ true → Went n amounts₀ ex₀ la₀ amounts ex la order count i r → lacks n la < lacks n la₀
      some z (idle a b c e dry) = absurd (true-false (sym z ∙ a))
      some z (fell a b) = b
      some z (level a b j c e) =
          let group = p.group j (omega (arith, p.more)) in
          absurd (omega (arith, lack_no_excess (afloat_after p.afloat w.ran.flowed) (get_or order j 0) group (rw (b (get_or order j 0)) (p.starts j (omega arith)))))
