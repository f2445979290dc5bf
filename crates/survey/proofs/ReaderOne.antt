-- Two answers that the reader's promise allows are equal, and so are the lists.
use Prim.Native.Nat.{ℕ, ◌*◌, ◌<◌}
use native.Mathlib.Decide.{dec_lt}
use native.Mathlib.Omega.{arith}
use mathlib.Core.Path.{◌≡◌, refl, sym, ap₂, ◌∙◌}
use mathlib.Core.List.{List}
use lib.ListN.{get_or}
use lib.Seq.{ext_get_or}
use Rattle.std.specs.Prelude.{Result, Ok, Err}
use Rattle.survey.specs.declared.answers.Size.{Size}
use Rattle.survey.specs.declared.answers.Refusal.{Refusal}
use Rattle.survey.specs.declared.stands.Stand.{Stand}
use Rattle.survey.specs.Limits.{entry_bytes}
use Rattle.survey.specs.Refusals.{Verdict, fine, refused}
use Rattle.survey.specs.Faults.{reader_faults}
use Rattle.survey.specs.Answers.{verdict_of}
use Rattle.survey.specs.Promises.{Filled, ReadLists, ReaderSays}
use Rattle.survey.proofs.Verdicts.{answers_one}

pub filled_one : {before after after' : List ℕ} {k : ℕ} {f : List ℕ} {w : Stand} → Filled before after k f w → Filled before after' k f w → after ≡ after'
filled_one {before} {after} {after'} {k} {f} {w} a b =
    ext_get_or 0 after after' (a.long ∙ sym b.long) (λ i l. at i (dec_lt i (entry_bytes * k)))
  where
    at : (i : ℕ) → Dec (i < entry_bytes * k) → get_or after i 0 ≡ get_or after' i 0
    at i (yes l) = a.first i l ∙ sym (b.first i l)
    at i (no d) = a.rest i (omega arith) ∙ sym (b.rest i (omega arith))

pub record SameReading (r r' : Result Size Refusal) (g g' l l' : List ℕ) : Type 0 where
  pub answer : r ≡ r'
  pub groups : g ≡ g'
  pub links : l ≡ l'

pub reader_one :
    {f groups links : List ℕ} {r r' : Result Size Refusal} {g g' l l' : List ℕ} → ReaderSays f groups links r g l
    → ReaderSays f groups links r' g' l' → SameReading r r' g g' l l'
reader_one {f} {groups} {links} {r} {r'} {g} {g'} {l} {l'} a b =
    at r r' (answers_one (reader_faults f groups links) a.verdict b.verdict) a.lists b.lists
  where
    apart : {x : Refusal} {v : Verdict} → v ≡ refused x → v ≡ fine → ⊥
    apart p q = let z : ◌≡◌ {A = ℕ} 0 1 = cc in omega arith

    at : (r r' : Result Size Refusal) → verdict_of r ≡ verdict_of r' → ReadLists f groups links r g l → ReadLists f groups links r' g' l' → SameReading r r' g g' l l'
    at (Err x) (Err y) e p q = record { answer = cc; groups = p.0 ∙ sym q.0; links = p.1 ∙ sym q.1 }
    at (Err x) (Ok y) e p q = absurd (apart refl e)
    at (Ok x) (Err y) e p q = absurd (apart e refl)
    at (Ok x) (Ok y) e p q =
        record { answer = ap₂ (λ (n k : ℕ). Ok (record { n = n; e = k })) (p.0 ∙ sym q.0) (p.1 ∙ sym q.1); groups = filled_one p.2 q.2; links = filled_one p.3 q.3 }
