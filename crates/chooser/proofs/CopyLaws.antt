-- A copy of bytes to the front of a list has the same marks and the same amounts.
use Prim.Native.Nat.{ℕ, ◌*◌, ◌<◌, ◌≤◌}
use native.Mathlib.Omega.{arith}
use mathlib.Core.Path.{◌≡◌}
use mathlib.Core.List.{List, ◌++◌}
use lib.ListN.{length, get_or, take, drop}
use Rattle.std.proofs.lemmas.Grind.{common_steps}
use Rattle.survey.specs.Limits.{entry_bytes}
use Rattle.survey.specs.Words.{marked_set, amounts_of}
use Rattle.weights.specs.Put.{PutFirst}

-- the list whose first n bytes are written as one slice, with the first n of another
pub copied :
    {n : ℕ} (from : List ℕ) {to part : List ℕ} → n ≤ length to → length part ≡ length (take n to) → part ≡ take n from
    → PutFirst n (λ i. get_or from i 0) to (part ++ drop n to)
copied {n} from {to} {part} t l e =
    record {
      long = grind (arith, common_steps);
      first = λ g b. grind (arith, common_steps);
      rest = λ g b. grind (arith, common_steps);
    }

pub copied_marks : {n : ℕ} (from : List ℕ) {l l' : List ℕ} → PutFirst n (λ i. get_or from i 0) l l' → (g : ℕ) → g < n → marked_set from g ≡ marked_set l' g
copied_marks from p g h = rw (p.first g h)

pub copied_amounts : {e : ℕ} (from : List ℕ) {l l' : List ℕ} → PutFirst (entry_bytes * e) (λ i. get_or from i 0) l l' → (k : ℕ) → k < e → amounts_of from k ≡ amounts_of l' k
copied_amounts from p k h = grind (arith, p.first)
