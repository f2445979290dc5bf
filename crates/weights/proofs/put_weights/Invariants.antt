-- `weights::put_weights` meets its contract. The invariant: the weights of the groups below g are put. Assumes nothing.
use Rattle.weights.specs.Put.{PutFirst}
use Rattle.weights.specs.Marked.{groups_of}
use Rattle.survey.specs.Sets.{dead_of, cost_of}
use Prim.Native.Nat.{◌*◌}
use Rattle.weights.proofs.put_weights.Given as goal

abbrev pub invariant-loop-g : goal.invariant-loop-g
invariant-loop-g here =
    record {
      pluses : PutFirst here.g (λ i. dead_of (groups_of here.lists.n here.lists.groups.now) i * here.l.0) here.initial.plus here.plus;
      minuses : PutFirst here.g (λ i. cost_of (groups_of here.lists.n here.lists.groups.now) i * here.d.0) here.initial.minus here.minus;
    }
