-- `calls::admit_call` meets its contract. A short list is the first fault; else the survey's faults are the answer. Assumes nothing.
use native.Mathlib.Omega.{arith}
use Rattle.survey.proofs.Verdicts.{past}
use Rattle.refusals.proofs.Looking.{stop_whole, whole_clear}
use Rattle.calls.proofs.CallLaws.{none_short}
use Rattle.calls.proofs.admit_call.Goals as goal

pub returns-then-list_short : goal.returns-then-list_short
returns-then-list_short c = stop_whole c.if-list_short.ensures c.refused_whole.ensures

pub admit-requires : goal.admit-requires
admit-requires c =
    let a = c.args in
    let long = none_short a.lists.groups.now a.lists.links.now a.marks.now a.amounts.now c.if-list_short.ensures in
    (record { fit = λ few j b. omega (arith, long.groups_have) }, record { fit = λ few j b. omega (arith, long.links_have) })

pub returns : goal.returns
returns c = past (whole_clear c.if-list_short.ensures) c.admit.ensures
