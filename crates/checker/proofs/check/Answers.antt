-- `checker::check` meets its contract. The call's faults, and then the claim's. Assumes nothing.
use Rattle.checker.proofs.Rows.{call_refused, claim_answers}
use Rattle.checker.proofs.check.Goals as goal

pub returns-in_err-admit_call : goal.returns-in_err-admit_call
returns-in_err-admit_call c = call_refused _ _ _ _ _ _ _ c.from_residual.ensures.1 c.in_err-admit_call.ensures

pub returns : goal.returns
returns c = claim_answers _ _ _ _ _ _ c.in_ok-admit_call.ensures c.claim_faults.ensures
