-- `flow::drains::Queue::see_half` meets its contract: the groups that join are those of the row and of who has not joined, by `saw_half`. Assumes nothing.
use Rattle.flow.proofs.GrowLaws.{see_joinable, saw_half}
use Rattle.flow.proofs.drains.Queue.see_half.Goals as goal

pub join-requires : goal.join-requires
join-requires c = see_joinable c.requires

pub returns-clause-saw : goal.returns-clause-saw
returns-clause-saw c = saw_half c.requires c.join.ensures.joined
