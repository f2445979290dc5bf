-- `admit::lists::GroupList::group` meets its contract. What stands at the place of group g. Assumes nothing.
use Rattle.admit.proofs.ListLaws.{group_in_lem}
use Rattle.admit.proofs.lists.GroupList.group.Goals as goal

pub group-requires : goal.group-requires
group-requires c = c.args.self.fit _ c.requires

pub returns : goal.returns
returns c = rw (group_in_lem c.args.self _ c.requires) c.group.ensures
