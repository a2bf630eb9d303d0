use Rattle.shelf_laws.proofs.EntryLaws.{part-is}
use Rattle.shelf.proofs.part_of.Goals as goal

pub returns : goal.returns
returns c = part-is c.args.shelf.slots c.args.name c.tree_of-tree.result c.tree_of-tree.ensures
