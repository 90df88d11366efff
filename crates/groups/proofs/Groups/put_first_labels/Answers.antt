-- `groups::Groups::put_first_labels` meets its contract: the cells passed are told.
-- Assumes nothing.
use mathlib.Core.Path.{refl}
use Rattle.groups.proofs.FloodLaws.{marked_none}
use Rattle.groups.proofs.Groups.put_first_labels.Goals as goal

pub loop-i-init : goal.loop-i-init
loop-i-init c = (marked_none _, refl)
