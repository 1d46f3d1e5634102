-- `maketree::tree_file` is safe and ends: what is saved is a part of the buffer.
-- Assumes nothing.
use Rattle.maketree.proofs.Room.{written_within}
use Rattle.maketree.proofs.tree_file.Goals as goal

pub slice_bounds-bytes-end : goal.slice_bounds-bytes-end
slice_bounds-bytes-end g c = (written_within c.write.ensures c.in-Ok.is).0

pub slice_bounds-save-end : goal.slice_bounds-save-end
slice_bounds-save-end g c = (written_within c.write.ensures c.in-Ok.is).1
