-- The items that an iterator over frames has left.
use Rattle.std.specs.Prelude.{List}
use Rattle.nla_frames.specs.declared.iterator.NlasIterator.{NlasIterator}
use Rattle.nla_frames.specs.Fault.{Outcome}
use Rattle.nla_frames.specs.Frame.{Frame}
use Rattle.nla_frames.specs.Cutting.{cut, items_of}

abbrev pub items_left : NlasIterator → List (Outcome Frame)
items_left it = items_of (cut it.rest.now)
