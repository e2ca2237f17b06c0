-- The abstract value of a block.
use Rattle.tc_capture.specs.declared.pcapng.block.Block.{Block as DeclaredBlock}
use Rattle.tc_capture.specs.PcapNg.{Block}

abbrev pub block_of : DeclaredBlock → Block
block_of b = record { order = b.order; kind = b.kind; body = b.body.now }
