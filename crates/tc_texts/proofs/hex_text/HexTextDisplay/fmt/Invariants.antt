use Rattle.std.proofs.Common.{take}
use Rattle.std.specs.Fmt.{HasWritten, IsPlainFormatter}
use Rattle.tc_texts.specs.Hex.{hex_text}
use Rattle.tc_texts.proofs.hex_text.HexTextDisplay.fmt.Given as goal

abbrev pub invariant-loop-octet : goal.invariant-loop-octet
invariant-loop-octet g l =
    IsPlainFormatter l.fn.f → HasWritten g.W.Write.write_str_gives l.fn.f (hex_text (take l.octet-index l.self.0.now)) l.f
