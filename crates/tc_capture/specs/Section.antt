-- The abstract value of a section.
use Rattle.tc_capture.specs.declared.pcapng.section.Section.{Section as DeclaredSection}
use Rattle.tc_capture.specs.PcapNg.{Section}

abbrev pub section_of : DeclaredSection → Section
section_of s = record { order = s.order; interfaces = s.interfaces.items }
