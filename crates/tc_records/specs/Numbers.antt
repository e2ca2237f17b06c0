-- Named numbers as fields of a record.
use Rattle.nla_frames.specs.declared.family.AddressFamily.{AddressFamily}
use Rattle.nla_frames.specs.declared.family.AddressFamily.TheVariants.{Other}
use Rattle.nla_frames.specs.Family.{number_of}
use Rattle.tc_meaning.specs.Tree.{Scalar, plain, unnamed}

abbrev pub family_scalar : AddressFamily → Scalar
family_scalar (Other n) = unnamed n
family_scalar family = plain (number_of family)
