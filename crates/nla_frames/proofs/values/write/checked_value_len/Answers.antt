-- Without this the proof is found too; with it a wrong body of the function is refused by one search.
use Rattle.std.proofs.Common.{rules}
use Rattle.nla_frames.proofs.values.write.checked_value_len.Goals as goal

pub returns-then-bytes-le-NLA_VALUE_MAX_SIZE : goal.returns-then-bytes-le-NLA_VALUE_MAX_SIZE
returns-then-bytes-le-NLA_VALUE_MAX_SIZE c = search rules

pub returns-else-bytes-le-NLA_VALUE_MAX_SIZE : goal.returns-else-bytes-le-NLA_VALUE_MAX_SIZE
returns-else-bytes-le-NLA_VALUE_MAX_SIZE c = search rules
