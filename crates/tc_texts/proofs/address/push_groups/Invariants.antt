use Rattle.std.proofs.Common.{◌≡◌, ◌+◌, ◌*◌, ◌≤◌, ◌∷◌, ◌++◌, get_or, take}
use Rattle.std.specs.Net.Text.{groups_text}
use Rattle.arrayvec.specs.ArrayString.{array_string_len}
use Rattle.tc_texts.proofs.address.push_groups.Given as goal

abbrev pub invariant-loop-group : goal.invariant-loop-group
invariant-loop-group g l = record {
  bytes : l.text.bytes ≡ l.fn.text.bytes ++ groups_text (get_or l.groups 0 0 ∷ take l.group-index l.rest);
  len : array_string_len l.text + 1 ≤ array_string_len l.fn.text + 5 * (l.group-index + 1);
}
