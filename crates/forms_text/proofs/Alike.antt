-- Lists of JSON that are the same.
use Rattle.std.proofs.Common.{◌≡◌, List, length, sym, ap, ◌∙◌}
use Rattle.serde_json.specs.Events.{items_len}
use Rattle.serde_json.specs.View.{items_view}
use Rattle.serde_json.specs.declared.value.Value.{Value}
use Rattle.serde_json.proofs.Views.{items_len-items_view}

pub same_length : (one other : List Value) → items_view one ≡ items_view other → length one ≡ length other
same_length one other e = sym (items_len-items_view one) ∙ ap items_len e ∙ items_len-items_view other
