use Rattle.std.proofs.Common.{◌≡◌, drop}
use Rattle.serde_json.specs.View.{items_view, members_view}
use Rattle.forms_text.proofs.same.+same.Given as goal

-- what is the same from here on is the same from the start, and the other way round
abbrev pub invariant-same_items-loop-index : goal.invariant-same_items-loop-index
invariant-same_items-loop-index l = record {
  same : items_view (drop l.index l.one.items) ≡ items_view (drop l.index l.other.items) → items_view l.one.items ≡ items_view l.other.items;
  found : items_view l.one.items ≡ items_view l.other.items → items_view (drop l.index l.one.items) ≡ items_view (drop l.index l.other.items);
}

abbrev pub invariant-same_members-loop-name : goal.invariant-same_members-loop-name
invariant-same_members-loop-name l = record {
  same : members_view l.name-iterator ≡ members_view l.others → members_view l.one.entries ≡ members_view l.other.entries;
  found : members_view l.one.entries ≡ members_view l.other.entries → members_view l.name-iterator ≡ members_view l.others;
}
