-- JSON as a reader has it: members in the order of their names, and of two with one name the last.
use Rattle.serde_json.specs.Data.{Data, null, boolean, number, string, array, object, Items, no_items, item, Members, no_members, member, put}

abbrev mutual
  pub ordered : Data → Data
  ordered null = null
  ordered (boolean b) = boolean b
  ordered (number n) = number n
  ordered (string s) = string s
  ordered (array ds) = array (ordered_items ds)
  ordered (object ms) = object (ordered_members ms no_members)

  pub ordered_items : Items → Items
  ordered_items no_items = no_items
  ordered_items (item d ds) = item (ordered d) (ordered_items ds)

  -- after the members found so far
  pub ordered_members : Members → Members → Members
  ordered_members no_members found = found
  ordered_members (member k d ms) found = ordered_members ms (put k (ordered d) found)
