-- Tables that hold no warning: no NUL ends a part of their values.
use Rattle.std.proofs.Common.{◌≡◌, ℕ, Bool, true, false, ◌&&◌, List, [], ◌∷◌, cond, eqb, refl}
use Rattle.std.specs.List.{flat_map, AllByRecursion}
use Rattle.std.specs.Str.{bytes_eq}
use Rattle.std.proofs.lemmas.Bool.{and_parts}
use Rattle.tc_canon.specs.Descriptor.{Class, le, be, masked, array, raw, text, warning, presence, truth, fields, selector, pair, xstats, list_of, own_list}
use Rattle.tc_canon.specs.Descriptor.{Table, table, every, by_kind, Rows, others, types, unread, options, Kinds, unknown, kind, is_within}
use Rattle.tc_canon.specs.Tables.Messages.{attributes}
use Rattle.tc_meaning.specs.Tree.{Content, Attribute, known, of_kind}
use Rattle.tc_meaning.specs.Meaning.{a_list}
use Rattle.tc_meaning.specs.Message.{Message}
use Rattle.tc_laws.specs.Loose.{Part, parts_in_known, parts_in_kind, class_parts, table_parts, rows_parts, kinds_parts, message_parts}
use Rattle.tc_laws.proofs.TrimLaws.{IsWhole, append-all}

abbrev mutual
  no_warning_class : Class → Bool
  no_warning_class warning = false
  no_warning_class (list_of t) = no_warning_table t
  no_warning_class (own_list rows) = no_warning_rows rows
  no_warning_class _ = true

  no_warning_table : Table → Bool
  no_warning_table (table rows) = no_warning_rows rows
  no_warning_table (every class) = no_warning_class class
  no_warning_table (by_kind kinds) = no_warning_kinds kinds

  no_warning_rows : Rows → Bool
  no_warning_rows others = true
  no_warning_rows (types first last flags class rows) = no_warning_class class && no_warning_rows rows
  no_warning_rows (unread m class rows) = no_warning_class class && no_warning_rows rows
  no_warning_rows (options m kinds rows) = no_warning_kinds kinds && no_warning_rows rows

  no_warning_kinds : Kinds → Bool
  no_warning_kinds unknown = true
  no_warning_kinds (kind name rows kinds) = no_warning_rows rows && no_warning_kinds kinds

abbrev AllWhole : List Part → Type 0
AllWhole = AllByRecursion IsWhole

each_whole : {X : Type 0} (parts : X → List Part) → ((x : X) → AllWhole (parts x)) → (xs : List X) → AllWhole (flat_map parts xs)
each_whole parts all [] = tt
each_whole parts all (x ∷ xs) = append-all IsWhole (parts x) (flat_map parts xs) (all x) (each_whole parts all xs)

pick_whole : (b : Bool) (ps qs : List Part) → AllWhole ps → AllWhole qs → AllWhole (cond b ps qs)
pick_whole true ps qs this that = this
pick_whole false ps qs this that = that

known_whole : (parts : ℕ → Content → List Part) → ((n : ℕ) (x : Content) → AllWhole (parts n x)) → (x : Attribute) → AllWhole (parts_in_known parts x)
known_whole parts all (known n content) = all n content
known_whole parts all x = tt

kind_whole : (parts : List ℕ → Attribute → List Part) → ((name : List ℕ) (x : Attribute) → AllWhole (parts name x)) → (x : Attribute)
    → AllWhole (parts_in_kind parts x)
kind_whole parts all (of_kind name x) = all name x
kind_whole parts all x = tt

mutual
  class_whole : (c : Class) → no_warning_class c ≡ true → (x : Content) → AllWhole (class_parts c x)
  class_whole (le n) none x = tt
  class_whole (be n) none x = tt
  class_whole (masked n bits) none x = (tt, tt)
  class_whole (array n) none x = tt
  class_whole raw none x = tt
  class_whole text none x = tt
  class_whole warning none x = absurd cc
  class_whole presence none x = tt
  class_whole truth none x = tt
  class_whole (fields layout) none x = tt
  class_whole selector none x = tt
  class_whole pair none x = tt
  class_whole xstats none x = tt
  class_whole (list_of t) none x = each_whole (table_parts t) (table_whole t none) (a_list.out x)
  class_whole (own_list rows) none x = each_whole (parts_in_known (rows_parts rows)) (known_whole (rows_parts rows) (rows_whole rows none)) (a_list.out x)

  table_whole : (t : Table) → no_warning_table t ≡ true → (x : Attribute) → AllWhole (table_parts t x)
  table_whole (table rows) none = known_whole (rows_parts rows) (rows_whole rows none)
  table_whole (every class) none = known_whole (λ n. class_parts class) (λ n. class_whole class none)
  table_whole (by_kind kinds) none = kind_whole (kinds_parts kinds) (kinds_whole kinds none)

  rows_whole : (rows : Rows) → no_warning_rows rows ≡ true → (n : ℕ) (x : Content) → AllWhole (rows_parts rows n x)
  rows_whole others none n x = tt
  rows_whole (types first last flags class rows) none n x =
      let a = and_parts (no_warning_class class) (no_warning_rows rows) none in
      pick_whole (is_within first last n) (class_parts class x) (rows_parts rows n x) (class_whole class a.0 x) (rows_whole rows a.1 n x)
  rows_whole (unread m class rows) none n x =
      let a = and_parts (no_warning_class class) (no_warning_rows rows) none in
      pick_whole (eqb n m) (class_parts class x) (rows_parts rows n x) (class_whole class a.0 x) (rows_whole rows a.1 n x)
  rows_whole (options m kinds rows) none n x =
      let a = and_parts (no_warning_kinds kinds) (no_warning_rows rows) none in
      pick_whole (eqb n m) (flat_map (parts_in_kind (kinds_parts kinds)) (a_list.out x)) (rows_parts rows n x)
      (each_whole (parts_in_kind (kinds_parts kinds)) (kind_whole (kinds_parts kinds) (kinds_whole kinds a.0)) (a_list.out x)) (rows_whole rows a.1 n x)

  kinds_whole : (kinds : Kinds) → no_warning_kinds kinds ≡ true → (name : List ℕ) (x : Attribute) → AllWhole (kinds_parts kinds name x)
  kinds_whole unknown none name x = tt
  kinds_whole (kind own rows kinds) none name x =
      let a = and_parts (no_warning_rows rows) (no_warning_kinds kinds) none in
      pick_whole (bytes_eq name own) (parts_in_known (rows_parts rows) x) (kinds_parts kinds name x) (known_whole (rows_parts rows) (rows_whole rows a.0) x)
      (kinds_whole kinds a.1 name x)

-- the attributes of a traffic control message hold no warning
none_in_attributes : no_warning_rows attributes ≡ true
none_in_attributes = refl

pub tc_whole : (m : Message) → AllByRecursion IsWhole (message_parts attributes m)
tc_whole m = each_whole (table_parts (table attributes)) (table_whole (table attributes) none_in_attributes) m.body
