-- Requests that delete or change objects which are there now.
use Rattle.std.specs.Prelude.{ℕ, ◌==◌, ◌&&◌, ◌/◌, ◌%◌, not, Bool, true, false, List, [], ◌∷◌, length, drop, Option, Some, None, Ok, Err, nat_le, unwrap_or, if◌then◌else◌}
use Rattle.std.specs.Borrow.{Bor}
use Rattle.std.specs.List.{list_all, list_any}
use Rattle.std.specs.Str.{bytes_eq}
use Rattle.nla_frames.specs.Fault.{Outcome}
use Rattle.nla_frames.specs.Frame.{Frame}
use Rattle.nla_frames.specs.Value.{strip}
use Rattle.nla_frames.specs.Cutting.{cut, items_of}
use Rattle.tc_check.specs.declared.sort.Sort.{Sort}
use Rattle.tc_check.specs.declared.sort.Sort.TheVariants.{Qdisc, Class, Filter, Action, Chain}
use Rattle.tc_check.specs.Messages.{type_field, flags_field, interface_field, handle_field, parent_field, priority_field, sort_of, type_of_new, value_in}
use Rattle.tc_check.specs.Actions.{index_of}

-- ---- what two messages are about

-- the value of an attribute of a message about a qdisc, a class, a filter or a chain; a default if it is missing
abbrev pub value_or : List ℕ → ℕ → List ℕ → List ℕ
value_or default number message = unwrap_or (value_in number (drop 36 message)) default

abbrev pub is_same_place : List ℕ → List ℕ → Bool
is_same_place a b = (interface_field a == interface_field b) && (parent_field a == parent_field b)

-- the chain is 0 if there is none (`TCA_CHAIN` is 11)
abbrev pub is_same_chain : List ℕ → List ℕ → Bool
is_same_chain a b = is_same_place a b && bytes_eq (value_or (0 ∷ 0 ∷ 0 ∷ 0 ∷ []) 11 a) (value_or (0 ∷ 0 ∷ 0 ∷ 0 ∷ []) 11 b)

-- two filters have one priority of one chain
abbrev pub is_same_priority : List ℕ → List ℕ → Bool
is_same_priority a b = (priority_field a == priority_field b) && is_same_chain a b

abbrev pub is_same_handle : List ℕ → List ℕ → Bool
is_same_handle a b = handle_field a == handle_field b

abbrev pub is_same : Sort → List ℕ → List ℕ → Bool
is_same Qdisc a b = is_same_handle a b && is_same_place a b
is_same Class a b = is_same_handle a b && (interface_field a == interface_field b)
is_same Filter a b = is_same_handle a b && is_same_priority a b
is_same Chain a b = is_same_chain a b
is_same Action a b = false

-- a dump of an object
abbrev pub is_dump_of : Sort → List ℕ → Bool
is_dump_of sort dump = nat_le 36 (length dump) && (type_field dump == type_of_new sort)

-- ---- actions

abbrev pub kind_in : List ℕ → Option (List ℕ)
kind_in action = value_in 1 action

abbrev pub actions_in : List ℕ → Option (List ℕ)
actions_in message = value_in 1 (drop 20 message)

abbrev pub is_indexed : ℕ → Option ℕ → Bool
is_indexed index None = false
is_indexed index (Some own) = own == index

-- an action of a dump has this kind and this index
abbrev pub is_named_so : List ℕ → ℕ → List ℕ → Option (List ℕ) → Bool
is_named_so kind index action None = false
is_named_so kind index action (Some own) = bytes_eq (strip own) kind && is_indexed index (index_of false kind action)

abbrev pub is_item_named : List ℕ → ℕ → Outcome Frame → Bool
is_item_named kind index (Ok f) = is_named_so kind index f.value (kind_in f.value)
is_item_named kind index (Err e) = false

abbrev pub has_named : List ℕ → ℕ → List ℕ → Bool
has_named kind index actions = list_any (is_item_named kind index) (items_of (cut actions))

abbrev pub has_named_in : List ℕ → ℕ → Option (List ℕ) → Bool
has_named_in kind index None = false
has_named_in kind index (Some actions) = has_named kind index actions

-- a message lists it: of the types of actions, of which dumps have that of the question for them
abbrev pub lists_action : List ℕ → ℕ → List ℕ → Bool
lists_action kind index dump = (nat_le 20 (length dump) && (type_field dump / 4 == 12)) && has_named_in kind index (actions_in dump)

abbrev pub is_listed : List (Bor (List ℕ)) → List ℕ → ℕ → Bool
is_listed now kind index = list_any (λ dump. lists_action kind index dump.now) now

abbrev pub is_there_by_index : List (Bor (List ℕ)) → List ℕ → Option ℕ → Bool
is_there_by_index now kind None = false
is_there_by_index now kind (Some index) = is_listed now kind index

abbrev pub is_there_by_kind : List (Bor (List ℕ)) → Bool → List ℕ → Option (List ℕ) → Bool
is_there_by_kind now is_delete action None = false
is_there_by_kind now is_delete action (Some kind) = is_there_by_index now (strip kind) (index_of is_delete (strip kind) action)

-- an action of a request is there now
abbrev pub is_item_there : List (Bor (List ℕ)) → Bool → Outcome Frame → Bool
is_item_there now is_delete (Ok f) = is_there_by_kind now is_delete f.value (kind_in f.value)
is_item_there now is_delete (Err e) = false

abbrev pub are_listed : List (Bor (List ℕ)) → Bool → List ℕ → Bool
are_listed now is_delete actions = list_all (is_item_there now is_delete) (items_of (cut actions))

abbrev pub are_actions_there : List (Bor (List ℕ)) → Bool → Option (List ℕ) → Bool
are_actions_there now is_delete None = false
are_actions_there now is_delete (Some actions) = are_listed now is_delete actions

-- ---- requests

-- the flags that say what becomes of what is there: `NLM_F_REPLACE` is 1, `NLM_F_EXCL` 2, `NLM_F_CREATE` 4
abbrev pub manner_of : List ℕ → ℕ
manner_of request = flags_field request / 256 % 16

-- two messages name one kind (`TCA_KIND` is 1)
abbrev pub has_kind_of : List ℕ → List ℕ → Bool
has_kind_of request dump = bytes_eq (value_or [] 1 request) (value_or [] 1 dump)

-- one of the dumps is of the object of a request, and of its kind
abbrev pub is_there_alike : List (Bor (List ℕ)) → Sort → List ℕ → Bool
is_there_alike now sort request =
    list_any (λ dump. is_dump_of sort dump.now && is_same sort request dump.now && has_kind_of request dump.now) now

-- what a request deletes: a filter by its handle, or all of its priority if the handle is 0; others by what they are
abbrev pub is_deleted_by : Sort → List ℕ → List ℕ → Bool
is_deleted_by Filter request dump =
    is_dump_of Filter dump && (if handle_field request == 0 then is_same_priority request dump else is_same Filter request dump)
is_deleted_by sort request dump = is_dump_of sort dump && is_same sort request dump

abbrev pub is_deleted : List (Bor (List ℕ)) → Sort → List ℕ → Bool
is_deleted now sort request = list_any (λ dump. is_deleted_by sort request dump.now) now

-- a delete says which one: a qdisc and a class have a handle, a filter has a priority
abbrev pub is_certain : Sort → List ℕ → Bool
is_certain Qdisc request = not (handle_field request == 0)
is_certain Class request = not (handle_field request == 0)
is_certain Filter request = not (priority_field request == 0)
is_certain sort request = true

-- a dump is of an object that a request makes: with the handle 0 it is of the priority itself, with 20 zero bits of a table of u32
abbrev pub is_object : Sort → List ℕ → Bool
is_object Filter dump = not (handle_field dump % 0x100000 == 0)
is_object sort dump = true

-- what a dump shows is what a request makes. The kernel may choose the handle of a qdisc, and the upper bits of that of a filter, which are a table's
abbrev pub is_as_made : Sort → List ℕ → List ℕ → Bool
is_as_made Qdisc dump request = is_same_place dump request
is_as_made Filter dump request = (handle_field dump % 0x100000 == handle_field request % 0x100000) && is_same_priority dump request
is_as_made sort dump request = is_same sort dump request

abbrev pub makes : Sort → List ℕ → List ℕ → Bool
makes sort dump request = (is_dump_of sort request && (manner_of request == 6)) && is_as_made sort dump request

abbrev pub is_made_by_one : List (Bor (List ℕ)) → Sort → List ℕ → Bool
is_made_by_one later sort dump = list_any (λ request. makes sort dump request.now) later

-- a request deletes a wanted object, and none after it makes that again
abbrev pub is_lost : List (Bor (List ℕ)) → Sort → List ℕ → List ℕ → Bool
is_lost later sort request wanted = (is_deleted_by sort request wanted && is_object sort wanted) && not (is_made_by_one later sort wanted)

abbrev pub none_is_lost : List (Bor (List ℕ)) → List (Bor (List ℕ)) → Sort → List ℕ → Bool
none_is_lost wanted later sort request = list_all (λ dump. not (is_lost later sort request dump.now)) wanted

-- what a request deletes is there, and isn't wanted, or is made again
abbrev pub deletes_what_is : List (Bor (List ℕ)) → List (Bor (List ℕ)) → List (Bor (List ℕ)) → Sort → List ℕ → Bool
deletes_what_is now wanted later Action request = are_actions_there now true (actions_in request)
deletes_what_is now wanted later sort request = is_certain sort request && (is_deleted now sort request && none_is_lost wanted later sort request)

-- what a request changes is there, of its kind
abbrev pub changes_what_is : List (Bor (List ℕ)) → Sort → List ℕ → Bool
changes_what_is now Action request = are_actions_there now false (actions_in request)
changes_what_is now sort request = not (handle_field request == 0) && is_there_alike now sort request

-- by what a request does: it deletes, changes, or makes what isn't there
abbrev pub is_named_by : List (Bor (List ℕ)) → List (Bor (List ℕ)) → List (Bor (List ℕ)) → Sort → List ℕ → Bool
is_named_by now wanted later sort request =
    if type_field request % 4 == 1 then (manner_of request == 0) && deletes_what_is now wanted later sort request else
    if manner_of request % 2 == 1 then changes_what_is now sort request else manner_of request == 6

abbrev pub is_named_at : List (Bor (List ℕ)) → List (Bor (List ℕ)) → List (Bor (List ℕ)) → Option Sort → List ℕ → Bool
is_named_at now wanted later None request = false
is_named_at now wanted later (Some sort) request = is_named_by now wanted later sort request

abbrev pub is_named_in : List (Bor (List ℕ)) → List (Bor (List ℕ)) → List (Bor (List ℕ)) → List ℕ → Bool
is_named_in now wanted later request = nat_le 36 (length request) && is_named_at now wanted later (sort_of (type_field request)) request

-- each of requests, before those after it
abbrev pub all_named : List (Bor (List ℕ)) → List (Bor (List ℕ)) → List (Bor (List ℕ)) → Bool
all_named now wanted [] = true
all_named now wanted (request ∷ later) = is_named_in now wanted later request.now && all_named now wanted later
