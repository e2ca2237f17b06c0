-- The actions that a message is about.
use Rattle.std.specs.Prelude.{ℕ, ◌==◌, ◌&&◌, Bool, false, List, length, Option, Some, None, Ok, Err, nat_le, codes, if◌then◌else◌}
use Rattle.std.specs.List.{list_all}
use Rattle.std.specs.Option.{option_or}
use Rattle.std.specs.Str.{bytes_eq}
use Rattle.nla_frames.specs.Fault.{Outcome}
use Rattle.nla_frames.specs.Frame.{Frame}
use Rattle.nla_frames.specs.Value.{strip, le_value}
use Rattle.nla_frames.specs.Cutting.{cut, items_of}
use Rattle.tc_check.specs.declared.scope.Scope.{Scope}
use Rattle.tc_check.specs.Scope.{has_action}
use Rattle.tc_check.specs.Messages.{number_at, is_list, value_in}

-- the type of the parameters among the options of an action, by its kind
abbrev pub parameters_type : List ℕ → ℕ
parameters_type kind =
    if bytes_eq kind (codes "nat") then 1 else
    if bytes_eq kind (codes "csum") then 1 else
    if bytes_eq kind (codes "police") then 1 else
    if bytes_eq kind (codes "connmark") then 1 else
    if bytes_eq kind (codes "ife") then 1 else
    if bytes_eq kind (codes "ct") then 1 else
    if bytes_eq kind (codes "ctinfo") then 3 else 2

-- the parameters among the options; those of pedit have one of two types
abbrev pub parameters_in : List ℕ → List ℕ → Option (List ℕ)
parameters_in kind options = option_or (value_in (parameters_type kind) options) (if bytes_eq kind (codes "pedit") then value_in 4 options else None)

-- parameters begin with the index
abbrev pub first_number : Option (List ℕ) → Option ℕ
first_number None = None
first_number (Some value) = if nat_le 4 (length value) then Some (number_at 4 0 value) else None

-- an action that is to be made has its index in the parameters
abbrev pub index_made : List ℕ → Option (List ℕ) → Option ℕ
index_made kind None = None
index_made kind (Some options) = if is_list options then first_number (parameters_in kind options) else None

-- one that is to be deleted has it in an attribute of its own
abbrev pub index_deleted : Option (List ℕ) → Option ℕ
index_deleted None = None
index_deleted (Some value) = if length value == 4 then Some (le_value value) else None

-- the index of an action: `TCA_ACT_OPTIONS` is 2, `TCA_ACT_INDEX` 3
abbrev pub index_of : Bool → List ℕ → List ℕ → Option ℕ
index_of is_delete kind action = if is_delete then index_deleted (value_in 3 action) else index_made kind (value_in 2 action)

abbrev pub is_indexed_within : Scope → List ℕ → Option ℕ → Bool
is_indexed_within scope kind None = false
is_indexed_within scope kind (Some index) = has_action scope kind index

-- the kind of an action: `TCA_ACT_KIND` is 1
abbrev pub is_kind_within : Scope → Bool → List ℕ → Option (List ℕ) → Bool
is_kind_within scope is_delete action None = false
is_kind_within scope is_delete action (Some kind) = is_indexed_within scope (strip kind) (index_of is_delete (strip kind) action)

-- an action is whole, and in the scope
abbrev pub is_action_within : Scope → Bool → List ℕ → Bool
is_action_within scope is_delete action = is_list action && is_kind_within scope is_delete action (value_in 1 action)

abbrev pub is_item_within : Scope → Bool → Outcome Frame → Bool
is_item_within scope is_delete (Ok f) = is_action_within scope is_delete f.value
is_item_within scope is_delete (Err e) = false

-- each of a list of actions
abbrev pub are_within : Scope → Bool → List ℕ → Bool
are_within scope is_delete actions = list_all (is_item_within scope is_delete) (items_of (cut actions))
