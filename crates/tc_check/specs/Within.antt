-- Requests that are about nothing outside a scope.
use Rattle.std.specs.Prelude.{ℕ, ◌==◌, ◌&&◌, ◌%◌, Bool, true, false, List, length, drop, Option, Some, None, nat_lt, nat_le, if◌then◌else◌}
use Rattle.std.specs.Borrow.{Bor}
use Rattle.std.specs.List.{list_all}
use Rattle.nla_frames.specs.Value.{le_value}
use Rattle.tc_check.specs.declared.scope.Scope.{Scope}
use Rattle.tc_check.specs.declared.sort.Sort.{Sort}
use Rattle.tc_check.specs.declared.sort.Sort.TheVariants.{Qdisc, Action}
use Rattle.tc_check.specs.Scope.{has_interface, has_block}
use Rattle.tc_check.specs.Messages.{length_field, type_field, interface_field, parent_field, sort_of, header_size, is_list, value_in}
use Rattle.tc_check.specs.Actions.{are_within}

-- the interface of a message, or the block instead of one (`TCM_IFINDEX_MAGIC_BLOCK`), whose number is the parent
abbrev pub is_place_within : Scope → List ℕ → Bool
is_place_within scope request =
    if interface_field request == 0xFFFFFFFF then has_block scope (parent_field request) else has_interface scope (interface_field request)

-- the block that an attribute names, if there is such an attribute
abbrev pub is_joined_within : Scope → Option (List ℕ) → Bool
is_joined_within scope None = true
is_joined_within scope (Some value) = (length value == 4) && has_block scope (le_value value)

-- the blocks that a qdisc joins: `TCA_INGRESS_BLOCK` is 13, `TCA_EGRESS_BLOCK` 14
abbrev pub are_joined_within : Scope → List ℕ → Bool
are_joined_within scope attributes = is_joined_within scope (value_in 13 attributes) && is_joined_within scope (value_in 14 attributes)

-- the actions that a message lists: `TCA_ACT_TAB` is 1
abbrev pub are_listed_within : Scope → Bool → Option (List ℕ) → Bool
are_listed_within scope is_delete None = false
are_listed_within scope is_delete (Some actions) = are_within scope is_delete actions

-- all that a request of a sort is about
abbrev pub is_about_within : Scope → Sort → Bool → List ℕ → List ℕ → Bool
is_about_within scope Qdisc is_delete request attributes = is_place_within scope request && are_joined_within scope attributes
is_about_within scope Action is_delete request attributes = are_listed_within scope is_delete (value_in 1 attributes)
is_about_within scope _ is_delete request attributes = is_place_within scope request

-- its attributes are whole, and all that it is about is in the scope
abbrev pub is_whole_within : Scope → Sort → Bool → List ℕ → Bool
is_whole_within scope sort is_delete request =
    nat_le (header_size sort) (length request) && (is_list (drop (header_size sort) request)
    && is_about_within scope sort is_delete request (drop (header_size sort) request))

abbrev pub is_sorted_within : Scope → Option Sort → Bool → List ℕ → Bool
is_sorted_within scope None is_delete request = false
is_sorted_within scope (Some sort) is_delete request = is_whole_within scope sort is_delete request

-- a request is one whole message that makes, changes or deletes, and all that it is about is in the scope
abbrev pub is_within : Scope → List ℕ → Bool
is_within scope request =
    nat_le 16 (length request) && ((length_field request == length request) && (nat_lt (type_field request % 4) 2
    && is_sorted_within scope (sort_of (type_field request)) (type_field request % 4 == 1) request))

-- requests that point to their bytes
abbrev pub all_within : Scope → List (Bor (List ℕ)) → Bool
all_within scope requests = list_all (λ request. is_within scope request.now) requests
