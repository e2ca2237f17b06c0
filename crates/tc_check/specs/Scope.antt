-- What requests may be about: interfaces, blocks that interfaces share, and actions that are objects of their own.
use Rattle.std.specs.Prelude.{ℕ, Bool, ◌==◌, ◌&&◌, List}
use Rattle.std.specs.List.{list_any}
use Rattle.std.specs.Str.{bytes_eq}
use Rattle.tc_check.specs.declared.scope.Scope.{Scope}
use Rattle.tc_check.specs.declared.scope.ActionName.{ActionName}

abbrev pub has_interface : Scope → ℕ → Bool
has_interface scope index = list_any (λ own. own == index) scope.interfaces.now

abbrev pub has_block : Scope → ℕ → Bool
has_block scope number = list_any (λ own. own == number) scope.blocks.now

-- an action, by kind and index
abbrev pub is_named : List ℕ → ℕ → ActionName → Bool
is_named kind index own = (own.index == index) && bytes_eq own.kind.now kind

abbrev pub has_action : Scope → List ℕ → ℕ → Bool
has_action scope kind index = list_any (is_named kind index) scope.actions.now
