-- Names that no row, field or choice may have.
use Rattle.std.specs.Prelude.{Bool, List, bytes_eq, codes, ℕ, ◌||◌}

-- the names of what has no row and no choice
abbrev pub is_reserved : List ℕ → Bool
is_reserved name =
    bytes_eq name (codes "raw") || (bytes_eq name (codes "Other") || (bytes_eq name (codes "word") || (bytes_eq name (codes "pad")
    || (bytes_eq name (codes "Kind") || bytes_eq name (codes "bare")))))
