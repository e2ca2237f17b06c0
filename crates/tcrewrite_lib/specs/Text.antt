-- The text of the input.
use Rattle.std.specs.Prelude.{ℕ, ◌+◌, ◌==◌, ◌||◌, not, Bool, List, take}
use Rattle.std.specs.List.{filter}

-- the maximum length of a text in bytes
abbrev pub most_text : ℕ
most_text = 1048576

-- all of a text, or its beginning up to the one byte that makes it too long
abbrev pub looked_at : List ℕ → List ℕ
looked_at all = take (most_text + 1) all

-- tab, line feed, form feed, carriage return and space
abbrev pub is_space : ℕ → Bool
is_space c = c == 9 || c == 10 || c == 12 || c == 13 || c == 32

-- a text without its spaces
abbrev pub without_spaces : List ℕ → List ℕ
without_spaces text = filter (λ c. not (is_space c)) text
