-- The types that a table's rows have, as spans.
use Rattle.std.specs.Prelude.{ℕ, suc, Bool, false, List, [], ◌∷◌, ◌==◌, ◌||◌, if◌then◌else◌}
use Rattle.tc_canon.specs.Descriptor.{Class, le, be, array, Rows, others, types, unread, options, is_within}

-- two classes are the same class of numbers or arrays
abbrev pub same_class : Class → Class → Bool
same_class (le m) (le n) = m == n
same_class (be m) (be n) = m == n
same_class (array m) (array n) = m == n
same_class _ _ = false

-- the type has a row of this class in the table; computed, these are the spans of the class
abbrev pub holds : Class → Rows → ℕ → Bool
holds class others n = false
holds class (types first last flags c rows) n = if same_class class c then (is_within first last n || holds class rows n) else holds class rows n
holds class (unread m c rows) n = holds class rows n
holds class (options m kinds rows) n = holds class rows n

-- a span before others, joined to the next one if that begins at the type after its last
abbrev pub join : ℕ → ℕ → List (ℕ × ℕ) → List (ℕ × ℕ)
join first last [] = (first, last) ∷ []
join first last (s ∷ spans) = if suc last == s.0 then (first, s.1) ∷ spans else (first, last) ∷ s ∷ spans

-- the spans of types that a table reads
abbrev pub spans : Rows → List (ℕ × ℕ)
spans others = []
spans (types first last flags class rows) = join first last (spans rows)
spans (unread m class rows) = spans rows
spans (options m kinds rows) = join m m (spans rows)

-- the type is in one of the spans
abbrev pub is_in : List (ℕ × ℕ) → ℕ → Bool
is_in [] n = false
is_in (s ∷ spans) n = is_within s.0 s.1 n || is_in spans n
