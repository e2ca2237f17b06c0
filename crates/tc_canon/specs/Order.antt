-- Tables whose rows are sorted by type, so that no two rows have a type in common.
use Rattle.std.specs.Prelude.{ℕ, suc, Bool, true, ◌&&◌, nat_le}
use Rattle.tc_canon.specs.Descriptor.{Rows, others, types, unread, options}

-- the rows are sorted, and none has a type below this one
abbrev pub in_order : ℕ → Rows → Bool
in_order low others = true
in_order low (types first last flags class rows) = nat_le low first && (nat_le first last && in_order (suc last) rows)
in_order low (unread m class rows) = nat_le low m && in_order (suc m) rows
in_order low (options m kinds rows) = nat_le low m && in_order (suc m) rows
