-- The check of a type accepts exactly the values that the codec reads.
use Rattle.std.proofs.Common.{◌≡◌, ◌⊎◌, ℕ, zero, suc, ◌+◌, ◌<◌, ◌≤◌, List, length, Some, None, Ok, Err, Bool, true, false}
use Rattle.std.proofs.Common.{refl, sym, ap, ◌∙◌, arith, inl, inr, get_or, add-zero, zero-add}
use Rattle.std.specs.Prelude.{◌==◌, ◌&&◌, nat_le, nat_lt, not, if◌then◌else◌}
use Rattle.std.proofs.lemmas.Bool.{cases_lt, le-leb, lt-leb, ne_eqb}
use Rattle.nla_frames.specs.declared.error.DecodeError.{DecodeError}
use Rattle.nla_frames.specs.declared.error.DecodeError.TheVariants.{WrongLength, BufferTooSmall}
use Rattle.nla_frames.specs.Fault.{Outcome, seen}
use Rattle.nla_frames.specs.Value.{exactly, le_number, le_value, be_number, be_value, text as read_text}
use Rattle.tc_canon.specs.Descriptor.{Class, le, be, masked, array, raw, text, warning, presence, truth, fields, selector, pair, xstats}
use Rattle.tc_canon.specs.Descriptor.{list_of, own_list, Rows, others, types, unread, options, is_within, is_known, by_kind}
use Rattle.tc_canon.specs.Layouts.{size_of}
use Rattle.tc_meaning.specs.Tree.{number, is_bytes, flag, record_of}
use Rattle.tc_meaning.specs.Layout.{read_fields}
use Rattle.tc_meaning.specs.Content.{a_selector, flags_pair, read_record, read_selector}
use Rattle.tc_index.specs.declared.table.Table.{Table as ListedTable}
use Rattle.tc_index.specs.declared.table.Table.TheVariants as the
use Rattle.tc_index.specs.Tables.{rows_in, table_of}
use Rattle.tc_index.specs.Nesting.{class_at, class_in}
use Rattle.tc_index.proofs.Rows.{class-in}
use Rattle.tc_faults.specs.declared.check.Check.{Check}
use Rattle.tc_faults.specs.declared.check.Check.TheVariants.{Any}
use Rattle.tc_faults.specs.Fault.{fault_of, value_fault}
use Rattle.tc_faults.specs.Check.{check_fault, check_in, check_by, checks_from, higher, count_of, checks_of}

-- ---- classes

same-fault : {X Y : Type 0} → (x : X) (y : Y) (e : DecodeError) (b : Bool)
    → fault_of (if b then Ok x else Err e) ≡ fault_of (if b then Ok y else Err e)
same-fault x y e true = refl
same-fault x y e false = refl

short-fault : {X : Type 0} → (x : X) (e : DecodeError) (b : Bool) → (if b then Some e else None) ≡ fault_of (if b then Err e else Ok x)
short-fault x e true = refl
short-fault x e false = refl

seen-fault : {X Y : Type 0} → (f : X → Y) (o : Outcome X) → fault_of o ≡ fault_of (seen f o)
seen-fault f (Ok x) = refl
seen-fault f (Err e) = refl

le-fault : (n : ℕ) (value : List ℕ) → fault_of (exactly n value) ≡ fault_of (le_number n value)
le-fault n value = same-fault value (le_value value) (WrongLength n (length value)) (length value == n)

class-fault : (class : Class) (k value : List ℕ) → check_fault (check_in class) k value ≡ value_fault class k value
class-fault (le n) k value = le-fault n value ∙ seen-fault number (le_number n value)
class-fault (be n) k value =
    same-fault value (be_value value) (WrongLength n (length value)) (length value == n) ∙ seen-fault number (be_number n value)
class-fault (masked n bits) k value = le-fault n value ∙ seen-fault number (le_number n value)
class-fault (array n) k value = seen-fault is_bytes (exactly n value)
class-fault raw k value = refl
class-fault text k value = seen-fault is_bytes (read_text value)
class-fault warning k value = seen-fault is_bytes (read_text value)
class-fault presence k value = refl
class-fault truth k value =
    le-fault 1 value ∙ seen-fault (λ (x : ℕ). not (x == 0)) (le_number 1 value)
    ∙ seen-fault flag (seen (λ (x : ℕ). not (x == 0)) (le_number 1 value))
class-fault (fields fs) k value =
    short-fault (read_fields fs value) (BufferTooSmall (length value) (size_of fs)) (nat_lt (length value) (size_of fs))
    ∙ seen-fault record_of (read_record fs value)
class-fault selector k value = seen-fault a_selector.into (read_selector value)
class-fault pair k value =
    seen-fault (read_fields flags_pair) (exactly 8 value) ∙ seen-fault record_of (seen (read_fields flags_pair) (exactly 8 value))
class-fault xstats k value = refl
class-fault (list_of t) k value = refl
class-fault (own_list rows) k value = refl

-- ---- rows

rows-fault : (rows : Rows) (n : ℕ) (k value : List ℕ) → check_fault (check_by rows n) k value ≡ value_fault (class_at rows n k) k value
rows-fault others n k value = refl
rows-fault (types first last flags class rows) n k value = go (is_within first last n) (rows-fault rows n k value)
  where
    go : (b : Bool) → check_fault (check_by rows n) k value ≡ value_fault (class_at rows n k) k value
        → check_fault (if b then check_in class else check_by rows n) k value ≡ value_fault (if b then class else class_at rows n k) k value
    go true rest = class-fault class k value
    go false rest = rest
rows-fault (unread m class rows) n k value = go (n == m) (rows-fault rows n k value)
  where
    go : (b : Bool) → check_fault (check_by rows n) k value ≡ value_fault (class_at rows n k) k value
        → check_fault (if b then Any else check_by rows n) k value ≡ value_fault (if b then raw else class_at rows n k) k value
    go true rest = refl
    go false rest = rest
rows-fault (options m kinds rows) n k value = go (n == m) (is_known kinds k) (rows-fault rows n k value)
  where
    go : (b known : Bool) → check_fault (check_by rows n) k value ≡ value_fault (class_at rows n k) k value
        → check_fault (if b then Any else check_by rows n) k value
        ≡ value_fault (if b then (if known then list_of (by_kind kinds) else raw) else class_at rows n k) k value
    go true true rest = refl
    go true false rest = refl
    go false known rest = rest

-- ---- all types of a table

higher-left : (m n : ℕ) → m ≤ higher m n
higher-left m n = go (cases_lt n m)
  where
    go : (n < m) ⊎ (m ≤ n) → m ≤ higher m n
    go (inl below) = rw (lt-leb m n below) (omega arith)
    go (inr above) = rw (le-leb m n above) above

higher-right : (m n : ℕ) → n ≤ higher m n
higher-right m n = go (cases_lt n m)
  where
    go : (n < m) ⊎ (m ≤ n) → n ≤ higher m n
    go (inl below) = rw (lt-leb m n below) (omega (arith, below))
    go (inr above) = rw (le-leb m n above) (omega arith)

-- types after the last row have no check
after : (rows : Rows) (n : ℕ) → count_of rows ≤ n → check_by rows n ≡ Any
after others n past = refl
after (types first last flags class rows) n past =
    let own = higher-left (suc last) (count_of rows) in
    let rest = higher-right (suc last) (count_of rows) in
    rw (lt-leb n last (omega (arith, own, past))) (go (nat_le first n) (after rows n (omega (arith, rest, past))))
  where
    go : (b : Bool) → check_by rows n ≡ Any → (if b && false then check_in class else check_by rows n) ≡ Any
    go true same = same
    go false same = same
after (unread m class rows) n past =
    let own = higher-left (suc m) (count_of rows) in
    let rest = higher-right (suc m) (count_of rows) in
    rw (ne_eqb n m (λ e. omega (arith, own, past, e))) (after rows n (omega (arith, rest, past)))
after (options m kinds rows) n past =
    let own = higher-left (suc m) (count_of rows) in
    let rest = higher-right (suc m) (count_of rows) in
    rw (ne_eqb n m (λ e. omega (arith, own, past, e))) (after rows n (omega (arith, rest, past)))

from-at : (count first m : ℕ) (rows : Rows) → m < count → get_or (checks_from count first rows) m Any ≡ check_by rows (first + m)
from-at zero first m rows low = absurd (omega arith)
from-at (suc count) first zero rows low = rw add-zero refl
from-at (suc count) first (suc m) rows low =
    let same : first + suc m ≡ suc first + m = omega arith in rw same (from-at count (suc first) m rows (omega arith))

from-after : (count first m : ℕ) (rows : Rows) → count ≤ m → get_or (checks_from count first rows) m Any ≡ Any
from-after zero first m rows high = refl
from-after (suc count) first zero rows high = absurd (omega arith)
from-after (suc count) first (suc m) rows high = from-after count (suc first) m rows (omega arith)

at-type : (rows : Rows) (n : ℕ) → get_or (checks_of rows) n Any ≡ check_by rows n
at-type rows n = go (cases_lt n (count_of rows))
  where
    go : (n < count_of rows) ⊎ (count_of rows ≤ n) → get_or (checks_of rows) n Any ≡ check_by rows n
    go (inl low) = from-at (count_of rows) 0 n rows low ∙ ap (check_by rows) (zero-add n)
    go (inr high) = from-after (count_of rows) 0 n rows high ∙ sym (after rows n high)

-- so the checks of a table accept what the codec reads
pub check-is : (t : ListedTable) (n : ℕ) (checks : List Check) (c : Check) → (t ≡ the.Actions → ⊥) → checks ≡ checks_of (rows_in t)
    → c ≡ get_or checks n Any → (k value : List ℕ) → check_fault c k value ≡ value_fault (class_in (table_of t) n k) k value
check-is t n checks c other listed found k value =
    rw (class-in t n k other)
    (ap (λ (x : Check). check_fault x k value) (found ∙ ap (λ (xs : List Check). get_or xs n Any) listed ∙ at-type (rows_in t) n)
    ∙ rows-fault (rows_in t) n k value)
