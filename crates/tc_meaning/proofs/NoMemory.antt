-- `OutOfMemory` is never a fault of the grammar; only calls return it.
use Rattle.std.proofs.Common.{◌≡◌, ℕ, zero, suc, ◌+◌, ◌*◌, Bool, true, false, List, [], ◌∷◌, length, take, drop, Some, None, Ok, Err, cond, eqb, ltb, sym, ap}
use Rattle.std.proofs.Common.{◌∙◌}
use Rattle.std.specs.Prelude.{◌==◌, not}
use Rattle.std.specs.Str.{is_utf8, bytes_eq}
use Rattle.nla_frames.specs.declared.error.DecodeError.{DecodeError}
use Rattle.nla_frames.specs.declared.error.DecodeError.TheVariants.{BufferTooSmall, WrongLength, NotUtf8, SelectorShort, XstatsShort, OutOfMemory}
use Rattle.nla_frames.specs.Fault.{Outcome, seen, read_as, refused, ◌>>=◌}
use Rattle.nla_frames.specs.Value as plain_values
use Rattle.nla_frames.specs.Value.{le_value, be_value, strip}
use Rattle.nla_frames.specs.Frame.{Frame, type_of}
use Rattle.nla_frames.specs.Place.{Sets}
use Rattle.nla_frames.specs.Reading.{Reads, keep, read_list}
use Rattle.nla_frames.specs.Codec.{Codec}
use Rattle.nla_frames.proofs.ListGrammarLaws.{read_list_not_memory}
use Rattle.tc_canon.specs.Kind.{is_kind_frame}
use Rattle.tc_canon.specs.Layouts.{size_of, fq_codel_qd_stats, fq_codel_cl_stats, selector_head}
use Rattle.tc_canon.specs.Descriptor.{Field, Class, le, be, masked, array, raw, text, warning, presence, truth, fields, selector, pair, xstats, list_of}
use Rattle.tc_canon.specs.Descriptor.{own_list, Table, table, every, by_kind, Rows, others, types, unread, options, Kinds, unknown, kind, is_within, is_known}
use Rattle.tc_meaning.specs.Tree.{number, is_bytes, flag, record_of, statistics, unknown_statistics, Attribute, known, of_kind}
use Rattle.tc_meaning.specs.Layout.{read_fields}
use Rattle.tc_meaning.specs.Content.{a_selector, read_record, flags_pair, Selector, key_count, read_keys, read_selector, is_fq_codel, read_statistics}
use Rattle.tc_meaning.specs.Content.{read_xstats}
use Rattle.tc_meaning.specs.Own.{only_kind, read_own}
use Rattle.tc_meaning.specs.OwnGrammar.{first_look, kinds_found}
use Rattle.tc_meaning.specs.Meaning.{a_list, choose, by_type, class_codec, table_codec, rows_codec, kinds_codec}
use Rattle.tc_meaning.specs.Message.{Message, read_with}
use Rattle.tc_meaning.proofs.OwnGrammarLaws.{read_own-look}

-- the outcome isn't `OutOfMemory`
abbrev pub NotMemory : {X : Type 0} → Outcome X → Type 0
NotMemory {X = X} r = ◌≡◌ {A = Outcome X} r (refused OutOfMemory) → ⊥

-- a value isn't, nor is what is seen of what isn't
pub value-memory : {X : Type 0} (x : X) → NotMemory (read_as x)
value-memory x e = cc e

-- what is seen of a reading
pub seen-memory : {X Y : Type 0} (see : X → Y) (r : Outcome X) → NotMemory r → NotMemory (seen see r)
seen-memory see (Ok x) h e = cc e
seen-memory {X = X} {Y = Y} see (Err d) h e = let same : d ≡ OutOfMemory = cc e in h (ap (λ (c : DecodeError). refused c) same)

-- two readings, one after the other
pub then-memory : {X Y : Type 0} (r : Outcome X) (next : X → Outcome Y) → NotMemory r → ((x : X) → NotMemory (next x)) → NotMemory (r >>= next)
then-memory (Ok x) next h after e = after x e
then-memory (Err d) next h after e = let same : d ≡ OutOfMemory = cc e in h (ap (λ (c : DecodeError). refused c) same)

-- nor is the outcome of a test of which neither side is
pub either-memory : {X : Type 0} (b : Bool) (r s : Outcome X) → NotMemory r → NotMemory s → NotMemory (cond b r s)
either-memory true r s h k = h
either-memory false r s h k = k

-- ---- values

-- a value of an exact width
exact-memory : {X : Type 0} (n : ℕ) (v : List ℕ) (x : X) → NotMemory (cond (eqb (length v) n) (read_as x) (refused (WrongLength n (length v))))
exact-memory n v x = either-memory (eqb (length v) n) (read_as x) (refused (WrongLength n (length v))) (value-memory x) (λ e. cc e)

-- a text
text-memory : (v : List ℕ) → NotMemory (plain_values.text v)
text-memory v = either-memory (is_utf8 (strip v)) (read_as (strip v)) (refused NotUtf8) (value-memory (strip v)) (λ e. cc e)

-- a record
record-memory : (layout : List Field) (v : List ℕ) → NotMemory (read_record layout v)
record-memory layout v =
    either-memory (ltb (length v) (size_of layout)) (refused (BufferTooSmall (length v) (size_of layout))) (read_as (read_fields layout v)) (λ e. cc e)
    (value-memory (read_fields layout v))

-- a selector
selector-memory : (v : List ℕ) → NotMemory (read_selector v)
selector-memory v =
    let head = read_fields selector_head v in
    let needed = 16 + 16 * key_count head in
    let made : Selector = record { head = head; keys = read_keys (key_count head) (drop 16 v) } in
    either-memory (ltb (length v) 16) (refused (SelectorShort (length v) 16))
    (cond (ltb (length v) needed) (refused (SelectorShort (length v) needed)) (read_as made)) (λ e. cc e)
    (either-memory (ltb (length v) needed) (refused (SelectorShort (length v) needed)) (read_as made) (λ e. cc e) (value-memory made))

-- statistics of a number
statistics-memory : (n : ℕ) (after v : List ℕ) → NotMemory (read_statistics n after v)
statistics-memory zero after v = seen-memory (statistics 0) (read_record fq_codel_qd_stats after) (record-memory fq_codel_qd_stats after)
statistics-memory (suc zero) after v = seen-memory (statistics 1) (read_record fq_codel_cl_stats after) (record-memory fq_codel_cl_stats after)
statistics-memory (suc (suc n)) after v = value-memory (unknown_statistics v)

-- statistics by kind
xstats-memory : (k v : List ℕ) → NotMemory (read_xstats k v)
xstats-memory k v =
    let of_fq = read_statistics (le_value (take 4 v)) (drop 4 v) v in
    either-memory (is_fq_codel k) (cond (ltb (length v) 4) (refused (XstatsShort (length v))) of_fq) (read_as (is_bytes v))
    (either-memory (ltb (length v) 4) (refused (XstatsShort (length v))) of_fq (λ e. cc e) (statistics-memory (le_value (take 4 v)) (drop 4 v) v))
    (value-memory (is_bytes v))

-- ---- a list that tells its kind

-- the only kind
only_kind-memory : (kinds : List (List ℕ)) → NotMemory (only_kind kinds)
only_kind-memory [] e = cc e
only_kind-memory (a ∷ []) e = cc e
only_kind-memory (a ∷ b ∷ kinds) e = cc e

-- the first look at a frame
look-memory : (k : List ℕ) (f : Frame) → NotMemory (first_look k f)
look-memory k f = either-memory (is_kind_frame f) (seen Some (plain_values.text f.value)) (read_as None)
    (seen-memory Some (plain_values.text f.value) (text-memory f.value)) (value-memory None)

-- a list that tells its kind
own-memory : {X : Type 0} (reads : Reads X) (bytes : List ℕ) → ((k : List ℕ) (f : Frame) → NotMemory (reads k f)) → NotMemory (read_own reads bytes)
own-memory reads bytes never e =
    let looks = read_list first_look keep [] bytes in
    then-memory (seen kinds_found looks >>= only_kind) (λ kind. read_list reads keep kind bytes)
    (then-memory (seen kinds_found looks) only_kind
    (seen-memory kinds_found looks (read_list_not_memory first_look keep [] bytes look-memory)) only_kind-memory)
    (λ kind. read_list_not_memory reads keep kind bytes never)
    (sym (read_own-look reads bytes) ∙ e)

-- ---- everything

-- one of two rows
chosen-memory : (b : Bool) (chosen rest : Codec Frame Attribute) (k : List ℕ) (f : Frame) → NotMemory (chosen.read k f) → NotMemory (rest.read k f)
    → NotMemory ((choose b chosen rest).read k f)
chosen-memory true chosen rest k f this that = this
chosen-memory false chosen rest k f this that = that

mutual
  -- every class
  pub class-memory : (c : Class) (k v : List ℕ) → NotMemory ((class_codec c).read k v)
  class-memory (le n) k v = seen-memory number _ (exact-memory n v (le_value v))
  class-memory (be n) k v = seen-memory number _ (exact-memory n v (be_value v))
  class-memory (masked n bits) k v = seen-memory number _ (exact-memory n v (le_value v))
  class-memory (array n) k v = seen-memory is_bytes _ (exact-memory n v v)
  class-memory raw k v = value-memory (is_bytes v)
  class-memory text k v = seen-memory is_bytes _ (text-memory v)
  class-memory warning k v = seen-memory is_bytes _ (text-memory v)
  class-memory presence k v = value-memory (flag true)
  class-memory truth k v = seen-memory flag _ (seen-memory (λ x. not (x == 0)) _ (exact-memory 1 v (le_value v)))
  class-memory (fields layout) k v = seen-memory record_of _ (record-memory layout v)
  class-memory selector k v = seen-memory a_selector.into _ (selector-memory v)
  class-memory pair k v = seen-memory record_of _ (seen-memory (read_fields flags_pair) _ (exact-memory 8 v v))
  class-memory xstats k v = xstats-memory k v
  class-memory (list_of t) k v = seen-memory a_list.into _ (read_list_not_memory (table_codec t).read keep k v (λ j f. table-memory t j f))
  class-memory (own_list rows) k v = seen-memory a_list.into _ (own-memory (by_type (rows_codec rows)).read v (λ j f. rows-memory rows (type_of f.word) j f))

  -- every table
  pub table-memory : (t : Table) (k : List ℕ) (f : Frame) → NotMemory ((table_codec t).read k f)
  table-memory (table rows) k f = rows-memory rows (type_of f.word) k f
  table-memory (every class) k f = seen-memory (known (type_of f.word)) _ (class-memory class k f.value)
  table-memory (by_kind kinds) k f = kinds-memory kinds k f

  -- all rows, at each type
  pub rows-memory : (rows : Rows) (n : ℕ) (k : List ℕ) (f : Frame) → NotMemory ((rows_codec rows n).read k f)
  rows-memory others n k f = value-memory _
  rows-memory (types first last flags class rows) n k f =
      chosen-memory (is_within first last n) _ _ k f (seen-memory (known n) _ (class-memory class k f.value)) (rows-memory rows n k f)
  rows-memory (unread m class rows) n k f = chosen-memory (eqb n m) _ _ k f (value-memory _) (rows-memory rows n k f)
  rows-memory (options m kinds rows) n k f =
      chosen-memory (eqb n m) _ _ k f
      (either-memory (is_known kinds k) _ _
      (seen-memory (known m) _ (seen-memory a_list.into _ (read_list_not_memory (kinds_codec kinds).read keep k f.value (λ j g. kinds-memory kinds j g))))
      (value-memory _))
      (rows-memory rows n k f)

  -- all kinds
  pub kinds-memory : (kinds : Kinds) (k : List ℕ) (f : Frame) → NotMemory ((kinds_codec kinds).read k f)
  kinds-memory unknown k f = value-memory _
  kinds-memory (kind name rows kinds) k f =
      either-memory (bytes_eq k name) _ _ (seen-memory (of_kind name) _ (rows-memory rows (type_of f.word) k f)) (kinds-memory kinds k f)

-- so isn't a message
pub message-memory : (sets : Sets Frame) (layout : List Field) (rows : Rows) (bytes : List ℕ) → NotMemory (read_with sets layout rows bytes)
unfolding read_with
message-memory sets layout rows bytes =
    let body = read_list (table_codec (table rows)).read sets [] (drop (size_of layout) bytes) in
    let made : List Attribute → Message = λ xs. record { header = read_fields layout (take (size_of layout) bytes); body = xs } in
    either-memory (ltb (length bytes) (size_of layout)) (refused (BufferTooSmall (length bytes) (size_of layout))) (body >>= λ xs. read_as (made xs))
    (λ e. cc e)
    (then-memory body (λ xs. read_as (made xs))
    (read_list_not_memory (table_codec (table rows)).read sets [] (drop (size_of layout) bytes) (λ k f. rows-memory rows (type_of f.word) k f))
    (λ xs. value-memory (made xs)))
