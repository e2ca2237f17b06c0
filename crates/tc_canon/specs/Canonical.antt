-- Canonical bytes: a grammar of its own, without reading or writing.
use Rattle.std.specs.Prelude.{◌≡◌, ◌⊎◌, ℕ, ◌+◌, ◌*◌, ◌<◌, ◌≤◌, ◌^◌, ◌==◌, true, false, List, [], ◌∷◌, length, take, drop, replicate, slice_index, slice_get}
use Rattle.std.specs.Prelude.{codes, Some, MatchBool, ⊤}
use Rattle.std.specs.Str.{is_utf8, bytes_eq}
use Rattle.nla_frames.specs.Value.{le_value, ends_in_nul, terminated}
use Rattle.nla_frames.specs.Frame.{Frame, type_of}
use Rattle.nla_frames.specs.Place.{Sets, InForce}
use Rattle.nla_frames.specs.Reading.{keep}
use Rattle.tc_canon.specs.Descriptor.{Field, pad, Class, le, be, masked, array, raw, text, warning, presence, truth, fields, selector, pair, xstats, list_of}
use Rattle.tc_canon.specs.Descriptor.{own_list, Table, table, every, by_kind, Rows, others, types, unread, options, Kinds, unknown, kind, is_within, is_known}
use Rattle.tc_canon.specs.Layouts.{width, size_of, tc_header, action_message_header, fq_codel_qd_stats, fq_codel_cl_stats, selector_head, selector_key}
pub use Rattle.nla_frames.specs.CanonList.{IsCanonAt, IsPaddedList, CanonEach, IsCanonList}
use Rattle.tc_canon.specs.Kind.{kind_of_frame, SetsOneKind}
use Rattle.tc_canon.specs.Tables.Actions.{action_attributes}
use Rattle.tc_canon.specs.Tables.Options.{option_kinds}
use Rattle.tc_canon.specs.Tables.Messages.{attributes, action_message_attributes}

-- ---- values

-- a text, and one NUL after it
pub record IsTerminated (v : List ℕ) : Type 0 where
  pub text : List ℕ
  pub parts : v ≡ terminated text
  pub is_text : is_utf8 text ≡ true

-- a text without a NUL at its end
abbrev pub IsUnterminated : List ℕ → Type 0
IsUnterminated v = (is_utf8 v ≡ true) × (ends_in_nul v ≡ false)

-- the padding of a record is zero
abbrev pub PadsZero : List Field → List ℕ → Type 0
PadsZero [] v = ⊤
PadsZero (pad n ∷ fs) v = (take n v ≡ replicate n 0) × PadsZero fs (drop n v)
PadsZero (f ∷ fs) v = PadsZero fs (drop (width f) v)

-- a record: its exact length, and its padding zero
abbrev pub CanonFields : List Field → List ℕ → Type 0
CanonFields fs v = (length v ≡ size_of fs) × PadsZero fs v

-- the number of keys in the head of a selector
abbrev pub keys_counted : List ℕ → ℕ
keys_counted v = slice_index v 2

-- a selector: its head, and exactly as many keys as that says
abbrev pub CanonSelector : List ℕ → Type 0
CanonSelector v = CanonFields selector_head (take (size_of selector_head) v) × (length v ≡ size_of selector_head + size_of selector_key * keys_counted v)

-- statistics of fq_codel: a number, followed by exactly the record that it names if it is 0 or 1
pub record CanonFqCodel (v : List ℕ) : Type 0 where
  pub long : 4 ≤ length v
  pub qdisc : le_value (take 4 v) ≡ 0 → CanonFields fq_codel_qd_stats (drop 4 v)
  pub class : le_value (take 4 v) ≡ 1 → CanonFields fq_codel_cl_stats (drop 4 v)

-- under any other kind all statistics are canonical
abbrev pub CanonXstats : List ℕ → List ℕ → Type 0
CanonXstats k v = MatchBool (bytes_eq k (codes "fq_codel")) (CanonFqCodel v) ⊤

-- ---- lists

-- after these frames, under the kind that is set last among them, the frame is canonical
pub record CanonAfter (Canon : IsCanonAt) (sets : Sets Frame) (first : List ℕ) (before : List Frame) (f : Frame) : Type 0 where
  pub kind : List ℕ
  pub in_force : InForce sets first before kind
  pub canonical : Canon kind f

-- the same, stated for each place by itself
abbrev pub CanonAtEach : IsCanonAt → Sets Frame → List ℕ → List Frame → Type 0
CanonAtEach Canon sets first fs = (i : ℕ) (f : Frame) → slice_get fs i ≡ Some f → CanonAfter Canon sets first (take i fs) f

abbrev pub IsCanonAtEach : IsCanonAt → Sets Frame → List ℕ → List ℕ → Type 0
IsCanonAtEach Canon sets first bytes = IsPaddedList (CanonAtEach Canon sets first) bytes

-- a list whose frames set one kind, and are canonical under it
abbrev pub IsCanonOwn : IsCanonAt → List ℕ → Type 0
IsCanonOwn Canon bytes = (own : List ℕ) × IsPaddedList (λ fs. SetsOneKind fs own × CanonEach Canon keep own fs) bytes

-- ---- the tables

abbrev mutual
  -- the bytes of a value are canonical in a class, under a kind
  pub CanonClass : Class → List ℕ → List ℕ → Type 0
  CanonClass (le n) k v = length v ≡ n
  CanonClass (be n) k v = length v ≡ n
  CanonClass (masked n bits) k v = (length v ≡ n) × (le_value v < 2 ^ bits)
  CanonClass (array n) k v = length v ≡ n
  CanonClass raw k v = ⊤
  CanonClass text k v = IsTerminated v
  CanonClass warning k v = IsUnterminated v
  CanonClass presence k v = v ≡ []
  CanonClass truth k v = (v ≡ 0 ∷ []) ⊎ (v ≡ 1 ∷ [])
  CanonClass (fields fs) k v = CanonFields fs v
  CanonClass selector k v = CanonSelector v
  CanonClass pair k v = length v ≡ 8
  CanonClass xstats k v = CanonXstats k v
  CanonClass (list_of t) k v = IsCanonList (CanonTable t) keep k v
  CanonClass (own_list rows) k v = IsCanonOwn (λ own f. CanonRows rows (type_of f.word) own f) v

  -- a frame is canonical in a table, under a kind
  pub CanonTable : Table → List ℕ → Frame → Type 0
  CanonTable (table rows) k f = CanonRows rows (type_of f.word) k f
  CanonTable (every class) k f = (f.word < 0x4000) × CanonClass class k f.value
  CanonTable (by_kind kinds) k f = CanonKinds kinds k f

  -- a frame of a type is canonical in the rows: it has the row's word and a canonical value; if no row has its type,
  -- any word and any value are canonical
  pub CanonRows : Rows → ℕ → List ℕ → Frame → Type 0
  CanonRows others n k f = ⊤
  CanonRows (types first last flags class rows) n k f =
      MatchBool (is_within first last n) ((f.word ≡ flags + n) × CanonClass class k f.value) (CanonRows rows n k f)
  CanonRows (unread m class rows) n k f = CanonRows rows n k f
  CanonRows (options m kinds rows) n k f =
      MatchBool (n == m) (MatchBool (is_known kinds k) ((f.word ≡ n) × IsCanonList (CanonKinds kinds) keep k f.value) ⊤) (CanonRows rows n k f)

  -- a frame is canonical in the table of its kind; under an unknown kind any frame is
  pub CanonKinds : Kinds → List ℕ → Frame → Type 0
  CanonKinds unknown k f = ⊤
  CanonKinds (kind name rows kinds) k f = MatchBool (bytes_eq k name) (CanonRows rows (type_of f.word) k f) (CanonKinds kinds k f)

-- ---- values of one attribute

-- the options of a message under a kind: a list of a known kind's options
abbrev pub CanonOptions : List ℕ → List ℕ → Type 0
CanonOptions k v = (is_known option_kinds k ≡ true) × IsCanonList (CanonKinds option_kinds) keep k v

-- the value of one action
abbrev pub CanonAction : List ℕ → Type 0
CanonAction v = CanonClass (own_list action_attributes) [] v

-- ---- whole messages

-- a traffic control message: a header, and attributes, each canonical under the kind that is set last before it
pub record CanonTc (bytes : List ℕ) : Type 0 where
  pub header : CanonFields tc_header (take 20 bytes)
  pub body : IsCanonAtEach (CanonTable (table attributes)) kind_of_frame [] (drop 20 bytes)

-- an action message
pub record CanonAct (bytes : List ℕ) : Type 0 where
  pub header : CanonFields action_message_header (take 4 bytes)
  pub body : CanonClass (list_of (table action_message_attributes)) [] (drop 4 bytes)
