-- Contents without attributes, class by class.
use Rattle.std.specs.Prelude.{◌≡◌, ℕ, ◌<◌, ◌≤◌, ◌^◌, ◌%◌, Bool, true, false, List, [], ◌∷◌, length, not, Ok, Err, nat_lt, ◌==◌, if◌then◌else◌, zero, suc, ◌+◌}
use Rattle.std.specs.Prelude.{◌*◌, ◌++◌, take, drop, codes}
use Rattle.std.specs.Str.{bytes_eq}
use Rattle.std.specs.List.{flat_map, AllByRecursion}
use Rattle.nla_frames.specs.declared.error.DecodeError.TheVariants.{BufferTooSmall, SelectorShort, XstatsShort}
use Rattle.nla_frames.specs.Fault.{Outcome, seen}
use Rattle.nla_frames.specs.Value as plain_values
pub use Rattle.nla_frames.specs.Value.{IsText}
use Rattle.nla_frames.specs.Value.{IsBytes, le_bytes, le_value, le_number, be_bytes, be_number, exactly, strip, terminated}
use Rattle.nla_frames.specs.Codec.{Codec}
use Rattle.tc_canon.specs.Descriptor.{Field, little}
use Rattle.tc_canon.specs.Layouts.{fq_codel_qd_stats, fq_codel_cl_stats, selector_head, selector_key}
use Rattle.tc_meaning.specs.Tree.{Scalar, plain, Content, number, is_bytes, flag, record_of, keyed, statistics, unknown_statistics}
use Rattle.tc_meaning.specs.Layout.{size_of, read_fields, fields_bytes, TypedFields, SettledFields}

-- the values of a type among all contents: `out` is the inverse of `into`
pub record Shape (X : Type 0) : Type 0 where
  pub into : X → Content
  pub out : Content → X

-- the codec of a type, as a codec of contents
abbrev pub via : {X : Type 0} → Shape X → Codec (List ℕ) X → Codec (List ℕ) Content
via shape c = record {
  read = λ kind value. seen shape.into (c.read kind value);
  write = λ x. c.write (shape.out x);
  Typed = λ x. (shape.into (shape.out x) ≡ x) × c.Typed (shape.out x);
  Fits = λ x. c.Fits (shape.out x);
  Settled = λ kind x. c.Settled kind (shape.out x);
}

-- a codec that ignores the kind and whose values always fit
abbrev pub plainly : {X : Type 0} → (List ℕ → Outcome X) → (X → List ℕ) → (X → Type 0) → (X → Type 0) → Codec (List ℕ) X
plainly read write Typed Settled = record {
  read = λ kind value. read value;
  write = write;
  Typed = Typed;
  Fits = λ x. Unit {0};
  Settled = λ kind x. Settled x;
}

abbrev pub always : {X : Type 0} → X → Type 0
always x = Unit {0}

-- ---- numbers

abbrev pub a_number : Shape ℕ
a_number = record { into = number; out = number_in }
  where
    number_in : Content → ℕ
    number_in (number x) = x
    number_in _ = 0

abbrev pub IsNumber : ℕ → ℕ → Type 0
IsNumber n x = x < 256 ^ n

abbrev pub le_codec : ℕ → Codec (List ℕ) ℕ
le_codec n = plainly (le_number n) (le_bytes n) (IsNumber n) always

abbrev pub be_codec : ℕ → Codec (List ℕ) ℕ
be_codec n = plainly (be_number n) (be_bytes n) (IsNumber n) always

-- read whole, written without the bits above the mask
abbrev pub masked_codec : ℕ → ℕ → Codec (List ℕ) ℕ
masked_codec n bits = plainly (le_number n) (λ x. le_bytes n (x % 2 ^ bits)) (IsNumber n) (λ x. x < 2 ^ bits)

-- ---- bytes and texts

abbrev pub some_bytes : Shape (List ℕ)
some_bytes = record { into = is_bytes; out = bytes_in }
  where
    bytes_in : Content → List ℕ
    bytes_in (is_bytes v) = v
    bytes_in _ = []

abbrev pub array_codec : ℕ → Codec (List ℕ) (List ℕ)
array_codec n = plainly (exactly n) (λ v. v) (λ v. (length v ≡ n) × IsBytes v) always

abbrev pub raw_codec : Codec (List ℕ) (List ℕ)
raw_codec = plainly Ok (λ v. v) IsBytes always

abbrev pub text_codec : Codec (List ℕ) (List ℕ)
text_codec = plainly plain_values.text terminated IsText always

-- written without a NUL, so that a NUL at its end is stripped when it is read again
abbrev pub warning_codec : Codec (List ℕ) (List ℕ)
warning_codec = plainly plain_values.text (λ t. t) IsText (λ t. strip t ≡ t)

-- ---- flags

abbrev pub a_flag : Shape Bool
a_flag = record { into = flag; out = flag_in }
  where
    flag_in : Content → Bool
    flag_in (flag b) = b
    flag_in _ = false

abbrev pub presence_codec : Codec (List ℕ) Bool
presence_codec = plainly (λ v. Ok true) (λ b. []) always (λ b. b ≡ true)

abbrev pub truth_codec : Codec (List ℕ) Bool
truth_codec = plainly (λ v. seen (λ x. not (x == 0)) (le_number 1 v)) (λ b. (if b then 1 else 0) ∷ []) always always

-- ---- records

abbrev pub a_record : Shape (List Scalar)
a_record = record { into = record_of; out = record_in }
  where
    record_in : Content → List Scalar
    record_in (record_of xs) = xs
    record_in _ = []

-- a record's fields are at the front, and what follows is dropped
abbrev pub read_record : List Field → List ℕ → Outcome (List Scalar)
read_record layout value = if nat_lt (length value) (size_of layout) then Err (BufferTooSmall (length value) (size_of layout)) else Ok
    (read_fields layout value)

abbrev pub record_codec : List Field → Codec (List ℕ) (List Scalar)
record_codec layout = plainly (read_record layout) (fields_bytes layout) (TypedFields layout) (SettledFields layout)

-- two words of flags
abbrev pub flags_pair : List Field
flags_pair = little 4 ∷ little 4 ∷ []

-- two words and nothing after them
abbrev pub pair_codec : Codec (List ℕ) (List Scalar)
pair_codec = plainly (λ v. seen (read_fields flags_pair) (exactly 8 v)) (fields_bytes flags_pair) (TypedFields flags_pair) (SettledFields flags_pair)

-- ---- the selector of u32

-- a selector's head and its keys
pub record Selector : Type 0 where
  pub head : List Scalar
  pub keys : List (List Scalar)

abbrev pub a_selector : Shape Selector
a_selector = record { into = λ s. keyed s.head s.keys; out = selector_in }
  where
    selector_in : Content → Selector
    selector_in (keyed head keys) = record { head = head; keys = keys }
    selector_in _ = record { head = []; keys = [] }

-- the number of keys in a head
abbrev pub key_count : List Scalar → ℕ
key_count (flags ∷ offshift ∷ plain nkeys ∷ rest) = nkeys
key_count _ = 0

-- n keys, one after the other
abbrev pub read_keys : ℕ → List ℕ → List (List Scalar)
read_keys zero bytes = []
read_keys (suc n) bytes = read_fields selector_key bytes ∷ read_keys n (drop 16 bytes)

-- a head and as many keys as it says; what follows is dropped
abbrev pub read_selector : List ℕ → Outcome Selector
read_selector value =
    let head = read_fields selector_head value in
    let needed = 16 + 16 * key_count head in
    if nat_lt (length value) 16 then Err (SelectorShort (length value) 16) else
    if nat_lt (length value) needed then Err (SelectorShort (length value) needed) else
    Ok (record { head = head; keys = read_keys (key_count head) (drop 16 value) })

abbrev pub selector_codec : Codec (List ℕ) Selector
selector_codec = record {
  read = λ kind value. read_selector value;
  write = λ s. fields_bytes selector_head s.head ++ flat_map (fields_bytes selector_key) s.keys;
  Typed = λ s. TypedFields selector_head s.head × AllByRecursion (TypedFields selector_key) s.keys;
  Fits = λ s. key_count s.head ≡ length s.keys;
  Settled = λ kind s. Unit {0};
}

-- ---- statistics by kind

-- true for the kind whose statistics are known
abbrev pub is_fq_codel : List ℕ → Bool
is_fq_codel kind = bytes_eq kind (codes "fq_codel")

-- the statistics that a number selects, after that number
abbrev pub read_statistics : ℕ → List ℕ → List ℕ → Outcome Content
read_statistics zero after value = seen (statistics 0) (read_record fq_codel_qd_stats after)
read_statistics (suc zero) after value = seen (statistics 1) (read_record fq_codel_cl_stats after)
read_statistics _ after value = Ok (unknown_statistics value)

-- fq_codel's statistics begin with the number of their record; those of any other kind are kept raw
abbrev pub read_xstats : List ℕ → List ℕ → Outcome Content
read_xstats kind value =
    if is_fq_codel kind then
    (if nat_lt (length value) 4 then Err (XstatsShort (length value)) else read_statistics (le_value (take 4 value)) (drop 4 value) value)
    else Ok (is_bytes value)

abbrev pub xstats_codec : Codec (List ℕ) Content
xstats_codec = record {
  read = read_xstats;
  write = xstats_bytes;
  Typed = TypedXstats;
  Fits = λ x. Unit {0};
  Settled = SettledXstats;
}
  where
    xstats_bytes : Content → List ℕ
    xstats_bytes (statistics zero xs) = le_bytes 4 0 ++ fields_bytes fq_codel_qd_stats xs
    xstats_bytes (statistics (suc zero) xs) = le_bytes 4 1 ++ fields_bytes fq_codel_cl_stats xs
    xstats_bytes (unknown_statistics value) = value
    xstats_bytes (is_bytes value) = value
    xstats_bytes _ = []

    TypedXstats : Content → Type 0
    TypedXstats (statistics zero xs) = TypedFields fq_codel_qd_stats xs
    TypedXstats (statistics (suc zero) xs) = TypedFields fq_codel_cl_stats xs
    TypedXstats (unknown_statistics value) = IsBytes value
    TypedXstats (is_bytes value) = IsBytes value
    TypedXstats _ = ⊥

    SettledXstats : List ℕ → Content → Type 0
    SettledXstats kind (statistics n xs) = is_fq_codel kind ≡ true
    SettledXstats kind (unknown_statistics value) = (is_fq_codel kind ≡ true) × (4 ≤ length value) × (2 ≤ le_value (take 4 value))
    SettledXstats kind (is_bytes value) = is_fq_codel kind ≡ false
    SettledXstats kind _ = ⊥
