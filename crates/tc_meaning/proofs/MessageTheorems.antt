-- Theorems of both messages: reading is the grammar, and settled values correspond one to one to canonical bytes.
use Rattle.std.proofs.Common.{◌≡◌, ◌↔◌, ◌⊎◌, ℕ, true, List, [], ◌∷◌, Ok, Err, length, get_or, drop, ◌^◌, ◌<◌, refl, sym, ap, ◌∙◌, inl, inr, Fits, w8}
use Rattle.nla_frames.specs.Frame.{Frame}
use Rattle.nla_frames.specs.Place.{Sets, kind_then}
use Rattle.nla_frames.specs.Reading.{keep}
use Rattle.nla_frames.specs.CanonList.{IsCanonAt, CanonEach, IsCanonList}
use Rattle.nla_frames.specs.Codec.{Codec, Laws, IsWireBytes, SettledEach, SettledAtEach}
use Rattle.nla_frames.proofs.PlaceLaws.{each-at_each}
use Rattle.tc_canon.specs.Descriptor.{Field, Rows, table}
use Rattle.tc_canon.specs.Layouts.{tc_header, action_message_header}
use Rattle.tc_canon.specs.Canonical.{CanonTable, CanonAtEach, IsCanonAtEach, CanonTc, CanonAct}
use Rattle.tc_canon.specs.Tables.Messages.{attributes, action_message_attributes}
use Rattle.tc_meaning.specs.Tree.{Attribute}
use Rattle.tc_meaning.specs.Own.{kind_of_frame, kind_of_attribute}
use Rattle.tc_meaning.specs.Sound.{is_sound_rows}
use Rattle.tc_meaning.specs.Meaning.{table_codec}
use Rattle.tc_meaning.specs.Message.{Message, ReadsWith, read_with, message_bytes, FitsMessage, TypedMessage, SettledWith, SettledByPlace, OneMessage}
use Rattle.tc_meaning.specs.Message.{CanonWith, message_codec}
use Rattle.tc_meaning.proofs.Outcomes.{ok-same}
use Rattle.tc_meaning.proofs.OwnLaws.{ReadsKinds}
use Rattle.tc_meaning.proofs.NoMemory.{message-memory}
use Rattle.nla_frames.specs.declared.error.DecodeError.{DecodeError}
use Rattle.nla_frames.specs.declared.error.DecodeError.TheVariants.{OutOfMemory}
use Rattle.nla_frames.specs.Fault.{Outcome}
use Rattle.tc_meaning.proofs.TableLaws.{table_laws, rows_laws, rows_read_kinds}
use Rattle.tc_meaning.specs.Whole.{Words, words_of, Correspond, OneOutcome, tc_words, action_words}
use Rattle.nla_frames.proofs.Bytes.{IsBytes-slice}
use Rattle.tc_meaning.proofs.MessageLaws.{one_message, message_laws}

-- ---- for any table

-- settled as the list runs, and place by place
pub settled-places : (layout : List Field) (rows : Rows) (sets : Sets Attribute) (m : Message)
    → SettledWith layout rows sets m ↔ SettledByPlace layout rows sets m
settled-places layout rows sets m =
    let law = each-at_each (table_codec (table rows)).Settled sets [] m.body in
    (λ s. record { header = s.header; body = law.0 s.body }, λ s. record { header = s.header; body = law.1 s.body })

-- the laws of a codec, canonical said in other words
in_words : (c : Codec (List ℕ) Message) (Canon Other : List ℕ → Type 0) → ((bytes : List ℕ) → Canon bytes ↔ Other bytes)
    → Laws IsWireBytes c (λ kind bytes. Canon bytes) → Laws IsWireBytes c (λ kind bytes. Other bytes)
in_words c Canon Other words laws = record {
  makes = laws.makes;
  typed = laws.typed;
  back = laws.back;
  same = λ k bytes m w e f. let law = laws.same k bytes m w e f in let is = words bytes in (λ s. is.0 (law.0 s), λ h. law.1 (is.1 h));
  reads = λ k bytes w h. laws.reads k bytes w ((words bytes).1 h);
}

module _ (by_frame : Sets Frame) (by_value : Sets Attribute) (layout : List Field) (rows : Rows) (Canon : List ℕ → Type 0)
    (laws : Laws IsWireBytes (message_codec by_frame by_value layout rows) (λ kind bytes. Canon bytes)) where
  -- what fits reads back exactly when it is settled
  back : (m : Message) → TypedMessage layout rows m → FitsMessage layout rows m
      → ReadsWith by_frame layout rows (message_bytes layout rows m) m ↔ SettledWith layout rows by_value m
  back m t f =
      let one = (one_message by_frame layout rows (message_bytes layout rows m) (laws.makes m t f).are_bytes).reading m in
      let law = laws.back [] m t f in
      (λ g. law.0 (one.1 g), λ s. one.0 (law.1 s))

  -- the bytes of what is settled and fits are canonical
  settled : (m : Message) → TypedMessage layout rows m → FitsMessage layout rows m → SettledWith layout rows by_value m → Canon (message_bytes layout rows m)
  settled m t f s =
      let wire = laws.makes m t f in
      (laws.same [] (message_bytes layout rows m) m wire ((laws.back [] m t f).1 s) f).0 refl

  -- settled values with the same bytes are the same
  pub equal : (m n : Message) → TypedMessage layout rows m → FitsMessage layout rows m → SettledWith layout rows by_value m → TypedMessage layout rows n
      → FitsMessage layout rows n → SettledWith layout rows by_value n
      → message_bytes layout rows m ≡ message_bytes layout rows n → m ≡ n
  equal m n tm fm sm tn fn sn same_bytes =
      let is_m = (laws.back [] m tm fm).1 sm in
      let is_n = (laws.back [] n tn fn).1 sn in
      ok-same m n (sym is_m ∙ ap (read_with by_frame layout rows) same_bytes ∙ is_n)

  -- all that is promised of a message of this table
  pub correspond : (bytes : List ℕ) → IsWireBytes bytes → Correspond (words_of by_frame by_value layout rows Canon) bytes
  correspond bytes w =
      let one : OneMessage by_frame layout rows bytes (read_with by_frame layout rows bytes) = one_message by_frame layout rows bytes w.are_bytes in
      record {
        reading = one.reading;
        fault = one.fault;
        not_memory = λ g. message-memory by_frame layout rows bytes ((one.fault OutOfMemory).1 g);
        typed = λ m g. laws.typed [] bytes m w ((one.reading m).1 g);
        back = back;
        same = λ m g f. laws.same [] bytes m w ((one.reading m).1 g) f;
        canonical = λ c.
            let r = laws.reads [] bytes w c in
            let t = laws.typed [] bytes r.0 w r.1 in
            let whole : message_bytes layout rows r.0 ≡ bytes = (laws.same [] bytes r.0 w r.1 r.2).1 c in
            (r.0, (one.reading r.0).0 r.1, r.2, (laws.back [] r.0 t r.2).0 (ap (read_with by_frame layout rows) whole ∙ r.1));
        settled = settled;
        equal = equal;
        places = settled-places layout rows by_value;
      }

-- canonical as the list runs is settled in another word
canon-settled : (Canon : IsCanonAt) (sets : Sets Frame) (first : List ℕ) (fs : List Frame) → CanonEach Canon sets first fs ↔ SettledEach Canon sets first fs
canon-settled Canon sets first [] = (λ c. tt, λ c. tt)
canon-settled Canon sets first (f ∷ fs) = let others = canon-settled Canon sets (kind_then sets first f) fs in
    (λ c. (c.0, others.0 c.1), λ c. (c.0, others.1 c.1))

-- canonical as the list runs, and place by place
pub canon-places : (Canon : IsCanonAt) (sets : Sets Frame) (first bytes : List ℕ) → IsCanonList Canon sets first bytes ↔ IsCanonAtEach Canon sets first bytes
canon-places Canon sets first bytes = (from, to)
  where
    at : (fs : List Frame) → SettledAtEach Canon sets first fs ↔ CanonAtEach Canon sets first fs
    at fs = (
      (λ s i f e. let here = s i f e in record { kind = here.kind; in_force = here.in_force; canonical = here.settled }),
      (λ s i f e. let here = s i f e in record { kind = here.kind; in_force = here.in_force; settled = here.canonical }),
    )

    from : IsCanonList Canon sets first bytes → IsCanonAtEach Canon sets first bytes
    from c = record {
      list = c.list;
      frames = c.frames;
      whole = c.whole;
      holds = (at c.list).0 ((each-at_each Canon sets first c.list).0 ((canon-settled Canon sets first c.list).0 c.holds));
    }

    to : IsCanonAtEach Canon sets first bytes → IsCanonList Canon sets first bytes
    to c = record {
      list = c.list;
      frames = c.frames;
      whole = c.whole;
      holds = (canon-settled Canon sets first c.list).1 ((each-at_each Canon sets first c.list).1 ((at c.list).1 c.holds));
    }

-- ---- the two messages

-- the tables pass their tests
pub sound_attributes : is_sound_rows attributes ≡ true
sound_attributes = refl

-- the same for an action message
pub sound_actions : is_sound_rows action_message_attributes ≡ true
sound_actions = refl

-- a frame and what it reads as set the same kind
pub attributes_read_kinds : ReadsKinds (table_codec (table attributes))
attributes_read_kinds = rows_read_kinds attributes refl (λ n. rows_laws attributes sound_attributes n)

-- the canonical grammars in their own words
canon-tc : (bytes : List ℕ) → CanonWith kind_of_frame tc_header attributes bytes ↔ CanonTc bytes
canon-tc bytes =
    let law = canon-places (CanonTable (table attributes)) kind_of_frame [] (drop 20 bytes) in
    (λ c. record { header = c.header; body = law.0 c.body }, λ c. record { header = c.header; body = law.1 c.body })

canon-act : (bytes : List ℕ) → CanonWith keep action_message_header action_message_attributes bytes ↔ CanonAct bytes
canon-act bytes = (λ c. record { header = c.header; body = c.body }, λ c. record { header = c.header; body = c.body })

-- the laws of a traffic control message
pub tc_laws : Laws IsWireBytes (message_codec kind_of_frame kind_of_attribute tc_header attributes) (λ kind bytes. CanonTc bytes)
tc_laws = in_words (message_codec kind_of_frame kind_of_attribute tc_header attributes) _ CanonTc canon-tc
    (message_laws kind_of_frame kind_of_attribute tc_header attributes (table_laws (table attributes) sound_attributes)
    (λ kind f x w e. attributes_read_kinds.agree kind f x e))

-- the laws of an action message
pub act_laws : Laws IsWireBytes (message_codec keep keep action_message_header action_message_attributes) (λ kind bytes. CanonAct bytes)
act_laws = in_words (message_codec keep keep action_message_header action_message_attributes) _ CanonAct canon-act
    (message_laws keep keep action_message_header action_message_attributes (table_laws (table action_message_attributes) sound_actions) (λ kind f x w e. refl))

-- ---- their contracts

-- the bytes of a slice
pub wire_slice : (bytes : List ℕ) → ((i : ℕ) → Fits w8 (get_or bytes i 0)) → length bytes < 2 ^ 64 → IsWireBytes bytes
wire_slice bytes fits long = record { are_bytes = IsBytes-slice bytes fits; long = long }

pub tc_correspond : (bytes : List ℕ) → IsWireBytes bytes → Correspond tc_words bytes
tc_correspond = correspond kind_of_frame kind_of_attribute tc_header attributes CanonTc tc_laws

pub action_correspond : (bytes : List ℕ) → IsWireBytes bytes → Correspond action_words bytes
action_correspond = correspond keep keep action_message_header action_message_attributes CanonAct act_laws

-- a reading or a fault, and not both
module _ {X : Type 0} (w : Words X) (bytes : List ℕ) (law : Correspond w bytes) where
  some : (outcome : Outcome X) → w.read bytes ≡ outcome → ((m : X) × w.Reads bytes m) ⊎ ((e : DecodeError) × w.Fault bytes e)
  some (Ok m) is = inl (m, (law.reading m).0 is)
  some (Err e) is = inr (e, (law.fault e).0 is)

  pub one_outcome : OneOutcome w bytes
  one_outcome = record {
    some = some (w.read bytes) refl;
    one_reading = λ m n this that. let p = (law.reading m).1 this in let q = (law.reading n).1 that in cc;
    one_fault = λ d e this that. let p = (law.fault d).1 this in let q = (law.fault e).1 that in cc;
    not_both = λ m e reads fault. let p = (law.reading m).1 reads in let q = (law.fault e).1 fault in cc;
  }
