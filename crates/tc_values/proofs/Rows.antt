-- The word and value that an enum returns for an attribute are encoded as its table says.
use Rattle.std.proofs.Common.{◌≡◌, ◌↔◌, ℕ, ◌+◌, List, Bool, true, false, Option, Some, None, unwrap_or, cond, refl, sym, ap, subst, ◌∙◌, ◌==◌}
use Rattle.std.proofs.lemmas.Bool.Decides.{Decides-eqb}
use Rattle.nla_frames.specs.Frame.{type_of}
use Rattle.nla_frames.specs.Codec.{Codec, list_codec}
use Rattle.nla_frames.specs.Frame.{Frame}
use Rattle.tc_canon.specs.Descriptor.{Class, Rows, others, types, unread, options, is_within, table}
use Rattle.tc_meaning.specs.Tree.{Attribute, Content, known, other}
use Rattle.nla_frames.specs.Reading.{keep}
use Rattle.tc_meaning.specs.Content.{via}
use Rattle.tc_meaning.specs.Meaning.{table_codec, a_list, class_codec, rows_codec, kinds_codec, choose, row_frames, unread_frames, options_frames, IsShort, IsRaw}
use Rattle.tc_values.specs.Inner.{Inner, IsInner}
use Rattle.tc_values.specs.Value.{value_class, value_content, SettledValue, SettledAs}
use Rattle.tc_values.specs.Row.{reads_at, written_at, attribute_of, IsRow, ShownAs}
use Rattle.tc_values.specs.declared.value.Value.{Value}
use Rattle.tc_values.specs.declared.value.Value.TheVariants.{Presence, Truth, U8, U16, U32, U16Be, U32Be, Bits1, Bits3, Bits20, Octets4, Octets6, Octets8}
use Rattle.tc_values.specs.declared.value.Value.TheVariants.{Octets16, Bytes, Text, Warning, Kept, Nested}
use Rattle.tc_values.proofs.Values.{value_written, value_fits, value_typed, value_settled}

-- a codec writes the attributes of a type with this word and this class
record WrittenAt (codec : Codec Frame Attribute) (is_read : Bool) (n word : ℕ) (class : Class) : Type 0 where
  pub write : (x : Content) → codec.write (known n x) ≡ record { word = word; value = (class_codec class).write x }
  pub fits : (x : Content) → codec.Fits (known n x) ↔ ((class_codec class).Fits x × IsShort ((class_codec class).write x))
  pub typed : (x : Content) → (class_codec class).Typed x → codec.Typed (known n x)
  pub settled : (kind : List ℕ) (x : Content) → codec.Settled kind (known n x) ↔ ((is_read ≡ true) × (class_codec class).Settled kind x)

-- raw attributes in a codec, for a type that is read or not
record KeptAt (codec : Codec Frame Attribute) (is_read : Bool) : Type 0 where
  pub write : (w : ℕ) (v : List ℕ) → codec.write (other w v) ≡ record { word = w; value = v }
  pub fits : (w : ℕ) (v : List ℕ) → codec.Fits (other w v) ↔ IsShort v
  pub typed : (w : ℕ) (v : List ℕ) → IsRaw w v → codec.Typed (other w v)
  pub settled : (kind : List ℕ) (w : ℕ) (v : List ℕ) → codec.Settled kind (other w v) ↔ (is_read ≡ false)

by_row : (n word : ℕ) (class : Class) → WrittenAt (row_frames word n (class_codec class)) true n word class
by_row n word class = record {
  write = λ x. refl;
  fits = λ x. (λ f. f, λ f. f);
  typed = λ x t. (refl, t);
  settled = λ kind x. (λ s. (refl, s), λ s. s.1);
}

by_unread : (n : ℕ) (class : Class) → WrittenAt (unread_frames n (class_codec class)) false n n class
by_unread n class = record {
  write = λ x. refl;
  fits = λ x. (λ f. f, λ f. f);
  typed = λ x t. (refl, t);
  settled = λ kind x. (λ s. absurd s, λ s. absurd (cc s.0));
}

pub some_pair : {n m : ℕ} {c d : Class} → ◌≡◌ {A = Option (ℕ × Class)} (Some (n, c)) (Some (m, d)) → (n ≡ m) × (c ≡ d)
some_pair {n = n} {c = c} e = (
  ap (λ (o : Option (ℕ × Class)). (unwrap_or {T = ℕ × Class} o (n, c)).0) e,
  ap (λ (o : Option (ℕ × Class)). (unwrap_or {T = ℕ × Class} o (n, c)).1) e,
)

written_row : (rows : Rows) (n word : ℕ) (class : Class) → ◌≡◌ {A = Option (ℕ × Class)} (written_at rows n) (Some (word, class))
    → WrittenAt (rows_codec rows n) (reads_at rows n) n word class
written_row others n word class e = absurd (cc e)
written_row (types first last flags c rows) n word class e = go (is_within first last n) e (written_row rows n word class)
  where
    go : (b : Bool) → ◌≡◌ {A = Option (ℕ × Class)} (cond b (Some (flags + n, c)) (written_at rows n)) (Some (word, class))
        → (written_at rows n ≡ Some (word, class) → WrittenAt (rows_codec rows n) (reads_at rows n) n word class)
        → WrittenAt (choose b (row_frames (flags + n) n (class_codec c)) (rows_codec rows n)) (cond b true (reads_at rows n)) n word class
    go true e rest =
        let p = some_pair e in
        subst (λ w. WrittenAt (row_frames (flags + n) n (class_codec c)) true n w class) p.0
        (subst (WrittenAt (row_frames (flags + n) n (class_codec c)) true n (flags + n)) p.1 (by_row n (flags + n) c))
    go false e rest = rest e
written_row (unread m c rows) n word class e = go (n == m) ((Decides-eqb n m).0) e (written_row rows n word class)
  where
    go : (b : Bool) → (b ≡ true → n ≡ m) → ◌≡◌ {A = Option (ℕ × Class)} (cond b (Some (m, c)) (written_at rows n)) (Some (word, class))
        → (written_at rows n ≡ Some (word, class) → WrittenAt (rows_codec rows n) (reads_at rows n) n word class)
        → WrittenAt (choose b (unread_frames m (class_codec c)) (rows_codec rows n)) (cond b false (reads_at rows n)) n word class
    go true same e rest =
        let p = some_pair e in
        let here : WrittenAt (unread_frames m (class_codec c)) false m m c = by_unread m c in
        subst (λ d. WrittenAt (unread_frames m (class_codec c)) false n word d) p.1
        (subst (λ w. WrittenAt (unread_frames m (class_codec c)) false n w c) p.0
        (subst (λ k. WrittenAt (unread_frames m (class_codec c)) false k m c) (sym (same refl)) here))
    go false same e rest = rest e
written_row (options m kinds rows) n word class e = go (n == m) e (written_row rows n word class)
  where
    go : (b : Bool) → ◌≡◌ {A = Option (ℕ × Class)} (cond b None (written_at rows n)) (Some (word, class))
        → (written_at rows n ≡ Some (word, class) → WrittenAt (rows_codec rows n) (reads_at rows n) n word class)
        → WrittenAt (choose b (options_frames m kinds (via a_list (list_codec keep keep (kinds_codec kinds)))) (rows_codec rows n))
        (cond b true (reads_at rows n)) n word class
    go true e rest = absurd (cc e)
    go false e rest = rest e

-- a raw attribute of a type that the table reads, and of one that it doesn't
kept_unread : {codec : Codec Frame Attribute} → ((w : ℕ) (v : List ℕ) → codec.write (other w v) ≡ record { word = w; value = v })
    → ((w : ℕ) (v : List ℕ) → codec.Fits (other w v) ↔ IsShort v) → ((w : ℕ) (v : List ℕ) → IsRaw w v → codec.Typed (other w v))
    → ((kind : List ℕ) (w : ℕ) (v : List ℕ) → codec.Settled kind (other w v)) → KeptAt codec false
kept_unread write fits typed settled = record { write = write; fits = fits; typed = typed; settled = λ kind w v. (λ _. refl, λ _. settled kind w v) }

kept_read : {codec : Codec Frame Attribute} → ((w : ℕ) (v : List ℕ) → codec.write (other w v) ≡ record { word = w; value = v })
    → ((w : ℕ) (v : List ℕ) → codec.Fits (other w v) ↔ IsShort v) → ((w : ℕ) (v : List ℕ) → IsRaw w v → codec.Typed (other w v))
    → ((kind : List ℕ) (w : ℕ) (v : List ℕ) → codec.Settled kind (other w v) → ⊥) → KeptAt codec true
kept_read write fits typed never =
    record { write = write; fits = fits; typed = typed; settled = λ kind w v. (λ s. absurd (never kind w v s), λ s. absurd (cc s)) }

kept_row : (rows : Rows) (n : ℕ) → KeptAt (rows_codec rows n) (reads_at rows n)
kept_row others n = kept_unread (λ w v. refl) (λ w v. (λ f. f, λ f. f)) (λ w v t. t) (λ kind w v. tt)
kept_row (types first last flags c rows) n = go (is_within first last n) (kept_row rows n)
  where
    go : (b : Bool) → KeptAt (rows_codec rows n) (reads_at rows n)
        → KeptAt (choose b (row_frames (flags + n) n (class_codec c)) (rows_codec rows n)) (cond b true (reads_at rows n))
    go true rest = kept_read (λ w v. refl) (λ w v. (λ f. f, λ f. f)) (λ w v t. t) (λ kind w v s. s)
    go false rest = rest
kept_row (unread m c rows) n = go (n == m) (kept_row rows n)
  where
    go : (b : Bool) → KeptAt (rows_codec rows n) (reads_at rows n)
        → KeptAt (choose b (unread_frames m (class_codec c)) (rows_codec rows n)) (cond b false (reads_at rows n))
    go true rest = kept_unread (λ w v. refl) (λ w v. (λ f. f, λ f. f)) (λ w v t. t) (λ kind w v. tt)
    go false rest = rest
kept_row (options m kinds rows) n = go (n == m) (kept_row rows n)
  where
    go : (b : Bool) → KeptAt (rows_codec rows n) (reads_at rows n)
        → KeptAt (choose b (options_frames m kinds (via a_list (list_codec keep keep (kinds_codec kinds)))) (rows_codec rows n)) (cond b true (reads_at rows n))
    go true rest = kept_read (λ w v. refl) (λ w v. (λ f. f, λ f. f)) (λ w v t. t) (λ kind w v s. s)
    go false rest = rest

module _ {N : Type 0} (inner : Inner N) (is : IsInner inner) (rows : Rows) (word : ℕ) where
  -- a typed value whose class is the table's class for its word
  shown_known : (v : Value N) → written_at rows (type_of word) ≡ Some (word, value_class inner v)
      → ((kind : List ℕ) → SettledAs inner.Settled (reads_at rows (type_of word)) kind v
      ≡ ((reads_at rows (type_of word) ≡ true) × SettledValue inner.Settled kind v))
      → ShownAs inner rows (known (type_of word) (value_content inner v)) word v
  shown_known v row same =
      let x = value_content inner v in
      let w = written_row rows (type_of word) word (value_class inner v) row in
      let fits = value_fits inner is v in
      record {
        same_word = sym (ap (λ (f : Frame). f.word) (w.write x));
        bytes = sym (ap (λ (f : Frame). f.value) (w.write x) ∙ value_written inner is v);
        fits = (λ f. (w.fits x).1 (fits.0 f), λ f. fits.1 ((w.fits x).0 f));
        typed = λ _ typed. w.typed x (value_typed inner is v typed);
        settled = λ kind. (
          λ s. let p = subst (λ t. t) (same kind) s in (w.settled kind x).1 (p.0, (value_settled inner is kind v).0 p.1),
          λ s. let p = (w.settled kind x).0 s in subst (λ t. t) (sym (same kind)) (p.0, (value_settled inner is kind v).1 p.1),
        );
      }

  pub shown_as : (x : Attribute) (v : Value N) → x ≡ attribute_of inner word v → IsRow inner rows word v → ShownAs inner rows x word v
  shown_as x (Kept w) seen row =
      let k = kept_row rows (type_of word) in
      subst (λ y. ShownAs inner rows y word (Kept w)) (sym seen) (record {
        same_word = sym (ap (λ (f : Frame). f.word) (k.write word w.now));
        bytes = sym (ap (λ (f : Frame). f.value) (k.write word w.now));
        fits = (λ f. (k.fits word w.now).1 f, λ f. (k.fits word w.now).0 f);
        typed = λ low typed. k.typed word w.now (low, typed);
        settled = λ kind. (λ s. (k.settled kind word w.now).1 s, λ s. (k.settled kind word w.now).0 s);
      })
  shown_as x (Presence b) seen row = subst (λ y. ShownAs inner rows y word (Presence b)) (sym seen) (shown_known (Presence b) row (λ kind. refl))
  shown_as x (Truth b) seen row = subst (λ y. ShownAs inner rows y word (Truth b)) (sym seen) (shown_known (Truth b) row (λ kind. refl))
  shown_as x (U8 n) seen row = subst (λ y. ShownAs inner rows y word (U8 n)) (sym seen) (shown_known (U8 n) row (λ kind. refl))
  shown_as x (U16 n) seen row = subst (λ y. ShownAs inner rows y word (U16 n)) (sym seen) (shown_known (U16 n) row (λ kind. refl))
  shown_as x (U32 n) seen row = subst (λ y. ShownAs inner rows y word (U32 n)) (sym seen) (shown_known (U32 n) row (λ kind. refl))
  shown_as x (U16Be n) seen row = subst (λ y. ShownAs inner rows y word (U16Be n)) (sym seen) (shown_known (U16Be n) row (λ kind. refl))
  shown_as x (U32Be n) seen row = subst (λ y. ShownAs inner rows y word (U32Be n)) (sym seen) (shown_known (U32Be n) row (λ kind. refl))
  shown_as x (Bits1 n) seen row = subst (λ y. ShownAs inner rows y word (Bits1 n)) (sym seen) (shown_known (Bits1 n) row (λ kind. refl))
  shown_as x (Bits3 n) seen row = subst (λ y. ShownAs inner rows y word (Bits3 n)) (sym seen) (shown_known (Bits3 n) row (λ kind. refl))
  shown_as x (Bits20 n) seen row = subst (λ y. ShownAs inner rows y word (Bits20 n)) (sym seen) (shown_known (Bits20 n) row (λ kind. refl))
  shown_as x (Octets4 w) seen row = subst (λ y. ShownAs inner rows y word (Octets4 w)) (sym seen) (shown_known (Octets4 w) row (λ kind. refl))
  shown_as x (Octets6 w) seen row = subst (λ y. ShownAs inner rows y word (Octets6 w)) (sym seen) (shown_known (Octets6 w) row (λ kind. refl))
  shown_as x (Octets8 w) seen row = subst (λ y. ShownAs inner rows y word (Octets8 w)) (sym seen) (shown_known (Octets8 w) row (λ kind. refl))
  shown_as x (Octets16 w) seen row = subst (λ y. ShownAs inner rows y word (Octets16 w)) (sym seen) (shown_known (Octets16 w) row (λ kind. refl))
  shown_as x (Bytes w) seen row = subst (λ y. ShownAs inner rows y word (Bytes w)) (sym seen) (shown_known (Bytes w) row (λ kind. refl))
  shown_as x (Text t) seen row = subst (λ y. ShownAs inner rows y word (Text t)) (sym seen) (shown_known (Text t) row (λ kind. refl))
  shown_as x (Warning t) seen row = subst (λ y. ShownAs inner rows y word (Warning t)) (sym seen) (shown_known (Warning t) row (λ kind. refl))
  shown_as x (Nested n) seen row = subst (λ y. ShownAs inner rows y word (Nested n)) (sym seen) (shown_known (Nested n) row (λ kind. refl))

-- a value is settled, at a type that is read or not, if and only if its attribute is
pub settled_shown : {N : Type 0} {inner : Inner N} {rows : Rows} {x : Attribute} {word : ℕ} {v : Value N} {is_read : Bool} {P : Type 0}
    → ShownAs inner rows x word v → is_read ≡ reads_at rows (type_of word) → (kind : List ℕ)
    → P ↔ SettledAs inner.Settled is_read kind v → P ↔ (table_codec (table rows)).Settled kind x
settled_shown shown here kind told =
    let here = rw here at told in
    let attribute = shown.settled kind in
    (λ p. attribute.0 (here.0 p), λ s. here.1 (attribute.1 s))
