-- The members of the object that shows an attribute, also as a reader of JSON has them.
use Rattle.std.proofs.Common.{◌≡◌, ℕ, Bool, true, false, List, [], ◌∷◌, ◌++◌, length, Option, Some, None, refl, ap, sym, ◌∙◌, cond, true≢false, ◌-◌, suc}
use Rattle.std.proofs.Common.{take, arith}
use Rattle.std.specs.Prelude.{option_map, bytes_eq, codes, not, ◌==◌, nat_le}
use Rattle.std.proofs.lemmas.Bool.{cond_both, eqb-true, or_parts}
use Rattle.nla_frames.specs.Frame.{padding}
use Rattle.nla_frames.specs.Value.{strip, ends_in_nul}
use Rattle.std.specs.Str.{is_utf8}
use Rattle.forms_attributes.specs.Kinds.{kind_text, kind_value}
use Rattle.serde_json.specs.Data.{Data, boolean, number, string, object, unsigned, Members, no_members, member}
use Rattle.serde_json.specs.Find.{get, get_member, as_str}
use Rattle.forms_attributes.specs.Attributes.{bare_member, kind_shown, pad_member, beside}
use Rattle.forms_attributes.specs.AttributesMade.{framed, pad_or, word_or}
use Rattle.forms_attributes.specs.Frames.{PaddedFrame, frame_bytes}
use Rattle.forms_values.specs.Raw.{hex}
use Rattle.forms_values.specs.Records.{is_blank}
use Rattle.forms_values.specs.Names.{is_reserved}
use Rattle.forms_values.proofs.Leaves.{hex_made-hex}
use Rattle.forms_json.proofs.Frames.{Stands}
use Rattle.forms_values.proofs.Members.{here, passes}
use Rattle.forms_values.proofs.Search.{none_not_some, some_is}
use Rattle.forms_json.proofs.RecordsAgain.{not-false, blank}

-- ---- an attribute's object

abbrev pub word_seen : ℕ → PaddedFrame → Option Data
word_seen word c = cond (c.word == word) None (Some (number (unsigned c.word)))

abbrev pub pad_seen : PaddedFrame → Option Data
pad_seen c = cond (is_blank (Some (padding (length c.value))) c.pad) None (Some (hex c.pad))

abbrev pub bare_seen : List ℕ → Option Data
bare_seen value = cond (ends_in_nul value) None (Some (boolean true))

-- a member of this name, the mark of a bare kind, the nla_type and the padding if they are shown, and no other
pub record Finds (d : Data) (name : List ℕ) (x : Data) (mark : Option Data) (wanted : ℕ) (c : PaddedFrame) : Type 0 where
  pub it : get name d ≡ Some x
  pub bare : get (codes "bare") d ≡ mark
  pub word : get (codes "word") d ≡ word_seen wanted c
  pub pad : get (codes "pad") d ≡ pad_seen c
  pub none : (q : List ℕ) → bytes_eq q name ≡ false → bytes_eq q (codes "word") ≡ false → bytes_eq q (codes "pad") ≡ false → bytes_eq q (codes "bare") ≡ false
      → get q d ≡ None
  pub no_text : as_str d ≡ None

pub get_pad_member : (c : PaddedFrame) → get_member (codes "pad") (pad_member c) ≡ pad_seen c
get_pad_member c = go (is_blank (Some (padding (length c.value))) c.pad)
  where
    go : (t : Bool) → get_member (codes "pad") (cond t no_members (member (codes "pad") (hex c.pad) no_members)) ≡ cond t None (Some (hex c.pad))
    go true = refl
    go false = refl

pub not_pad_member : (q : List ℕ) (c : PaddedFrame) → bytes_eq q (codes "pad") ≡ false → get_member q (pad_member c) ≡ None
not_pad_member q c e =
    cond_both (is_blank (Some (padding (length c.value))) c.pad) no_members (member (codes "pad") (hex c.pad) no_members) (λ ms. get_member q ms ≡ None)
    (λ blank. refl) (λ shown. passes q (codes "pad") (hex c.pad) no_members e)

pub get_beside : (word : ℕ) (c : PaddedFrame) (q : List ℕ) → bytes_eq q (codes "word") ≡ false → get_member q (beside word c) ≡ get_member q (pad_member c)
get_beside word c q e =
    cond_both (c.word == word) (pad_member c) (member (codes "word") (number (unsigned c.word)) (pad_member c))
    (λ ms. get_member q ms ≡ get_member q (pad_member c))
    (λ same. refl) (λ other. passes q (codes "word") (number (unsigned c.word)) (pad_member c) e)

word_beside : (word : ℕ) (c : PaddedFrame) → get_member (codes "word") (beside word c) ≡ word_seen word c
word_beside word c = go (c.word == word)
  where
    go : (t : Bool) → get_member (codes "word") (cond t (pad_member c) (member (codes "word") (number (unsigned c.word)) (pad_member c)))
        ≡ cond t None (Some (number (unsigned c.word)))
    go true = not_pad_member (codes "word") c refl
    go false = here (codes "word") (number (unsigned c.word)) (pad_member c)

pub get_bare_member : (v : List ℕ) (ms : Members) (q : List ℕ) → bytes_eq q (codes "bare") ≡ false → get_member q (bare_member v ms) ≡ get_member q ms
get_bare_member v ms q e =
    cond_both (ends_in_nul v) ms (member (codes "bare") (boolean true) ms) (λ xs. get_member q xs ≡ get_member q ms)
    (λ ends. refl) (λ bare. passes q (codes "bare") (boolean true) ms e)

bare_is_seen : (v : List ℕ) (ms : Members) → get_member (codes "bare") ms ≡ None → get_member (codes "bare") (bare_member v ms) ≡ bare_seen v
bare_is_seen v ms none = go (ends_in_nul v)
  where
    go : (t : Bool) → get_member (codes "bare") (cond t ms (member (codes "bare") (boolean true) ms)) ≡ cond t None (Some (boolean true))
    go true = none
    go false = here (codes "bare") (boolean true) ms

pub no_bare_beside : (word : ℕ) (c : PaddedFrame) → get_member (codes "bare") (beside word c) ≡ None
no_bare_beside word c = get_beside word c (codes "bare") refl ∙ not_pad_member (codes "bare") c refl

pub kind_finds : (t : List ℕ) (c : PaddedFrame) → Finds (kind_shown c t) (codes "Kind") (string t) (bare_seen c.value) 1 c
kind_finds t c =
    let marks = beside 1 c in
    let ms = bare_member c.value marks in
    record {
      it = here (codes "Kind") (string t) ms;
      bare = passes (codes "bare") (codes "Kind") (string t) ms refl ∙ bare_is_seen c.value marks (no_bare_beside 1 c);
      word = passes (codes "word") (codes "Kind") (string t) ms refl ∙ get_bare_member c.value marks (codes "word") refl ∙ word_beside 1 c;
      pad =
          passes (codes "pad") (codes "Kind") (string t) ms refl ∙ get_bare_member c.value marks (codes "pad") refl ∙ get_beside 1 c (codes "pad") refl
          ∙ get_pad_member c;
      none = λ q own w p b. passes q (codes "Kind") (string t) ms own ∙ get_bare_member c.value marks q b ∙ get_beside 1 c q w ∙ not_pad_member q c p;
      no_text = refl;
    }

pub finds : (name : List ℕ) (x : Data) (word : ℕ) (c : PaddedFrame) → bytes_eq (codes "word") name ≡ false → bytes_eq (codes "pad") name ≡ false
    → bytes_eq (codes "bare") name ≡ false → Finds (object (member name x (beside word c))) name x None word c
finds name x word c no_word no_pad no_bare = record {
  it = here name x (beside word c);
  bare = passes (codes "bare") name x (beside word c) no_bare ∙ no_bare_beside word c;
  word = passes (codes "word") name x (beside word c) no_word ∙ word_beside word c;
  pad = passes (codes "pad") name x (beside word c) no_pad ∙ get_beside word c (codes "pad") refl ∙ get_pad_member c;
  none = λ q own w p b. passes q name x (beside word c) own ∙ get_beside word c q w ∙ not_pad_member q c p;
  no_text = refl;
}

-- ---- what is made of them

pub word_again : (word : ℕ) (c : PaddedFrame) → Stands c → word_or word (word_seen word c) ≡ Some c.word
word_again word c s =
    cond_both (c.word == word) None (Some (number (unsigned c.word))) (λ o. word_or word o ≡ Some c.word)
    (λ e. ap Some (sym (eqb-true c.word word e))) (λ e. s.word)

pub pad_again : (c : PaddedFrame) → Stands c → pad_or c.value (pad_seen c) ≡ Some c.pad
pad_again c s =
    cond_both (is_blank (Some (padding (length c.value))) c.pad) None (Some (hex c.pad)) (λ o. pad_or c.value o ≡ Some c.pad)
    (λ e. ap Some (sym (blank (Some (padding (length c.value))) c.pad e))) (λ e. hex_made-hex c.pad s.pad)

pub framed_again : (c : PaddedFrame) (d : Data) (w : Option ℕ) (v : Option (List ℕ)) → Stands c → w ≡ Some c.word → v ≡ Some c.value
    → get (codes "pad") d ≡ pad_seen c → framed w v d ≡ Some (frame_bytes c)
framed_again c d w v s ew ev ep =
    ap (λ o. framed o v d) ew ∙ ap (λ o. framed (Some c.word) o d) ev
    ∙ ap (λ o. cond (nat_le (length c.value) 65531) (option_map (λ pad. frame_bytes (record { word = c.word; value = c.value; pad = pad })) o) None)
    (ap (pad_or c.value) ep ∙ pad_again c s)
    ∙ ap (λ t. cond t (Some (frame_bytes c)) None) s.short

ends_so : (v : List ℕ) → ends_in_nul v ≡ true → take (length v - 1) v ++ 0 ∷ [] ≡ v
ends_so [] e = absurd (true≢false (sym e))
ends_so (x ∷ []) e = ap (λ y. y ∷ []) (sym (eqb-true x 0 e))
ends_so (x ∷ y ∷ v) e =
    let one : length (x ∷ y ∷ v) - 1 ≡ suc (length v) = omega arith in
    let other : length (y ∷ v) - 1 ≡ length v = omega arith in
    let last : ends_in_nul (y ∷ v) ≡ true = rw other (rw one at e) in
    rw one (ap (λ (t : List ℕ). x ∷ t) (rw other at (ends_so (y ∷ v) last)))

-- a kind's text is that of its value
pub kind_again : (v t : List ℕ) → kind_text v ≡ Some t → kind_value t (bare_seen v) ≡ Some v
unfolding strip
kind_again v t e =
    cond_both (is_utf8 (strip v)) (Some (strip v)) None (λ o. o ≡ Some t → kind_value t (bare_seen v) ≡ Some v)
    (λ holds same. ap (λ (x : List ℕ). kind_value x (bare_seen v)) (sym (some_is (strip v) t same)) ∙ go (ends_in_nul v) refl)
    (λ fails same. absurd (none_not_some t same)) e
  where
    go : (b : Bool) → ends_in_nul v ≡ b → kind_value (cond b (take (length v - 1) v) v) (cond b None (Some (boolean true))) ≡ Some v
    go true ends = ap Some (ends_so v ends)
    go false other = refl

-- no reserved name
pub record Plain (name : List ℕ) : Type 0 where
  pub raw : bytes_eq name (codes "raw") ≡ false
  pub other : bytes_eq name (codes "Other") ≡ false
  pub word : bytes_eq name (codes "word") ≡ false
  pub pad : bytes_eq name (codes "pad") ≡ false
  pub kind : bytes_eq name (codes "Kind") ≡ false
  pub bare : bytes_eq name (codes "bare") ≡ false

pub plain : (name : List ℕ) → not (is_reserved name) ≡ true → Plain name
plain name e =
    let one = or_parts (bytes_eq name (codes "raw")) _ (not-false (is_reserved name) e) in
    let two = or_parts (bytes_eq name (codes "Other")) _ one.1 in
    let three = or_parts (bytes_eq name (codes "word")) _ two.1 in
    let four = or_parts (bytes_eq name (codes "pad")) _ three.1 in
    let five = or_parts (bytes_eq name (codes "Kind")) (bytes_eq name (codes "bare")) four.1 in
    record { raw = one.0; other = two.0; word = three.0; pad = four.0; kind = five.0; bare = five.1 }
