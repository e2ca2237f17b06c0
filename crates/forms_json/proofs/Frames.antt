-- The JSON of frames and of elements leads back to them.
use Rattle.std.proofs.Common.{◌≡◌, ℕ, zero, suc, ◌≤◌, ◌+◌, Bool, true, List, [], ◌∷◌, ◌++◌, length, take, drop, Option, Some, None, refl, ap, sym, ◌∙◌}
use Rattle.std.proofs.Common.{cond, arith, append_assoc}
use Rattle.std.specs.Prelude.{nat_le, ◌&&◌, unwrap_or, false}
use Rattle.std.proofs.lemmas.Bool.{cond_both, and_parts, leb-true, le-leb}
use Rattle.std.proofs.lemmas.List.{append-nil, take-append-drop, drop_at, length-append, length-drop, length-take}
use Rattle.nla_frames.specs.Value.{IsBytes}
use Rattle.nla_frames.specs.Frame.{header, padding}
use Rattle.nla_frames.specs.Grammar.{length_at}
use Rattle.nla_frames.specs.Cutting.{frame_of_length}
use Rattle.nla_frames.proofs.Front.{next_frame_long, length-header}
use Rattle.nla_frames.proofs.NextFrame.{Front-next_frame}
use Rattle.nla_frames.proofs.Bytes.{IsBytes-take, IsBytes-drop}
use Rattle.serde_json.specs.Data.{Data}
use Rattle.forms_values.specs.declared.form.Form.{Form}
use Rattle.forms_attributes.specs.Attributes.{first_or_tail, frames, tail_shown}
use Rattle.forms_attributes.specs.AttributesMade.{as_word, each_under}
use Rattle.forms_attributes.specs.Frames.{PaddedFrame, after_first, frame_at, frame_bytes}
use Rattle.forms_attributes.specs.Kinds.{kind_in, kind_named, own_kind, own_or, own_kind_named}
use Rattle.forms_values.specs.Raw.{or_raw, raw, raw_of}
use Rattle.forms_values.specs.Records.{each_made, elements, elements_of, joined}
use Rattle.forms_values.specs.Tables.{Table}
use Rattle.forms_values.proofs.Leaves.{raw_of-raw}

-- the bytes of two parts, concatenated
pub joined_made : (x y : Option (List ℕ)) (a b whole : List ℕ) → x ≡ Some a → y ≡ Some b → a ++ b ≡ whole → joined x y ≡ Some whole
joined_made x y a b whole ex ey e = rw (ex, ey) (ap Some e)

-- ---- frames

-- the bytes read as a frame
pub record Stands (c : PaddedFrame) : Type 0 where
  pub short : nat_le (length c.value) 65531 ≡ true
  pub word : as_word c.word ≡ Some c.word
  pub value : IsBytes c.value
  pub pad : IsBytes c.pad

record InFront (b : List ℕ) (c : PaddedFrame) : Type 0 where
  stands : Stands c
  whole : frame_bytes c ++ after_first b ≡ b

in_front : (b : List ℕ) → IsBytes b → (nat_le 4 (length_at b) && nat_le (length_at b) (length b)) ≡ true → InFront b (frame_at (length_at b) b)
in_front b h e =
    let n = length_at b in
    let f = frame_of_length n b in
    let both = and_parts (nat_le 4 n) (nat_le n (length b)) e in
    let long : 4 ≤ n = leb-true 4 n both.0 in
    let within : n ≤ length b = leb-true n (length b) both.1 in
    let fr = Front-next_frame b f (drop (padding n) (drop n b)) h (next_frame_long b n refl long within) in
    let sized : n ≡ 4 + length f.value = omega (arith, length-drop 4 (take n b), length-take n b) in
    let v = f.value in
    let head = header (length v) f.word ++ v in
    let after : List ℕ = drop (padding n) (drop n b) in
    let four : length (header (length v) f.word) ≡ 4 = length-header (length v) f.word in
    let lead : length head ≡ n = omega (arith, sized, length-append (header (length v) f.word) v, four) in
    let parts : b ≡ head ++ (fr.pad ++ after) = fr.parts ∙ sym (append_assoc (header (length v) f.word) v (fr.pad ++ after)) in
    let following : drop n b ≡ fr.pad ++ after = ap (drop n) parts ∙ drop_at head (fr.pad ++ after) n lead in
    let p = padding n in
    record {
      stands = record {
        short = le-leb (length v) 65531 fr.frame.value;
        word = ap (λ t. cond t (Some f.word) None) (le-leb f.word 0xffff (omega (arith, fr.frame.word)));
        value = IsBytes-drop 4 (take n b) (IsBytes-take n b h);
        pad = IsBytes-take p (drop n b) (IsBytes-drop n b h);
      };
      whole =
          append_assoc (header (length v) f.word) (v ++ take p (drop n b)) (drop p (drop n b))
          ∙ ap (λ t. header (length v) f.word ++ t) (append_assoc v (take p (drop n b)) (drop p (drop n b)))
          ∙ ap (λ (t : List ℕ). header (length v) f.word ++ (v ++ t)) (take-append-drop p (drop n b) ∙ following) ∙ sym fr.parts;
    }

module _ (Made : List ℕ → Data → Option (List ℕ)) (One : List ℕ → PaddedFrame → Data) (has : Bool)
    (kinds : (k : List ℕ) (c : PaddedFrame) → Stands c → kind_named has (One k c) ≡ kind_in has c) where
  tail_under : (k b : List ℕ) → IsBytes b → each_under Made has k (tail_shown b) ≡ Some b
  tail_under k [] h = refl
  tail_under k (x ∷ b) h =
      let d = raw (x ∷ b) in
      let later = unwrap_or (kind_named has d) k in
      joined_made (or_raw (raw_of d) (Made later d)) (Some []) (x ∷ b) [] (x ∷ b) (ap (λ o. or_raw o (Made later d)) (raw_of-raw (x ∷ b) h)) refl
      (append-nil (x ∷ b))

  module _ (ones : (k : List ℕ) (c : PaddedFrame) → Stands c → or_raw (raw_of (One k c)) (Made k (One k c)) ≡ Some (frame_bytes c)) where
    pub frames_again : (n : ℕ) (k b : List ℕ) → IsBytes b → each_under Made has k (frames One has n k b) ≡ Some b
    frames_again zero k b h = tail_under k b h
    frames_again (suc n) k b h =
        let c = frame_at (length_at b) b in
        let after = after_first b in
        cond_both (nat_le 4 (length_at b) && nat_le (length_at b) (length b)) (Some c) None
        (λ o. each_under Made has k (first_or_tail One has k b (λ j. frames One has n j after) o) ≡ Some b)
        (λ e.
        let s = in_front b h e in
        let j = unwrap_or (kind_in has c) k in
        let d = One j c in
        let ds = frames One has n j after in
        ap (λ o. joined (or_raw (raw_of d) (Made (unwrap_or o k) d)) (each_under Made has (unwrap_or o k) ds)) (kinds j c s.stands)
        ∙ joined_made (or_raw (raw_of d) (Made j d)) (each_under Made has j ds) (frame_bytes c) after b (ones j c s.stands)
        (frames_again n j after (IsBytes-drop (padding (length_at b)) (drop (length_at b) b) (IsBytes-drop (length_at b) b h))) s.whole)
        (λ e. tail_under k b h)

-- the own kind is the same before and after
module _ (One : List ℕ → PaddedFrame → Data) (kinds : (k : List ℕ) (c : PaddedFrame) → Stands c → kind_named true (One k c) ≡ kind_in true c) where
  own_tail : (b : List ℕ) → own_kind_named (tail_shown b) ≡ []
  own_tail [] = refl
  own_tail (x ∷ b) = refl

  pub own_again : (n : ℕ) (k b : List ℕ) → IsBytes b → own_kind_named (frames One false n k b) ≡ own_kind n b
  own_again zero k b h = own_tail b
  own_again (suc n) k b h =
      let c = frame_at (length_at b) b in
      let after = after_first b in
      cond_both (nat_le 4 (length_at b) && nat_le (length_at b) (length b)) (Some c) None
      (λ o. own_kind_named (first_or_tail One false k b (λ j. frames One false n j after) o) ≡ own_or o (own_kind n after))
      (λ e.
      let j = k in
      ap (λ o. unwrap_or o (own_kind_named (frames One false n j after))) (kinds j c (in_front b h e).stands)
      ∙ ap (unwrap_or (kind_in true c))
      (own_again n j after (IsBytes-drop (padding (length_at b)) (drop (length_at b) b) (IsBytes-drop (length_at b) b h))))
      (λ e. own_tail b)

-- ---- elements

module _ (table : Table) (Inner : Form → List ℕ → Data) (Made : Data → Option (List ℕ)) (f : Form)
    (again : (b : List ℕ) → IsBytes b → Made (Inner f b) ≡ Some b) where
  pub elements_again : (n w : ℕ) (b : List ℕ) → IsBytes b → each_made Made (elements Inner n f w b) ≡ Some b
  elements_again n w [] h = refl
  elements_again zero w (x ∷ b) h = joined_made (Made (Inner f (x ∷ b))) (Some []) (x ∷ b) [] (x ∷ b) (again (x ∷ b) h) refl (append-nil (x ∷ b))
  elements_again (suc n) w (x ∷ b) h =
      joined_made (Made (Inner f (take w (x ∷ b)))) (each_made Made (elements Inner n f w (drop w (x ∷ b)))) (take w (x ∷ b)) (drop w (x ∷ b)) (x ∷ b)
      (again (take w (x ∷ b)) (IsBytes-take w (x ∷ b) h)) (elements_again n w (drop w (x ∷ b)) (IsBytes-drop w (x ∷ b) h)) (take-append-drop w (x ∷ b))

  pub elements_of-again : (w : Option ℕ) (b : List ℕ) → IsBytes b → each_made Made (elements_of Inner f w b) ≡ Some b
  elements_of-again None b h = joined_made (Made (Inner f b)) (Some []) b [] b (again b h) refl (append-nil b)
  elements_of-again (Some w) b h = elements_again (length b) w b h
