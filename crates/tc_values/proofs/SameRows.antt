-- `same_row` compares abstract values: true if and only if the two attributes are equal.
use Rattle.std.proofs.Common.{◌≡◌, ◌&&◌, ℕ, Bool, true, false, List, Some, refl, sym, ap, subst, ◌∙◌, nat_eq}
use Rattle.std.specs.Ordering.{on}
use Rattle.std.specs.Cmp.{unsigned_Decides}
use Rattle.std.specs.Cmp.Lexicographic.{pointwise}
use Rattle.nla_frames.specs.Frame.{type_of}
use Rattle.nla_frames.specs.Codec.{Codec}
use Rattle.tc_canon.specs.Descriptor.{Class, Table, Rows}
use Rattle.tc_meaning.specs.Tree.{Attribute, Content, number, flag, is_bytes, known, other}
use Rattle.tc_meaning.specs.Content.{Shape}
use Rattle.tc_meaning.specs.Equal.{same_attribute, same_content, same_each}
use Rattle.tc_values.specs.Inner.{Inner}
use Rattle.tc_values.specs.Bodies.{nothing, items_of, part_of, either, same_of_either}
use Rattle.tc_values.specs.Row.{written_at, attribute_of, IsRow}
use Rattle.tc_values.specs.Same.{Holding, a_flag, a_number, some_bytes, bytes_kept, what_is_nested, holding, same_holding, same_value, is_plain, IsSame}
use Rattle.tc_values.specs.Value.{value_class, value_content}
use Rattle.tc_values.specs.declared.body.Items.{Items}
use Rattle.tc_values.specs.declared.body.Either.{Either}
use Rattle.tc_values.specs.declared.body.Either.TheVariants.{Left, Right}
use Rattle.tc_values.specs.declared.value.Value.{Value}
use Rattle.tc_values.specs.declared.value.Value.TheVariants.{Presence, Truth, U8, U16, U32, U16Be, U32Be, Bits1, Bits3, Bits20, Octets4, Octets6, Octets8}
use Rattle.tc_values.specs.declared.value.Value.TheVariants.{Octets16, Bytes, Text, Warning, Kept, Nested}
use Rattle.tc_values.proofs.Rows.{some_pair}

-- ---- nested payloads

pub same_nothing : IsSame nothing (λ _ _. true)
same_nothing = record { tells = λ m n e. refl; nested = λ n. refl }

abbrev pub same_list : {T : Type 0} → (T → Attribute) → Items T → Items T → Bool
same_list see xs ys = pointwise (on see same_attribute) xs.0.now ys.0.now

pub same_items : {T : Type 0} (see : T → Attribute) (t : Table) → IsSame (items_of see t) (same_list see)
same_items see t = record { tells = λ xs ys e. same_each see xs.0.now ys.0.now; nested = λ xs. refl }

pub same_part : {R X : Type 0} (see : R → X) (shape : Shape X) (codec : Codec (List ℕ) X) (class : Class) (same : R → R → Bool)
    → is_plain class ≡ false → ((r s : R) → same r s ≡ same_content (shape.into (see r)) (shape.into (see s)))
    → IsSame (part_of see shape codec class) (λ r s. same r.0.now s.0.now)
same_part see shape codec class same unplain tells = record { tells = λ r s e. tells r.0.now s.0.now; nested = λ r. unplain }

pub same_either : {L R : Type 0} {left : Inner L} {right : Inner R} {same_left : L → L → Bool} {same_right : R → R → Bool}
    → ((l : L) (r : R) → left.class l ≡ right.class r → ⊥) → IsSame left same_left → IsSame right same_right
    → IsSame (either left right) (same_of_either same_left same_right)
same_either {L = L} {R = R} {left = left} {right = right} {same_left = same_left} {same_right = same_right} apart is_left is_right = record {
  tells = tells;
  nested = elim [ Left n ↦ is_left.nested n | Right n ↦ is_right.nested n ];
}
  where
    tells : (m n : Either L R) → (either left right).class m ≡ (either left right).class n
        → same_of_either same_left same_right m n ≡ same_content ((either left right).content m) ((either left right).content n)
    tells (Left m) (Left n) e = is_left.tells m n e
    tells (Right m) (Right n) e = is_right.tells m n e
    tells (Left m) (Right n) e = absurd (apart m n e)
    tells (Right m) (Left n) e = absurd (apart n m (sym e))

-- ---- values

and_false : (b : Bool) → (b && false) ≡ false
and_false true = refl
and_false false = refl

module _ {N : Type 0} (inner : Inner N) (same : N → N → Bool) (is : IsSame inner same) where
  -- the content of a holding
  abbrev content_held : Holding N → Content
  content_held (a_flag b) = flag b
  content_held (a_number n) = number n
  content_held (some_bytes v) = is_bytes v
  content_held (bytes_kept v) = is_bytes v
  content_held (what_is_nested n) = inner.content n

  -- the class of a nested payload
  abbrev class_held : Holding N → Class → Class
  class_held (what_is_nested n) class = inner.class n
  class_held h class = class

  abbrev is_held_plain : Holding N → Bool
  is_held_plain (what_is_nested n) = false
  is_held_plain h = true

  abbrev is_held_kept : Holding N → Bool
  is_held_kept (bytes_kept v) = true
  is_held_kept h = false

  -- a holding of a value that isn't raw, in its class
  record IsHeld (h : Holding N) (class : Class) : Type 0 where
    pub nested : class ≡ class_held h class
    pub plain : is_plain class ≡ is_held_plain h
    pub unkept : is_held_kept h ≡ false

  held_same : (h k : Holding N) (class : Class) → IsHeld h class → IsHeld k class → same_holding same h k ≡ same_content (content_held h) (content_held k)
  held_same (bytes_kept v) k class a b = absurd (cc a.unkept)
  held_same h (bytes_kept v) class a b = absurd (cc b.unkept)
  held_same (what_is_nested m) (what_is_nested n) class a b = is.tells m n (sym a.nested ∙ b.nested)
  held_same (what_is_nested m) k class a b = absurd (cc (sym a.plain ∙ b.plain))
  held_same h (what_is_nested n) class a b = absurd (cc (sym b.plain ∙ a.plain))
  held_same h k class a b = refl

  unlike_kept : (v : List ℕ) (h : Holding N) → is_held_kept h ≡ false
      → (same_holding same (bytes_kept v) h ≡ false) × (same_holding same h (bytes_kept v) ≡ false)
  unlike_kept v (bytes_kept w) e = absurd (cc e)
  unlike_kept v h e = (refl, refl)

  -- a value that isn't raw, as an attribute
  record IsTyped (v : Value N) : Type 0 where
    pub seen : (word : ℕ) → attribute_of inner word v ≡ known (type_of word) (value_content inner v)
    pub row : (rows : Rows) (word : ℕ) → IsRow inner rows word v → written_at rows (type_of word) ≡ Some (word, value_class inner v)
    pub content : value_content inner v ≡ content_held (holding v)
    pub held : IsHeld (holding v) (value_class inner v)

  data Form (v : Value N) : Type 0 where
    as_kept : (w : List ℕ) → holding v ≡ bytes_kept w → ((word : ℕ) → attribute_of inner word v ≡ other word w) → Form v
    as_typed : IsTyped v → Form v

  typed : (v : Value N) → ((word : ℕ) → attribute_of inner word v ≡ known (type_of word) (value_content inner v))
      → ((rows : Rows) (word : ℕ) → IsRow inner rows word v → written_at rows (type_of word) ≡ Some (word, value_class inner v))
      → value_content inner v ≡ content_held (holding v) → IsHeld (holding v) (value_class inner v) → Form v
  typed v seen row content held = as_typed (record { seen = seen; row = row; content = content; held = held })

  form : (v : Value N) → Form v
  form (Kept v) = as_kept v.now refl (λ word. refl)
  form (Nested n) = typed (Nested n) (λ word. refl) (λ rows word e. e) refl (record { nested = refl; plain = is.nested n; unkept = refl })
  form (Presence b) = typed (Presence b) (λ word. refl) (λ rows word e. e) refl (record { nested = refl; plain = refl; unkept = refl })
  form (Truth b) = typed (Truth b) (λ word. refl) (λ rows word e. e) refl (record { nested = refl; plain = refl; unkept = refl })
  form (U8 n) = typed (U8 n) (λ word. refl) (λ rows word e. e) refl (record { nested = refl; plain = refl; unkept = refl })
  form (U16 n) = typed (U16 n) (λ word. refl) (λ rows word e. e) refl (record { nested = refl; plain = refl; unkept = refl })
  form (U32 n) = typed (U32 n) (λ word. refl) (λ rows word e. e) refl (record { nested = refl; plain = refl; unkept = refl })
  form (U16Be n) = typed (U16Be n) (λ word. refl) (λ rows word e. e) refl (record { nested = refl; plain = refl; unkept = refl })
  form (U32Be n) = typed (U32Be n) (λ word. refl) (λ rows word e. e) refl (record { nested = refl; plain = refl; unkept = refl })
  form (Bits1 n) = typed (Bits1 n) (λ word. refl) (λ rows word e. e) refl (record { nested = refl; plain = refl; unkept = refl })
  form (Bits3 n) = typed (Bits3 n) (λ word. refl) (λ rows word e. e) refl (record { nested = refl; plain = refl; unkept = refl })
  form (Bits20 n) = typed (Bits20 n) (λ word. refl) (λ rows word e. e) refl (record { nested = refl; plain = refl; unkept = refl })
  form (Octets4 v) = typed (Octets4 v) (λ word. refl) (λ rows word e. e) refl (record { nested = refl; plain = refl; unkept = refl })
  form (Octets6 v) = typed (Octets6 v) (λ word. refl) (λ rows word e. e) refl (record { nested = refl; plain = refl; unkept = refl })
  form (Octets8 v) = typed (Octets8 v) (λ word. refl) (λ rows word e. e) refl (record { nested = refl; plain = refl; unkept = refl })
  form (Octets16 v) = typed (Octets16 v) (λ word. refl) (λ rows word e. e) refl (record { nested = refl; plain = refl; unkept = refl })
  form (Bytes v) = typed (Bytes v) (λ word. refl) (λ rows word e. e) refl (record { nested = refl; plain = refl; unkept = refl })
  form (Text t) = typed (Text t) (λ word. refl) (λ rows word e. e) refl (record { nested = refl; plain = refl; unkept = refl })
  form (Warning t) = typed (Warning t) (λ word. refl) (λ rows word e. e) refl (record { nested = refl; plain = refl; unkept = refl })

  -- two values that both have a row in the table
  module _ (rows : Rows) (word another : ℕ) (v w : Value N) where
    one_row : IsTyped v → IsTyped w → IsRow inner rows word v → IsRow inner rows another w → type_of word ≡ type_of another
        → (word ≡ another) × (value_class inner v ≡ value_class inner w)
    one_row t u row row' e = some_pair (sym (t.row rows word row) ∙ ap (written_at rows) e ∙ u.row rows another row')

    typed_same : IsTyped v → IsTyped w → IsRow inner rows word v → IsRow inner rows another w
        → (nat_eq word another && same_value same v w)
        ≡ (nat_eq (type_of word) (type_of another) && same_content (value_content inner v) (value_content inner w))
    typed_same t u row row' = by_word (nat_eq word another) refl
      where
        rest : Bool
        rest = same_content (value_content inner v) (value_content inner w)

        by_word : (b : Bool) → nat_eq word another ≡ b → (b && same_value same v w) ≡ (nat_eq (type_of word) (type_of another) && rest)
        by_word true e =
            let types = ap type_of ((unsigned_Decides word another).0 e) in
            let class = (one_row t u row row' types).1 in
            let held = held_same (holding v) (holding w) (value_class inner v) t.held (subst (IsHeld (holding w)) (sym class) u.held) in
            held ∙ (λ i. same_content (sym t.content i) (sym u.content i))
            ∙ ap (λ b. b && rest) (sym ((unsigned_Decides (type_of word) (type_of another)).1 types))
        by_word false e = by_type (nat_eq (type_of word) (type_of another)) refl
          where
            by_type : (b : Bool) → nat_eq (type_of word) (type_of another) ≡ b → false ≡ (b && rest)
            by_type true types =
                let same_word = (one_row t u row row' ((unsigned_Decides (type_of word) (type_of another)).0 types)).0 in
                absurd (cc (sym e ∙ (unsigned_Decides word another).1 same_word))
            by_type false types = refl

    pub same_rows : IsRow inner rows word v → IsRow inner rows another w
        → (nat_eq word another && same_value same v w) ≡ same_attribute (attribute_of inner word v) (attribute_of inner another w)
    same_rows row row' = go (form v) (form w)
      where
        answer : Bool
        answer = nat_eq word another && same_value same v w

        seen_as : (x y : Attribute) → attribute_of inner word v ≡ x → attribute_of inner another w ≡ y → answer ≡ same_attribute x y
            → answer ≡ same_attribute (attribute_of inner word v) (attribute_of inner another w)
        seen_as x y e f same = same ∙ (λ i. same_attribute (sym e i) (sym f i))

        never : (h k : Holding N) → holding v ≡ h → holding w ≡ k → same_holding same h k ≡ false → answer ≡ false
        never h k e f apart = ap (λ b. nat_eq word another && b) ((λ i. same_holding same (e i) (f i)) ∙ apart) ∙ and_false (nat_eq word another)

        go : Form v → Form w → answer ≡ same_attribute (attribute_of inner word v) (attribute_of inner another w)
        go (as_kept x held seen) (as_kept y held' seen') =
            seen_as (other word x) (other another y) (seen word) (seen' another) (λ i. nat_eq word another && same_holding same (held i) (held' i))
        go (as_kept x held seen) (as_typed u) =
            seen_as (other word x) (known (type_of another) (value_content inner w)) (seen word) (u.seen another)
            (never (bytes_kept x) (holding w) held refl (unlike_kept x (holding w) u.held.unkept).0)
        go (as_typed t) (as_kept y held' seen') =
            seen_as (known (type_of word) (value_content inner v)) (other another y) (t.seen word) (seen' another)
            (never (holding v) (bytes_kept y) refl held' (unlike_kept y (holding v) t.held.unkept).1)
        go (as_typed t) (as_typed u) =
            seen_as (known (type_of word) (value_content inner v)) (known (type_of another) (value_content inner w)) (t.seen word) (u.seen another)
            (typed_same t u row row')

-- comparing words and values is comparing attributes
pub same_shown : {N : Type 0} {inner : Inner N} {same : N → N → Bool} → IsSame inner same → (rows : Rows)
    → (word another : ℕ) (v w : Value N) {x y : Attribute} {b : Bool}
    → x ≡ attribute_of inner word v → IsRow inner rows word v → y ≡ attribute_of inner another w → IsRow inner rows another w
    → b ≡ (nat_eq word another && same_value same v w) → b ≡ same_attribute x y
same_shown {inner = inner} {same = same} is rows word another v w seen row seen' row' e =
    e ∙ same_rows inner same is rows word another v w row row' ∙ (λ i. same_attribute (sym seen i) (sym seen' i))
