-- The upgrade of a list, attribute by attribute.
use Rattle.std.proofs.Common.{◌≡◌, ◌==◌, ◌&&◌, ℕ, zero, suc, ◌+◌, ◌<◌, Bool, true, false, not, cond, refl, inl, inr, List, [], ◌∷◌, ◌++◌, length, map, take}
use Rattle.std.proofs.Common.{drop, get_or, slice_set, sym, ap, subst, ◌∙◌, add-one, arith}
use Rattle.nla_frames.specs.Place.{kind_then}
use Rattle.tc_canon.specs.Descriptor.{is_known}
use Rattle.tc_canon.specs.Tables.Options.{option_kinds}
use Rattle.std.proofs.lemmas.Bool.{and_parts}
use Rattle.nla_frames.specs.Frame.{type_of}
use Rattle.tc_meaning.specs.Tree.{Scalar, Attribute, known, kept, other, of_kind}
use Rattle.tc_meaning.specs.Message.{Message, kind_of_attribute}
use Rattle.tc_laws.specs.FirstVersion.{upgrade_attribute, upgrade_each, are_unknown_options, lone_option}
use Rattle.tc_laws.proofs.UpgradeLaws.{StaysOrChanges, stays_or_changes, changed-unknown}
use Rattle.tc_messages.specs.Upgrade.{UpgradesAs, KnownAfter, is_raw, is_lone, options_of, IsRead}

-- the attributes before a place are upgraded, and the others are left, after a kind that is known or not
pub record UpgradedSoFar (old new : List Attribute) (i : ℕ) (known_kind : Bool) : Type 0 where
  pub kind : List ℕ
  pub is_known_kind : known_kind ≡ is_known option_kinds kind
  pub left : upgrade_each [] old ≡ take i new ++ upgrade_each kind (drop i new)

-- the part of a list that is upgraded and the rest, if this is the kind after the former
abbrev whole : List ℕ → ℕ → List Attribute → List Attribute
whole kind i xs = take i xs ++ upgrade_each kind (drop i xs)

module _ {Y : Type 0} (see : Y → Attribute) (d y : Y) where
  -- the attribute at a place is upgraded, and put back there
  one_more : (kind : List ℕ) (list : List Y) (i : ℕ) → i < length list → see y ≡ upgrade_attribute kind (see (get_or list i d))
      → whole kind i (map see list) ≡ whole (kind_then kind_of_attribute kind (see (get_or list i d))) (suc i) (map see (slice_set list i y))
  one_more kind [] i less is = absurd (omega (arith, less))
  one_more kind (z ∷ list) zero less is = ap (λ (x : Attribute). x ∷ upgrade_each (kind_then kind_of_attribute kind (see z)) (map see list)) (sym is)
  one_more kind (z ∷ list) (suc i) less is = ap (λ (xs : List Attribute). see z ∷ xs) (one_more kind list i (omega (arith, less)) is)

  -- one step: it is upgraded under the kind so far, and the kind after it is known or not
  pub goes_on : (old : List Attribute) (list : List Y) (i : ℕ) (known_kind then : Bool) → UpgradedSoFar old (map see list) i known_kind → i < length list
      → UpgradesAs known_kind (see (get_or list i d)) (see y) → KnownAfter known_kind (kind_of_attribute (see (get_or list i d))) then
      → UpgradedSoFar old (map see (slice_set list i y)) (i + 1) then
  goes_on old list i known_kind then far less upgraded after =
      let next = kind_then kind_of_attribute far.kind (see (get_or list i d)) in
      let left = far.left ∙ one_more far.kind list i less (upgraded far.kind far.is_known_kind) in
      record {
        kind = next;
        is_known_kind = after far.kind far.is_known_kind;
        left = subst (λ (n : ℕ). upgrade_each [] old ≡ whole next n (map see (slice_set list i y))) (sym (add-one i)) left;
      }

-- a message of a header
abbrev pub with_body : List Scalar → List Attribute → Message
with_body header body = record { header = header; body = body }

-- ---- options

both_hold : (a b : Bool) → a ≡ true → false ≡ b → (a && not b) ≡ true
both_hold true false one two = refl
both_hold true true one two = absurd (cc two)
both_hold false b one two = absurd (cc one)

-- under a known kind all stay
pub stays_if_known : (known_kind : Bool) (x : Attribute) → known_kind ≡ true → UpgradesAs known_kind x x
stays_if_known known_kind x holds kind is = go (stays_or_changes kind x)
  where
    go : StaysOrChanges kind x → x ≡ upgrade_attribute kind x
    go (inl same) = sym same
    go (inr c) = let bad : true ≡ false = sym holds ∙ is ∙ (changed-unknown kind c.word c.unknown).1 in absurd (cc bad)

-- options that change are a single one
lone_from : (xs : List Attribute) (word : ℕ) (value : List ℕ) → options_of xs ≡ lone_option word value → is_lone xs ≡ (type_of word == 2)
lone_from [] word value same = absurd (cc same)
lone_from (x ∷ []) word value same = let is : x ≡ other word value = cc same in ap is_raw is
lone_from (x ∷ y ∷ xs) word value same = absurd (cc same)

-- others stay
pub stays_unless_lone : (xs : List Attribute) → is_lone xs ≡ false → UpgradesAs false (options_of xs) (options_of xs)
stays_unless_lone xs fails kind is = go (stays_or_changes kind (options_of xs))
  where
    go : StaysOrChanges kind (options_of xs) → options_of xs ≡ upgrade_attribute kind (options_of xs)
    go (inl same) = sym same
    go (inr c) =
        let two = (and_parts (type_of c.word == 2) (not (is_known option_kinds kind)) c.unknown).0 in
        let bad : true ≡ false = sym two ∙ sym (lone_from xs c.word c.value c.was) ∙ fails in
        absurd (cc bad)

-- of a single one, the last is that one
pub lone_popped : {Y : Type 0} (see : Y → Attribute) (rest : List Y) (y : Y) → is_lone (map see (rest ++ y ∷ [])) ≡ true
    → (map see (rest ++ y ∷ []) ≡ see y ∷ []) × (is_raw (see y) ≡ true)
lone_popped see [] y is = (refl, is)
lone_popped see (z ∷ []) y is = absurd (cc is)
lone_popped see (z ∷ w ∷ rest) y is = absurd (cc is)

-- and it becomes raw options
pub raw_upgraded : (x : Attribute) (word : ℕ) (value : List ℕ) → x ≡ other word value → is_raw x ≡ true
    → UpgradesAs false (options_of (x ∷ [])) (kept 2 word value)
raw_upgraded x word value same raw kind unknown =
    let two : (type_of word == 2) ≡ true = sym (ap is_raw same) ∙ raw in
    let changed : are_unknown_options kind word ≡ true = both_hold (type_of word == 2) (is_known option_kinds kind) two unknown in
    sym (ap (λ (y : Attribute). upgrade_attribute kind (options_of (y ∷ []))) same
    ∙ ap (λ (b : Bool). cond b (kept 2 word value) (lone_option word value)) changed)

-- a list of one, by its first
pub lone_first : {Y : Type 0} (see : Y → Attribute) (ys : List Y) (y : Y) → length ys ≡ 1 → y ≡ get_or ys 0 y → is_raw (see y) ≡ is_lone (map see ys)
lone_first see [] y one first = absurd (cc one)
lone_first see (x ∷ []) y one first = ap (λ (z : _). is_raw (see z)) first
lone_first see (x ∷ z ∷ ys) y one first = absurd (cc one)

-- none or several aren't a single one
pub none_alone : {Y : Type 0} (see : Y → Attribute) (ys : List Y) → (length ys ≡ 1 → ⊥) → false ≡ is_lone (map see ys)
none_alone see [] many = refl
none_alone see (y ∷ []) many = absurd (many refl)
none_alone see (y ∷ z ∷ ys) many = refl

-- raw options are unchanged
pub raw_unread : (x : Attribute) → is_raw x ≡ true → IsRead x → ⊥
raw_unread (other word value) raw is_read = is_read word value refl
raw_unread (known n content) raw is_read = cc raw
raw_unread (kept n word value) raw is_read = cc raw
raw_unread (of_kind name x) raw is_read = cc raw
