-- The upgrade of one attribute, of a list and of a message, and both readings of the same bytes.
use Rattle.std.proofs.Common.{◌≡◌, ◌⊎◌, ◌↔◌, ℕ, zero, suc, ◌≤◌, Bool, true, false, not, List, [], ◌∷◌, ◌++◌, length, take, slice_get, Some, Ok, Err, cond, eqb}
use Rattle.std.proofs.Common.{refl, sym, ap, ap₂, subst, ◌∙◌, arith, inl, inr}
use Rattle.std.proofs.lemmas.Bool.{and_parts, eqb-true, not-true}
use Rattle.std.proofs.lemmas.List.{length-append, append-nil}
use Rattle.std.specs.List.{AllByRecursion}
use Rattle.nla_frames.specs.Fault.{Outcome, seen, read_as, ◌>>=◌}
use Rattle.nla_frames.specs.Frame.{Frame, type_of, frame_bytes}
use Rattle.nla_frames.specs.Place.{kind_then}
use Rattle.nla_frames.specs.Reading.{keep, before, read_each, read_list}
use Rattle.nla_frames.specs.Cutting.{cut, items_of}
use Rattle.nla_frames.specs.Emission.{list_bytes}
use Rattle.nla_frames.specs.Codec.{Codec, list_codec, SettledEach}
use Rattle.nla_frames.proofs.ListLaws.{kind_then-same}
use Rattle.nla_frames.proofs.Places.{kind_after, kind_after-InForce, InForce-kind_after}
use Rattle.nla_frames.proofs.FrameBytes.{length_frame_bytes}
use Rattle.tc_canon.specs.Descriptor.{table, is_known}
use Rattle.tc_canon.specs.Tables.Messages.{attributes}
use Rattle.tc_canon.specs.Tables.Options.{option_kinds}
use Rattle.tc_meaning.specs.Tree.{Scalar, items, Attribute, known, kept, other, none, and, number_of}
use Rattle.tc_meaning.specs.Own.{kind_of_frame, kind_of_attribute}
use Rattle.tc_meaning.specs.Content.{via}
use Rattle.tc_meaning.specs.Meaning.{a_list, table_codec, rows_codec, kinds_codec}
use Rattle.tc_meaning.specs.Message.{Message}
use Rattle.tc_meaning.specs.Whole.{TypedTc, FitsTc, SettledTc}
use Rattle.tc_laws.specs.FirstVersion.{are_unknown_options, lone_option, read_attribute1, upgrade_attribute, upgrade_each, upgrade, WasRead, IsUpgrade}
use Rattle.tc_meaning.proofs.Outcomes.{ok-same}
use Rattle.tc_meaning.proofs.TableLaws.{rows_laws}
use Rattle.tc_meaning.proofs.MessageTheorems.{attributes_read_kinds}

-- an attribute of a message, as it is read and written now
abbrev pub attribute : Codec Frame Attribute
attribute = table_codec (table attributes)

-- ---- one attribute

-- an attribute that the upgrade changes
pub record IsChanged (kind : List ℕ) (x : Attribute) : Type 0 where
  pub word : ℕ
  pub value : List ℕ
  pub unknown : are_unknown_options kind word ≡ true
  pub was : x ≡ lone_option word value
  pub is : upgrade_attribute kind x ≡ kept 2 word value

abbrev pub StaysOrChanges : List ℕ → Attribute → Type 0
StaysOrChanges kind x = (upgrade_attribute kind x ≡ x) ⊎ IsChanged kind x

-- every other stays
pub stays_or_changes : (kind : List ℕ) (x : Attribute) → StaysOrChanges kind x
stays_or_changes kind (known (suc (suc zero)) (items (and (other word value) none))) = go (are_unknown_options kind word) refl
  where
    go : (b : Bool) → are_unknown_options kind word ≡ b → StaysOrChanges kind (lone_option word value)
    go true is =
        let changed = ap (λ (b : Bool). cond b (kept 2 word value) (lone_option word value)) is in
        inr (record { word = word; value = value; unknown = is; was = refl; is = changed })
    go false is = inl (ap (λ (b : Bool). cond b (kept 2 word value) (lone_option word value)) is)
stays_or_changes kind x = inl refl

-- the kind of what is changed has no table
pub changed-unknown : (kind : List ℕ) (word : ℕ) → are_unknown_options kind word ≡ true → (type_of word ≡ 2) × (is_known option_kinds kind ≡ false)
changed-unknown kind word is =
    let p = and_parts (eqb (type_of word) 2) (not (is_known option_kinds kind)) is in
    (eqb-true (type_of word) 2 p.0, not-true (is_known option_kinds kind) p.1)

-- the upgrade of an upgrade
pub upgrade-twice : (kind : List ℕ) (x : Attribute) → upgrade_attribute kind (upgrade_attribute kind x) ≡ upgrade_attribute kind x
upgrade-twice kind x = go (stays_or_changes kind x)
  where
    go : StaysOrChanges kind x → upgrade_attribute kind (upgrade_attribute kind x) ≡ upgrade_attribute kind x
    go (inl same) = ap (upgrade_attribute kind) same
    go (inr c) = ap (upgrade_attribute kind) c.is ∙ sym c.is

-- sets the same kind
pub upgrade-sets : (kind : List ℕ) (x : Attribute) → kind_of_attribute (upgrade_attribute kind x) ≡ kind_of_attribute x
upgrade-sets kind x = go (stays_or_changes kind x)
  where
    go : StaysOrChanges kind x → kind_of_attribute (upgrade_attribute kind x) ≡ kind_of_attribute x
    go (inl same) = ap kind_of_attribute same
    go (inr c) = ap kind_of_attribute c.is ∙ sym (ap kind_of_attribute c.was)

-- is typed
pub upgrade-typed : (kind : List ℕ) (x : Attribute) → attribute.Typed x → attribute.Typed (upgrade_attribute kind x)
upgrade-typed kind x t = go (stays_or_changes kind x)
  where
    go : StaysOrChanges kind x → attribute.Typed (upgrade_attribute kind x)
    go (inl same) = subst attribute.Typed (sym same) t
    go (inr c) = let was = subst attribute.Typed c.was t in subst attribute.Typed (sym c.is) (refl, was.1.1.0)

-- fits
pub upgrade-fits : (kind : List ℕ) (x : Attribute) → attribute.Fits x → attribute.Fits (upgrade_attribute kind x)
upgrade-fits kind x f = go (stays_or_changes kind x)
  where
    go : StaysOrChanges kind x → attribute.Fits (upgrade_attribute kind x)
    go (inl same) = subst attribute.Fits (sym same) f
    go (inr c) = let was = subst attribute.Fits c.was f in subst attribute.Fits (sym c.is) was.0.each.0

-- takes no more bytes
abbrev frame_size : Attribute → ℕ
frame_size x = length (frame_bytes (attribute.write x))

-- one more frame round a value
size-llone_option : (word : ℕ) (value : List ℕ) → frame_size (kept 2 word value) ≤ frame_size (lone_option word value)
unfolding list_bytes
size-llone_option word value =
    let inner : Frame = record { word = word; value = value } in
    let outer : Frame = record { word = 2; value = frame_bytes inner } in
    let long : length (frame_bytes inner) ≤ length (frame_bytes outer) = omega (arith, length_frame_bytes outer) in
    rw (append-nil (frame_bytes inner)) long

pub upgrade-size : (kind : List ℕ) (x : Attribute) → frame_size (upgrade_attribute kind x) ≤ frame_size x
upgrade-size kind x = go (stays_or_changes kind x)
  where
    go : StaysOrChanges kind x → frame_size (upgrade_attribute kind x) ≤ frame_size x
    go (inl same) = let e = ap frame_size same in omega arith
    go (inr c) = let a = ap frame_size c.is in let b = ap frame_size c.was in let s = size-llone_option c.word c.value in omega arith

-- is itself where it is settled
pub upgrade-settled : (kind : List ℕ) (x : Attribute) → attribute.Settled kind x → upgrade_attribute kind x ≡ x
upgrade-settled kind x s = go (stays_or_changes kind x)
  where
    go : StaysOrChanges kind x → upgrade_attribute kind x ≡ x
    go (inl same) = same
    go (inr c) =
        let was = subst (attribute.Settled kind) c.was s in
        let un = (changed-unknown kind c.word c.unknown).1 in
        let is = was.0 in
        absurd (cc (un, is))

-- ---- the two readings of one attribute

-- what is read of options
read-options : (kind : List ℕ) (f : Frame) → type_of f.word ≡ 2
    → attribute.read kind f
    ≡ cond (is_known option_kinds kind) (seen (known 2) ((via a_list (list_codec keep keep (kinds_codec option_kinds))).read kind f.value))
    (read_as (kept 2 f.word f.value))
read-options kind f e = ap (λ (n : ℕ). (rows_codec attributes n).read kind f) e

-- under an unknown kind
read-unknown : (kind : List ℕ) (f : Frame) → are_unknown_options kind f.word ≡ true → attribute.read kind f ≡ read_as (kept 2 f.word f.value)
read-unknown kind f is =
    let u = changed-unknown kind f.word is in
    read-options kind f u.0 ∙ rw u.1 refl

-- an attribute that was read has the type of its frame
number-read : (kind : List ℕ) (f : Frame) (x : Attribute) → attribute.read kind f ≡ Ok x → number_of x ≡ type_of f.word
number-read kind f x e = (rows_laws attributes refl (type_of f.word)).numbered kind f x refl e

-- what is read now is its own upgrade
pub upgrade-read : (kind : List ℕ) (f : Frame) (x : Attribute) → attribute.read kind f ≡ Ok x → upgrade_attribute kind x ≡ x
upgrade-read kind f x e = go (stays_or_changes kind x)
  where
    go : StaysOrChanges kind x → upgrade_attribute kind x ≡ x
    go (inl same) = same
    go (inr c) =
        let two : type_of f.word ≡ 2 = sym (number-read kind f x e) ∙ ap number_of c.was in
        let un = (changed-unknown kind c.word c.unknown).1 in
        let other_way : read_as (kept 2 f.word f.value) ≡ read_as x = sym (read-options kind f two ∙ rw un refl) ∙ e in
        let same = ok-same (kept 2 f.word f.value) x other_way ∙ c.was in
        absurd (cc same)

-- an outcome that is seen as itself
seen-itself : {X : Type 0} (see : X → X) (r : Outcome X) → ((x : X) → r ≡ Ok x → see x ≡ x) → seen see r ≡ r
seen-itself see (Ok x) same = ap (λ y. read_as y) (same x refl)
seen-itself see (Err d) same = refl

-- what is read now is the upgrade of what version 1 reads
pub both-read : (kind : List ℕ) (f : Frame) → seen (upgrade_attribute kind) (read_attribute1 kind f) ≡ attribute.read kind f
both-read kind f = go (are_unknown_options kind f.word) refl
  where
    go : (b : Bool) → are_unknown_options kind f.word ≡ b
        → seen (upgrade_attribute kind) (cond b (read_as (lone_option f.word f.value)) (attribute.read kind f)) ≡ attribute.read kind f
    go true is =
        let here : upgrade_attribute kind (lone_option f.word f.value) ≡ kept 2 f.word f.value = rw is refl in
        ap (λ (y : Attribute). read_as y) here ∙ sym (read-unknown kind f is)
    go false is = seen-itself (upgrade_attribute kind) (attribute.read kind f) (upgrade-read kind f)

-- what is changed is what version 1 reads of a frame
pub stays-or-read : (kind : List ℕ) (x : Attribute) → (upgrade_attribute kind x ≡ x) ⊎ WasRead kind x
stays-or-read kind x = go (stays_or_changes kind x)
  where
    go : StaysOrChanges kind x → (upgrade_attribute kind x ≡ x) ⊎ WasRead kind x
    go (inl same) = inl same
    go (inr c) =
        let f : Frame = record { word = c.word; value = c.value } in
        let first : read_attribute1 kind f ≡ read_as (lone_option c.word c.value) = rw c.unknown refl in
        inr (record {
          frame = f;
          first = first ∙ ap (λ (y : Attribute). read_as y) (sym c.was);
          second = read-unknown kind f c.unknown ∙ ap (λ (y : Attribute). read_as y) (sym c.is);
        })

-- a frame and what version 1 reads of it set the same kind
pub first-agree : (kind : List ℕ) (f : Frame) (x : Attribute) → read_attribute1 kind f ≡ Ok x → kind_of_frame f ≡ kind_of_attribute x
first-agree kind f x e =
    let now : attribute.read kind f ≡ read_as (upgrade_attribute kind x) = sym (both-read kind f) ∙ ap (seen (upgrade_attribute kind)) e in
    attributes_read_kinds.agree kind f (upgrade_attribute kind x) now ∙ upgrade-sets kind x

-- ---- the attributes of a message

-- frames whose readings an upgrade makes of one another
then-upgraded : (kind : List ℕ) (f : Frame) (x : Attribute) (r : Outcome (List Attribute)) → kind_of_frame f ≡ kind_of_attribute x
    → before (upgrade_attribute kind x ∷ []) (seen (upgrade_each (kind_then kind_of_frame kind f)) r) ≡ seen (upgrade_each kind) (before (x ∷ []) r)
then-upgraded kind f x (Ok xs) e =
    let next = kind_then-same kind_of_frame kind_of_attribute kind f x e in
    ap (λ (k : List ℕ). read_as (upgrade_attribute kind x ∷ upgrade_each k xs)) next
then-upgraded kind f x (Err d) e = refl

-- a reading, and the others after it
steps-upgraded : (kind : List ℕ) (f : Frame) (r : Outcome Attribute) (others : Outcome (List Attribute))
    → ((x : Attribute) → r ≡ Ok x → kind_of_frame f ≡ kind_of_attribute x)
    → (seen (upgrade_attribute kind) r >>= λ y. before (y ∷ []) (seen (upgrade_each (kind_then kind_of_frame kind f)) others))
    ≡ seen (upgrade_each kind) (r >>= λ x. before (x ∷ []) others)
steps-upgraded kind f (Ok x) others agree = then-upgraded kind f x others (agree x refl)
steps-upgraded kind f (Err d) others agree = refl

-- what is read now of frames is the upgrade of what version 1 reads
each-both : (kind : List ℕ) (frames : List (Outcome Frame))
    → read_each attribute.read kind_of_frame kind frames ≡ seen (upgrade_each kind) (read_each read_attribute1 kind_of_frame kind frames)
unfolding read_each
each-both kind [] = refl
each-both kind (Err d ∷ frames) = refl
each-both kind (Ok f ∷ frames) =
    let next = kind_then kind_of_frame kind f in
    ap₂ (λ (r : Outcome Attribute) (others : Outcome (List Attribute)). r >>= λ y. before (y ∷ []) others) (sym (both-read kind f)) (each-both next frames)
    ∙ steps-upgraded kind f (read_attribute1 kind f) (read_each read_attribute1 kind_of_frame next frames) (first-agree kind f)

-- the same of a list
pub list-both : (kind bytes : List ℕ)
    → read_list attribute.read kind_of_frame kind bytes ≡ seen (upgrade_each kind) (read_list read_attribute1 kind_of_frame kind bytes)
unfolding read_list
list-both kind bytes = each-both kind (items_of (cut bytes))

-- the same in front of the same
in_front : {x y : Attribute} {xs ys : List Attribute} → x ≡ y → xs ≡ ys → ◌≡◌ {A = List Attribute} (x ∷ xs) (y ∷ ys)
in_front first others = ap₂ (λ (z : Attribute) (zs : List Attribute). z ∷ zs) first others

-- the upgrade of a list, twice
each-twice : (kind : List ℕ) (xs : List Attribute) → upgrade_each kind (upgrade_each kind xs) ≡ upgrade_each kind xs
each-twice kind [] = refl
each-twice kind (x ∷ xs) =
    let next = kind_then kind_of_attribute kind x in
    let same = kind_then-same kind_of_attribute kind_of_attribute kind (upgrade_attribute kind x) x (upgrade-sets kind x) in
    let others = ap (λ (k : List ℕ). upgrade_each k (upgrade_each next xs)) same ∙ each-twice next xs in
    in_front (upgrade-twice kind x) others

-- is typed
each-typed : (kind : List ℕ) (xs : List Attribute) → AllByRecursion attribute.Typed xs → AllByRecursion attribute.Typed (upgrade_each kind xs)
each-typed kind [] all = tt
each-typed kind (x ∷ xs) all = (upgrade-typed kind x all.0, each-typed (kind_then kind_of_attribute kind x) xs all.1)

-- fits
each-fits : (kind : List ℕ) (xs : List Attribute) → AllByRecursion attribute.Fits xs → AllByRecursion attribute.Fits (upgrade_each kind xs)
each-fits kind [] all = tt
each-fits kind (x ∷ xs) all = (upgrade-fits kind x all.0, each-fits (kind_then kind_of_attribute kind x) xs all.1)

-- takes no more bytes
each-size : (kind : List ℕ) (xs : List Attribute)
    → length (list_bytes attribute.write (upgrade_each kind xs)) ≤ length (list_bytes attribute.write xs)
unfolding list_bytes
each-size kind [] = omega arith
each-size kind (x ∷ xs) =
    let next = kind_then kind_of_attribute kind x in
    more _ _ _ _ (upgrade-size kind x) (each-size next xs)
  where
    more : (a b c d : List ℕ) → length a ≤ length b → length c ≤ length d → length (a ++ c) ≤ length (b ++ d)
    more a b c d first others = omega (arith, length-append a c, length-append b d)

-- is itself where it is settled
each-settled : (kind : List ℕ) (xs : List Attribute) → SettledEach attribute.Settled kind_of_attribute kind xs → upgrade_each kind xs ≡ xs
each-settled kind [] s = refl
each-settled kind (x ∷ xs) s = in_front (upgrade-settled kind x s.0) (each-settled (kind_then kind_of_attribute kind x) xs s.1)

-- is as long
length-upgrade_each : (kind : List ℕ) (xs : List Attribute) → length (upgrade_each kind xs) ≡ length xs
length-upgrade_each kind [] = refl
length-upgrade_each kind (x ∷ xs) = ap suc (length-upgrade_each (kind_then kind_of_attribute kind x) xs)

-- ---- place by place

-- at each place the upgrade under the kind that the attributes before it leave
abbrev AtEach : List ℕ → List Attribute → List Attribute → Type 0
AtEach kind xs ys =
    (i : ℕ) (x y : Attribute) → slice_get xs i ≡ Some x → slice_get ys i ≡ Some y
    → y ≡ upgrade_attribute (kind_after kind_of_attribute kind (take i xs)) x

at_each : (kind : List ℕ) (xs : List Attribute) → AtEach kind xs (upgrade_each kind xs)
at_each kind [] i x y e d = absurd cc
at_each kind (z ∷ xs) zero x y e d = let same : z ≡ x = cc in let here : upgrade_attribute kind z ≡ y = cc in sym here ∙ ap (upgrade_attribute kind) same
at_each kind (z ∷ xs) (suc i) x y e d = at_each (kind_then kind_of_attribute kind z) xs i x y e d

each_at : (kind : List ℕ) (xs ys : List Attribute) → length ys ≡ length xs → AtEach kind xs ys → upgrade_each kind xs ≡ ys
each_at kind [] [] as_many at = refl
each_at kind [] (y ∷ ys) as_many at = absurd (omega arith)
each_at kind (x ∷ xs) [] as_many at = absurd (omega arith)
each_at kind (x ∷ xs) (y ∷ ys) as_many at =
    in_front (sym (at 0 x y refl refl)) (each_at (kind_then kind_of_attribute kind x) xs ys (omega arith) (λ i a b e d. at (suc i) a b e d))

-- ---- messages

-- a message with these parts
parts_same : (m n : Message) → m.header ≡ n.header → m.body ≡ n.body → m ≡ n
parts_same m n h b = ap₂ (λ (header : List Scalar) (body : List Attribute). let k : Message = record { header = header; body = body } in k) h b

-- the upgrade is that of each attribute at its place
pub upgrade-places : (m n : Message) → (upgrade m ≡ n) ↔ IsUpgrade m n
upgrade-places m n = (λ e. subst (IsUpgrade m) e here, there)
  where
    here : IsUpgrade m (upgrade m)
    here = record {
      header = refl;
      as_many = length-upgrade_each [] m.body;
      each = λ i x y e d. record {
        kind = kind_after kind_of_attribute [] (take i m.body);
        in_force = InForce-kind_after kind_of_attribute [] (take i m.body);
        is_upgraded = at_each [] m.body i x y e d;
      };
    }

    there : IsUpgrade m n → upgrade m ≡ n
    there is = parts_same (upgrade m) n (sym is.header) (each_at [] m.body n.body is.as_many at)
      where
        at : AtEach [] m.body n.body
        at i x y e d =
            let place = is.each i x y e d in
            rw (kind_after-InForce kind_of_attribute [] (take i m.body) place.kind place.in_force) place.is_upgraded

pub upgrade-upgrade : (m : Message) → upgrade (upgrade m) ≡ upgrade m
upgrade-upgrade m = parts_same (upgrade (upgrade m)) (upgrade m) refl (each-twice [] m.body)

pub typed-upgrade : (m : Message) → TypedTc m → TypedTc (upgrade m)
typed-upgrade m t = record { header = t.header; body = each-typed [] m.body t.body }

pub fits-upgrade : (m : Message) → FitsTc m → FitsTc (upgrade m)
fits-upgrade m f =
    let size = each-size [] m.body in
    record {
      body = record { each = each-fits [] m.body f.body.each; whole = omega (arith, f.body.whole) };
      whole = omega (arith, f.whole);
    }

pub settled-upgrade : (m : Message) → SettledTc m → upgrade m ≡ m
settled-upgrade m s = parts_same (upgrade m) m refl (each-settled [] m.body s.body)
