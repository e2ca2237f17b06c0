-- Each nested payload satisfies `IsInner`: its own methods agree with its class.
use Rattle.std.proofs.Common.{◌≡◌, ℕ, List, refl, arith}
use Rattle.nla_frames.specs.Codec.{Codec}
use Rattle.nla_frames.specs.Emission.{list_bytes}
use Rattle.tc_canon.specs.Descriptor.{Class, Table}
use Rattle.tc_meaning.specs.Tree.{Attribute}
use Rattle.tc_meaning.specs.Content.{Shape, via}
use Rattle.tc_meaning.specs.Meaning.{class_codec}
use Rattle.tc_meaning.proofs.Trees.{attributes_again}
use Rattle.tc_values.specs.Inner.{Inner, IsInner}
use Rattle.tc_values.specs.Bodies.{nothing, items_of, part_of, either}
use Rattle.tc_values.specs.declared.body.Either.TheVariants.{Left, Right}

pub is_nothing : IsInner nothing
unfolding list_bytes
is_nothing = record {
  bytes = λ n. refl;
  fits = λ n. (λ _. (record { each = tt; whole = omega arith }, omega arith), λ _. tt);
  typed = λ n _. (refl, tt);
  settled = λ kind n. (λ s. s, λ s. s);
}

pub are_items : {T : Type 0} (see : T → Attribute) (t : Table) → IsInner (items_of see t)
are_items see t = record {
  bytes = λ xs. rw attributes_again refl;
  fits = λ xs. rw attributes_again (λ f. f, λ f. f);
  typed = λ xs typed. rw attributes_again (refl, typed);
  settled = λ kind xs. rw attributes_again (λ s. s, λ s. s);
}

pub is_part : {R X : Type 0} (see : R → X) (shape : Shape X) (codec : Codec (List ℕ) X) (class : Class) → class_codec class ≡ via shape codec
    → ((x : X) → shape.out (shape.into x) ≡ x) → IsInner (part_of see shape codec class)
is_part see shape codec class is again = record {
  bytes = λ r. rw (is, again) refl;
  fits = λ r. rw (is, again) (λ f. f, λ f. f);
  typed = λ r typed. rw (is, again) (refl, typed);
  settled = λ kind r. rw (is, again) (λ s. s, λ s. s);
}

pub is_either : {L R : Type 0} (left : Inner L) (right : Inner R) → IsInner left → IsInner right → IsInner (either left right)
is_either left right is_left is_right = record {
  bytes = elim [ Left n ↦ is_left.bytes n | Right n ↦ is_right.bytes n ];
  fits = elim [ Left n ↦ is_left.fits n | Right n ↦ is_right.fits n ];
  typed = elim [ Left n ↦ is_left.typed n | Right n ↦ is_right.typed n ];
  settled = λ kind. elim [ Left n ↦ is_left.settled kind n | Right n ↦ is_right.settled kind n ];
}
