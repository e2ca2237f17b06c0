-- The abstract value of a nested payload: a list, a record or statistics.
use Rattle.std.specs.Prelude.{◌≡◌, ◌↔◌, ℕ, List}
use Rattle.tc_canon.specs.Descriptor.{Class}
use Rattle.tc_meaning.specs.Tree.{Content}
use Rattle.tc_meaning.specs.Meaning.{class_codec, IsShort}

pub record Inner (N : Type 0) : Type 1 where
  -- the class in its table, and the content
  pub class : N → Class
  pub content : N → Content
  -- what its own methods return
  pub bytes : N → List ℕ
  pub Fits : N → Type 0
  pub Typed : N → Type 0
  pub Settled : List ℕ → N → Type 0

-- its methods agree with its class
pub record IsInner {N : Type 0} (inner : Inner N) : Type 0 where
  pub bytes : (n : N) → (class_codec (inner.class n)).write (inner.content n) ≡ inner.bytes n
  pub fits : (n : N) → inner.Fits n ↔ ((class_codec (inner.class n)).Fits (inner.content n) × IsShort ((class_codec (inner.class n)).write (inner.content n)))
  pub typed : (n : N) → inner.Typed n → (class_codec (inner.class n)).Typed (inner.content n)
  pub settled : (kind : List ℕ) (n : N) → inner.Settled kind n ↔ (class_codec (inner.class n)).Settled kind (inner.content n)
