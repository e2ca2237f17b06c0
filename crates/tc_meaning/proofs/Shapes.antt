-- The laws of a type's contents, and of values that have to be short, from the laws of the type.
use Rattle.std.proofs.Common.{◌≡◌, ◌↔◌, ℕ, List, Ok, sym, ap, ◌∙◌}
use Rattle.nla_frames.specs.Fault.{seen, read_as}
use Rattle.nla_frames.specs.Value.{IsBytes}
use Rattle.nla_frames.specs.Codec.{Codec, Laws, IsWireValue}
use Rattle.tc_meaning.specs.Tree.{Content}
use Rattle.tc_meaning.specs.Content.{Shape, via}
use Rattle.tc_meaning.specs.Meaning.{IsShort, short}
use Rattle.tc_meaning.proofs.Outcomes.{seen-ok, ok-seen}

-- the laws of short values
pub short_laws : {X : Type 0} (IsWire : List ℕ → Type 0) (c : Codec (List ℕ) X) (Canon : List ℕ → List ℕ → Type 0)
    → ((v : List ℕ) → IsWireValue v → IsWire v) → ((v : List ℕ) → IsWire v → IsBytes v) → Laws IsWire c Canon → Laws IsWireValue (short c) Canon
short_laws {X = X} IsWire c Canon to from laws = record {
  makes = λ x t f. record { are_bytes = from (c.write x) (laws.makes x t f.0); short = f.1 };
  typed = λ k v x w e. laws.typed k v x (to v w) e;
  back = λ k x t f. laws.back k x t f.0;
  same = λ k v x w e f. laws.same k v x (to v w) e f.0;
  reads = reads_short;
}
  where
    reads_short : (k v : List ℕ) → IsWireValue v → Canon k v → (x : X) × (c.read k v ≡ Ok x) × (c.Fits x × IsShort (c.write x))
    reads_short k v w canon =
        let r = laws.reads k v (to v w) canon in
        let same = (laws.same k v r.0 (to v w) r.1 r.2).1 canon in
        (r.0, r.1, (r.2, rw same w.short))

-- the laws of a type's contents
pub via_laws : {X : Type 0} (shape : Shape X) (IsWire : List ℕ → Type 0) (c : Codec (List ℕ) X) (Canon : List ℕ → List ℕ → Type 0)
    → ((x : X) → shape.out (shape.into x) ≡ x) → Laws IsWire c Canon → Laws IsWire (via shape c) Canon
via_laws {X = X} shape IsWire c Canon again laws = record { makes = makes_via; typed = typed_via; back = back_via; same = same_via; reads = reads_via }
  where
    -- what is read is what the content holds
    read_out : (k v : List ℕ) (x : Content) → seen shape.into (c.read k v) ≡ Ok x → (c.read k v ≡ Ok (shape.out x)) × (shape.into (shape.out x) ≡ x)
    read_out k v x e =
        let r = seen-ok shape.into (c.read k v) x e in
        let same : shape.out x ≡ r.0 = ap shape.out (sym r.2) ∙ again r.0 in
        (r.1 ∙ ap (λ (y : X). read_as y) (sym same), ap shape.into same ∙ r.2)

    makes_via : (x : Content) → (via shape c).Typed x → c.Fits (shape.out x) → IsWire (c.write (shape.out x))
    makes_via x t f = laws.makes (shape.out x) t.1 f

    typed_via : (k v : List ℕ) (x : Content) → IsWire v → seen shape.into (c.read k v) ≡ Ok x → (via shape c).Typed x
    typed_via k v x w e = let r = read_out k v x e in (r.1, laws.typed k v (shape.out x) w r.0)

    back_via : (k : List ℕ) (x : Content) → (via shape c).Typed x → c.Fits (shape.out x)
        → (seen shape.into (c.read k (c.write (shape.out x))) ≡ Ok x) ↔ c.Settled k (shape.out x)
    back_via k x t f =
        let law = laws.back k (shape.out x) t.1 f in (
          (λ e. law.0 (read_out k (c.write (shape.out x)) x e).0),
          (λ s. ok-seen shape.into (c.read k (c.write (shape.out x))) (shape.out x) (law.1 s) ∙ ap (λ (y : Content). read_as y) t.0),
        )

    same_via : (k v : List ℕ) (x : Content) → IsWire v → seen shape.into (c.read k v) ≡ Ok x → c.Fits (shape.out x) → (c.write (shape.out x) ≡ v) ↔ Canon k v
    same_via k v x w e f = laws.same k v (shape.out x) w (read_out k v x e).0 f

    reads_via : (k v : List ℕ) → IsWire v → Canon k v → (x : Content) × (seen shape.into (c.read k v) ≡ Ok x) × c.Fits (shape.out x)
    reads_via k v w canon =
        let r = laws.reads k v w canon in
        (shape.into r.0, ok-seen shape.into (c.read k v) r.0 r.1, rw (again r.0) r.2)
