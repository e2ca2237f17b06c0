-- An attribute that is kept raw is read and written unchanged.
use Rattle.std.proofs.Common.{◌≡◌, ◌↔◌, ℕ, List, Ok, refl, subst}
use Rattle.nla_frames.specs.Fault.{read_as}
use Rattle.nla_frames.specs.Frame.{Frame, IsWireFrame}
use Rattle.nla_frames.specs.Codec.{Laws}
use Rattle.nla_frames.specs.DefaultNla.{kept_codec, any_frame}

-- the frame that was read
one_frame : (f x : Frame) → read_as f ≡ read_as x → f ≡ x
one_frame f x is = cc

pub kept_laws : Laws IsWireFrame kept_codec any_frame
kept_laws = record { makes = makes; typed = typed; back = back; same = same; reads = reads }
  where
    makes : (f : Frame) → kept_codec.Typed f → kept_codec.Fits f → IsWireFrame f
    makes f is_typed fits = record { frame = record { word = is_typed.0; value = fits }; bytes = is_typed.1 }

    typed : (kind : List ℕ) (f x : Frame) → IsWireFrame f → kept_codec.read kind f ≡ Ok x → kept_codec.Typed x
    typed kind f x wire is =
        let same : f ≡ x = one_frame f x is in
        let here : kept_codec.Typed f = (wire.frame.word, wire.bytes) in
        subst kept_codec.Typed same here

    back : (kind : List ℕ) (f : Frame) → kept_codec.Typed f → kept_codec.Fits f → (kept_codec.read kind f ≡ Ok f) ↔ kept_codec.Settled kind f
    back kind f is_typed fits = ((λ is. tt), (λ settled. refl))

    same : (kind : List ℕ) (f x : Frame) → IsWireFrame f → kept_codec.read kind f ≡ Ok x → kept_codec.Fits x → (x ≡ f) ↔ any_frame kind f
    same kind f x wire is fits = ((λ written. tt), (λ canonical. cc is))

    reads : (kind : List ℕ) (f : Frame) → IsWireFrame f → any_frame kind f → (x : Frame) × (kept_codec.read kind f ≡ Ok x) × kept_codec.Fits x
    reads kind f wire canonical = (f, refl, wire.frame.value)
