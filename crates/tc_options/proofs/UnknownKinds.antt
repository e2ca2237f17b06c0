-- A kind other than the six is unknown.
use Rattle.std.proofs.Common.{◌≡◌, ℕ, List, false, refl}
use Rattle.std.specs.Prelude.{codes}
use Rattle.std.specs.Str.{bytes_eq}
use Rattle.tc_canon.specs.Descriptor.{is_known}
use Rattle.tc_canon.specs.Tables.Options.{option_kinds}

pub not_known : (k : List ℕ) → bytes_eq k (codes "fq_codel") ≡ false → bytes_eq k (codes "ingress") ≡ false → bytes_eq k (codes "flower") ≡ false
    → bytes_eq k (codes "u32") ≡ false → bytes_eq k (codes "matchall") ≡ false → bytes_eq k (codes "bpf") ≡ false → is_known option_kinds k ≡ false
not_known k fq_codel ingress flower u32 matchall bpf = rw (fq_codel, ingress, flower, u32, matchall, bpf) refl
