-- What a `&Failing<B>` gives: a `&` to the inner allocator and a `&` to the countdown. Assumes `Logic`.
use Rattle.std.proofs.Common.{ℕ, ◌+◌, [], ◌∷◌, Bor}
use seplogic.Ra.Ura.{Ura}
use mir.Syntax.{Args, a_type, dnil, dcons}
use base.Logic.{ent, sep}
use base.Fml.{Lft}
use prog.Memory.{size, align, up}
use types.Logic.{Logic, sem}
use types.Kit.{‵, ◌$◌, ◌∵◌, !, qed, move, keep, join, fsplit, done}
use denote.Opens.{unhide}
use denote.Param.{bounded, param}
use denote.Ref.{shr_vals}
use denote.Signature.{Slot, plain, type_at}
use denote.Builtin.{RefOf}
use Rattle.std.proofs.alloc.Calls.{Al, α, seen}
use Rattle.failing_alloc.specs.contracts.Failing.{the_row as row_of}
use Rattle.failing_alloc.proofs.Step.{counted}

module _ (Z : Al) where
  -- what the functions are instantiated with: the inner type, and what its two bounds are met by
  abbrev pub arguments : Args
  arguments = bounded (a_type ∷ []) (Z.row, tt) (dcons Z.d (dcons Z.drops dnil))

  -- the type of `self`
  abbrev pub self : Slot 2
  self = RefOf (0 ∷ []) tt (plain (λ _. row_of (param 0 Z.row))) (λ _. tt)

  module _ (r : Bor (row_of Z.row).Denot) where
    -- where the inner allocator lies
    abbrev pub inner_at : ℕ × ℕ
    inner_at = (r.ref_ptr.0, r.ref_ptr.1 + up (align (α Z)) 0)

    -- where the countdown lies, after it
    abbrev pub countdown_at : ℕ × ℕ
    countdown_at = (r.ref_ptr.0, r.ref_ptr.1 + up 8 (up (align (α Z)) 0 + size (α Z)))

    -- a `&` to the whole is a `&` to each
    pub fields_of : {M : Type 1} {𝓤 : Ura M} (𝓛 : Logic 𝓤) (κ ρ : Lft)
        → ent 𝓤 (sem 𝓛 ((type_at self (κ, (ρ, tt))).own_val r (shr_vals r)))
        (sep 𝓤 (sem 𝓛 (seen Z κ inner_at r.now.inner)) (sem 𝓛 (counted κ countdown_at r.now.countdown)))
    fields_of 𝓛 κ ρ =
        qed 𝓛 (‵ ((type_at self (κ, (ρ, tt))).own_val r (shr_vals r)) ∷ []) ∵ fsplit ! $ move ! (1 ∷ []) $ unhide ! $
        fsplit ! $ fsplit ! $ move ! (1 ∷ []) $ fsplit ! $ keep ! (2 ∷ 0 ∷ []) $ join ! $ done !
