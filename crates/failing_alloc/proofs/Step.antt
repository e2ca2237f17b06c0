-- A call of `Countdown::ends`: what it is handed, and what its caller has of it. Assumes `Logic`.
use Rattle.std.proofs.Common.{◌≡◌, ℕ, Bool, List, [], ◌∷◌, refl, ap}
use seplogic.Ra.Ura.{Ura}
use mir.Val.{Val, vptr, vbool}
use base.Logic.{SProp, ent, sep, ex, guard, id⊢}
use base.Fml.{Lft, Share, Fml, ftrue, fsep, flft}
use prog.Memory.{Memory}
use prog.Routine.{Routine}
use types.Logic.{Logic, sem}
use types.Kit.{‵, ◌⊛◌, raw, some, later, ◌$◌, ◌∵◌, !, qed, move, keep, use1, split, join, pick, show, check, fjoin, feq_i, feq_l, await, updating}
use types.Kit.{
  now as
      at_once,
  done,
}
use contract.Monad.{Fun}
use denote.Builtin.{bool}
use denote.Memory.{hidden_shr}
use denote.Steps.{nothing, only}
use denote.Triple.Spec.{triple_of}
use denote.Triple.Statement.{Contract}
use Rattle.failing_alloc.specs.declared.countdown.Countdown.{Countdown}
use Rattle.failing_alloc.specs.contracts.countdown.Countdown.{the_row as Counter}
use Rattle.failing_alloc.specs.contracts.countdown.Countdown.ends as ends

-- what the holder of a `&` to the countdown c at p has
abbrev pub counted : Lft → ℕ × ℕ → Countdown → Fml
counted κ p c = hidden_shr Counter κ c p.0 p.1

module _ {M : Type 1} {𝓤 : Ura M} (𝓛 : Logic 𝓤) (at_mem : Memory → SProp 𝓤) (run : Routine → Fun 𝓤) where
  open 𝓛 use {H, A}

  -- the contract of `ends`
  abbrev pub Ends : Contract 𝓤
  Ends = triple_of 𝓛 ends.signature (ends.spec 𝓛 at_mem run)

  module _ (κ : Lft) (q : Share) (p : ℕ × ℕ) (c : Countdown) where
    -- what the caller picks
    abbrev pub at_ends : Ends.Ghost
    at_ends = (((κ, tt), (q, tt), tt, (record { ref_ptr = p; now = c }, tt), (vptr p.0 p.1 ∷ [], tt)), tt)

    -- it is handed the `&` and the token of its lifetime
    pub ends_takes : ent 𝓤 (sep 𝓤 (sem 𝓛 (counted κ p c)) (A.lft κ q)) (Ends.pre at_ends)
    ends_takes =
        qed 𝓛 (‵ (counted κ p c) ∷ ‵ (flft κ q) ∷ []) ∵ feq_i ! (List Val) (vptr p.0 p.1 ∷ []) (vptr p.0 p.1 ∷ []) refl $ fjoin ! $
        nothing ! $ move ! (1 ∷ []) $ fjoin ! $ nothing ! $ move ! (2 ∷ []) $ join ! $ join ! $ nothing ! $ move ! (1 ∷ []) $ done !

    -- its caller gets a truth value and the token back
    pub ends_gives : (v : Val) → ent 𝓤 (Ends.post at_ends v) (H.⇛ (ex 𝓤 (λ (y : Bool). guard 𝓤 (v ≡ vbool y) (A.lft κ q))))
    ends_gives v =
        qed 𝓛 (raw (Ends.post at_ends v) ∷ []) ∵ updating ! $
        use1 𝓛 (later (some (λ (y : Bool). ((‵ (flft κ q) ⊛ ‵ ftrue) ⊛ ‵ (bool.own_val y (v ∷ []))) ⊛
        some (λ (ws : Unit {0} × Unit {0}). ‵ (fsep ftrue ftrue) ⊛ ‵ ftrue)))) (id⊢ 𝓤 _) $ await ! tt $ pick ! (λ y.
        split ! $ split ! $ split ! $ move ! (2 ∷ []) $ feq_l ! (λ e. at_once ! $
        show ! (λ (z : Bool). guard 𝓤 (v ≡ vbool z) (A.lft κ q)) y $ check ! (ap only e) $ keep ! (0 ∷ []) $ done !))
