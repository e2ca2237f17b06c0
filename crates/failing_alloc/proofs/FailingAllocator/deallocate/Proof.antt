-- It gives the block back to the inner allocator. Assumes `Logic`.
use Rattle.std.proofs.Common.{◌≡◌, ℕ, ◌^◌, ◌<◌, List, [], ◌∷◌, refl, w64, Bor}
use Rattle.std.proofs.raw_atomic.Walks.{proved}
use Rattle.std.proofs.alloc.Calls.{Al, token, seen, gives_key, Gives, at_gives, Gives-goes, Gives-Gives}
use seplogic.Ra.Ura.{Ura}
use mir.Syntax.{Ty, Fn}
use mir.Val.{Val, vunit}
use mir.MapTy.{inst_fn}
use base.Logic.{ent, never, fst∗}
use base.Fml.{Lft, Share, Fml, ftrue, fsep, flft}
use prog.Memory.{size, align, capped}
use prog.Model.{Model}
use prog.Wp.{WpFn}
use contract.BorrowLft.{◌⊑◌, ⊑_trans}
use contract.Monad.{fact}
use contract.Running.{Running, MachineTables, tables}
use types.Logic.{Logic, sem}
use types.Kit.{‵, raw, prop, ◌⊛◌, later, given, ◌$◌, ◌∵◌, !, qed, done, move, keep, use1, split, split3, join, fsplit, fjoin, feq_i, learn, await, regoal}
use types.Kit.{suffices, group}
use types.Run.{of_opd, unit_lit, addr, stop, fld, no_more, and_then, returns, enter}
use types.ByLocal.{alloc_all, pass_all, free_all, look_at, get, through, sets, lands_as}
use denote.Builtin.{usize, RawPtr}
use denote.Exit.{yes}
use denote.Plain.{uint_vals, uint_Tells}
use denote.RawPtr.{Ptr, block_ptr, null_ptr, room_for, in_a_block, rawptr_vals, rawptr_Tells}
use denote.RattleType.{owns}
use denote.Ref.{shr_vals}
use denote.Signature.{plain, types_at}
use denote.Steps.{nothing, heard}
use denote.Triple.Call.{calls_at}
use denote.Triple.Clauses.{Ended, Clauses}
use denote.Triple.Statement.{Contract, Triple}
use denote.Triple.Table.{framed}
use denote.Triple.Walked.{Stays, walk_of, stay_dropped, Goes-dropped, ends_at}
use Rattle.failing_alloc.proofs.Fields.{arguments, self, inner_at, countdown_at, fields_of}
use Rattle.failing_alloc.proofs.Step.{counted}
use Rattle.failing_alloc.specs.contracts.Failing.{the_row as row_of}
use Rattle.failing_alloc.specs.contracts.FailingAllocator.deallocate as f
use Rattle.failing_alloc.specs.contracts.FailingAllocator.deallocate.Key as key
use Rattle.failing_alloc.proofs.FailingAllocator.deallocate.Statement.{statement}
use Rattle.failing_alloc.proofs.FailingAllocator.deallocate.Code as code

module _ (Z : Al) where
  -- what is promised
  abbrev promise : Ended
  promise = f.ended Z.row Z.g Z.d Z.drops

  -- nothing is wanted of the parameters at the end
  abbrev stayed : Stays promise.signature.params promise.kept
  stayed = (
    stay_dropped (self Z) yes,
    (stay_dropped (plain (λ _. RawPtr)) yes, (stay_dropped (plain (λ _. usize)) yes, (stay_dropped (plain (λ _. usize)) yes, tt))),
  )

  -- the code, at the inner allocator's type
  abbrev here : Fn
  here = inst_fn (arguments Z) code.function

module _ (Z : Al) {M : Type 1} {𝓤 : Ura M} (𝓛 : Logic 𝓤) (𝓜 : Model 𝓤 𝓛.H) (𝓡 : Running 𝓤 𝓛.H 𝓜) where
  -- its clauses
  abbrev clauses : Clauses 𝓤 (promise Z)
  clauses = f.clauses Z.row Z.g Z.d Z.drops 𝓛 𝓜.mem 𝓡.returns

  -- the contract that the walk meets
  abbrev W : Contract 𝓤
  W = walk_of 𝓛 (promise Z) (stayed Z) clauses

  -- what a call runs
  abbrev 𝓣 : MachineTables 𝓤 𝓛.H 𝓜
  𝓣 = tables 𝓤 𝓛.H 𝓜 𝓡 𝓡.env

  -- the contract of the inner `deallocate`
  abbrev G : Contract 𝓤
  G = Gives Z 𝓛 𝓜.mem 𝓡.returns

  module _ (κ ρ : Lft) (q s : Share) (inn : κ ⊑ ρ) (r : Bor (row_of Z.row).Denot) (n al : ℕ) (τ : Ty) where
    -- one call, with the pointer that it is given
    abbrev y : Ptr → W.Ghost
    y x = (((κ, (ρ, tt)), (q, (s, tt)), (inn, tt), (r, (x, (n, (al, tt)))), (shr_vals r, (rawptr_vals x, (uint_vals w64 n, (uint_vals w64 al, tt))))), τ)

    -- the call of the inner `deallocate`
    abbrev z : ℕ → ℕ → G.Ghost
    z b o = at_gives Z 𝓛 𝓜.mem 𝓡.returns κ q (inner_at Z r) r.now.inner b o n al τ

    -- the block, and the right to free it
    abbrev handed : Ptr → Fml
    handed x = fsep (room_for τ x) (token Z r.now.inner τ x)

    -- the code, from the call to its end
    walk : n < 2 ^ 64 → al < 2 ^ 64 → Triple 𝓤 (𝓣.C (gives_key Z)) G
        → (x : Ptr) → ent 𝓤 (W.pre (y x)) (WpFn 𝓤 𝓛.H 𝓣.C 𝓣.Λ (here Z) (W.args (y x)) (W.post (y x)))
    walk n_fits al_fits frees x =
        qed 𝓛 (((‵ (flft κ q) ⊛ ‵ (flft ρ s) ⊛ ‵ ftrue) ⊛ ‵ (owns (types_at (promise Z).signature.params (y x).0.0) (y x).0.3 (y x).0.4))
        ∷ (raw (fact 𝓤 (ρ ⊑ Z.row.lives)) ⊛ raw (fact 𝓤 ((capped (size τ) ≡ n) × (capped (align τ) ≡ al))) ⊛ ‵ (handed x)) ∷ []) ∵
        move ! (1 ∷ []) $ split3 ! $ heard ! _ (λ lives. heard ! _ (λ sizes. move ! (1 ∷ []) $ split ! $ split ! $ move ! (2 ∷ []) $ fsplit ! $
        use1 𝓛 (‵ (seen Z κ (inner_at Z r) r.now.inner) ⊛ ‵ (counted κ (countdown_at Z r) r.now.countdown)) (fields_of Z r 𝓛 κ ρ) $ split ! $
        -- [the block and the right to free it; the `&` to the inner allocator; its token; the other token]
        keep ! (5 ∷ 0 ∷ 3 ∷ 4 ∷ []) $ in_a_block ! x handed (fst∗ 𝓤 (never 𝓤) (sem 𝓛 (token Z r.now.inner τ null_ptr))) (λ b o is_block.
        regoal ! (λ (p : Ptr). prop (WpFn 𝓤 𝓛.H 𝓣.C 𝓣.Λ (here Z) (W.args (y p)) (W.post (y p)))) is_block refl $ fsplit ! $
        enter ! _ _ _ _ _ $ alloc_all ! (λ l. pass_all ! refl ((tt, tt), ((tt, tt), ((tt, record { fits = n_fits }), ((tt, record { fits = al_fits }), tt)))) $
        -- self.inner.deallocate(ptr, size, align)
        sets ! (addr ! (through ! refl (fld ! refl (stop !)))) refl (tt, tt) $ group ! 4 $
        use1 𝓛 (raw (G.pre (z b o))) (Gives-goes Z 𝓛 𝓜.mem 𝓡.returns κ q (inner_at Z r) r.now.inner (⊑_trans κ ρ Z.row.lives inn lives)
        b o n al τ sizes.0 sizes.1 n_fits al_fits) $
        calls_at ! (framed 𝓤 𝓛.H 𝓜 𝓣) G frees (z b o)
        (and_then ! (get ! refl) (and_then ! (get ! refl) (and_then ! (get ! refl) (and_then ! (get ! refl) (no_more !))))) (λ v.
        use1 𝓛 (later (given (v ≡ vunit) (‵ (flft κ q)))) (Gives-Gives Z 𝓛 𝓜.mem 𝓡.returns κ q (inner_at Z r) r.now.inner b o n al τ v) $
        await ! tt $ learn ! (λ is_unit. lands_as ! is_unit refl (tt, tt) $
        sets ! (of_opd ! (unit_lit !)) refl (tt, tt) $ returns ! (look_at ! 0 refl) $ free_all ! refl $
        -- [the token; the other token]
        suffices ! _ (ends_at 𝓛 (promise Z) (stayed Z) clauses (y (block_ptr b o)) vunit tt (tt, (tt, (tt, (tt, tt)))) (tt, (tt, (tt, (tt, tt))))) $
        nothing ! $ feq_i ! (List Val) (vunit ∷ []) (vunit ∷ []) refl $
        nothing ! $ nothing ! $ fjoin ! $ nothing ! $ fjoin ! $ nothing ! $ fjoin ! $ nothing ! $ fjoin ! $ join ! $
        move ! (2 ∷ 3 ∷ []) $ join ! $ join ! $ done !))))))

pub deallocate_spec : {M : Type 1} → statement M
deallocate_spec 𝓤 𝓛 𝓜 𝓡 wired B laws g d drops met _ =
    let Z : Al = record { row = B; laws = laws; g = g; d = d; drops = drops } in
    let goes = Goes-dropped 𝓛 2 (plain (λ _. usize)) yes (λ κs x w. refl) in
    proved 𝓛 (promise Z) (stayed Z) (clauses Z 𝓛 𝓜 𝓡) 𝓜 𝓡
    (Goes-dropped 𝓛 2 (self Z) yes (λ κs x w. refl), (Goes-dropped 𝓛 2 (plain (λ _. RawPtr)) yes (λ κs x w. refl), (goes, (goes, tt))))
    (key.name (arguments Z)) (here Z) (code.unfolded 𝓤 𝓛.H 𝓜 𝓡 wired (B, tt) d drops)
    (λ κs. (shr_vals, (rawptr_vals, (uint_vals w64, (uint_vals w64, tt)))))
    (λ κs. ((λ r vs is. is.0), (rawptr_Tells, (uint_Tells w64, (uint_Tells w64, tt)))))
    (λ κs qs bounds a τ are. walk Z 𝓛 𝓜 𝓡 κs.0 κs.1.0 qs.0 qs.1.0 bounds.0 a.0 a.1.1.0 a.1.1.1.0 τ are.1.1.0.1 are.1.1.1.0.1
    (met.deallocate drops) a.1.0)
