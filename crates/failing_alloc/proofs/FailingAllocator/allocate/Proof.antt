-- It refuses where the countdown ends, and otherwise answers what the inner allocator answers. Assumes `Logic`.
use Rattle.std.proofs.Common.{◌≡◌, ℕ, Bool, true, false, ◌^◌, ◌<◌, List, [], ◌∷◌, Ok, Err, refl, w64, Bor}
use Rattle.std.proofs.raw_atomic.Walks.{proved}
use Rattle.std.proofs.alloc.Calls.{Al, token, seen, Answer, answer_val, Answer-typed, Answer-Ok, Answer-err, takes_key, Takes, at_takes, Answered, Takes-goes}
use Rattle.std.proofs.alloc.Calls.{Takes-gives, answers}
use Rattle.std.proofs.VecSteps.Shapes.{after}
use seplogic.Ra.Ura.{Ura}
use mir.Syntax.{Ty, Fn}
use mir.Val.{vbool}
use mir.MapTy.{inst_fn}
use base.Logic.{ent}
use base.Fml.{Lft, Share, ftrue, froom, flft}
use prog.Memory.{size, align, capped}
use prog.Model.{Model}
use prog.Wp.{WpFn}
use contract.BorrowLft.{◌⊑◌, ⊑_trans}
use contract.Monad.{fact}
use contract.Running.{Running, MachineTables, tables}
use types.Logic.{Logic}
use types.Kit.{Item, ‵, raw, prop, at_ret, Sq, ◌⊛◌, some, later, given, ◌$◌, ◌∵◌, !, qed, done, move, keep, drop, use0, use1, use2, split, join, fsplit, fjoin}
use types.Kit.{learn, pick, await, suffices}
use types.Part.{agg}
use types.Run.{lit, addr, stop, fld, no_more, and_then, first, branches, skips, exec, returns, returns_within, enter}
use types.ByLocal.{alloc_all, pass_all, free_all, look_at, get, through, sets, lands_as, env}
use denote.Builtin.{usize}
use denote.Exit.{yes}
use denote.Plain.{uint_vals, uint_Tells}
use denote.RawPtr.{block_ptr}
use denote.RattleType.{owns}
use denote.Ref.{shr_vals}
use denote.Signature.{plain, types_at}
use denote.Steps.{nothing, heard}
use denote.Triple.Call.{calls_at}
use denote.Triple.Clauses.{Ended, Clauses}
use denote.Triple.Statement.{Contract, Triple}
use denote.Triple.Table.{framed}
use denote.Triple.Walked.{Stays, walk_of, stay_dropped, Goes-dropped, ends_at}
use Rattle.failing_alloc.proofs.Fields.{arguments, self, inner_at, countdown_at, fields_of}
use Rattle.failing_alloc.proofs.Step.{counted, Ends, at_ends, ends_takes, ends_gives}
use Rattle.failing_alloc.proofs.countdown.Countdown.ends.Symbol.{name as ends_key}
use Rattle.failing_alloc.proofs.countdown.Countdown.ends.Met.{met as ends_met}
use Rattle.failing_alloc.specs.contracts.Failing.{the_row as row_of}
use Rattle.failing_alloc.specs.contracts.FailingAllocator.allocate as f
use Rattle.failing_alloc.specs.contracts.FailingAllocator.allocate.Key as key
use Rattle.failing_alloc.proofs.FailingAllocator.allocate.Statement.{statement}
use Rattle.failing_alloc.proofs.FailingAllocator.allocate.Code as code

module _ (Z : Al) where
  -- what is promised
  abbrev promise : Ended
  promise = f.ended Z.row Z.g Z.d Z.drops

  -- nothing is wanted of the parameters at the end
  abbrev stayed : Stays promise.signature.params promise.kept
  stayed = (stay_dropped (self Z) yes, (stay_dropped (plain (λ _. usize)) yes, (stay_dropped (plain (λ _. usize)) yes, tt)))

  -- the code, at the inner allocator's type
  abbrev here : Fn
  here = inst_fn (arguments Z) code.function

module _ (Z : Al) {M : Type 1} {𝓤 : Ura M} (𝓛 : Logic 𝓤) (𝓜 : Model 𝓤 𝓛.H) (𝓡 : Running 𝓤 𝓛.H 𝓜) where
  -- its clauses
  abbrev clauses : Clauses 𝓤 (promise Z)
  clauses = f.clauses Z.row Z.g Z.d Z.drops 𝓛 𝓜.mem 𝓡.returns

  -- the contract that the walk meets
  abbrev W : Contract 𝓤
  W = walk_of 𝓛 (promise Z) (stayed Z) clauses

  -- what a call runs
  abbrev 𝓣 : MachineTables 𝓤 𝓛.H 𝓜
  𝓣 = tables 𝓤 𝓛.H 𝓜 𝓡 𝓡.env

  -- the contract of the inner `allocate`
  abbrev G : Contract 𝓤
  G = Takes Z 𝓛 𝓜.mem 𝓡.returns

  -- the contract of `ends`
  abbrev E : Contract 𝓤
  E = Ends 𝓛 𝓜.mem 𝓡.returns

  module _ (κ ρ : Lft) (q s : Share) (inn : κ ⊑ ρ) (r : Bor (row_of Z.row).Denot) (n al : ℕ) (τ : Ty) where
    -- one call
    abbrev y : W.Ghost
    y = (((κ, (ρ, tt)), (q, (s, tt)), (inn, tt), (r, (n, (al, tt))), (shr_vals r, (uint_vals w64 n, (uint_vals w64 al, tt)))), τ)

    -- the call of the inner `allocate`
    abbrev z : G.Ghost
    z = at_takes Z 𝓛 𝓜.mem 𝓡.returns κ q (inner_at Z r) r.now.inner n al τ

    -- the call of `ends`
    abbrev x : E.Ghost
    x = at_ends 𝓛 𝓜.mem 𝓡.returns κ q (countdown_at Z r) r.now.countdown

    -- the two lifetimes' tokens
    abbrev tokens : List (Item 𝓤)
    tokens = ‵ (flft κ q) ∷ (‵ (flft ρ s) ⊛ ‵ ftrue) ∷ []

    -- to answer `Err` takes nothing
    refuses : Sq 𝓛 tokens (prop (W.post y (answer_val false 0 0)))
    refuses =
        suffices ! _ (ends_at 𝓛 (promise Z) (stayed Z) clauses y (answer_val false 0 0) (Err (record {})) (tt, (tt, (tt, tt))) (tt, (tt, (tt, tt)))) $
        nothing ! $ use0 𝓛 (‵ (Answer.own_val (Err (record {})) (answer_val false 0 0 ∷ []))) (Answer-err 𝓛) $
        nothing ! $ nothing ! $ fjoin ! $ nothing ! $ fjoin ! $ nothing ! $ fjoin ! $ join ! $ move ! (2 ∷ 3 ∷ []) $ join ! $ join ! $ done !

    -- to answer `Ok` takes the block and the right to free it
    gives : (b o : ℕ) → Sq 𝓛 (‵ (froom τ b o) ∷ ‵ (token Z r.now.inner τ (block_ptr b o)) ∷ tokens) (prop (W.post y (answer_val true b o)))
    gives b o =
        suffices ! _ (ends_at 𝓛 (promise Z) (stayed Z) clauses y (answer_val true b o) (Ok (block_ptr b o)) (tt, (tt, (tt, tt))) (tt, (tt, (tt, tt)))) $
        fjoin ! $ use0 𝓛 (‵ (Answer.own_val (Ok (block_ptr b o)) (answer_val true b o ∷ []))) (Answer-Ok 𝓛 b o) $
        nothing ! $ nothing ! $ fjoin ! $ nothing ! $ fjoin ! $ nothing ! $ fjoin ! $ join ! $ move ! (2 ∷ 3 ∷ []) $ join ! $ join ! $ done !

    -- the code, from the call to an answer
    walk : n < 2 ^ 64 → al < 2 ^ 64 → Triple 𝓤 (𝓣.C (takes_key Z)) G → Triple 𝓤 (𝓣.C ends_key) E
        → ent 𝓤 (W.pre y) (WpFn 𝓤 𝓛.H 𝓣.C 𝓣.Λ (here Z) (W.args y) (W.post y))
    walk n_fits al_fits takes ends =
        qed 𝓛 (((‵ (flft κ q) ⊛ ‵ (flft ρ s) ⊛ ‵ ftrue) ⊛ ‵ (owns (types_at (promise Z).signature.params y.0.0) y.0.3 y.0.4))
        ∷ (raw (fact 𝓤 (ρ ⊑ Z.row.lives)) ⊛ raw (fact 𝓤 ((capped (size τ) ≡ n) × (capped (align τ) ≡ al)))) ∷ []) ∵
        move ! (1 ∷ []) $ split ! $ heard ! _ (λ lives. heard ! _ (λ sizes. split ! $ split ! $ move ! (2 ∷ []) $ fsplit ! $
        use1 𝓛 (‵ (seen Z κ (inner_at Z r) r.now.inner) ⊛ ‵ (counted κ (countdown_at Z r) r.now.countdown)) (fields_of Z r 𝓛 κ ρ) $ split ! $
        -- [the `&` to the countdown; its token; the `&` to the inner allocator; the other token]
        keep ! (1 ∷ 3 ∷ 0 ∷ 4 ∷ []) $
        enter ! _ _ _ _ _ $ alloc_all ! (λ l. pass_all ! refl ((tt, tt), ((tt, record { fits = n_fits }), ((tt, record { fits = al_fits }), tt))) $
        -- self.countdown.ends()
        sets ! (addr ! (through ! refl (fld ! refl (stop !)))) refl (tt, tt) $
        use2 𝓛 (raw (E.pre x)) (ends_takes 𝓛 𝓜.mem 𝓡.returns κ q (countdown_at Z r) r.now.countdown) $
        calls_at ! (framed 𝓤 𝓛.H 𝓜 𝓣) E ends x (and_then ! (get ! refl) (no_more !)) (λ u.
        use1 𝓛 (later (some (λ (over : Bool). given (u ≡ vbool over) (‵ (flft κ q))))) (ends_gives 𝓛 𝓜.mem 𝓡.returns κ q (countdown_at Z r) r.now.countdown u) $
        await ! tt $ pick ! (λ over. learn ! (λ is_over. lands_as ! is_over refl (tt, tt) $
        -- [the token; the `&` to the inner allocator; the other token]
        first ! $ branches ! (get ! refl)
        -- return Err(AllocError)
        (λ _. move ! (1 ∷ []) $ drop ! $ sets ! (agg ! (no_more !)) refl (tt, tt) $
        sets ! (agg ! (and_then ! (lit ! tt) (and_then ! (get ! refl) (no_more !)))) refl (Answer-typed false 0 0) $
        returns_within ! (W.post y) refl (look_at ! 0 refl) $ free_all ! refl $ refuses)
        -- self.inner.allocate(size, align)
        (λ _. skips ! $ exec ! 𝓣.C 𝓣.Λ (env (here Z).locals l) (after 3 (here Z).body) (at_ret _ (W.post y)) $
        sets ! (addr ! (through ! refl (fld ! refl (stop !)))) refl (tt, tt) $
        move ! (1 ∷ 0 ∷ []) $ use2 𝓛 (raw (G.pre z)) (Takes-goes Z 𝓛 𝓜.mem 𝓡.returns κ q (inner_at Z r) r.now.inner (⊑_trans κ ρ Z.row.lives inn lives)
        n al τ sizes.0 sizes.1 n_fits al_fits) $
        calls_at ! (framed 𝓤 𝓛.H 𝓜 𝓣) G takes z (and_then ! (get ! refl) (and_then ! (get ! refl) (and_then ! (get ! refl) (no_more !)))) (λ v.
        use1 𝓛 (later (raw (Answered Z 𝓛 𝓜.mem 𝓡.returns r.now.inner τ v) ⊛ ‵ (flft κ q)))
        (Takes-gives Z 𝓛 𝓜.mem 𝓡.returns κ q (inner_at Z r) r.now.inner n al τ v) $
        await ! tt $ split ! $ answers Z ! 𝓜.mem 𝓡.returns r.now.inner τ v
        (λ b o is_block. lands_as ! is_block refl (Answer-typed true b o) $ returns ! (look_at ! 0 refl) $ free_all ! refl $ gives b o)
        (λ is_none. lands_as ! is_none refl (Answer-typed false 0 0) $ returns ! (look_at ! 0 refl) $ free_all ! refl $ refuses)))))))))

pub allocate_spec : {M : Type 1} → statement M
allocate_spec 𝓤 𝓛 𝓜 𝓡 wired B laws g d drops met _ =
    let Z : Al = record { row = B; laws = laws; g = g; d = d; drops = drops } in
    let goes = Goes-dropped 𝓛 2 (plain (λ _. usize)) yes (λ κs x w. refl) in
    proved 𝓛 (promise Z) (stayed Z) (clauses Z 𝓛 𝓜 𝓡) 𝓜 𝓡 (Goes-dropped 𝓛 2 (self Z) yes (λ κs x w. refl), (goes, (goes, tt)))
    (key.name (arguments Z)) (here Z) (code.unfolded 𝓤 𝓛.H 𝓜 𝓡 wired (B, tt) d drops)
    (λ κs. (shr_vals, (uint_vals w64, (uint_vals w64, tt)))) (λ κs. ((λ r vs is. is.0), (uint_Tells w64, (uint_Tells w64, tt))))
    (λ κs qs bounds a τ are. walk Z 𝓛 𝓜 𝓡 κs.0 κs.1.0 qs.0 qs.1.0 bounds.0 a.0 a.1.0 a.1.1.0 τ are.1.0.1 are.1.1.0.1
    (met.allocate drops) (ends_met 𝓤 𝓛 𝓜 𝓡 (code.calls-failing_alloc::countdown::Countdown::ends 𝓡.env wired)))
