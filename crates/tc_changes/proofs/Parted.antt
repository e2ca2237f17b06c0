-- The parts of a state: what goes, and what stays.
use Rattle.std.proofs.Common.{◌≡◌, ℕ, Bool, true, false, not, cond, List, [], ◌∷◌, ◌++◌, Option, Some, reverse, refl, sym, ap, subst, ◌∙◌}
use Rattle.std.specs.Prelude.{slice_get, unwrap_or, filter}
use Rattle.std.specs.HashMap as hash
use Rattle.std.specs.HashMap.{HashMap}
use Rattle.std.proofs.lemmas.List.{reverse-append}
use Rattle.tc_changes.specs.Planned.{remover, remover_of, add, is_along, kept, asked}
use Rattle.tc_changes.specs.Objects.{KernelThing, same_key, IsIndexOf, IsRemoved}
use Rattle.tc_changes.specs.declared.key.Key.{Key}
use Rattle.tc_changes.proofs.Equal.{key_sym}
use Rattle.tc_changes.proofs.Indexes.{index_more}
use Rattle.tc_changes.proofs.Passes.{pairs, pairs-push, asked-push}

-- what a pass over these objects knows
pub record IsParted {S T : Type 0} (weak gone : Key → Bool) (all : List KernelThing) (removed : HashMap Key Key S) (lost : List Key)
    (stay : HashMap Key ℕ T) (state : List KernelThing) : Type 0 where
  pub removed_are : IsRemoved removed (pairs same_key weak gone [] state)
  pub lost_are : reverse lost ≡ asked same_key weak gone [] state
  pub stay_are : IsIndexOf all stay (kept same_key weak gone state)

-- a look-up in a map of removers is one in what is removed
pub same_find : {S : Type 0} (m : HashMap Key Key S) (some : List (Key × Key)) → IsRemoved m some → hash.get same_key m ≡ remover same_key some
same_find m some is = λ i k. is k i

put_step : (b c : Bool) (x : Key) (o g : Option Key) → b ≡ c → o ≡ g → cond b (Some x) o ≡ cond c (Some x) g
put_step true true x o g same here = refl
put_step true false x o g same here = absurd (cc same)
put_step false true x o g same here = absurd (cc same)
put_step false false x o g same here = here

-- one more key that goes
removed_more : {S : Type 0} (m n : HashMap Key Key S) (some : List (Key × Key)) (k x : Key) → hash.Updates same_key m n k (Some x) → IsRemoved m some
    → IsRemoved n ((k, x) ∷ some)
removed_more m n some k x put is q = put.0 q ∙ put_step (same_key k q) (same_key q k) x (hash.get same_key m q) (remover same_key some q) (key_sym k q) (is q)

push_asked : (b : Bool) (lost more : List Key) (k : Key) (keys : List Key) → more ≡ cond b lost (lost ++ k ∷ []) → reverse lost ≡ keys
    → reverse more ≡ cond b [] (k ∷ []) ++ keys
push_asked true lost more k keys pushed is = ap reverse pushed ∙ is
push_asked false lost more k keys pushed is = ap reverse pushed ∙ reverse-append lost (k ∷ []) ∙ ap (λ l. k ∷ l) is

filter-push : (gone : Key → Bool) (state : List KernelThing) (x : KernelThing)
    → filter (λ o. not (gone o.key)) (state ++ x ∷ [])
    ≡ cond (gone x.key) (filter (λ o. not (gone o.key)) state) (filter (λ o. not (gone o.key)) state ++ x ∷ [])
filter-push gone [] x = by_gone (gone x.key)
  where
    by_gone : (b : Bool) → cond (not b) (x ∷ []) [] ≡ cond b [] (x ∷ [])
    by_gone true = refl
    by_gone false = refl
filter-push gone (o ∷ state) x =
    by_gone (gone o.key) (gone x.key) (filter (λ p. not (gone p.key)) state) (filter (λ p. not (gone p.key)) (state ++ x ∷ [])) (filter-push gone state x)
  where
    by_gone : (b c : Bool) (less more : List KernelThing) → more ≡ cond c less (less ++ x ∷ [])
        → cond (not b) (o ∷ more) more ≡ cond c (cond (not b) (o ∷ less) less) (cond (not b) (o ∷ less) less ++ x ∷ [])
    by_gone true c less more is = is
    by_gone false true less more is = ap (λ l. o ∷ l) is
    by_gone false false less more is = ap (λ l. o ∷ l) is

module _ {S T : Type 0} (weak gone : Key → Bool) (all : List KernelThing) (removed : HashMap Key Key S) (lost : List Key) (stay : HashMap Key ℕ T)
    (state : List KernelThing) (is : IsParted weak gone all removed lost stay state) (x : KernelThing) where
  abbrev out : List (Key × Key)
  out = pairs same_key weak gone [] state

  -- one more that goes
  pub parted_goes : (new : HashMap Key Key S) (more : List Key) → gone x.key ≡ true
      → hash.Updates same_key removed new x.key (Some (unwrap_or (remover_of same_key weak (remover same_key out) x) x.key))
      → more ≡ cond (is_along same_key weak gone x (remover_of same_key weak (remover same_key out) x)) lost (lost ++ x.key ∷ [])
      → IsParted weak gone all new more stay (state ++ x ∷ [])
  parted_goes new more away put pushed =
      let gone_is : pairs same_key weak gone [] (state ++ x ∷ []) ≡ add same_key weak out x =
      pairs-push same_key weak gone [] state x ∙ ap (λ b. cond b (add same_key weak out x) out) away in
      let kept_is : kept same_key weak gone (state ++ x ∷ []) ≡ kept same_key weak gone state =
      filter-push gone state x ∙ ap (λ b. cond b (kept same_key weak gone state) (kept same_key weak gone state ++ x ∷ [])) away in
      record {
        removed_are = subst (IsRemoved new) (sym gone_is)
            (removed_more removed new out x.key (unwrap_or (remover_of same_key weak (remover same_key out) x) x.key) put is.removed_are);
        lost_are =
            push_asked (is_along same_key weak gone x (remover_of same_key weak (remover same_key out) x)) lost more x.key
            (asked same_key weak gone [] state) pushed is.lost_are
            ∙ sym (asked-push same_key weak gone [] state x
            ∙ ap (λ b. cond b (cond (is_along same_key weak gone x (remover_of same_key weak (remover same_key out) x)) [] (x.key ∷ [])) []
            ++ asked same_key weak gone [] state) away);
        stay_are = subst (IsIndexOf all stay) (sym kept_is) is.stay_are;
      }

  -- one more that stays
  pub parted_stays : (new : HashMap Key ℕ T) (i : ℕ) → gone x.key ≡ false → hash.Updates same_key stay new x.key (Some i) → slice_get all i ≡ Some x
      → IsParted weak gone all removed lost new (state ++ x ∷ [])
  parted_stays new i there put here =
      let gone_is : pairs same_key weak gone [] (state ++ x ∷ []) ≡ out =
      pairs-push same_key weak gone [] state x ∙ ap (λ b. cond b (add same_key weak out x) out) there in
      let kept_is : kept same_key weak gone (state ++ x ∷ []) ≡ kept same_key weak gone state ++ x ∷ [] =
      filter-push gone state x ∙ ap (λ b. cond b (kept same_key weak gone state) (kept same_key weak gone state ++ x ∷ [])) there in
      record {
        removed_are = subst (IsRemoved removed) (sym gone_is) is.removed_are;
        lost_are =
            is.lost_are
            ∙ sym (asked-push same_key weak gone [] state x
            ∙ ap (λ b. cond b (cond (is_along same_key weak gone x (remover_of same_key weak (remover same_key out) x)) [] (x.key ∷ [])) []
            ++ asked same_key weak gone [] state) there);
        stay_are = subst (IsIndexOf all new) (sym kept_is) (index_more all stay new (kept same_key weak gone state) x i put here is.stay_are);
      }
