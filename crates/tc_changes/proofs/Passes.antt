-- The pass over a state that finds the deletes.
use Rattle.std.proofs.Common.{◌≡◌, Bool, true, false, not, cond, ◌&&◌, ◌||◌, List, [], ◌∷◌, ◌++◌, Option, Some, None, unwrap_or, refl, sym, ap, ◌∙◌}
use Rattle.std.proofs.Common.{append_assoc, append-nil}
use Rattle.std.specs.List.{AllByRecursion}
use Rattle.std.proofs.lemmas.List.Folds.{list_any-append}
use Rattle.tc_changes.specs.Model.{Thing, needs, among, or_else, is_next, ready}
use Rattle.tc_changes.specs.Planned.{remover, remover_of, first_by, is_all_by, is_all_but, only_by, add, is_along, asked}
use Rattle.tc_changes.proofs.Lookups.{and_left, and_right, or_left, or_right, or_first, or_second, not_true, by_cases, all_at}
use Rattle.tc_changes.proofs.Unrelated.{ready_rest}

module _ {K : Type 0} where
  asked_step : (b : Bool) (one key less more tail_less tail_more : List K)
      → (b ≡ true → tail_less ≡ one ++ less) → (b ≡ false → tail_more ≡ one ++ more)
      → cond b (tail_less ++ key) tail_more ≡ one ++ cond b (less ++ key) more
  asked_step true one key less more tail_less tail_more here there = ap (λ l. l ++ key) (here refl) ∙ append_assoc one less key
  asked_step false one key less more tail_less tail_more here there = there refl

  one_asked : (b c : Bool) (k : K) (less more all : List K) → (b ≡ true → less ≡ all) → (b ≡ false → more ≡ all)
      → cond b (less ++ cond c [] (k ∷ [])) more ≡ all ++ cond (b && not c) (k ∷ []) []
  one_asked true true k less more all here there = ap (λ l. l ++ []) (here refl)
  one_asked true false k less more all here there = ap (λ l. l ++ k ∷ []) (here refl)
  one_asked false c k less more all here there = there refl ∙ sym (append-nil all)

module _ {K C : Type 0} (eq : K → K → Bool) (weak gone : K → Bool) where
  -- what goes of a state, after what went before it
  abbrev pub pairs : List (K × K) → List (Thing K C) → List (K × K)
  pairs removed [] = removed
  pairs removed (o ∷ state) = pairs (cond (gone o.key) (add eq weak removed o) removed) state

  pub pairs-push : (removed : List (K × K)) (state : List (Thing K C)) (x : Thing K C)
      → pairs removed (state ++ x ∷ []) ≡ cond (gone x.key) (add eq weak (pairs removed state) x) (pairs removed state)
  pairs-push removed [] x = refl
  pairs-push removed (o ∷ state) x = pairs-push (cond (gone o.key) (add eq weak removed o) removed) state x

  -- the key to ask for the delete of, if an object goes
  abbrev pub asks : List (K × K) → Thing K C → List K
  asks removed x = cond (gone x.key) (cond (is_along eq weak gone x (remover_of eq weak (remover eq removed) x)) [] (x.key ∷ [])) []

  pub asked-push : (removed : List (K × K)) (state : List (Thing K C)) (x : Thing K C)
      → asked eq weak gone removed (state ++ x ∷ []) ≡ asks (pairs removed state) x ++ asked eq weak gone removed state
  asked-push removed [] x = sym (append-nil (asks removed x))
  asked-push removed (o ∷ state) x =
      let b = gone o.key in
      let less = asked eq weak gone (add eq weak removed o) state in
      let more = asked eq weak gone removed state in
      let after : Bool → List K = λ c. asks (pairs (cond c (add eq weak removed o) removed) state) x in
      asked_step b (after b) (cond (is_along eq weak gone o (remover_of eq weak (remover eq removed) o)) [] (o.key ∷ [])) less more
      (asked eq weak gone (add eq weak removed o) (state ++ x ∷ [])) (asked eq weak gone removed (state ++ x ∷ []))
      (λ is. asked-push (add eq weak removed o) state x ∙ ap (λ c. after c ++ less) (sym is))
      (λ is. asked-push removed state x ∙ ap (λ c. after c ++ more) (sym is))

module _ {K : Type 0} (eq : K → K → Bool) (same : (a : K) → eq a a ≡ true) (weak : K → Bool) (f g : K → Option K) where
  -- look-ups that agree on some keys
  abbrev Agree : List K → Type 0
  Agree ns = (n : K) → among eq ns n ≡ true → f n ≡ g n

  less_agree : (m : K) (ns : List K) → Agree (m ∷ ns) → Agree ns
  less_agree m ns agree n there = agree n (or_second (eq n m) _ there)

  first_same : (ns : List K) → Agree ns → first_by f ns ≡ first_by g ns
  first_same [] agree = refl
  first_same (n ∷ ns) agree =
      ap (λ q. or_else q (first_by f ns)) (agree n (or_first (eq n n) _ (same n))) ∙ ap (λ q. or_else (g n) q) (first_same ns (less_agree n ns agree))

  all_same : (j : K) (ns : List K) → Agree ns → is_all_by eq f j ns ≡ is_all_by eq g j ns
  all_same j [] agree = refl
  all_same j (n ∷ ns) agree =
      ap (λ q. eq j (unwrap_or q j) && is_all_by eq f j ns) (agree n (or_first (eq n n) _ (same n)))
      ∙ ap (λ b. eq j (unwrap_or (g n) j) && b) (all_same j ns (less_agree n ns agree))

  but_same : (j : K) (ns : List K) → Agree ns → is_all_but eq weak f j ns ≡ is_all_but eq weak g j ns
  but_same j [] agree = refl
  but_same j (n ∷ ns) agree =
      ap (λ q. (weak n || eq j (unwrap_or q j)) && is_all_but eq weak f j ns) (agree n (or_first (eq n n) _ (same n)))
      ∙ ap (λ b. (weak n || eq j (unwrap_or (g n) j)) && b) (but_same j ns (less_agree n ns agree))

  pub remover_same : {C : Type 0} (o : Thing K C) → ((n : K) → among eq (needs o) n ≡ true → f n ≡ g n)
      → remover_of eq weak f o ≡ remover_of eq weak g o
  remover_same o agree =
      let under : Agree o.under = λ n there. agree n (list_any-append (eq n) o.under o.refers ∙ or_first (among eq o.under n) _ there) in
      let refers : Agree o.refers = λ n there. agree n (list_any-append (eq n) o.under o.refers ∙ or_second (among eq o.under n) _ there) in
      ap (only_by eq weak f o) (first_same o.under under) ∙ by_first (first_by g o.under) under refers
    where
      by_first : (q : Option K) → Agree o.under → Agree o.refers → only_by eq weak f o q ≡ only_by eq weak g o q
      by_first None under refers = refl
      by_first (Some j) under refers =
          ap (λ b. cond (b && is_all_but eq weak f j o.refers) (Some j) None) (all_same j o.under under)
          ∙ ap (λ b. cond (is_all_by eq g j o.under && b) (Some j) None) (but_same j o.refers refers)

module _ {K C : Type 0} (eq : K → K → Bool) (sound : (a b : K) → eq a b ≡ true → a ≡ b) (same : (a : K) → eq a a ≡ true) (weak gone : K → Bool) where
  -- objects with other keys change nothing for a key
  other_pairs : (removed : List (K × K)) (rest : List (Thing K C)) (k : K) → AllByRecursion (λ p. eq k p.key ≡ false) rest
      → remover eq (pairs eq weak gone removed rest) k ≡ remover eq removed k
  other_pairs removed [] k all = refl
  other_pairs removed (o ∷ rest) k all =
      other_pairs (cond (gone o.key) (add eq weak removed o) removed) rest k all.1 ∙ other_one (gone o.key)
    where
      other_one : (b : Bool) → remover eq (cond b (add eq weak removed o) removed) k ≡ remover eq removed k
      other_one true = ap (λ b. cond b (Some (unwrap_or (remover_of eq weak (remover eq removed) o) o.key)) (remover eq removed k)) all.0
      other_one false = refl

  module _ (find : K → Option K) where
    -- an object is asked for, by all that goes
    abbrev pub is_asked : Thing K C → Bool
    is_asked o = gone o.key && not (is_along eq weak gone o (remover_of eq weak find o))

    abbrev pub asked_all : List (Thing K C) → List K
    asked_all [] = []
    asked_all (o ∷ rest) = asked_all rest ++ cond (is_asked o) (o.key ∷ []) []

    -- what is known of the remover of an object
    abbrev pub Removed : Thing K C → Type 0
    Removed o = find o.key ≡ cond (gone o.key) (Some (unwrap_or (remover_of eq weak find o) o.key)) None

    pub removed_are : (before : List K) (removed : List (K × K)) (rest : List (Thing K C)) → ready eq before rest ≡ true
        → ((k : K) → remover eq (pairs eq weak gone removed rest) k ≡ find k)
        → ((k : K) → among eq before k ≡ true → remover eq removed k ≡ find k) → ((k : K) → among eq before k ≡ false → remover eq removed k ≡ None)
        → AllByRecursion Removed rest × (asked eq weak gone removed rest ≡ asked_all rest)
    removed_are before removed [] is all old new = (tt, refl)
    removed_are before removed (o ∷ rest) is all old new =
        let first = and_left (is_next eq before o) (ready eq (o.key ∷ before) rest) is in
        let fresh = not_true (among eq before o.key) (and_left (not (among eq before o.key)) _ first) in
        let x = unwrap_or (remover_of eq weak (remover eq removed) o) o.key in
        let more : List (K × K) = cond (gone o.key) (add eq weak removed o) removed in
        let remover_is : remover_of eq weak (remover eq removed) o ≡ remover_of eq weak find o =
        remover_same eq same weak (remover eq removed) find o
        (λ n need. old n (all_at eq sound same (among eq before) (needs o) n (and_right (not (among eq before o.key)) _ first) need)) in
        let own : remover eq more o.key ≡ find o.key =
        sym (other_pairs more rest o.key (ready_rest eq sound same before [] o rest is)) ∙ all o.key in
        let other : (k : K) → eq k o.key ≡ false → remover eq more k ≡ remover eq removed k = λ k differs. other_more (gone o.key) k differs in
        let deeper = removed_are (o.key ∷ before) more rest (and_right (is_next eq before o) _ is) all
        (λ k there. by_cases (remover eq more k ≡ find k) (eq k o.key)
        (λ on. ap (remover eq more) (sound k o.key on) ∙ own ∙ ap find (sym (sound k o.key on)))
        (λ off. other k off ∙ old k (sym (ap (λ b. b || among eq before k) off) ∙ there)))
        (λ k out. other k (or_left (eq k o.key) _ out) ∙ new k (or_right (eq k o.key) _ out)) in (
          (
            sym own ∙ by_gone (gone o.key) (new o.key fresh)
                ∙ ap (λ q. cond (gone o.key) (Some (unwrap_or q o.key)) None) remover_is,
            deeper.0,
          ),
          one_asked (gone o.key) (is_along eq weak gone o (remover_of eq weak (remover eq removed) o)) o.key
              (asked eq weak gone (add eq weak removed o) rest) (asked eq weak gone removed rest) (asked_all rest)
              (λ on. ap (λ b. asked eq weak gone (cond b (add eq weak removed o) removed) rest) (sym on) ∙ deeper.1)
              (λ off. ap (λ b. asked eq weak gone (cond b (add eq weak removed o) removed) rest) (sym off) ∙ deeper.1)
              ∙ ap (λ q. asked_all rest ++ cond (gone o.key && not (is_along eq weak gone o q)) (o.key ∷ []) []) remover_is,
        )
      where
        other_more : (b : Bool) (k : K) → eq k o.key ≡ false → remover eq (cond b (add eq weak removed o) removed) k ≡ remover eq removed k
        other_more true k differs = ap (λ b. cond b (Some (unwrap_or (remover_of eq weak (remover eq removed) o) o.key)) (remover eq removed k)) differs
        other_more false k differs = refl

        by_gone : (b : Bool) → remover eq removed o.key ≡ None → remover eq (cond b (add eq weak removed o) removed) o.key
            ≡ cond b (Some (unwrap_or (remover_of eq weak (remover eq removed) o) o.key)) None
        by_gone true none = ap (λ b. cond b (Some (unwrap_or (remover_of eq weak (remover eq removed) o) o.key)) (remover eq removed o.key)) (same o.key)
        by_gone false none = none
