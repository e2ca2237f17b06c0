-- Searching a list of entries, one entry at a time.
use Rattle.std.proofs.Common.{◌≡◌, ℕ, zero, suc, ◌-◌, ◌<◌, ◌≤◌, List, [], ◌∷◌, length, drop, None, Some, refl, ap, arith}
use Rattle.std.proofs.lemmas.Bool.{lt-ltb, le-ltb, eq-eqb, ne_eqb}
use Rattle.std.proofs.lemmas.List.{length-drop}
use Rattle.tc_capture.specs.declared.entries.Entries.{Entries}
use Rattle.tc_capture.specs.Message.{padding}
use Rattle.tc_capture.specs.Entries.{type_at, entry_end, entry_value, after_entry, entry_or, entry_up_to, entry_in}

-- what follows an entry is shorter than the bytes, where there are any
shorter : (entries : Entries) (bytes : List ℕ) → length (after_entry entries bytes) ≤ length bytes - 1
shorter entries bytes =
    let end = entry_end entries bytes in
    omega (arith, length-drop (padding end) (drop end bytes), length-drop end bytes)

-- enough steps are as good as more
enough_steps : (n m : ℕ) (entries : Entries) (kind : ℕ) (bytes : List ℕ) → length bytes ≤ n → length bytes ≤ m
    → entry_up_to n entries kind bytes ≡ entry_up_to m entries kind bytes
unfolding entry_up_to
enough_steps zero zero entries kind bytes h k = refl
enough_steps zero (suc m) entries kind [] h k = refl
enough_steps (suc n) zero entries kind [] h k = refl
enough_steps zero (suc m) entries kind (b ∷ bytes) h k = absurd (omega arith)
enough_steps (suc n) zero entries kind (b ∷ bytes) h k = absurd (omega arith)
enough_steps (suc n) (suc m) entries kind bytes h k =
    let less = shorter entries bytes in
    ap (entry_or entries kind bytes) (enough_steps n m entries kind (after_entry entries bytes) (omega arith) (omega arith))

-- the entry at the front, or else what is found after it
pub entry_in-next : (entries : Entries) (kind : ℕ) (bytes : List ℕ)
    → entry_in entries kind bytes ≡ entry_or entries kind bytes (entry_in entries kind (after_entry entries bytes))
unfolding entry_in entry_up_to
entry_in-next entries kind [] = refl
entry_in-next entries kind (b ∷ bytes) =
    let less = shorter entries (b ∷ bytes) in
    ap (entry_or entries kind (b ∷ bytes))
    (enough_steps (length bytes) (length (after_entry entries (b ∷ bytes))) entries kind (after_entry entries (b ∷ bytes)) (omega arith) (omega arith))

module _ (entries : Entries) (kind : ℕ) (bytes : List ℕ) where
  -- no entry is at the front
  pub entry_in_none : (length bytes < 4) → entry_in entries kind bytes ≡ None
  entry_in_none short = rw (entry_in-next, lt-ltb (length bytes) 4 short) refl

  module _ (header : 4 ≤ length bytes) where
    -- the entrys end
    pub entry_in_end : type_at entries bytes ≡ 0 → entry_in entries kind bytes ≡ None
    entry_in_end ends = rw (entry_in-next, le-ltb (length bytes) 4 header, eq-eqb _ _ ends) refl

    module _ (more : type_at entries bytes ≡ 0 → ⊥) where
      -- the entry at the front is cut
      pub entry_in_cut : (length bytes < entry_end entries bytes) → entry_in entries kind bytes ≡ None
      entry_in_cut cut = rw (entry_in-next, le-ltb (length bytes) 4 header, ne_eqb _ _ more, lt-ltb (length bytes) (entry_end entries bytes) cut) refl

      module _ (whole : entry_end entries bytes ≤ length bytes) where
        -- it is the one
        pub entry_in_front : type_at entries bytes ≡ kind → entry_in entries kind bytes ≡ Some (entry_value entries bytes)
        entry_in_front is =
            rw (entry_in-next, le-ltb (length bytes) 4 header, ne_eqb _ _ more, le-ltb (length bytes) (entry_end entries bytes) whole, eq-eqb _ _ is) refl

        -- it is another
        pub entry_in_later : (type_at entries bytes ≡ kind → ⊥) → entry_in entries kind bytes ≡ entry_in entries kind (after_entry entries bytes)
        entry_in_later not =
            rw (entry_in-next, le-ltb (length bytes) 4 header, ne_eqb _ _ more, le-ltb (length bytes) (entry_end entries bytes) whole, ne_eqb _ _ not) refl
