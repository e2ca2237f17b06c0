-- The tokens of events.
use Rattle.std.proofs.Common.{◌≡◌, ℕ, ◌+◌, Bool, false, List, [], ◌∷◌, ◌++◌, Option, refl, sym, ap, subst, ◌∙◌, append_assoc, inl, inr}
use Rattle.std.specs.Prelude.{ℤ, ◌-◌, ◌^◌, min, codes, decimal, if◌then◌else◌}
use Rattle.std.specs.Fmt.{signed_decimal}
use Rattle.json.specs.Token as json
use Rattle.serde.specs.Event.{Event, boolean, signed, unsigned, text, seq_begins, seq_ends, map_begins, map_ends, field_key}
use Rattle.serde.specs.declared.name.Case.TheVariants.{AsIs}
use Rattle.serde.specs.declared.name.NameKind.TheVariants.{Field}
use Rattle.serde.proofs.Spellings.{spelled-AsIs}
use Rattle.serde_json.specs.Sent.{State, with, TakesAll}

-- a writer that isn't at a key, and has no object without braces
pub record Plain (s : State) : Type 0 where
  pub at_key : s.at_key ≡ false
  pub flattens : s.flattens ≡ false
  pub flat : s.flat ≡ []

-- these events are written as these tokens
abbrev pub Written : List Event → List json.Token → Type 0
Written es ts = (s new : State) → Plain s → TakesAll s es new → Plain new × (new.tokens ≡ s.tokens ++ ts)

-- ---- one after the other

split : (es fs : List Event) (s new : State) → TakesAll s (es ++ fs) new → (mid : State) × TakesAll s es mid × TakesAll mid fs new
split [] fs s new h = (s, refl, h)
split (e ∷ es) fs s new (mid, one, rest) = let more = split es fs mid new rest in (more.0, (mid, one, more.1), more.2)

pub both : (es fs : List Event) (ts us : List json.Token) → Written es ts → Written fs us → Written (es ++ fs) (ts ++ us)
both es fs ts us first second s new p h =
    let parts = split es fs s new h in
    let one = first s parts.0 p parts.1 in
    let two = second parts.0 new one.0 parts.2 in
    (two.0, two.1 ∙ ap (λ l. l ++ us) one.1 ∙ append_assoc s.tokens ts us)

-- ---- one event

adds : (s new : State) (d : ℕ) (ts : List json.Token) → Plain s → new ≡ record s { tokens = s.tokens ++ ts; depth = d }
    → Plain new × (new.tokens ≡ s.tokens ++ ts)
adds s new d ts p e = (subst Plain (sym e) (record { at_key = p.at_key; flattens = p.flattens; flat = p.flat }), ap (λ (z : State). z.tokens) e)

pub a_text : (v : List ℕ) → Written (text v ∷ []) (json.string v ∷ [])
a_text v s new p (mid, (f, e), is) = adds s new s.depth _ p (is ∙ e ∙ ap (λ b. with s ((if b then json.key v else json.string v) ∷ [])) p.at_key)

pub a_number : (n : ℕ) → Written (unsigned n ∷ []) (json.number (decimal n) ∷ [])
a_number n s new p (mid, (narrow, (f, e)), is) =
    adds s new s.depth _ p (is ∙ e ∙ ap (λ b. with s ((if b then json.key (decimal n) else json.number (decimal n)) ∷ [])) p.at_key)

pub a_signed : (z : ℤ) → Written (signed z ∷ []) (json.number (signed_decimal z) ∷ [])
a_signed z s new p (mid, (narrow, (f, e)), is) =
    adds s new s.depth _ p (is ∙ e ∙ ap (λ b. with s ((if b then json.key (signed_decimal z) else json.number (signed_decimal z)) ∷ [])) p.at_key)

pub a_boolean : (b : Bool) → Written (boolean b ∷ []) (json.boolean b ∷ [])
a_boolean b s new p (mid, (f, e), is) =
    adds s new s.depth _ p (is ∙ e ∙ ap (λ k. with s ((if k then json.key (if b then codes "true" else codes "false") else json.boolean b) ∷ [])) p.at_key)

an_array : (n : Option ℕ) → Written (seq_begins n ∷ []) (json.begin_array ∷ [])
an_array n s new p (mid, (k, (f, e)), is) = adds s new s.depth _ p (is ∙ e)

pub array_ends : Written (seq_ends ∷ []) (json.end_array ∷ [])
array_ends s new p (mid, e, is) = adds s new s.depth _ p (is ∙ e)

an_object : (n : Option ℕ) → Written (map_begins n ∷ []) (json.begin_object ∷ [])
an_object n s new p (mid, (k, e), is) =
    let deeper = min (s.depth + 1) (2 ^ 64 - 1) in
    adds s new deeper _ p (is ∙ e ∙ ap (λ b. if b then record s { depth = deeper; flat = s.flat ++ s.depth ∷ []; flattens = false }
    else record s { depth = deeper; tokens = s.tokens ++ json.begin_object ∷ [] }) p.flattens)

not_last : {P : Type 0} (rest : List ℕ) (n : ℕ) → [] ≡ rest ++ n ∷ [] → P
not_last [] n e = absurd (cc e)
not_last (x ∷ rest) n e = absurd (cc e)

pub object_ends : Written (map_ends ∷ []) (json.end_object ∷ [])
object_ends s new p (mid, inl (rest, e, f), is) = not_last rest (s.depth - 1) (sym p.flat ∙ e)
object_ends s new p (mid, inr (none, e), is) = adds s new (s.depth - 1) _ p (is ∙ e)

a_key : (name : List ℕ) → Written (field_key name AsIs ∷ []) (json.key name ∷ [])
a_key name s new p (mid, e, is) = adds s new s.depth _ p (is ∙ e ∙ ap (λ w. with s (json.key w ∷ [])) (spelled-AsIs Field name))

-- ---- one event, and then these

pub in_array : (n : Option ℕ) (es : List Event) (ts : List json.Token) → Written es ts → Written (seq_begins n ∷ es) (json.begin_array ∷ ts)
in_array n es ts h = both (seq_begins n ∷ []) es (json.begin_array ∷ []) ts (an_array n) h

pub in_object : (n : Option ℕ) (es : List Event) (ts : List json.Token) → Written es ts → Written (map_begins n ∷ es) (json.begin_object ∷ ts)
in_object n es ts h = both (map_begins n ∷ []) es (json.begin_object ∷ []) ts (an_object n) h

pub at_field : (name : List ℕ) (es : List Event) (ts : List json.Token) → Written es ts → Written (field_key name AsIs ∷ es) (json.key name ∷ ts)
at_field name es ts h = both (field_key name AsIs ∷ []) es (json.key name ∷ []) ts (a_key name) h
