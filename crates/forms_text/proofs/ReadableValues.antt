-- The JSON of plain values is readable: its numbers have 64 bits, and it nests in one object at most.
use Rattle.std.proofs.Common.{◌≡◌, ℕ, suc, ◌-◌, ◌*◌, ◌^◌, ◌<◌, ◌≤◌, Bool, true, false, List, [], ◌∷◌, length, Option, Some, None, negsuc, cond, arith, refl}
use Rattle.std.specs.Prelude.{◌==◌, ◌||◌, nat_lt, bytes_eq, codes}
use Rattle.std.specs.Str.{is_utf8}
use Rattle.std.proofs.lemmas.Bool.{cond_both, ltb-false, eqb-true}
use Rattle.nla_frames.specs.Value.{IsBytes}
use Rattle.serde_json.specs.Data.{Data, number, string, unsigned, negative}
use Rattle.forms_values.specs.declared.form.Number.{Number}
use Rattle.forms_values.specs.declared.form.Number.TheVariants.{U8, U16, U32, U64, I8, I16, I32, I64, U16Be, U32Be, U64Be}
use Rattle.forms_values.specs.declared.form.Form.{Form}
use Rattle.forms_values.specs.declared.form.Form.TheVariants as form
use Rattle.forms_values.specs.Numbers.{is_signed, half, num_of, num, bits_of, is_number, named_or, name_of, number_of}
use Rattle.forms_values.specs.Places.{names_of, part_at}
use Rattle.forms_values.specs.Raw.{one, raw}
use Rattle.forms_values.specs.Tables.{Table}
use Rattle.forms_values.specs.Values.{text_in, text_or_raw, plain_shown}
use Rattle.forms_values.specs.Widths.{number_width}
use Rattle.forms_values.proofs.Leaves.{bits_below}
use Rattle.forms_text.proofs.Readable.{IsKept, Readable}

-- ---- numbers

kept_num : (s : Bool) (h n : ℕ) → h ≤ 2 ^ 63 → n < 2 * h → IsKept (num_of s h n)
kept_num false h n top lt = omega (arith, top, lt)
kept_num true h n top lt =
    cond_both (nat_lt n h) (unsigned n) (negative (negsuc (2 * h - 1 - n))) IsKept (λ e. omega (arith, top, lt))
    (λ e. let high : h ≤ n = ltb-false n h e in omega (arith, top, lt, high))

half_top : (k : Number) → half k ≤ 2 ^ 63
half_top U8 = omega arith
half_top U16 = omega arith
half_top U32 = omega arith
half_top U64 = omega arith
half_top I8 = omega arith
half_top I16 = omega arith
half_top I32 = omega arith
half_top I64 = omega arith
half_top U16Be = omega arith
half_top U32Be = omega arith
half_top U64Be = omega arith

number_kept : (k : Number) (b : List ℕ) → length b ≡ number_width k → IsBytes b → IsKept (num k (bits_of k b))
number_kept k b len h = kept_num (is_signed k) (half k) (bits_of k b) (half_top k) (bits_below k b len h)

-- ---- plain values: an object of one member at most

pub raw_readable : (b : List ℕ) (n : ℕ) → Readable (raw b) (suc n)
raw_readable b n = ((refl, tt), (tt, tt))

-- if a test holds, else raw
pub tested : (t : Bool) (d : Data) (b : List ℕ) (n : ℕ) → (t ≡ true → Readable d (suc n)) → Readable (cond t d (raw b)) (suc n)
tested t d b n h = cond_both t d (raw b) (λ x. Readable x (suc n)) h (λ e. raw_readable b n)

text_readable : (b : List ℕ) (o : Option (List ℕ)) (n : ℕ) → Readable (text_or_raw b o) (suc n)
text_readable b None n = raw_readable b n
text_readable b (Some t) n = tt

pub plain_readable : (table : Table) (f : Form) (b : List ℕ) (n : ℕ) → IsBytes b → Readable (plain_shown table f b) (suc n)
plain_readable table (form.Number k) b n h = tested (length b == number_width k) _ b n (λ e. number_kept k b (eqb-true _ _ e) h)
plain_readable table (form.Named k i) b n h =
    tested (length b == number_width k) _ b n
    (λ e. go (name_of (names_of (part_at table i)) (bits_of k b)) (number_kept k b (eqb-true _ _ e) h))
  where
    go : (o : Option (List ℕ)) → IsKept (num k (bits_of k b))
        → Readable (named_or (names_of (part_at table i)) (bits_of k b) (one (codes "Other") (number (num k (bits_of k b)))) o) (suc n)
    go None kept = ((refl, tt), (kept, tt))
    go (Some name) kept =
        cond_both (is_number (number_of (names_of (part_at table i)) name) (bits_of k b)) (string name) (one (codes "Other") (number (num k (bits_of k b))))
        (λ d. Readable d (suc n)) (λ e. tt) (λ e. ((refl, tt), (kept, tt)))
plain_readable table form.Handle b n h = tested (length b == 4) _ b n (λ e. tt)
plain_readable table form.Flag b n h = tested (length b == 0) _ b n (λ e. tt)
plain_readable table form.Truth b n h = tested (bytes_eq b (0 ∷ []) || bytes_eq b (1 ∷ [])) _ b n (λ e. tt)
plain_readable table form.Text b n h = text_readable b (text_in b) n
plain_readable table form.Bare b n h = tested (is_utf8 b) _ b n (λ e. tt)
plain_readable table form.Hex b n h = tt
plain_readable table (form.Bytes m) b n h = tested (length b == m) _ b n (λ e. tt)
plain_readable table (form.Pad m) b n h = tested (length b == m) _ b n (λ e. tt)
plain_readable table form.Mac b n h = tested (length b == 6) _ b n (λ e. tt)
plain_readable table form.Ipv4 b n h = tested (length b == 4) _ b n (λ e. tt)
plain_readable table form.Ipv6 b n h = tested (length b == 16) _ b n (λ e. tt)
plain_readable table f b n h = raw_readable b n
