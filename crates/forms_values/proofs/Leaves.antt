-- Plain values: the JSON of bytes is turned into these bytes.
use Rattle.std.proofs.Common.{◌≡◌, ℕ, zero, suc, ◌-◌, ◌*◌, ◌^◌, ◌<◌, ◌≤◌, Bool, true, false, List, [], ◌∷◌, ◌++◌, length, get_or, reverse, negsuc}
use Rattle.std.proofs.Common.{Option, Some, None, refl, ap, sym, ◌∙◌, subst, arith, cond, inl, inr, append-nil, lit≤}
use Rattle.std.specs.Prelude.{option_map, option_and_then, bytes_eq, nat_lt, IfSome, MatchOption, is_none, unwrap_or, take, replicate, ◌==◌, ◌&&◌}
use Rattle.std.proofs.lemmas.Bool.{and_parts, eqb-true, eq-eqb, cases_lt, cases_Bool, cond-true, ltb-true, ltb-false, lt-ltb, cond_both, true≢false}
use Rattle.std.proofs.lemmas.Bool.{and_from, cond-false, false_from_ne_true}
use Rattle.std.proofs.lemmas.Slice.Eq.{bytes_eq-Decides}
use Rattle.std.proofs.lemmas.List.{reverse-reverse, length-reverse, get_or-reverse, get_or_past, append_cancel_left, take_at, drop_at, length-append}
use Rattle.hex.specs.Hex.{decode_of, decode_sized}
use Rattle.hex.specs.Hex as kit
use Rattle.nla_frames.specs.Value.{IsBytes, le_bytes, le_value}
use Rattle.nla_frames.proofs.Bytes.{IsBytes-tail, IsBytes-take, IsBytes-drop, le_value_below, le_bytes-le_value}
use Rattle.serde_json.specs.Data.{unsigned, negative, number}
use Rattle.tc_texts.specs.Hex.{hex_text}
use Rattle.std.specs.Net.Addr.{segments_of, octets_of}
use Rattle.std.specs.Net.Reader.{read_ipv4, read_ipv6}
use Rattle.std.proofs.NetLemmas.Ipv4.{read_ipv4_complete}
use Rattle.std.proofs.NetLemmas.Ipv6.{read_ipv6_complete, EndsGroups-nil}
use Rattle.std.proofs.Math.Nat.{pow-le-pow_right}
use Rattle.tc_texts.specs.Addresses.{mac_text, ipv4_text, ipv6_text}
use Rattle.tc_texts.proofs.Ipv6.{dotted, colon_hex, colon_hex_unique}
use Rattle.tc_texts.specs.Handle.{handle_text, handle_of}
use Rattle.tc_texts.specs.Reading.{IsOctets, ReadsBack, IsNoHex}
use Rattle.tc_texts.proofs.HexTexts.{decode_of-hex_text}
use Rattle.tc_texts.proofs.Mac as mac
use Rattle.tc_texts.proofs.Handles.{handle_of-handle_text}
use Rattle.forms_values.specs.declared.form.Number.{Number}
use Rattle.forms_values.specs.declared.form.Number.TheVariants.{U8, U16, U32, U64, I8, I16, I32, I64, U16Be, U32Be, U64Be}
use Rattle.forms_values.specs.Numbers.{bits_in, bits_of, bytes_of, half, in_order, is_big, is_signed, num, num_of, number_made}
use Rattle.forms_values.specs.Raw.{all_bytes, decoded, hex, hex_made, hex_of, of_length, raw, raw_of, with_text}
use Rattle.forms_values.specs.Records.{all_zero}
use Rattle.forms_values.specs.Values.{ipv4_of, ipv6_of, mac_digits, mac_of, text_in}
use Rattle.forms_values.specs.Widths.{number_width}
use Rattle.std.specs.Str.{IsUtf8, is_utf8}
use Rattle.std.proofs.lemmas.Str.{IsUtf8-from_is_utf8, is_utf8-from_IsUtf8}

pub same_bytes : (b : List ℕ) → bytes_eq b b ≡ true
same_bytes b = (bytes_eq-Decides b b).1 refl

pub kit_bytes : (b : List ℕ) → IsBytes b → kit.IsBytes b
kit_bytes b h i = h.each i

bytes_pass : (b : List ℕ) → IsBytes b → all_bytes b ≡ true
bytes_pass [] h = refl
bytes_pass (x ∷ b) h = and_from (nat_lt x 256) (all_bytes b) (lt-ltb x 256 (h.each 0)) (bytes_pass b (IsBytes-tail x b h))

pub passed : (text_of : List ℕ → List ℕ) (b : List ℕ) → IsBytes b → with_text text_of (text_of b) (Some b) ≡ Some b
passed text_of b h = ap (λ t. cond t (Some b) None) (and_from (all_bytes b) (bytes_eq (text_of b) (text_of b)) (bytes_pass b h) (same_bytes (text_of b)))

pub sized : (n : ℕ) (b : List ℕ) → length b ≡ n → of_length n b ≡ Some b
sized n b len = ap (λ t. cond t (Some b) None) (eq-eqb (length b) n len)

pub hex_of-hex_text : (b : List ℕ) → IsBytes b → hex_of (hex_text b) ≡ Some b
hex_of-hex_text b h = ap (λ r. with_text hex_text (hex_text b) (decoded r)) (decode_of-hex_text b (kit_bytes b h)) ∙ passed hex_text b h

pub hex_made-hex : (b : List ℕ) → IsBytes b → hex_made (hex b) ≡ Some b
hex_made-hex b h = hex_of-hex_text b h

pub raw_of-raw : (b : List ℕ) → IsBytes b → raw_of (raw b) ≡ Some b
raw_of-raw b h = hex_of-hex_text b h

pub mac_of-mac_text : (b : List ℕ) → length b ≡ 6 → IsBytes b → mac_of (mac_text b) ≡ Some b
mac_of-mac_text b len h =
    ap (λ r. with_text mac_text (mac_text b) (option_and_then (of_length 6) (decoded r))) (mac.mac_digits (mac_text b) b (len, kit_bytes b h) refl)
    ∙ ap (with_text mac_text (mac_text b)) (sized 6 b len) ∙ passed mac_text b h

pub ipv4_of-ipv4_text : (b : List ℕ) → length b ≡ 4 → IsBytes b → ipv4_of (ipv4_text b) ≡ Some b
ipv4_of-ipv4_text b len h =
    let read : read_ipv4 (ipv4_text b) ≡ Some (b, []) =
    rw append-nil at (read_ipv4_complete (ipv4_text b) b [] (dotted (ipv4_text b) b (len, kit_bytes b h) refl) (lit≤ tt)) in
    ap (λ r. with_text ipv4_text (ipv4_text b) (option_and_then (of_length 4) (option_map (λ x. x.0) r))) read
    ∙ ap (with_text ipv4_text (ipv4_text b)) (sized 4 b len)
    ∙ passed ipv4_text b h

pub ipv6_of-ipv6_text : (b : List ℕ) → length b ≡ 16 → IsBytes b → ipv6_of (ipv6_text b) ≡ Some b
ipv6_of-ipv6_text b len h =
    let read : read_ipv6 (ipv6_text b) ≡ Some (segments_of b, []) =
    rw append-nil at (read_ipv6_complete (ipv6_text b) (segments_of b) [] (colon_hex (ipv6_text b) b (len, kit_bytes b h) refl) EndsGroups-nil) in
    ap (λ r. with_text ipv6_text (ipv6_text b) (option_and_then (of_length 16) (option_map (λ x. octets_of x.0) r))) read
    ∙ ap (λ o. with_text ipv6_text (ipv6_text b) (of_length 16 o))
    (colon_hex_unique (ipv6_text b) (segments_of b) b (len, kit_bytes b h) (colon_hex (ipv6_text b) b (len, kit_bytes b h) refl) refl)
    ∙ ap (with_text ipv6_text (ipv6_text b)) (sized 16 b len) ∙ passed ipv6_text b h

-- ---- zeros

pub all_zeros : (b : List ℕ) → all_zero b ≡ true → b ≡ replicate (length b) 0
all_zeros [] e = refl
all_zeros (x ∷ b) e =
    let both = and_parts (x == 0) (all_zero b) e in
    ap (λ y. y ∷ b) (eqb-true x 0 both.0) ∙ ap (λ (t : List ℕ). 0 ∷ t) (all_zeros b both.1)

-- ---- numbers

pub bits_in-num_of : (s : Bool) (h n : ℕ) → n < 2 * h → bits_in s h (num_of s h n) ≡ Some n
bits_in-num_of false h n lt = ap (λ t. cond t (Some n) None) (lt-ltb n (2 * h) lt)
bits_in-num_of true h n lt =
    cond_both (nat_lt n h) (unsigned n) (negative (negsuc (2 * h - 1 - n))) (λ x. bits_in true h x ≡ Some n)
    (λ e. ap (λ t. cond t (Some n) None) e)
    (λ e.
    let high : h ≤ n = ltb-false n h e in
    let low : 2 * h - 1 - n < h = omega arith in
    ap (λ t. option_map (λ m. 2 * h - 1 - m) (cond t (Some (2 * h - 1 - n)) None)) (lt-ltb (2 * h - 1 - n) h low) ∙ ap Some (omega arith))

IsBytes-reverse : (b : List ℕ) → IsBytes b → IsBytes (reverse b)
IsBytes-reverse b h = record { each = at }
  where
    at : (i : ℕ) → get_or (reverse b) i 0 < 256
    at i =
        elim (cases_lt i (length b)) [
          | inl lt ↦ rw (get_or-reverse b i 0 lt) (h.each (length b - 1 - i))
          | inr le ↦ let past : length (reverse b) ≤ i = rw length-reverse le in rw (get_or_past (reverse b) i 0 past) (omega arith)
        ]

IsBytes-ordered : (s : Bool) (b : List ℕ) → IsBytes b → IsBytes (in_order s b)
IsBytes-ordered true b h = IsBytes-reverse b h
IsBytes-ordered false b h = h

length-ordered : (s : Bool) (b : List ℕ) → length (in_order s b) ≡ length b
length-ordered true b = length-reverse b
length-ordered false b = refl

ordered-ordered : (s : Bool) (b : List ℕ) → in_order s (in_order s b) ≡ b
ordered-ordered true b = reverse-reverse b
ordered-ordered false b = refl

whole : (k : Number) → 256 ^ number_width k ≡ 2 * half k
whole U8 = refl
whole U16 = refl
whole U32 = refl
whole U64 = refl
whole I8 = refl
whole I16 = refl
whole I32 = refl
whole I64 = refl
whole U16Be = refl
whole U32Be = refl
whole U64Be = refl

pub bits_below : (k : Number) (b : List ℕ) → length b ≡ number_width k → IsBytes b → bits_of k b < 2 * half k
bits_below k b len h =
    let small = le_value_below (in_order (is_big k) b) (IsBytes-ordered (is_big k) b h) in
    let P : ℕ → Type 0 = λ n. bits_of k b < n in
    subst P (ap (λ n. 256 ^ n) (length-ordered (is_big k) b ∙ len) ∙ whole k) small

pub bytes_of-bits_of : (k : Number) (b : List ℕ) → length b ≡ number_width k → IsBytes b → bytes_of k (bits_of k b) ≡ b
bytes_of-bits_of k b len h =
    ap (in_order (is_big k)) (le_bytes-le_value (number_width k) (in_order (is_big k) b) (length-ordered (is_big k) b ∙ len) (IsBytes-ordered (is_big k) b h))
    ∙ ordered-ordered (is_big k) b

pub number_again : (k : Number) (b : List ℕ) → length b ≡ number_width k → IsBytes b → number_made k (number (num k (bits_of k b))) ≡ Some b
number_again k b len h =
    ap (option_map (bytes_of k)) (bits_in-num_of (is_signed k) (half k) (bits_of k b) (bits_below k b len h)) ∙ ap Some (bytes_of-bits_of k b len h)

pub handle_again : (b : List ℕ) → length b ≡ 4 → IsBytes b → option_map (le_bytes 4) (handle_of (handle_text (le_value b))) ≡ Some b
handle_again b len h =
    let small = le_value_below b h in
    let P : ℕ → Type 0 = λ n. le_value b < n in
    ap (option_map (le_bytes 4)) (handle_of-handle_text (le_value b) (subst P (ap (λ n. 256 ^ n) len) small)) ∙ ap Some (le_bytes-le_value 4 b len h)

-- ---- what code counts

-- the number of at most seven bytes, and one more
pub little_small : (b : List ℕ) → IsBytes b → length b ≤ 7 → le_value b < 2 ^ 56
little_small b h short =
    let low = le_value_below b h in
    let top : 256 ^ length b ≤ 256 ^ 7 = pow-le-pow_right (lit≤ tt) short in omega (arith, low, top)

-- the text before a NUL, as code finds it
pub text_found : (b front : List ℕ) (last : ℕ) → b ≡ front ++ last ∷ [] → last ≡ 0 → IsUtf8 front → Some front ≡ text_in b
text_found b front last parts nul utf8 =
    let whole : b ≡ front ++ 0 ∷ [] = parts ∙ ap (λ x. front ++ x ∷ []) nul in
    let long : length front ≡ length b - 1 = omega (arith, ap length whole, length-append {A = ℕ} front (0 ∷ [])) in
    let cut : take (length b - 1) b ≡ front = ap (take (length b - 1)) whole ∙ take_at front (0 ∷ []) (length b - 1) long in
    let same : bytes_eq (take (length b - 1) b ++ 0 ∷ []) b ≡ true = (bytes_eq-Decides _ b).1 (ap (λ t. t ++ 0 ∷ []) cut ∙ sym whole) in
    ap Some (sym cut) ∙ sym (cond-true _ (Some (take (length b - 1) b)) None
    (and_from _ _ same (ap is_utf8 cut ∙ is_utf8-from_IsUtf8 front utf8)))

pub text_ends_so : (b front : List ℕ) (last : ℕ) → b ≡ front ++ last ∷ [] → (last ≡ 0 → ⊥) → None ≡ text_in b
text_ends_so b front last parts other =
    sym (cond-false _ (Some (take (length b - 1) b)) None (false_from_ne_true _ (λ e.
    let same = (bytes_eq-Decides (take (length b - 1) b ++ 0 ∷ []) b).0 (and_parts _ _ e).0 in
    let long : length front ≡ length b - 1 = omega (arith, ap length parts, length-append {A = ℕ} front (last ∷ [])) in
    let cut : take (length b - 1) b ≡ front = ap (take (length b - 1)) parts ∙ take_at front (last ∷ []) (length b - 1) long in
    let ends : front ++ 0 ∷ [] ≡ front ++ last ∷ [] = ap (λ t. t ++ 0 ∷ []) (sym cut) ∙ same ∙ parts in
    let tails : 0 ∷ [] ≡ last ∷ [] = append_cancel_left front (0 ∷ []) (last ∷ []) ends in
    other (sym (ap (λ t. get_or t 0 0) tails)))))

pub text_not_utf8 : (b front : List ℕ) (last : ℕ) → b ≡ front ++ last ∷ [] → (IsUtf8 front → ⊥) → None ≡ text_in b
text_not_utf8 b front last parts not =
    let long : length front ≡ length b - 1 = omega (arith, ap length parts, length-append {A = ℕ} front (last ∷ [])) in
    let cut : take (length b - 1) b ≡ front = ap (take (length b - 1)) parts ∙ take_at front (last ∷ []) (length b - 1) long in
    sym (cond-false _ (Some (take (length b - 1) b)) None (false_from_ne_true _ (λ e.
    not (subst IsUtf8 cut (IsUtf8-from_is_utf8 (take (length b - 1) b) (and_parts _ _ e).1)))))

pub big_small : (b : List ℕ) → IsBytes b → length b ≤ 7 → le_value (reverse b) < 2 ^ 56
big_small b h short = little_small (reverse b) (IsBytes-reverse b h) (rw length-reverse short)

pub tail_bytes : (b : List ℕ) (first : ℕ) (others : List ℕ) → IsBytes b → b ≡ first ∷ others → IsBytes others
tail_bytes b first others h e = IsBytes-tail first others (subst IsBytes e h)

pub first_byte : (b : List ℕ) (first : ℕ) (others : List ℕ) → IsBytes b → b ≡ first ∷ others → first < 256
first_byte b first others h e = (subst IsBytes e h).each 0

pub front_bytes : (b : List ℕ) (last : ℕ) (others : List ℕ) → IsBytes b → b ≡ others ++ last ∷ [] → IsBytes others
front_bytes b last others h e = subst IsBytes (take_at others (last ∷ []) (length others) refl)
    (IsBytes-take (length others) (others ++ last ∷ []) (subst IsBytes e h))

pub last_byte : (b : List ℕ) (last : ℕ) (others : List ℕ) → IsBytes b → b ≡ others ++ last ∷ [] → last < 256
last_byte b last others h e =
    let only = subst IsBytes (drop_at others (last ∷ []) (length others) refl) (IsBytes-drop (length others) (others ++ last ∷ []) (subst IsBytes e h)) in
    only.each 0

-- a number's bits, as code finds them
pub bits_found : (k : Number) (s : Bool) (b : List ℕ) (n : ℕ) → is_big k ≡ s → n ≡ le_value (in_order s b) → n ≡ bits_of k b
bits_found k s b n is e = e ∙ ap (λ t. le_value (in_order t b)) (sym is)

pub bits_small : (k : Number) (b : List ℕ) (n : ℕ) → length b ≡ number_width k → IsBytes b → n ≡ bits_of k b → n < 2 * half k
bits_small k b n len h e = let P : ℕ → Type 0 = λ m. m < 2 * half k in subst P (sym e) (bits_below k b len h)

pub bytes_known : (b : List ℕ) → all_bytes b ≡ true → kit.IsBytes b
bytes_known [] e i = omega arith
bytes_known (x ∷ b) e zero = ltb-true x 256 (and_parts (nat_lt x 256) (all_bytes b) e).0
bytes_known (x ∷ b) e (suc i) = bytes_known b (and_parts (nat_lt x 256) (all_bytes b) e).1 i

pub own_bytes : (b : List ℕ) → kit.IsBytes b → IsBytes b
own_bytes b h = record { each = h }

-- a text that no bytes have isn't read
none_read : (text_of : List ℕ → List ℕ) (text : List ℕ) (o : Option (List ℕ)) → ((b : List ℕ) → o ≡ Some b → kit.IsBytes b → text ≡ text_of b → ⊥)
    → None ≡ with_text text_of text o
none_read text_of text None never = refl
none_read text_of text (Some b) never =
    sym (cond-false _ (Some b) None (false_from_ne_true (all_bytes b && bytes_eq (text_of b) text) (λ e.
    let both = and_parts (all_bytes b) (bytes_eq (text_of b) text) e in
    never b refl (bytes_known b both.0) (sym ((bytes_eq-Decides (text_of b) text).0 both.1)))))

of_this_length : (n : ℕ) (o : Option (List ℕ)) (b : List ℕ) → option_and_then (of_length n) o ≡ Some b → length b ≡ n
of_this_length n None b e = absurd (true≢false (ap is_none e))
of_this_length n (Some a) b e =
    elim (cases_Bool (length a == n)) [
      | inl same ↦
          let found : a ≡ b = ap (λ o. unwrap_or o a) (sym (cond-true (length a == n) (Some a) None same) ∙ e) in
          ap length (sym found) ∙ eqb-true (length a) n same
      | inr other ↦ absurd (true≢false (ap is_none (sym (cond-false (length a == n) (Some a) None other) ∙ e)))
    ]

-- a reader that reads back reads as the definition does
pub reads_so : (text_of : List ℕ → List ℕ) (n : ℕ) (text : List ℕ) (found r : Option (List ℕ))
    → ((o : List ℕ) → IsOctets n o → text ≡ text_of o → found ≡ Some o) → IfSome r (IsOctets n) → ReadsBack text_of n text r
    → r ≡ with_text text_of text (option_and_then (of_length n) found)
reads_so text_of n text found None knows typed read =
    none_read text_of text (option_and_then (of_length n) found) (λ b e h same. read b (of_this_length n found b e, h) same)
reads_so text_of n text found (Some o) knows typed read =
    sym (ap (λ f. with_text text_of text (option_and_then (of_length n) f)) (knows o typed read) ∙ ap (with_text text_of text) (sized n o typed.0)
    ∙ ap (λ t. with_text text_of t (Some o)) read ∙ passed text_of o (own_bytes o typed.1))

pub mac_so : (text : List ℕ) (r : Option (List ℕ)) → IfSome r (IsOctets 6) → ReadsBack mac_text 6 text r → r ≡ mac_of text
mac_so text r = reads_so mac_text 6 text (decoded (decode_sized (mac_digits text) 6)) r (λ o h e. ap decoded (mac.mac_digits text o h e))

pub ipv4_so : (text : List ℕ) (r : Option (List ℕ)) → IfSome r (IsOctets 4) → ReadsBack ipv4_text 4 text r → r ≡ ipv4_of text
ipv4_so text r = reads_so ipv4_text 4 text (option_map (λ x. x.0) (read_ipv4 text)) r (λ o h e.
    let read : read_ipv4 text ≡ Some (o, []) = rw append-nil at (read_ipv4_complete text o [] (dotted text o h e) (lit≤ tt)) in
    ap (option_map (λ x. x.0)) read)

pub ipv6_so : (text : List ℕ) (r : Option (List ℕ)) → IfSome r (IsOctets 16) → ReadsBack ipv6_text 16 text r → r ≡ ipv6_of text
ipv6_so text r = reads_so ipv6_text 16 text (option_map (λ x. octets_of x.0) (read_ipv6 text)) r (λ o h e.
    let read : read_ipv6 text ≡ Some (segments_of o, []) =
    rw append-nil at (read_ipv6_complete text (segments_of o) [] (colon_hex text o h e) EndsGroups-nil) in
    ap (option_map (λ x. octets_of x.0)) read ∙ ap Some (colon_hex_unique text (segments_of o) o h (colon_hex text o h e) e))

pub hex_so : (text : List ℕ) (r : Option (List ℕ)) → IfSome r IsBytes → MatchOption r (IsNoHex text) (λ b. text ≡ hex_text b) → r ≡ hex_of text
hex_so text None typed never = none_read hex_text text (decoded (decode_of text)) (λ b e h same. never b h same)
hex_so text (Some b) typed same = sym (ap hex_of same ∙ hex_of-hex_text b typed)

-- a fact about an option, about the value in it
pub seen_as : {V : Type 0} (text : List ℕ) (items : V → List ℕ) (o p : Option V) → o ≡ p → MatchOption o (IsNoHex text) (λ v. text ≡ hex_text (items v))
    → MatchOption (option_map items p) (IsNoHex text) (λ b. text ≡ hex_text b)
seen_as {V} text items o p e h = go p (subst (λ (x : Option V). MatchOption x (IsNoHex text) (λ v. text ≡ hex_text (items v))) e h)
  where
    go : (x : Option V) → MatchOption x (IsNoHex text) (λ v. text ≡ hex_text (items v))
        → MatchOption (option_map items x) (IsNoHex text) (λ b. text ≡ hex_text b)
    go None k = k
    go (Some v) k = k
