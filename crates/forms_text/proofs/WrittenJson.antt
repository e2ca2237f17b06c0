-- JSON that is sent is written as its own tokens.
use Rattle.std.proofs.Common.{◌≡◌, ℕ, zero, suc, pos, negsuc, List, [], ◌∷◌, ◌++◌, Some, None, refl, sym, append_assoc, subst}
use Rattle.json.specs.Lex.{tokens}
use Rattle.json.specs.Tree.{json_tokens, items_tokens, members_tokens}
use Rattle.serde.specs.Event.{seq_ends, map_ends}
use Rattle.serde_json.specs.Data.{unsigned, negative, float, Data, null, boolean, number, string, array, object}
use Rattle.serde_json.specs.Data.{Items, no_items, item, Members, no_members, member}
use Rattle.serde_json.specs.Sent.{State, start, TakesAll}
use Rattle.serde_json.specs.Written.{outline, items_outline, members_outline}
use Rattle.serde_json.proofs.FreeTexts.{tokens_by}
use Rattle.forms_values.specs.Sent.{events, items_events, members_events}
use Rattle.forms_text.specs.Text.{IsJsonText}
use Rattle.forms_text.proofs.Readable.{Readable, ItemsReadable, MembersReadable}
use Rattle.forms_text.proofs.Written.{Plain, Written, both, a_text, a_number, a_signed, a_boolean, array_ends, object_ends, in_array, in_object, at_field}

mutual
  json_written : (d : Data) (n : ℕ) → Readable d n → Written (events d) (json_tokens (outline d))
  json_written null n h = absurd h
  json_written (boolean b) n h = a_boolean b
  json_written (number (unsigned m)) n h = a_number m
  json_written (number (negative (pos m))) n h = absurd h
  json_written (number (negative (negsuc m))) n h = a_signed (negsuc m)
  json_written (number (float x)) n h = absurd h
  json_written (string s) n h = a_text s
  json_written (array ds) zero h = absurd h
  json_written (array ds) (suc n) h = in_array None (items_events ds ++ seq_ends ∷ []) (items_tokens (items_outline ds)) (items_written ds n h)
  json_written (object ms) zero h = absurd h
  json_written (object ms) (suc n) h = in_object None (members_events ms ++ map_ends ∷ []) (members_tokens (members_outline ms)) (members_written ms n h.1)

  items_written : (ds : Items) (n : ℕ) → ItemsReadable ds n → Written (items_events ds ++ seq_ends ∷ []) (items_tokens (items_outline ds))
  items_written no_items n h = array_ends
  items_written (item d ds) n h =
      subst (λ es. Written es (items_tokens (items_outline (item d ds)))) (sym (append_assoc (events d) (items_events ds) (seq_ends ∷ [])))
      (both (events d) (items_events ds ++ seq_ends ∷ []) (json_tokens (outline d)) (items_tokens (items_outline ds)) (json_written d n h.0)
      (items_written ds n h.1))

  members_written : (ms : Members) (n : ℕ) → MembersReadable ms n → Written (members_events ms ++ map_ends ∷ []) (members_tokens (members_outline ms))
  members_written no_members n h = object_ends
  members_written (member k d ms) n h =
      at_field k ((events d ++ members_events ms) ++ map_ends ∷ []) (json_tokens (outline d) ++ members_tokens (members_outline ms))
      (subst (λ es. Written es (json_tokens (outline d) ++ members_tokens (members_outline ms)))
      (sym (append_assoc (events d) (members_events ms) (map_ends ∷ [])))
      (both (events d) (members_events ms ++ map_ends ∷ []) (json_tokens (outline d)) (members_tokens (members_outline ms)) (json_written d n h.0)
      (members_written ms n h.1)))

-- the text of JSON has its tokens
pub text_tokens : (d : Data) (n : ℕ) (text : List ℕ) → Readable d n → IsJsonText d text → tokens text ≡ json_tokens (outline d)
text_tokens d n text h is =
    let narrow = is.0 in
    let begun : Plain (start narrow) = record { at_key = refl; flattens = refl; flat = refl } in
    let each : (s : State) → TakesAll (start narrow) (events d) s → s.tokens ≡ json_tokens (outline d) =
    λ s run. (json_written d n h (start narrow) s begun run).1 in
    tokens_by narrow (events d) (Some (events d)) (tokens text) (json_tokens (outline d)) refl is.1 each
