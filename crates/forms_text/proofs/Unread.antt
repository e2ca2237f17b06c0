-- A text that `json` can't read can't be read by `serde_json` either: `json` lets lists and objects nest one level deeper.
use Rattle.std.proofs.Common.{◌≡◌, ℕ, ◌≤◌, List, Option, Some, None, option_and_then, refl, sym, ap, arith, ◌∙◌}
use Rattle.json.specs.Token.{Token}
use Rattle.json.specs.Lex.{tokens}
use Rattle.json.specs.Json.{Json, value, if_last, document}
use Rattle.json.specs.Tree.{depth}
use Rattle.json.proofs.Nesting.{value-depth}
use Rattle.json.proofs.Printed.Trees.{value-json_tokens}
use Rattle.json.proofs.Unique.Spelling.{value-json_tokens_back}
use Rattle.serde_json.specs.Read.{of_json, read}

-- JSON that is read at a depth is read one level deeper too
deeper : (ts r : List Token) (j : Json) → value 127 ts ≡ Some (j, r) → value 128 ts ≡ Some (j, r)
deeper ts r j e =
    let within : depth j ≤ 127 = value-depth 127 ts r j e in
    ap (value 128) (value-json_tokens_back 127 ts r j e) ∙ value-json_tokens j 128 r (omega arith)

-- a value that fills the text
abbrev whole : Option (Json × List Token) → Option Json
whole found = option_and_then (λ p. if_last p.0 p.1) found

none_whole : (ts : List Token) (found : Option (Json × List Token)) → value 127 ts ≡ found → whole (value 128 ts) ≡ None
    → option_and_then of_json (whole found) ≡ None
none_whole ts None e none = refl
none_whole ts (Some (j, r)) e none = ap (option_and_then of_json) (sym (ap whole (deeper ts r j e)) ∙ none)

pub unread : (text : List ℕ) → document text ≡ None → read text ≡ None
unread text none = none_whole (tokens text) (value 127 (tokens text)) refl none
