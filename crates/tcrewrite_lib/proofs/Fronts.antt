-- Bytes that a writer takes, one part at a time.
use Rattle.std.proofs.Common.{◌≡◌, ℕ, List, ◌++◌, take, drop, sym, ap, ◌∙◌, append_assoc, take-append-drop}
use Rattle.std.proofs.KnownBytes.{Appends-trans}
use Rattle.std.specs.Prelude.{Option}
use Rattle.std.specs.Io.KnownBytes.{Appends}
use Rattle.tcrewrite_lib.specs.Written.{GrowsByFront}

-- the front of the rest is appended too
pub front_more : (a b c : Option (List ℕ)) (bytes rest after : List ℕ) (n : ℕ) → GrowsByFront a b bytes rest → after ≡ drop n rest → Appends b c (take n rest)
    → GrowsByFront a c bytes after
front_more a b c bytes rest after n h cut next =
    let whole : bytes ≡ (h.0 ++ take n rest) ++ drop n rest =
    h.1 ∙ ap (λ l. h.0 ++ l) (sym (take-append-drop n rest)) ∙ sym (append_assoc h.0 (take n rest) (drop n rest)) in
    (h.0 ++ take n rest, whole ∙ ap (λ l. (h.0 ++ take n rest) ++ l) (sym cut), Appends-trans a b c h.0 (take n rest) h.2 next)
